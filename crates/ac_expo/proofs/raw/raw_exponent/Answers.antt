use Rattle.std.proofs.Common.{◌≡◌, ◌-◌, arith, unsigned_abs, sym}
use Rattle.std.proofs.lemmas.Int.{to_z-of_z}
use Rattle.std.specs.Int.Count.{count_leading_zeros}
use Rattle.ac_expo.proofs.Zeros.{few_digits, raw_is_greatest, found, most, at_most_all}
use Rattle.ac_expo.proofs.raw.raw_exponent.Goals as goal

pub overflow_sub-result : goal.overflow_sub-result
overflow_sub-result c = few_digits _ (grind (arith, to_z-of_z))

pub returns-clause-value : goal.returns-clause-value
returns-clause-value c =
    let same : c.unsigned_abs.result ≡ unsigned_abs c.args.c = grind (arith, to_z-of_z) in
    let a = unsigned_abs c.args.c in
    let e = count_leading_zeros 32 a - 8 in
    let r = raw_is_greatest a c.requires in
    rw same (sym (found 24 a e (at_most_all a c.requires) r.0 r.1))

pub returns-clause-fits : goal.returns-clause-fits
returns-clause-fits c =
    let same : c.unsigned_abs.result ≡ unsigned_abs c.args.c = grind (arith, to_z-of_z) in
    rw same (raw_is_greatest (unsigned_abs c.args.c) c.requires).0

pub returns-clause-greatest : goal.returns-clause-greatest
returns-clause-greatest c =
    let same : c.unsigned_abs.result ≡ unsigned_abs c.args.c = grind (arith, to_z-of_z) in
    let a = unsigned_abs c.args.c in
    rw same (λ d l fits. most a (count_leading_zeros 32 a - 8) (raw_is_greatest a c.requires).1 d l fits)
