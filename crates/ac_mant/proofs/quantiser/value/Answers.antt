use Rattle.std.proofs.Common.{◌≡◌, ◌^◌, ◌≤◌, ℤ, unsigned_abs, SFits, w32, w64, rules, subst, sym}
use Rattle.std.proofs.lemmas.Int.{to_z-of_z, ints}
use Rattle.ac_mant.specs.Quantiser.{value_of}
use Rattle.ac_mant.proofs.Values.{value_within}
use Rattle.ac_mant.proofs.quantiser.value.Goals as goal

-- a number of so few bits fits 32 bits
narrow : (z : ℤ) → unsigned_abs z ≤ 2 ^ 24 → SFits w32 z
narrow z small = search (rules, ints)

pub overflow_cast-result : goal.overflow_cast-result
overflow_cast-result c =
    let wide : SFits w64 c.value_at.result = search rules in
    let value : c.value_at.result ≡ value_of c.args.code c.args.bap c.args.e = search rules in
    let within = value_within c.args.code c.args.bap c.args.e c.requires.pointer c.requires.code in
    simp to_z-of_z (narrow c.value_at.result (subst (λ (q : ℤ). unsigned_abs q ≤ 2 ^ 24) (sym value) within))

pub returns-clause-value : goal.returns-clause-value
returns-clause-value c =
    let wide : SFits w64 c.value_at.result = search rules in
    let value : c.value_at.result ≡ value_of c.args.code c.args.bap c.args.e = search rules in
    let within = value_within c.args.code c.args.bap c.args.e c.requires.pointer c.requires.code in
    let fits : SFits w32 c.value_at.result = narrow c.value_at.result (subst (λ (q : ℤ). unsigned_abs q ≤ 2 ^ 24) (sym value) within) in
    simp to_z-of_z value

pub returns-clause-bound : goal.returns-clause-bound
returns-clause-bound c =
    let wide : SFits w64 c.value_at.result = search rules in
    let value : c.value_at.result ≡ value_of c.args.code c.args.bap c.args.e = search rules in
    let within = value_within c.args.code c.args.bap c.args.e c.requires.pointer c.requires.code in
    let small : unsigned_abs c.value_at.result ≤ 2 ^ 24 = subst (λ (q : ℤ). unsigned_abs q ≤ 2 ^ 24) (sym value) within in
    let fits : SFits w32 c.value_at.result = narrow c.value_at.result small in
    simp to_z-of_z small
