use Rattle.std.proofs.Common.{◌≡◌, ℕ, ◌<◌, Option, length, length-set, take, nat_lt, arith, sym, ◌∙◌}
use Rattle.std.proofs.lemmas.List.{take_all}
use Rattle.std.proofs.lemmas.Result.{err_from_is_err_and}
use Rattle.ac_codec.specs.Codec.{Codec, field, any, given, each}
use Rattle.ac_codec.proofs.Loops.{goes_on, ends, is_done}
use Rattle.ac_rows.specs.BlockRows.{zipped}
use Rattle.ac_rows.proofs.Pairs.{two, zipped_set, two_read, two_first, two_second, coordinates_ok, coordinates_err}
use Rattle.ac_row_reading.proofs.shared.read_pairs.Goals as goal

abbrev one : ℕ → ℕ → Codec (Option ℕ)
one bands k = given (nat_lt k bands) (field 4 any)

pub returns-in_err-exps : goal.returns-in_err-exps
returns-in_err-exps c =
    let p = err_from_is_err_and c.from_residual.result c.from_residual.ensures.1 in
    let l = c.loop-k in
    let n = c.args.bands in
    let e = two_first (one n l.k) (one n l.k) l.source c.optional.new.source c.in_err-exps.field-0.0 c.in_err-exps.ensures in
    rw (p.1, p.2) (coordinates_err n c.args.source.now c.optional.new.source c.in_err-exps.field-0.0
    (ends (two n) (zipped (take l.k l.exps) (take l.k l.mants)) 18 l.k l.source c.in_err-exps.field-0.0 c.optional.new.source
    ((each 18 0 (two n)).read c.args.source.now) c.loop-k-test.true e l.invariant.told))

pub returns-in_err-mants : goal.returns-in_err-mants
returns-in_err-mants c =
    let p = err_from_is_err_and c.from_residual-in_err-mants.result c.from_residual-in_err-mants.ensures.1 in
    let l = c.loop-k in
    let n = c.args.bands in
    let at = c.optional-in-loop-k.new.source in
    let e =
    two_second (one n l.k) (one n l.k) l.source c.optional.new.source at c.in_ok-exps.field-0 c.in_err-mants.field-0.0 c.in_ok-exps.ensures
    c.in_err-mants.ensures in
    rw (p.1, p.2) (coordinates_err n c.args.source.now at c.in_err-mants.field-0.0
    (ends (two n) (zipped (take l.k l.exps) (take l.k l.mants)) 18 l.k l.source c.in_err-mants.field-0.0 at
    ((each 18 0 (two n)).read c.args.source.now) c.loop-k-test.true e l.invariant.told))

pub loop-k-preserved : goal.loop-k-preserved
loop-k-preserved c =
    let l = c.loop-k in
    let n = c.args.bands in
    let a = c.in_ok-exps.field-0 in
    let b = c.in_ok-mants.field-0 in
    let new = c.optional-in-loop-k.new.source in
    let lx : l.k < length l.exps = omega (arith, l.invariant.exps, c.loop-k-test.true) in
    let ly : l.k < length l.mants = omega (arith, l.invariant.mants, c.loop-k-test.true) in
    let e = two_read (one n l.k) (one n l.k) l.source c.optional.new.source new a b c.in_ok-exps.ensures c.in_ok-mants.ensures in
    let more =
    goes_on (two n) (zipped (take l.k l.exps) (take l.k l.mants)) (a, b) 18 l.k l.source new ((each 18 0 (two n)).read c.args.source.now)
    c.loop-k-test.true e l.invariant.told in
    record {
      told = rw (zipped_set l.exps l.mants l.k a b lx ly) more;
      exps = length-set l.exps l.k a ∙ l.invariant.exps;
      mants = length-set l.mants l.k b ∙ l.invariant.mants;
    }

pub returns : goal.returns
returns c =
    let l = c.loop-k in
    let n = c.args.bands in
    let d =
    is_done (two n) (zipped (take l.k l.exps) (take l.k l.mants)) 18 l.k l.source ((each 18 0 (two n)).read c.args.source.now)
    c.loop-k-test.false l.invariant.told in
    let ex : take l.k l.exps ≡ l.exps = take_all l.k l.exps (omega (arith, l.invariant.exps, c.loop-k-test.false)) in
    let ey : take l.k l.mants ≡ l.mants = take_all l.k l.mants (omega (arith, l.invariant.mants, c.loop-k-test.false)) in
    coordinates_ok n c.args.source.now l.source l.exps l.mants (l.invariant.exps ∙ sym l.invariant.mants) (rw (ex, ey) at d)
