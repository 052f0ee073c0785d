use Rattle.std.proofs.Common.{◌≡◌, ℕ, ◌++◌, ◌∷◌, [], ◌∙◌, ap, sym, refl, Ok, length, arith, length-append}
use Rattle.std.proofs.lemmas.Result.{err_from_is_err_and}
use Rattle.ac_expo.specs.Spelling.{Spelling}
use Rattle.ac_codec.specs.Codec.{Codec, field, any, each, pair, shaped}
use Rattle.ac_codec.proofs.Loops.{goes_on, ends, is_done}
use Rattle.ac_rows.specs.Spelled.{groups_row}
use Rattle.ac_row_reading.proofs.exponent.take_spelled.Goals as goal

abbrev seven : ℕ → Codec ℕ
seven _ = field 7 any

pub returns-in_err-first : goal.returns-in_err-first
unfolding groups_row pair shaped
returns-in_err-first c =
    let p = err_from_is_err_and c.from_residual.result c.from_residual.ensures.1 in
    rw (p.1, p.2, c.in_err-first.ensures) refl

pub returns-in_err-group : goal.returns-in_err-group
unfolding groups_row pair shaped
returns-in_err-group c =
    let p = err_from_is_err_and c.from_residual-in_err-group.result c.from_residual-in_err-group.ensures.1 in
    let l = c.loop-place in
    let e =
    ends seven l.spelled.groups c.args.count l._place l.source c.in_err-group.field-0.0 c.small-in-loop-place.new.source
    ((each c.args.count 0 seven).read c.small.new.source) c.loop-place-test.true c.in_err-group.ensures l.invariant.told in
    rw (p.1, p.2, c.in_ok-first.ensures, e) refl

pub push-requires : goal.push-requires
push-requires c = omega (arith, c.loop-place.invariant.count, c.loop-place-test.true, c.requires)

pub loop-place-preserved : goal.loop-place-preserved
loop-place-preserved c =
    let l = c.loop-place in
    let groups : c.push.new.self.groups ≡ l.spelled.groups ++ c.in_ok-group.group ∷ [] = ap (λ (s : Spelling). s.groups) c.push.ensures in
    let first : c.push.new.self.first ≡ l.spelled.first = ap (λ (s : Spelling). s.first) c.push.ensures in
    let more =
    goes_on seven l.spelled.groups c.in_ok-group.group c.args.count l._place l.source c.small-in-loop-place.new.source
    ((each c.args.count 0 seven).read c.small.new.source) c.loop-place-test.true c.in_ok-group.ensures l.invariant.told in
    record {
      told = rw groups more;
      first = first ∙ l.invariant.first;
      count = omega (arith, ap length groups, length-append l.spelled.groups (c.in_ok-group.group ∷ []), l.invariant.count);
    }

pub returns : goal.returns
unfolding groups_row pair shaped
returns c =
    let l = c.loop-place in
    let d =
    is_done seven l.spelled.groups c.args.count l._place l.source ((each c.args.count 0 seven).read c.small.new.source)
    c.loop-place-test.false l.invariant.told in
    let first : c.in_ok-first.first ≡ l.spelled.first = sym (l.invariant.first ∙ ap (λ (s : Spelling). s.first) c.new-spelled.ensures) in
    rw (c.in_ok-first.ensures, d) (ap (λ (n : ℕ). Ok (record { first = n; groups = l.spelled.groups }, l.source)) first)
