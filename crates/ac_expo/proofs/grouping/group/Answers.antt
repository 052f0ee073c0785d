use Rattle.std.proofs.Common.{◌≡◌, ◌+◌, ◌*◌, ◌++◌, ◌∷◌, ℕ, List, [], length, slice_index, arith, ap, ap₂, sym, ◌∙◌}
use Rattle.ac_base.specs.Spans.{groups_of}
use Rattle.ac_expo.specs.Spelling.{Spelling}
use Rattle.ac_expo.specs.Groups.{first_of, reference, groups_below, group_of, spelled_of, at_step}
use Rattle.ac_expo.proofs.Places.{placed, first_small, at_first}
use Rattle.ac_expo.proofs.Spellings.{groups_none, groups_more, groups_long, group_at, group_small}
use Rattle.ac_expo.proofs.grouping.group.Goals as goal

pub loop-place-init : goal.loop-place-init
loop-place-init c =
    let P : ℕ → List ℕ → Spelling = λ f gs. record { first = f; groups = gs } in (
      c.new-spelled.ensures ∙ ap₂ P c.first-reference.ensures (sym (groups_none c.args.kind c.args.span.now c.args.exps.now)),
      c.before-last.ensures.value ∙ (ap (reference c.args.span.now.lead) c.first-reference.ensures ∙ sym (at_first c.args.kind c.args.span.now c.args.exps.now)),
    )

pub push-requires : goal.push-requires
push-requires c =
    let long = groups_long c.args.kind c.args.span.now c.args.exps.now c.loop-place.place in
    let e : length c.loop-place.spelled.groups ≡ c.loop-place.place = ap (λ (s : Spelling). length s.groups) c.loop-place.invariant.0 ∙ long in
    omega (arith, c.groups-place-end.ensures.bound)

pub loop-place-preserved : goal.loop-place-preserved
loop-place-preserved c =
    let kind = c.args.kind in
    let span = c.args.span.now in
    let exps = c.args.exps.now in
    let place = c.loop-place.place in
    let at : c.packed-group.result.0 ≡ group_of kind span exps place = c.packed-group.ensures.group ∙ ap (group_of kind span exps) c.from.ensures in
    let P : List ℕ → Spelling = λ gs. record { first = first_of span exps; groups = gs } in (
      c.push.ensures ∙ ap (λ (s : Spelling). record s { groups = s.groups ++ c.packed-group.result.0 ∷ [] }) c.loop-place.invariant.0 ∙ ap (λ x. P (groups_below kind span exps place ++ x ∷ [])) at ∙ ap P (sym (groups_more kind span exps place)),
      c.packed-group.ensures.last ∙ ap (λ n. at_step kind span exps (3 * (n + 1))) c.from.ensures,
    )

pub returns : goal.returns
returns c =
    let kind = c.args.kind in
    let span = c.args.span.now in
    let exps = c.args.exps.now in
    let n = groups_of kind span in
    let P : ℕ → Spelling = λ m. record { first = first_of span exps; groups = groups_below kind span exps m } in
    let p = placed kind span exps c.requires.span c.requires.kind c.requires.can in
    let done : c.loop-place.place ≡ n = omega (arith, c.groups-place-end.ensures.value, c.loop-place-test.false) in
    let e : c.loop-place.spelled ≡ spelled_of kind span exps = c.loop-place.invariant.0 ∙ ap P done in
    let long : length c.loop-place.spelled.groups ≡ n = ap (λ (s : Spelling). length s.groups) e ∙ groups_long kind span exps n in
    record {
      value = e;
      first = (let f = first_small kind span exps p in let e1 = ap (λ (s : Spelling). s.first) e in omega arith);
      count = long;
      bound = λ place within.
          let a = ap (λ (s : Spelling). slice_index s.groups place) e in
          let b = group_at kind span exps n place (omega arith) in
          let g = group_small kind span exps c.requires.span p place in
          omega arith;
    }
