use Rattle.std.proofs.Common.{◌≡◌, ◌<◌, ◌≤◌, ◌+◌, ◌*◌, List, drop, set, slice_index, length, length-set, reverse, get_or, refl, sym, ap, ◌∙◌, subst, arith}
use Rattle.ac_seek.specs.declared.step.Step.{Step}
use Rattle.ac_seek.specs.Walks.{IsInPlace}
use Rattle.ac_seek.specs.Words.{code_at}
use Rattle.ac_seek.proofs.Codes.{code_in}
use Rattle.ac_seek.proofs.Filling.{All-reverse, items-are, codes-start, codes-more, in-place, all-later, drop-past}
use Rattle.ac_claim.proofs.words.codes.Goals as goal

pub loop-step-init : goal.loop-step-init
loop-step-init c = record {
  value = λ channel b l m. codes-start c.args.path.now channel b l m;
  long = refl;
  each = All-reverse IsInPlace c.args.path.now c.requires;
}

abbrev none : Step
none = record { channel = 0; run = record { from = 0; to = 0; kind = 0 } }

pub bounds-codes-from : goal.bounds-codes-from
bounds-codes-from c =
    let i = c.loop-step.step-index in
    let items = c.steps-step-items.result.now in
    let same = items-are items c.args.path.now c.steps-step-items.ensures in
    let inside : i < length (reverse c.args.path.now) = subst (λ (xs : List Step). i < length xs) same c.loop-step-test.true in
    let here = in-place (reverse c.args.path.now) c.loop-step.codes i none inside c.loop-step.invariant.long c.loop-step.invariant.each in
    let at = ap (λ (xs : List Step). (get_or xs i none).channel) same in
    let from = ap (λ (xs : List Step). (get_or xs i none).run.from) same in
    omega (arith, here.0, here.1, at, from, c.from.ensures, c.from-in-loop-step.ensures)

pub loop-step-preserved : goal.loop-step-preserved
loop-step-preserved c =
    let i = c.loop-step.step-index in
    let old = c.loop-step in
    let path = c.args.path.now in
    let items = c.steps-step-items.result.now in
    let same = items-are items path c.steps-step-items.ensures in
    let inside : i < length (reverse path) = subst (λ (xs : List Step). i < length xs) same c.loop-step-test.true in
    let at = ap (λ (xs : List Step). (get_or xs i none).channel) same in
    let from = ap (λ (xs : List Step). (get_or xs i none).run.from) same in
    let kind = ap (λ (xs : List Step). (get_or xs i none).run.kind) same in
    let place : 6 * c.from.result + c.from-in-loop-step.result ≡ 6 * (get_or (reverse path) i none).channel + (get_or (reverse path) i none).run.from = omega (arith, at, from, c.from.ensures, c.from-in-loop-step.ensures) in
    record {
      value = λ channel b l m. subst (λ k. code_in (drop (i + 1) (reverse path)) channel b (slice_index (set old.codes (6 * c.from.result + c.from-in-loop-step.result) k) (6 * channel + b)) ≡ code_at path channel b) (sym kind)
          (codes-more (reverse path) old.codes i none inside old.invariant.long old.invariant.each (6 * c.from.result + c.from-in-loop-step.result) channel b place m ∙ old.invariant.value channel b l m);
      long = length-set old.codes (6 * c.from.result + c.from-in-loop-step.result) (get_or items i none).run.kind ∙ old.invariant.long;
      each = all-later (reverse path) old.codes i none inside old.invariant.long old.invariant.each;
    }

pub returns : goal.returns
returns c = λ channel b l m.
    let i = c.loop-step.step-index in
    let path = c.args.path.now in
    let same = items-are c.steps-step-items.result.now path c.steps-step-items.ensures in
    let past : length (reverse path) ≤ i = subst (λ (xs : List Step). length xs ≤ i) same c.loop-step-test.false in
    ap (λ (xs : List Step). code_in xs channel b (slice_index c.loop-step.codes (6 * channel + b))) (sym (drop-past (reverse path) i past)) ∙ c.loop-step.invariant.value channel b l m
