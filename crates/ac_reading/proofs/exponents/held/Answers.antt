use Rattle.std.proofs.Common.{◌≡◌, ◌++◌, ◌∷◌, ◌+◌, [], ◌∙◌, ap, ap₂, sym, refl, take, Option, ℕ}
use Rattle.std.specs.Option.{option_or}
use Rattle.std.proofs.lemmas.List.{take_more}
use Rattle.ac_expo.specs.Spelling.{Spelling}
use Rattle.ac_rows.specs.Blocks.{Block}
use Rattle.ac_rows.specs.Filled.{latest, latest_in}
use Rattle.ac_rows.proofs.Later.{latest_more}
use Rattle.ac_record.specs.Held.{sent_exponents}
use Rattle.ac_reading.proofs.exponents.held.Goals as goal

pub loop-before-init : goal.loop-before-init
unfolding latest_in
loop-before-init c = refl

pub loop-before-preserved : goal.loop-before-preserved
loop-before-preserved c =
    let l = c.loop-before in
    let bs = c.args.earlier.now in
    let b = c.before-item.result in
    let f = sent_exponents c.args.head.now c.args.filled.now c.args.c in
    let next : take (l.before-index + 1) bs ≡ take l.before-index bs ++ b ∷ [] = take_more bs l.before-index b c.loop-before-test.true ∙ ap (λ (x : Block). take l.before-index bs ++ x ∷ []) (sym c.before-item.is) in
    c.or-kept.ensures
    ∙ (ap₂ (λ (x y : Option (ℕ × Spelling)). option_or x y) c.sent.ensures l.invariant
    ∙ (sym (latest_more (λ _. f) [] (take l.before-index bs) b) ∙ ap (latest f) (sym next)))
