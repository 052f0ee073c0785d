use Rattle.std.proofs.Common.{sym, ◌≡◌, ◌+◌, ℕ, arith, subst, length, length-take, take, replicate, ◌∙◌}
use Rattle.ac_io.specs.Within.{IsAt}
use Rattle.ac_riff.proofs.Fields.{format_read}
use Rattle.ac_riff.proofs.head.read_format.Goals as goal

pub returns-clause-told : goal.returns-clause-told
returns-clause-told g c = λ bytes at e.
    let k = c.in_ok-read_exact.ensures.told bytes at in
    let room : length (take c.min-front.result (replicate 40 0)) ≡ c.min-front.result = omega (arith, length-take {A = ℕ} c.min-front.result (replicate 40 0)) in
    let middle = subst (λ (n : ℕ). IsAt bytes (c.args.place + 8 + n) (g.S.Source.left c.read_exact.new.input)) room k.at in
    let there = subst (λ (n : ℕ). IsAt bytes (c.args.place + 8 + n) (g.S.Source.left c.read_exact.new.input)) (sym c.from-3.ensures) middle in
    let passed = c.in_ok-pass_over.ensures.told bytes there in
    let at' = subst (λ (n : ℕ). IsAt bytes (c.args.place + 8 + n + (c.from.result + c.from-2.result)) (g.S.Source.left c.pass_over.new.input)) c.from-3.ensures passed in
    format_read bytes c.read_exact.new.into c.args.place c.min-front.result (c.from.result + c.from-2.result) c.args.size _ c.read.result _ _
    (c.read_exact.auto.into ∙ room) c.min-front.ensures room k e (omega (arith, c.from.ensures, c.from-2.ensures, c.min-front.ensures)) at' c.read.ensures
