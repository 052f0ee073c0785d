use Rattle.std.proofs.Common.{rules, ◌≡◌, sym, ap, ◌∙◌, drop, w32}
use Rattle.std.proofs.Common.{arith, SFits, to_z-of_z}
use Rattle.std.proofs.lemmas.List.{take_rest}
use Rattle.ac_wav.specs.Samples.{value_of}
use Rattle.ac_wav.proofs.Rows.{sample_here}
use Rattle.ac_wav.proofs.samples.sample.Goals as goal

pub returns-then-t-count-clause-value : goal.returns-then-t-count-clause-value
returns-then-t-count-clause-value c =
    let there : c.value.result ≡ value_of c.args.head.now.bits (drop c.place-place.result c.args.piece.now) =
    c.value.ensures.value ∙ ap (value_of c.args.head.now.bits) (take_rest c.args.piece.now c.place-place.result) in
    let moved = there ∙ ap (λ n. value_of c.args.head.now.bits (drop n c.args.piece.now)) c.place-place.ensures.value in
    let same = moved ∙ sym (sample_here c.args.head.now c.args.count c.args.piece.now c.args.c c.args.t (omega (arith, c.if-c-from.true, c.from.ensures)) c.if-t-count.true) in
    let fits : SFits w32 c.value.result = search rules in
    simp to_z-of_z same
