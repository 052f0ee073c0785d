use Rattle.std.proofs.Common.{◌*◌, drop, drop-drop, ap, ◌∙◌, arith}
use Rattle.ac_mant.proofs.window.skip.Goals as goal

pub loop-turn-preserved : goal.loop-turn-preserved
loop-turn-preserved c =
    let l = c.args.source.now in
    let t = c.loop-turn._turn in
    c.pass.ensures ∙ (ap (drop 32) c.loop-turn.invariant ∙ (drop-drop 32 (32 * t) l ∙ ap (λ n. drop n l) (omega arith)))
