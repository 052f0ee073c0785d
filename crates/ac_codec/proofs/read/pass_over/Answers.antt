use Rattle.std.proofs.Common.{◌≡◌, ◌+◌, ◌-◌, ◌≤◌, drop, length, arith, ap, ◌∙◌, length-drop}
use Rattle.std.proofs.lemmas.List.{drop-drop}
use Rattle.ac_codec.proofs.Reading.{drop_taken}
use Rattle.ac_codec.proofs.read.pass_over.Goals as goal

pub loop-more-preserved : goal.loop-more-preserved
loop-more-preserved c =
    let l = c.loop-more in
    let w = c.piece-width.result in
    let old = c.args.source.now in
    let room : w ≤ length l.source =
    omega (arith, ap length l.invariant.rest, length-drop (c.args.bits - l.more) old, c.piece-width.ensures.within) in
    let places : c.args.bits - l.more + w ≡ c.args.bits - (l.more - w) = omega (arith, l.invariant.within, c.piece-width.ensures.within) in
    record {
      rest = drop_taken c.take.result l.source c.take.new.self w room c.take.ensures.taken c.take.ensures.out
          ∙ (ap (drop w) l.invariant.rest ∙ (drop-drop w (c.args.bits - l.more) old ∙ ap (λ n. drop n old) places));
      within = omega arith;
    }
