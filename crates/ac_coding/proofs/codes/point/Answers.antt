use Rattle.std.proofs.Common.{refl}
use Rattle.ac_coding.proofs.Written.{pointed}
use Rattle.ac_coding.proofs.codes.point.Goals as goal

pub returns : goal.returns
returns c =
    let shape = c.args.shape.now in
    let mask = c.of-mask.ensures in
    pointed shape c.args.c c.args.t c.span-span.result c.encoder.result _ c.args.exps.now c.baps.new.out c.span-span.ensures.value (c.encoder.ensures.value shape.sampling) refl
    (c.baps.ensures.value c.encoder.result (mask.masks, mask.floor))
