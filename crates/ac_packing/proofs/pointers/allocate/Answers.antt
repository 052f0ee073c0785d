use Rattle.std.proofs.Common.{refl}
use Rattle.ac_packing.proofs.Allocating.{exponents_small, allocated}
use Rattle.ac_packing.proofs.pointers.allocate.Goals as goal

pub of-mask-requires-clause-exps : goal.of-mask-requires-clause-exps
of-mask-requires-clause-exps c =
    exponents_small c.args.q.now c.requires.asked c.args.c c.args.b c.from.result c.from-2.result c.span-span.result c.requires.channel c.requires.block c.from.ensures c.from-2.ensures c.span-span.ensures.value

pub baps-requires-clause-exps : goal.baps-requires-clause-exps
baps-requires-clause-exps c =
    exponents_small c.args.q.now c.requires.asked c.args.c c.args.b c.from.result c.from-2.result c.span-span.result c.requires.channel c.requires.block c.from.ensures c.from-2.ensures c.span-span.ensures.value

pub returns : goal.returns
returns c =
    let q = c.args.q.now in
    let mask = c.of-mask.ensures in
    record {
      value = allocated q c.args.c c.args.b c.from.result c.from-2.result c.span-span.result c.encoder.result _ c.baps.new.out c.from.ensures c.from-2.ensures c.span-span.ensures.value (c.encoder.ensures.value q.shape.sampling) refl
          (c.baps.ensures.value c.encoder.result (mask.masks, mask.floor));
    }
