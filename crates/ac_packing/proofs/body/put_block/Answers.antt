use Rattle.std.proofs.Common.{List, ap, sym, subst, ◌∙◌, arith, length}
use Rattle.ac_base.specs.Counts.{tally_of, exact_of}
use Rattle.ac_mant.specs.declared.coded.Coded.{Coded}
use Rattle.ac_mant.specs.Groups.{pointers, AreCoded}
use Rattle.ac_sent.proofs.HeldPointers.{mantissas_coded}
use Rattle.ac_packing.proofs.Bodies.{before_at, block_here, head_asked, block_asked, fields_same, part_length, part_appended}
use Rattle.ac_packing.proofs.body.put_block.Goals as goal

pub write_block-requires-clause-head : goal.write_block-requires-clause-head
write_block-requires-clause-head c = head_asked c.args.q.now c.args.head.now c.requires.head c.requires.code

pub write_block-requires-clause-lawful : goal.write_block-requires-clause-lawful
write_block-requires-clause-lawful c =
    let q = c.args.q.now in
    let l = c.args.blocks.now in
    block_asked q c.requires.asked c.args.b c.args.head.now _ _ c.requires.head c.requires.block (before_at q c.args.b c.from-at.result l c.requires.blocks c.from-at.ensures c.requires.block) (block_here q c.args.b c.from-at.result l _ c.requires.blocks c.from-at.ensures c.requires.block)

pub write_block-requires-clause-room : goal.write_block-requires-clause-room
write_block-requires-clause-room c =
    let q = c.args.q.now in
    let l = c.args.blocks.now in
    let same = fields_same q c.args.b c.args.head.now _ _ (before_at q c.args.b c.from-at.result l c.requires.blocks c.from-at.ensures c.requires.block) (block_here q c.args.b c.from-at.result l c.index-blocks-at.result c.requires.blocks c.from-at.ensures c.requires.block) in
    omega (arith, ap length same, part_length q c.args.b c.args.head.now, c.requires.room)

pub listed-requires-clause-room : goal.listed-requires-clause-room
listed-requires-clause-room c = (c.requires.listed c.args.b c.requires.block).1

pub pack_block-requires-clause-coded : goal.pack_block-requires-clause-coded
pack_block-requires-clause-coded c = subst (λ (l : List Coded). AreCoded l) (sym (c.listed.ensures.value ∙ (c.requires.listed c.args.b c.requires.block).0)) (mantissas_coded c.args.q.now c.requires.asked c.args.b c.requires.block)

pub pack_block-requires-clause-room : goal.pack_block-requires-clause-room
pack_block-requires-clause-room c =
    let q = c.args.q.now in
    let l = c.args.blocks.now in
    let same = fields_same q c.args.b c.args.head.now _ _ (before_at q c.args.b c.from-at.result l c.requires.blocks c.from-at.ensures c.requires.block) (block_here q c.args.b c.from-at.result l c.index-blocks-at.result c.requires.blocks c.from-at.ensures c.requires.block) in
    omega (arith, ap length same, part_length q c.args.b c.args.head.now, c.requires.room, c.write_block.ensures.len, ap (λ (k : List Coded). exact_of (tally_of (pointers k))) (c.listed.ensures.value ∙ (c.requires.listed c.args.b c.requires.block).0))

pub returns : goal.returns
returns c =
    let q = c.args.q.now in
    let l = c.args.blocks.now in
    record {
      adds = part_appended q c.args.b c.args.head.now _ _ _ (before_at q c.args.b c.from-at.result l c.requires.blocks c.from-at.ensures c.requires.block) (block_here q c.args.b c.from-at.result l c.index-blocks-at.result c.requires.blocks c.from-at.ensures c.requires.block)
          (c.listed.ensures.value ∙ (c.requires.listed c.args.b c.requires.block).0) c.write_block.ensures.adds c.pack_block.ensures.bits;
    }
