use Rattle.std.proofs.Common.{arith, sym, ◌∙◌}
use Rattle.ac_packing.specs.Listing.{ArePointersIn}
use Rattle.ac_packing.proofs.Allocating.{code_read, copied}
use Rattle.ac_packing.proofs.Rows.{row_put}
use Rattle.ac_packing.proofs.pointers.allocate_block.Goals as goal

pub returns-then-code-eq0 : goal.returns-then-code-eq0
returns-then-code-eq0 c =
    let q = c.args.q.now in
    let is = c.requires.asked in
    let code = sym (code_read q is c.args.c c.from.result c.args.b c.code.result c.index-q-from.result c.requires.channel c.from.ensures c.code.ensures.value) ∙ c.if-code-eq0.true in
    let row = copied q is c.args.c c.from-at.result c.args.b c.args.rows.now c.requires.channel c.from-at.ensures c.requires.block code c.requires.before in
    record { value = row_put (ArePointersIn q c.args.c) c.args.rows.now c.from-at.result c.args.b _ c.from-at.ensures (omega (arith, c.requires.block)) c.requires.before row }

pub returns-else-code-eq0 : goal.returns-else-code-eq0
returns-else-code-eq0 c = record {
  value = row_put (ArePointersIn c.args.q.now c.args.c) c.args.rows.now c.from-at.result c.args.b c.allocate.new.out c.from-at.ensures (omega (arith, c.requires.block)) c.requires.before c.allocate.ensures.value;
}
