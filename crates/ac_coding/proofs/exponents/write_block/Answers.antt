use Rattle.std.proofs.Common.{◌≡◌, ℕ, List, sym, ◌∙◌, arith}
use Rattle.ac_packing.proofs.Rows.{row_put}
use Rattle.ac_coding.specs.Rows.{exponent_by}
use Rattle.ac_coding.specs.Values.{row_at}
use Rattle.ac_coding.proofs.Written.{code_read, run_kind, run_order, run_blocks, row_written, row_copied}
use Rattle.ac_coding.proofs.exponents.write_block.Goals as goal

pub write_row-requires-clause-kind : goal.write_row-requires-clause-kind
write_row-requires-clause-kind c =
    run_kind c.args.shape.now c.args.assign.now.w c.requires.assigned c.args.c c.args.b c.run_at.result c.span.result c.requires.channel c.requires.block c.run_at.ensures c.span.ensures.value

pub write_row-requires-clause-order : goal.write_row-requires-clause-order
write_row-requires-clause-order c =
    run_order c.args.shape.now c.args.assign.now.w c.requires.assigned c.args.c c.args.b c.run_at.result c.requires.channel c.requires.block c.run_at.ensures

pub write_row-requires-clause-blocks : goal.write_row-requires-clause-blocks
write_row-requires-clause-blocks c =
    run_blocks c.args.shape.now c.args.assign.now.w c.requires.assigned c.args.c c.args.b c.run_at.result c.requires.channel c.requires.block c.run_at.ensures

pub returns-then-code-eq0 : goal.returns-then-code-eq0
returns-then-code-eq0 c =
    let shape = c.args.shape.now in
    let assign = c.args.assign.now.w in
    let raw = c.args.raw.now.e in
    let P : ℕ → List ℕ → Type 0 = λ a row. row ≡ row_at shape (exponent_by shape raw assign) c.args.c a in
    let code = sym (code_read shape assign c.requires.assigned c.args.c c.from.result c.args.b c.code.result _ c.requires.channel c.from.ensures c.code.ensures.value) ∙ c.if-code-eq0.true in
    let row = row_copied shape raw assign c.requires.assigned c.args.c c.from-at.result c.args.b c.args.rows.now c.requires.channel c.from-at.ensures c.requires.block code c.requires.before in
    row_put P c.args.rows.now c.from-at.result c.args.b _ c.from-at.ensures (omega (arith, c.requires.block)) c.requires.before row

pub returns-else-code-eq0 : goal.returns-else-code-eq0
returns-else-code-eq0 c =
    let shape = c.args.shape.now in
    let assign = c.args.assign.now.w in
    let raw = c.args.raw.now.e in
    let P : ℕ → List ℕ → Type 0 = λ a row. row ≡ row_at shape (exponent_by shape raw assign) c.args.c a in
    let row = row_written shape raw assign c.args.c c.args.b c.from-else-code-eq0.result c.run_at.result c.span.result c.write_row.new.out c.requires.channel c.from-else-code-eq0.ensures c.run_at.ensures c.span.ensures.value c.write_row.ensures in
    row_put P c.args.rows.now c.from-at.result c.args.b c.write_row.new.out c.from-at.ensures (omega (arith, c.requires.block)) c.requires.before row
