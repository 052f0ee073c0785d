use Rattle.std.proofs.Common.{◌≡◌, ◌+◌, ◌-◌, ℕ, List, [], ◌∙◌, subst, arith}
use Rattle.std.proofs.lemmas.List.{length-set}
use Rattle.ac_packing.proofs.Rows.{row_after}
use Rattle.ac_rows.proofs.Listed.{is_listed}
use Rattle.ac_coding.specs.Rows.{code_by, ArePointersIn}
use Rattle.ac_energy.specs.Coefficients.{entry}
use Rattle.ac_coding.specs.Values.{row_at}
use Rattle.ac_coding.proofs.Written.{pointers_small, codes_written}
use Rattle.ac_coding.proofs.codes.write_channel.Goals as goal

pub write_row-requires-clause-pointers : goal.write_row-requires-clause-pointers
write_row-requires-clause-pointers c =
    pointers_small c.args.shape.now c.args.exps.now c.args.t c.args.c c.loop-b.b c.span-span.result c.point_block.new.out c.span-span.ensures.value c.point_block.ensures

pub loop-b-preserved : goal.loop-b-preserved
loop-b-preserved c =
    let shape = c.args.shape.now in
    let exps = c.args.exps.now in
    let b = c.loop-b.b in
    let P : ℕ → List ℕ → Type 0 = λ a row. row ≡ row_at shape (code_by shape (entry c.args.coefs.now.c) exps c.args.t) c.args.c a in
    let row = codes_written shape c.args.coefs.now.c exps c.args.t c.args.c b c.from-at.result c.from-block.result c.span-span.result c.point_block.new.out c.write_row.new.out c.requires.channel c.from-at.ensures c.from-block.ensures c.span-span.ensures.value c.point_block.ensures c.write_row.ensures in
    let here : b ≡ b + 1 - 1 = omega arith in (
      length-set c.loop-b.rows c.from-block.result _ ∙ c.loop-b.invariant.0,
      λ some. subst (λ (i : ℕ). ArePointersIn shape exps c.args.t c.args.c i c.point_block.new.out) here c.point_block.ensures,
      row_after P c.loop-b.rows c.from-block.result b c.write_row.new.out c.from-block.ensures (omega (arith, c.loop-b.invariant.0)) c.loop-b.invariant.2 row,
    )

pub returns : goal.returns
returns c =
    is_listed 6 c.loop-b.rows (row_at c.args.shape.now (code_by c.args.shape.now (entry c.args.coefs.now.c) c.args.exps.now c.args.t) c.args.c) [] c.loop-b.invariant.0 (λ a lt. c.loop-b.invariant.2 a (omega (arith, lt)))
