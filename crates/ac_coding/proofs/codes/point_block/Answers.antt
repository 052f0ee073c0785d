use Rattle.std.proofs.Common.{arith}
use Rattle.ac_coding.proofs.Written.{code_read, pointers_kept}
use Rattle.ac_coding.proofs.codes.point_block.Goals as goal

pub returns-else-code-ne0 : goal.returns-else-code-ne0
returns-else-code-ne0 c =
    let shape = c.args.shape.now in
    let assign = c.args.assign.now.w in
    let code = code_read shape assign c.requires.assigned c.args.c c.from.result c.args.b c.code.result _ c.requires.channel c.from.ensures c.code.ensures.value in
    pointers_kept shape c.args.exps.now assign c.requires.assigned c.args.t c.args.c c.args.b c.args.out.now c.requires.channel c.requires.block (omega (arith, code)) c.requires.kept c.requires.before
