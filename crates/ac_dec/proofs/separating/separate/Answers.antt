use Rattle.std.proofs.Common.{◌∙◌, length-set, arith}
use Rattle.ac_dec.proofs.Whole.{done_more, left_more, used_more}
use Rattle.ac_dec.proofs.separating.separate.Goals as goal

pub separate_block-requires-clause-spans : goal.separate_block-requires-clause-spans
separate_block-requires-clause-spans c = c.requires.spans c.loop-b.b c.loop-b-test.true

pub loop-b-preserved : goal.loop-b-preserved
loop-b-preserved c =
    let l = c.loop-b in
    let g = c.args.codes.now in
    let made = c.separate_block in
    let few = c.loop-b-test.true in
    record {
      long = length-set l.used l.b _ ∙ l.invariant.long;
      used = used_more g l.b l.used _ (omega (arith, l.invariant.long, few)) made.ensures.used l.invariant.used;
      done = done_more g l.b l.coefs.c made.new.coefs.c made.ensures.rest made.ensures.value l.invariant.done;
      left = left_more g l.b l.coefs.c made.new.coefs.c made.ensures.rest l.invariant.left;
    }
