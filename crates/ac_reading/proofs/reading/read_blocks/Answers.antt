use Rattle.ac_reading.proofs.Blocks.{begun_none, begun_more, begun_lawful, begun_refuses}
use Rattle.ac_reading.proofs.Keeping.{exponents_none, pointers_none}
use Rattle.ac_reading.proofs.reading.read_blocks.Goals as goal

pub loop-b-init : goal.loop-b-init
loop-b-init c =
    record {
      begun = begun_none c.args.head.now c.args.out.now c.args.source.now c.requires.empty;
      exponents = exponents_none c.args.head.now c.nothing-kept.result _ c.args.out.now.exps c.nothing-kept.ensures;
      pointers = pointers_none c.args.head.now c.nothing-kept.result c.args.out.now.exps c.args.out.now.baps c.nothing-kept.ensures;
    }

pub read_one-requires-clause-earlier : goal.read_one-requires-clause-earlier
read_one-requires-clause-earlier c = begun_lawful c.args.head.now c.loop-b.b c.loop-b.out c.args.source.now c.loop-b.source c.loop-b.invariant.begun

pub returns-in-Err-clause-cause : goal.returns-in-Err-clause-cause
returns-in-Err-clause-cause c =
    begun_refuses c.args.head.now c.loop-b.b c.loop-b.out c.args.source.now c.loop-b.source c.in-Err.e c.loop-b-test.true c.loop-b.invariant.begun c.in-Err.ensures.cause

pub loop-b-preserved : goal.loop-b-preserved
loop-b-preserved c =
    record {
      begun = begun_more c.args.head.now c.loop-b.b c.loop-b.out c.read_one.new.out c.args.source.now c.loop-b.source c.read_one.new.source c.loop-b.invariant.begun c.in-Ok.ensures.found c.in-Ok.ensures.rest;
      exponents = c.in-Ok.ensures.exponents;
      pointers = c.in-Ok.ensures.pointers;
    }
