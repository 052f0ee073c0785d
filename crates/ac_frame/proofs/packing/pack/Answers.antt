use Rattle.std.proofs.Common.{take}
use Rattle.ac_sent.proofs.Back.{gives_back}
use Rattle.ac_frame.proofs.packing.pack.Goals as goal

pub returns : goal.returns
returns c =
    let frame = take c.pack.result c.pack.new.out in
    record {
      size = c.pack.ensures.size;
      frame = c.pack.ensures.frame;
      back = λ f reading. gives_back c.args.q.now frame f c.requires.asked c.pack.ensures.frame reading;
      rest = c.pack.ensures.rest;
    }
