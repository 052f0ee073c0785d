use Rattle.ac_app.proofs.Again.{FrameLaws, accepted, ends, answers}
use Rattle.ac_app.proofs.law.decode_law.Goals as goal

pub returns : goal.returns
returns c =
    let laws : FrameLaws = record {
      whole = c.again_law.ensures.whole;
      kind = c.again_law.ensures.kind;
      sized = c.stream_law.ensures.size;
      stand = c.stream_law.ensures.frame;
    } in
    record { accepted = accepted laws; ends = ends; answers = answers laws }
