use Rattle.std.proofs.Common.{take}
use Rattle.ac_encode.proofs.Places.{frame_told, lasts_next, lasts_long}
use Rattle.ac_encode.proofs.frame.encode.Goals as goal

pub returns-clause-value : goal.returns-clause-value
returns-clause-value c = λ s same before own.
    let e = c.args.encoder.now in
    let rows = c.args.rows.now in (
      frame_told c.depends.ensures e.options e.layout s e.frames e.last rows c.frame.result.plan (take c.frame.result.size c.frame.new.out) same c.requires.stands.long before own c.frame.ensures.frame,
      lasts_next s e.layout e.frames rows c.frame.new.self.last same c.frame.ensures.last own,
    )

pub returns-clause-next : goal.returns-clause-next
returns-clause-next c = record {
  options = c.frame.ensures.same_options;
  layout_is = c.frame.ensures.same_layout;
  number = c.frame.ensures.frames;
  six = c.requires.stands.six;
  long = lasts_long c.args.encoder.now.layout c.args.rows.now c.frame.new.self.last c.requires.stands.six c.rows_law.ensures c.frame.ensures.last;
}
