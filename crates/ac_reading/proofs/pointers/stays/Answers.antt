use Rattle.ac_reading.proofs.pointers.stays.Goals as goal

pub returns-then-same_offset : goal.returns-then-same_offset
returns-then-same_offset c =
    λ t. record {
      there = c.has.ensures.there c.if-has.true;
      span = c.has.ensures.span c.if-has.true;
      params = c.same_params.ensures c.if-same_params.true;
      offset = c.same_offset.ensures c.if-same_offset.true;
      exps = c.same_row.ensures t;
    }
