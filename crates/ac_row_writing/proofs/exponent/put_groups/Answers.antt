use Rattle.std.proofs.Common.{ap, sym, subst, length, take, get_or, arith, length-append}
use Rattle.ac_bits.specs.Bits.{bits, Appends}
use Rattle.ac_bits.proofs.Laws.{appends-then, length-bits}
use Rattle.ac_codec.specs.Lists.{spelled_each}
use Rattle.ac_codec.proofs.Spelling.{spelled_each-more, next_fits}
use Rattle.ac_row_writing.proofs.exponent.put_groups.Goals as goal

pub put-requires-clause-room : goal.put-requires-clause-room
put-requires-clause-room c =
    let l = c.loop-group in
    omega (
      arith,
      l.invariant.len,
      c.requires.room,
      next_fits (λ g. bits g 7) c.args.groups.now l.group-index 0 c.loop-group-test.true,
      length-bits (get_or c.args.groups.now l.group-index 0) 7,
    )

pub loop-group-preserved : goal.loop-group-preserved
loop-group-preserved c =
    let l = c.loop-group in
    let g = get_or c.args.groups.now l.group-index 0 in
    let more = spelled_each-more (λ g. bits g 7) c.args.groups.now l.group-index 0 c.loop-group-test.true in
    record {
      adds =
          subst (Appends c.args.sink.now c.put.new.self) (sym more)
          (appends-then l.invariant.adds (rw c.from.ensures at c.put.ensures.bits));
      len =
          omega (
            arith,
            l.invariant.len,
            c.put.ensures.len,
            ap length more,
            length-append (spelled_each (λ g. bits g 7) (take l.group-index c.args.groups.now)) (bits g 7),
            length-bits g 7,
          );
    }
