use Rattle.std.proofs.Common.{◌+◌, ◌<◌, ◌∙◌, ap, sym, subst, None, length, take, get_or, arith, length-append}
use Rattle.ac_bits.specs.Bits.{Appends}
use Rattle.ac_bits.proofs.Laws.{appends-then}
use Rattle.ac_codec.specs.Lists.{spelled_each}
use Rattle.ac_rows.specs.BlockRows.{zipped}
use Rattle.ac_rows.specs.Bits.{offset_bits}
use Rattle.ac_rows.proofs.ZippedBits.{zipped-more, zipped_fits, zipped_all}
use Rattle.ac_row_writing.proofs.allocation.write_each.Goals as goal

pub put_pair-requires-clause-room : goal.put_pair-requires-clause-room
put_pair-requires-clause-room c =
    let l = c.loop-i in
    let xs = c.args.offsets.now in
    let ys = c.args.gains.now in
    let lt : l.i < length xs = omega (arith, c.loop-i-test.true, c.told-offsets) in
    omega (arith, l.invariant.len, c.requires.room, zipped_fits offset_bits xs ys l.i None None lt (c.told-offsets ∙ sym c.told-gains))

pub loop-i-preserved : goal.loop-i-preserved
loop-i-preserved c =
    let l = c.loop-i in
    let xs = c.args.offsets.now in
    let ys = c.args.gains.now in
    let lt : l.i < length xs = omega (arith, c.loop-i-test.true, c.told-offsets) in
    let more = zipped-more offset_bits xs ys l.i None None lt (c.told-offsets ∙ sym c.told-gains) in
    record {
      adds = subst (Appends c.args.sink.now c.put_pair.new.sink) (sym more) (appends-then l.invariant.adds c.put_pair.ensures.adds);
      len =
          omega (
            arith,
            l.invariant.len,
            c.put_pair.ensures.len,
            ap length more,
            length-append (spelled_each offset_bits (take l.i (zipped xs ys))) (offset_bits (get_or xs l.i None, get_or ys l.i None)),
          );
    }

pub returns-clause-adds : goal.returns-clause-adds
returns-clause-adds c =
    let l = c.loop-i in
    let all = zipped_all offset_bits c.args.offsets.now c.args.gains.now l.i (omega (arith, c.loop-i-test.false, c.told-offsets)) in
    subst (Appends c.args.sink.now l.sink) all l.invariant.adds

pub returns-clause-len : goal.returns-clause-len
returns-clause-len c =
    let l = c.loop-i in
    let all = zipped_all offset_bits c.args.offsets.now c.args.gains.now l.i (omega (arith, c.loop-i-test.false, c.told-offsets)) in
    l.invariant.len ∙ ap (λ b. length c.args.sink.now + length b) all
