use Rattle.std.proofs.Common.{◌+◌, ◌<◌, ◌∙◌, ap, sym, subst, None, length, take, get_or, arith, length-append}
use Rattle.ac_bits.specs.Bits.{Appends}
use Rattle.ac_bits.proofs.Laws.{appends-then}
use Rattle.ac_codec.specs.Lists.{spelled_each}
use Rattle.ac_rows.specs.BlockRows.{zipped}
use Rattle.ac_rows.specs.Bits.{coordinate_bits}
use Rattle.ac_rows.proofs.ZippedBits.{zipped-more, zipped_fits, zipped_all}
use Rattle.ac_row_writing.proofs.shared.write_each.Goals as goal

pub put_pair-requires-clause-room : goal.put_pair-requires-clause-room
put_pair-requires-clause-room c =
    let l = c.loop-k in
    let xs = c.args.exps.now in
    let ys = c.args.mants.now in
    let lt : l.k < length xs = omega (arith, c.loop-k-test.true, c.told-exps) in
    omega (arith, l.invariant.len, c.requires.room, zipped_fits coordinate_bits xs ys l.k None None lt (c.told-exps ∙ sym c.told-mants))

pub loop-k-preserved : goal.loop-k-preserved
loop-k-preserved c =
    let l = c.loop-k in
    let xs = c.args.exps.now in
    let ys = c.args.mants.now in
    let lt : l.k < length xs = omega (arith, c.loop-k-test.true, c.told-exps) in
    let more = zipped-more coordinate_bits xs ys l.k None None lt (c.told-exps ∙ sym c.told-mants) in
    record {
      adds = subst (Appends c.args.sink.now c.put_pair.new.sink) (sym more) (appends-then l.invariant.adds c.put_pair.ensures.adds);
      len =
          omega (
            arith,
            l.invariant.len,
            c.put_pair.ensures.len,
            ap length more,
            length-append (spelled_each coordinate_bits (take l.k (zipped xs ys)))
                (coordinate_bits (get_or xs l.k None, get_or ys l.k None)),
          );
    }

pub returns-clause-adds : goal.returns-clause-adds
returns-clause-adds c =
    let l = c.loop-k in
    let all = zipped_all coordinate_bits c.args.exps.now c.args.mants.now l.k (omega (arith, c.loop-k-test.false, c.told-exps)) in
    subst (Appends c.args.sink.now l.sink) all l.invariant.adds

pub returns-clause-len : goal.returns-clause-len
returns-clause-len c =
    let l = c.loop-k in
    let all = zipped_all coordinate_bits c.args.exps.now c.args.mants.now l.k (omega (arith, c.loop-k-test.false, c.told-exps)) in
    l.invariant.len ∙ ap (λ b. length c.args.sink.now + length b) all
