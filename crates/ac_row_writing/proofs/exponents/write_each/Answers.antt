use Rattle.std.proofs.Common.{◌+◌, ◌<◌, ◌∙◌, ap, sym, subst, Option, None, length, take, get_or, arith, length-append}
use Rattle.ac_bits.specs.Bits.{Appends}
use Rattle.ac_bits.proofs.Laws.{appends-then}
use Rattle.ac_codec.specs.Lists.{spelled_each}
use Rattle.ac_rows.specs.BlockRows.{zipped}
use Rattle.ac_rows.specs.Bits.{exponent_bits}
use Rattle.std.specs.Option.{ForSome}
use Rattle.ac_rows.specs.Bits.{SpellingFits}
use Rattle.ac_expo.specs.Spelling.{Spelling}
use Rattle.ac_rows.proofs.ZippedBits.{zipped-more, zipped_fits, zipped_all, get_or_any}
use Rattle.ac_row_writing.proofs.exponents.write_each.Goals as goal

pub put_channel-requires-clause-room : goal.put_channel-requires-clause-room
put_channel-requires-clause-room c =
    let l = c.loop-i in
    let xs = c.args.exps.now in
    let ys = c.args.gains.now in
    let lt : l.i < length xs = omega (arith, c.loop-i-test.true, c.type_inv.exps) in
    omega (
      arith,
      l.invariant.len,
      c.requires.room,
      zipped_fits exponent_bits xs ys l.i c.index-exps-i.result None lt
          (c.type_inv.exps ∙ sym c.told-gains),
    )

pub loop-i-preserved : goal.loop-i-preserved
loop-i-preserved c =
    let l = c.loop-i in
    let xs = c.args.exps.now in
    let ys = c.args.gains.now in
    let lt : l.i < length xs = omega (arith, c.loop-i-test.true, c.type_inv.exps) in
    let more = zipped-more exponent_bits xs ys l.i c.index-exps-i.result None lt (c.type_inv.exps ∙ sym c.told-gains) in
    record {
      adds = subst (Appends c.args.sink.now c.put_channel.new.sink) (sym more) (appends-then l.invariant.adds c.put_channel.ensures.adds);
      len =
          omega (
            arith,
            l.invariant.len,
            c.put_channel.ensures.len,
            ap length more,
            length-append (spelled_each exponent_bits (take l.i (zipped xs ys)))
                (exponent_bits (get_or xs l.i c.index-exps-i.result, get_or ys l.i None)),
          );
    }

pub returns-clause-adds : goal.returns-clause-adds
returns-clause-adds c =
    let l = c.loop-i in
    let all = zipped_all exponent_bits c.args.exps.now c.args.gains.now l.i (omega (arith, c.loop-i-test.false, c.type_inv.exps)) in
    subst (Appends c.args.sink.now l.sink) all l.invariant.adds

pub returns-clause-len : goal.returns-clause-len
returns-clause-len c =
    let l = c.loop-i in
    let all = zipped_all exponent_bits c.args.exps.now c.args.gains.now l.i (omega (arith, c.loop-i-test.false, c.type_inv.exps)) in
    l.invariant.len ∙ ap (λ b. length c.args.sink.now + length b) all

pub put_channel-requires-clause-fits : goal.put_channel-requires-clause-fits
put_channel-requires-clause-fits c =
    let l = c.loop-i in
    let lt : l.i < length c.args.exps.now = omega (arith, c.loop-i-test.true, c.type_inv.exps) in
    subst (λ (o : Option Spelling). ForSome o SpellingFits) (get_or_any c.args.exps.now l.i None c.index-exps-i.result lt)
    (c.requires.fits l.i c.loop-i-test.true)
