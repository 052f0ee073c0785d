use Rattle.std.proofs.Common.{◌+◌, ◌<◌, ◌^◌, ◌∙◌, ap, arith, length, get_or, ◌++◌, drop}
use Rattle.ac_bits.specs.Bits.{bits, bits_of}
use Rattle.ac_bits.proofs.Laws.{fill_step, put_fits}
use Rattle.ac_bits.proofs.source.fill.Goals as goal

pub loop-have-preserved : goal.loop-have-preserved
loop-have-preserved c =
    let l = c.loop-have in
    let bytes = c.args.bytes.now in
    let room : l.at < length bytes = omega arith in
    let byte : get_or bytes l.at 0 < 2 ^ 8 = omega (arith, c.type_inv.bytes l.at) in
    let f = put_fits l.held l.have (get_or bytes l.at 0) 8 l.invariant.fits byte (omega arith) in
    record {
      same = ap (λ n. bits (n + get_or bytes l.at 0) (l.have + 8) ++ bits_of (drop (l.at + 1) bytes)) f.0
          ∙ (fill_step bytes l.at l.held l.have room byte ∙ l.invariant.same);
      at = omega arith;
      count = omega arith;
      small = omega arith;
      fits = f.1;
    }
