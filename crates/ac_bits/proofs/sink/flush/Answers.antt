use Rattle.std.proofs.Common.{◌≡◌, ◌-◌, ◌*◌, ◌/◌, ◌%◌, ◌<◌, ◌^◌, ◌∙◌, arith, length, length-set}
use Rattle.std.proofs.lemmas.Nat.{mod_below, pow_pos}
use Rattle.ac_bits.proofs.Laws.{flush_step, low_left, top_byte}
use Rattle.ac_bits.proofs.sink.flush.Goals as goal

pub overflow_cast-buf : goal.overflow_cast-buf
overflow_cast-buf c = omega (arith, top_byte c.loop-used.held c.loop-used.used c.loop-used.invariant.fits c.loop-used-test.true)

pub loop-used-preserved : goal.loop-used-preserved
loop-used-preserved c =
    let l = c.loop-used in
    let u = l.used - 8 in
    let left : l.held - (l.held / 2 ^ u * 2 ^ u) % 2 ^ 64 ≡ l.held % 2 ^ u = low_left l.held u (omega arith) in
    let room : l.full < length l.buf = omega arith in
    record {
      same = rw left (flush_step l.buf l.full l.held l.used room c.loop-used-test.true ∙ l.invariant.same);
      count = omega arith;
      small = omega arith;
      fits = rw left (mod_below l.held (2 ^ u) (pow_pos u));
      whole = length-set l.buf l.full (l.held / 2 ^ u) ∙ l.invariant.whole;
    }
