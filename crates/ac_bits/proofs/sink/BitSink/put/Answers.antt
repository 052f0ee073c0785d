use Rattle.std.proofs.Common.{◌+◌, ◌++◌, length, ap, sym, ◌∙◌, arith, take}
use Rattle.ac_bits.specs.Bits.{bits_of, bits}
use Rattle.ac_bits.proofs.Laws.{length-view, put_joins, put_fits, length-bits, length-appends}
use Rattle.ac_bits.proofs.sink.BitSink.put.Goals as goal

pub flush-full-requires-clause-room : goal.flush-full-requires-clause-room
flush-full-requires-clause-room c =
    let s = c.self.inside in
    let len = sym (length-view s.buf s.full s.held s.used (omega (arith, c.self.told, c.self.invariant))) ∙ ap length c.self.view_is in
    omega (arith, len)

pub flush-full-requires-clause-fits : goal.flush-full-requires-clause-fits
flush-full-requires-clause-fits c =
    let s = c.self.inside in
    (put_fits s.held s.used c.args.value c.args.width c.self.invariant.2 c.requires.fits (omega arith)).1

pub invariant_of-self : goal.invariant_of-self
invariant_of-self c =
    let s = c.self.inside in
    let len = sym (length-view s.buf s.full s.held s.used (omega (arith, c.self.told, c.self.invariant))) ∙ ap length c.self.view_is in
    (omega (arith, len), c.flush-full.ensures.small, c.flush-full.ensures.fits)

pub returns-clause-bits : goal.returns-clause-bits
returns-clause-bits c =
    let s = c.self.inside in
    let same = (put_fits s.held s.used c.args.value c.args.width c.self.invariant.2 c.requires.fits (omega arith)).0 in
    record {
      whole = c.flush-full.ensures.same
          ∙ (ap (λ n. bits_of (take s.full s.buf) ++ bits (n + c.args.value) (s.used + c.args.width)) same
          ∙ (put_joins (bits_of (take s.full s.buf)) s.held s.used c.args.value c.args.width c.requires.fits
          ∙ ap (λ l. l ++ bits c.args.value c.args.width) c.self.view_is));
    }

pub returns-clause-len : goal.returns-clause-len
returns-clause-len c = length-appends (returns-clause-bits c) ∙ ap (λ n. length c.args.self.now + n) (length-bits c.args.value c.args.width)
