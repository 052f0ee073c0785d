use Rattle.std.proofs.Common.{◌≡◌, ◌+◌, ◌*◌, ◌++◌, length, ap, sym, ◌∙◌, arith, rules, take, drop}
use Rattle.std.proofs.lemmas.List.{append-nil, take_at}
use Rattle.ac_bits.specs.Bits.{bits_of, bits}
use Rattle.ac_bits.proofs.Laws.{length-view, bits-zero}
use Rattle.ac_bits.proofs.sink.BitSink.bytes.Goals as goal

pub returns-clause-count : goal.returns-clause-count
returns-clause-count c =
    let s = c.self.inside in
    let len : 8 * s.full + s.used ≡ length c.args.self.now = sym (length-view s.buf s.full s.held s.used (omega (arith, c.self.told, c.self.invariant))) ∙ ap length c.self.view_is in
    omega (arith, len)

pub returns-clause-value : goal.returns-clause-value
returns-clause-value c =
    let s = c.self.inside in
    let len : 8 * s.full + s.used ≡ length c.args.self.now = sym (length-view s.buf s.full s.held s.used (omega (arith, c.self.told, c.self.invariant))) ∙ ap length c.self.view_is in
    let none : s.used ≡ 0 = omega (arith, len) in
    let copied : c.copy_from_slice.new.self ≡ take s.full s.buf = search rules in
    let rest = drop s.full c.args.out.now in
    let long : length c.copy_from_slice.new.self ≡ s.full = omega arith in
    ap bits_of (take_at c.copy_from_slice.new.self rest s.full long ∙ copied)
    ∙ (sym (append-nil (bits_of (take s.full s.buf)))
    ∙ (ap (λ l. bits_of (take s.full s.buf) ++ l) (sym (bits-zero s.held) ∙ ap (bits s.held) (sym none))
    ∙ c.self.view_is))
