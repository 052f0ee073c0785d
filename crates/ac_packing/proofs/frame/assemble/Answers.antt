use Rattle.std.proofs.Common.{◌≡◌, ◌+◌, ◌++◌, take, length, List, Bool, ap, ◌∙◌, subst, arith, append_assoc}
use Rattle.ac_bits.specs.Bits.{bits, bits_of}
use Rattle.ac_bits.proofs.Laws.{bits_of-append}
use Rattle.ac_crc.specs.Remainder.{IsRemainder}
use Rattle.ac_packing.proofs.Frames.{placed, behind_two, drop_further, bits_of-three}
use Rattle.ac_packing.proofs.frame.assemble.Goals as goal

pub returns-clause-whole : goal.returns-clause-whole
returns-clause-whole c =
    let s = c.word_bytes.result in
    let w = c.word_bytes-2.result in
    let b = c.args.body.now in
    let crc2 = c.trailing_word-crc2.result in
    let n = length b + 4 in
    let front : take (4 + length b) c.place-3.new.out ≡ s ++ (w ++ b) = placed c.args.out.now c.place.new.out c.place-2.new.out c.place-3.new.out s w b (0 + length s) (2 + length w) (4 + length b) c.place.ensures.front c.place-2.ensures.front c.place-3.ensures.front (omega arith) (omega arith) in
    let turn : n ≡ 4 + length b = omega arith in
    let mid = behind_two c.place-3.new.out s (w ++ b) n (ap (λ k. take k c.place-3.new.out) turn ∙ front) c.word_bytes.ensures.len in
    let e : bits_of (w ++ b) ++ bits crc2 16 ≡ bits c.args.crc1 16 ++ (bits_of b ++ bits crc2 16) =
    ap (λ l. l ++ bits crc2 16) (bits_of-append w b ∙ ap (λ l. l ++ bits_of b) c.word_bytes-2.ensures.bits) ∙ append_assoc (bits c.args.crc1 16) (bits_of b) (bits crc2 16) in
    subst (λ (l : List Bool). IsRemainder l 0) (ap (λ l. bits_of l ++ bits crc2 16) mid ∙ e) c.trailing_word-crc2.ensures.none_left

pub returns-clause-frame : goal.returns-clause-frame
returns-clause-frame c =
    let s = c.word_bytes.result in
    let w = c.word_bytes-2.result in
    let b = c.args.body.now in
    let d = c.word_bytes-3.result in
    let n = length b + 4 in
    let front : take (4 + length b) c.place-3.new.out ≡ s ++ (w ++ b) = placed c.args.out.now c.place.new.out c.place-2.new.out c.place-3.new.out s w b (0 + length s) (2 + length w) (4 + length b) c.place.ensures.front c.place-2.ensures.front c.place-3.ensures.front (omega arith) (omega arith) in
    let turn : n ≡ 4 + length b = omega arith in
    let all : length b + 6 ≡ n + length d = omega arith in
    let e : take (length b + 6) c.place-4.new.out ≡ (s ++ (w ++ b)) ++ d =
    ap (λ k. take k c.place-4.new.out) all ∙ (c.place-4.ensures.front ∙ ap (λ l. l ++ d) (ap (λ k. take k c.place-3.new.out) turn ∙ front)) in
    let regroup : (s ++ (w ++ b)) ++ d ≡ s ++ (w ++ (b ++ d)) = simp append_assoc in
    let f : bits_of (take (length b + 6) c.place-4.new.out) ≡ bits_of s ++ (bits_of w ++ (bits_of b ++ bits_of d)) =
    ap bits_of (e ∙ regroup) ∙ (bits_of-three s w (b ++ d) ∙ ap (λ l. bits_of s ++ (bits_of w ++ l)) (bits_of-append b d)) in
    f
    ∙ (ap (λ l. l ++ (bits_of w ++ (bits_of b ++ bits_of d))) c.word_bytes.ensures.bits
    ∙ (ap (λ l. bits 0x0B77 16 ++ (l ++ (bits_of b ++ bits_of d))) c.word_bytes-2.ensures.bits
    ∙ ap (λ l. bits 0x0B77 16 ++ (bits c.args.crc1 16 ++ (bits_of b ++ l))) c.word_bytes-3.ensures.bits))

pub returns-clause-rest : goal.returns-clause-rest
returns-clause-rest c =
    let n = length c.args.body.now + 6 in
    let m = length c.args.body.now + 4 in
    drop_further c.place-4.new.out c.place-3.new.out (m + length c.word_bytes-3.result) n c.place-4.ensures.rest (omega arith)
    ∙ (drop_further c.place-3.new.out c.place-2.new.out (4 + length c.args.body.now) n c.place-3.ensures.rest (omega arith)
    ∙ (drop_further c.place-2.new.out c.place.new.out (2 + length c.word_bytes-2.result) n c.place-2.ensures.rest (omega arith)
    ∙ drop_further c.place.new.out c.args.out.now (0 + length c.word_bytes.result) n c.place.ensures.rest (omega arith)))
