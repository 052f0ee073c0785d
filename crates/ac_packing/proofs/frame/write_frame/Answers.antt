use Rattle.std.proofs.Common.{◌≡◌, ◌+◌, ◌-◌, ◌∙◌, ◌++◌, true, false, take, length, ℕ, ap, subst, arith, inl, inr, refl}
use Rattle.ac_base.specs.Sizes.{front_room}
use Rattle.ac_bits.specs.Bits.{bits, bits_of}
use Rattle.ac_crc.specs.Remainder.{IsRemainder}
use Rattle.ac_packing.proofs.Frames.{middle, is_packed, whole_between, made, made_whole, made_front}
use Rattle.ac_packing.proofs.frame.write_frame.Goals as goal

pub returns-then-assemble-ne-SYNC_WORD-clause-frame :
    goal.returns-then-assemble-ne-SYNC_WORD-clause-frame
returns-then-assemble-ne-SYNC_WORD-clause-frame c =
    let q = c.args.q.now in
    let is = c.requires.asked in
    let size = c.requires.code in
    let code = c.args.code in
    let n = c.write_body-count.result in
    let buf = c.write_body-count.new.out in
    let crc1 = c.leading_word-crc1.result in
    let crc2 = c.assemble.result in
    let body = c.behind_crc1-2.result.now in
    let some = q.shape.least_size in
    let count = c.write_body-count.ensures.count in
    let place : n - 2 + 2 ≡ n = omega (arith, some, count) in
    let room : front_room q.shape.words ≡ 32 + (front_room q.shape.words - 32) = omega (arith, some) in
    let long : length body + 6 ≡ n = omega (arith, c.behind_crc1-2.ensures.len, some, count) in
    let here = ap bits_of c.behind_crc1-2.ensures.value ∙ whole_between q buf code n (n - 2) false is size count c.write_body-count.ensures.bytes place in
    is_packed q (take n c.assemble.new.out) code crc1 false crc2 (front_room q.shape.words - 32) is size room c.leading_word-crc1.type_inv c.assemble.type_inv
    (made c.assemble.new.out body (middle q code false) n crc1 crc2 long here c.assemble.ensures.frame)
    (made_front q buf c.behind_crc1.result.now code n c.from.result crc1 is size count c.write_body-count.ensures.bytes (c.from.ensures ∙ c.front_words.ensures.value) c.behind_crc1.ensures.value c.leading_word-crc1.ensures.none_left)
    (made_whole body (middle q code false) crc1 crc2 here c.assemble.ensures.whole)
    (inl (refl, c.if-assemble-ne-SYNC_WORD.true))

pub returns-clause-frame : goal.returns-clause-frame
returns-clause-frame c =
    let q = c.args.q.now in
    let is = c.requires.asked in
    let size = c.requires.code in
    let code = c.args.code in
    let n = c.write_body-count.result in
    let k = c.write_body.result in
    let buf = c.write_body-count.new.out in
    let next = c.write_body.new.out in
    let crc1 = c.leading_word-crc1.result in
    let crc2 = c.assemble-2.result in
    let first = c.behind_crc1-2.result.now in
    let body = c.behind_crc1-3.result.now in
    let some = q.shape.least_size in
    let count = c.write_body-count.ensures.count in
    let again = c.write_body.ensures.count in
    let place : n - 2 + 2 ≡ n = omega (arith, some, count) in
    let place2 : n - 2 + 2 ≡ k = omega (arith, some, count, again) in
    let room : front_room q.shape.words ≡ 32 + (front_room q.shape.words - 32) = omega (arith, some) in
    let long : length body + 6 ≡ n = omega (arith, c.behind_crc1-3.ensures.len, some, count) in
    let there = ap bits_of c.behind_crc1-2.ensures.value ∙ whole_between q buf code n (n - 2) false is size count c.write_body-count.ensures.bytes place in
    let here = ap bits_of c.behind_crc1-3.ensures.value ∙ whole_between q next code k (n - 2) true is size again c.write_body.ensures.bytes place2 in
    let sync = subst (λ (w : ℕ). IsRemainder (bits crc1 16 ++ (middle q code false ++ bits w 16)) 0) c.if-assemble-ne-SYNC_WORD.false (made_whole first (middle q code false) crc1 c.assemble.result there c.assemble.ensures.whole) in
    is_packed q (take n c.assemble-2.new.out) code crc1 true crc2 (front_room q.shape.words - 32) is size room c.leading_word-crc1.type_inv c.assemble-2.type_inv
    (made c.assemble-2.new.out body (middle q code true) n crc1 crc2 long here c.assemble-2.ensures.frame)
    (made_front q buf c.behind_crc1.result.now code n c.from.result crc1 is size count c.write_body-count.ensures.bytes (c.from.ensures ∙ c.front_words.ensures.value) c.behind_crc1.ensures.value c.leading_word-crc1.ensures.none_left)
    (made_whole body (middle q code true) crc1 crc2 here c.assemble-2.ensures.whole)
    (inr (refl, sync))
