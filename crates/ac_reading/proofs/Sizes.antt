-- The size that a frame's first bytes say is the one that its head says.
use Rattle.std.proofs.Common.{◌≡◌, ℕ, ◌+◌, ◌*◌, ◌/◌, ◌%◌, ◌^◌, ◌<◌, ◌≤◌, Bool, List, [], ◌∷◌, ◌++◌, length, slice_index, refl, ap, sym, subst, ◌∙◌, arith, append_assoc}
use Rattle.ac_bits.specs.Bits.{bits, bits_of}
use Rattle.ac_bits.proofs.Laws.{bits-join, bits_same}
use Rattle.ac_codec.specs.Codec.{pair, shaped, field, free}
use Rattle.ac_rows.specs.declared.head.Head.{Head}
use Rattle.ac_rows.specs.HeadRows.{whole_head, head_fields, layout, layout_rows, layout_of, service, service_of}

-- the first rows of a head
pub record Front (h : Head) (l : List Bool) : Type 0 where
  pub rest : List Bool
  pub whole : l ≡ bits h.syncword 16 ++ (bits h.crc1 16 ++ (bits h.fscod 2 ++ (bits h.frmsizecod 6 ++ rest)))

four : (a b c d t u : List Bool) → (a ++ (b ++ (c ++ (d ++ t)))) ++ u ≡ a ++ (b ++ (c ++ (d ++ (t ++ u))))
four a b c d t u = simp append_assoc refl

layout_front : (h : Head) (u : List Bool) → Front h (layout.spell (layout_of h) ++ u)
unfolding layout layout_rows shaped pair field
layout_front h u = record { rest = _; whole = four (bits h.syncword 16) (bits h.crc1 16) (bits h.fscod 2) (bits h.frmsizecod 6) _ u }

whole_is : (h : Head) (addbsi : List Bool) → (t : List Bool) × (whole_head.spell (h, addbsi) ≡ layout.spell (layout_of h) ++ t)
unfolding whole_head head_fields shaped pair free
whole_is h addbsi = (service.spell (service_of h) ++ addbsi, append_assoc (layout.spell (layout_of h)) (service.spell (service_of h)) addbsi)

pub head_front : (h : Head) (addbsi u : List Bool) → Front h (whole_head.spell (h, addbsi) ++ u)
head_front h addbsi u =
    let w = whole_is h addbsi in
    let e : whole_head.spell (h, addbsi) ++ u ≡ layout.spell (layout_of h) ++ (w.0 ++ u) = ap (λ (l : List Bool). l ++ u) w.1 ∙ append_assoc (layout.spell (layout_of h)) w.0 u in
    subst (Front h) (sym e) (layout_front h (w.0 ++ u))

head_small : (h : Head) (addbsi : List Bool) → whole_head.Lawful (h, addbsi) → (h.syncword < 2 ^ 16) × (h.crc1 < 2 ^ 16) × (h.fscod < 2 ^ 2) × (h.frmsizecod < 2 ^ 6)
unfolding whole_head head_fields layout layout_rows shaped pair field
head_small h addbsi l = (l.0.0.0.0, l.0.0.1.0.0, l.0.0.1.1.0.0, l.0.0.1.1.1.0.0)

joined : (a b : ℕ) (l : List Bool) → b < 2 ^ 8 → bits a 8 ++ (bits b 8 ++ l) ≡ bits (a * 2 ^ 8 + b) 16 ++ l
joined a b l lt = sym (append_assoc (bits a 8) (bits b 8) l) ∙ ap (λ (x : List Bool). x ++ l) (sym (bits-join a 8 8 b lt))

joined_code : (a b : ℕ) (l : List Bool) → b < 2 ^ 6 → bits a 2 ++ (bits b 6 ++ l) ≡ bits (a * 2 ^ 6 + b) 8 ++ l
joined_code a b l lt = sym (append_assoc (bits a 2) (bits b 6) l) ∙ ap (λ (x : List Bool). x ++ l) (sym (bits-join a 2 6 b lt))

five : (a b c d e : ℕ) (more l : List Bool) (h : Head) → a < 2 ^ 8 → b < 2 ^ 8 → c < 2 ^ 8 → d < 2 ^ 8 → e < 2 ^ 8 → h.syncword < 2 ^ 16 → h.crc1 < 2 ^ 16 → h.fscod < 2 ^ 2 → h.frmsizecod < 2 ^ 6
    → bits a 8 ++ (bits b 8 ++ (bits c 8 ++ (bits d 8 ++ (bits e 8 ++ more)))) ≡ bits h.syncword 16 ++ (bits h.crc1 16 ++ (bits h.fscod 2 ++ (bits h.frmsizecod 6 ++ l))) → e ≡ h.fscod * 2 ^ 6 + h.frmsizecod
five a b c d e more l h sa sb sc sd se ss s1 sf sz same =
    let t2 = bits e 8 ++ more in
    let one = bits_same (a * 2 ^ 8 + b) 16 h.syncword (bits c 8 ++ (bits d 8 ++ t2)) (bits h.crc1 16 ++ (bits h.fscod 2 ++ (bits h.frmsizecod 6 ++ l))) (omega (arith, sa, sb)) ss (sym (joined a b (bits c 8 ++ (bits d 8 ++ t2)) sb) ∙ same) in
    let two = bits_same (c * 2 ^ 8 + d) 16 h.crc1 t2 (bits h.fscod 2 ++ (bits h.frmsizecod 6 ++ l)) (omega (arith, sc, sd)) s1 (sym (joined c d t2 sd) ∙ one.1) in
    (bits_same e 8 (h.fscod * 2 ^ 6 + h.frmsizecod) more l se (omega (arith, sf, sz)) (two.1 ∙ joined_code h.fscod h.frmsizecod l sz)).0

-- each is a byte
abbrev pub AreBytes : List ℕ → Type 0
AreBytes bytes = (k : ℕ) → k < length bytes → slice_index bytes k < 2 ^ 8

pub fifth : (bytes : List ℕ) (h : Head) (addbsi u : List Bool) → AreBytes bytes → 6 ≤ length bytes → whole_head.Lawful (h, addbsi) → bits_of bytes ≡ whole_head.spell (h, addbsi) ++ u → slice_index bytes 4 ≡ h.fscod * 2 ^ 6 + h.frmsizecod
fifth (a ∷ b ∷ c ∷ d ∷ e ∷ more) h addbsi u small long lawful same =
    let f = head_front h addbsi u in
    let s = head_small h addbsi lawful in
    five a b c d e (bits_of more) f.rest h (small 0 (omega arith)) (small 1 (omega arith)) (small 2 (omega arith)) (small 3 (omega arith)) (small 4 (omega arith)) s.0 s.1 s.2 s.3 (same ∙ f.whole)
fifth [] h addbsi u small long lawful same = absurd (omega arith)
fifth (a ∷ []) h addbsi u small long lawful same = absurd (omega arith)
fifth (a ∷ b ∷ []) h addbsi u small long lawful same = absurd (omega arith)
fifth (a ∷ b ∷ c ∷ []) h addbsi u small long lawful same = absurd (omega arith)
fifth (a ∷ b ∷ c ∷ d ∷ []) h addbsi u small long lawful same = absurd (omega arith)

pub codes_are : (x f z : ℕ) → x ≡ f * 2 ^ 6 + z → z < 2 ^ 6 → (x / 64 ≡ f) × (x % 64 ≡ z)
codes_are x f z e lt = (omega (arith, e, lt), omega (arith, e, lt))

pub size_small : (h : Head) (addbsi : List Bool) → whole_head.Lawful (h, addbsi) → h.frmsizecod < 2 ^ 6
size_small h addbsi l = (head_small h addbsi l).3
