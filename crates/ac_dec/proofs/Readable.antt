-- Each bin of a reading has a value: an exponent up to 24, and a code of its pointer.
use Rattle.std.proofs.Common.{◌≡◌, ◌⊎◌, ℕ, zero, suc, ◌+◌, ◌-◌, ◌<◌, ◌≤◌, Bool, true, false, ◌&&◌, ◌||◌, List, [], ◌∷◌, ◌++◌, Option, Some, None, refl, ap, sym, subst, ◌∙◌, arith, inl, inr}
use Rattle.std.specs.Prelude.{not, map, if◌then◌else◌}
use Rattle.std.specs.List.{range_with_len}
use Rattle.std.proofs.lemmas.Bool.{cases_lt}
use Rattle.ac_base.specs.declared.spans.Span.{Span}
use Rattle.ac_base.specs.Shape.{full_of, count_of}
use Rattle.ac_base.specs.Spans.{IsIn}
use Rattle.ac_expo.specs.Spelling.{Spelling}
use Rattle.ac_mant.specs.declared.coded.Coded.{Coded}
use Rattle.ac_mant.specs.Groups.{coded, AreCoded, IsCoded}
use Rattle.ac_mant.specs.Quantiser.{levels}
use Rattle.ac_reading.specs.Spells.{Spells}
use Rattle.ac_reading.proofs.Blocks.{whole_lawful}
use Rattle.ac_reading.proofs.HeldSpells.{held_spells}
use Rattle.ac_reading.proofs.Orders.{Each, order_step}
use Rattle.ac_reading.proofs.Rooms.{span_blank}
use Rattle.ac_reading.proofs.Rows.{cases_in, in_true, in_false}
use Rattle.ac_record.specs.Channels.{coded_in, is_in}
use Rattle.ac_record.specs.Frames.{FrameCodes}
use Rattle.ac_record.specs.Held.{exponent_by, exponent_in, held_exponents}
use Rattle.ac_record.specs.Order.{with_coupling, order_of, over_bins, over_channels, in_order}
use Rattle.ac_record.specs.Readings.{cell, IsBlockReading}
use Rattle.ac_record.specs.Records.{BlockRecord, IsBlock}
use Rattle.ac_rows.specs.Blocks.{Block}
use Rattle.ac_rows.specs.BlockRows.{block_fields, AreLawful}
use Rattle.ac_rows.specs.declared.head.Head.{Head}
use Rattle.ac_rows.specs.Filled.{holds, is_coupled, span_in, filled_of, blank_span}
use Rattle.ac_rows.specs.Groups.{strategy_of}
use Rattle.ac_rows.specs.HeadRows.{head_fields}
use Rattle.ac_dec.specs.Values.{IsReadable}
use Rattle.ac_dec.proofs.Coupled.{Some_is, one_is_coupled}

-- ---- each bin of a channel in order is coded

coded_both : (xs ys : List Coded) → AreCoded (xs ++ ys) → AreCoded xs × AreCoded ys
coded_both [] ys h = (tt, h)
coded_both (x ∷ xs) ys h = let p = coded_both xs ys h.1 in ((h.0, p.0), p.1)

bins_coded : (f : ℕ → Coded) (a n k : ℕ) → AreCoded (map f (range_with_len a n)) → a ≤ k → k < a + n → IsCoded (f k)
bins_coded f a zero k h le lt = absurd (omega arith)
bins_coded f a (suc n) k h le lt = elim (cases_lt a k) [
  | inl more ↦ bins_coded f (a + 1) n k h.1 (omega arith) (omega arith)
  | inr here ↦ let e : a ≡ k = omega arith in subst (λ j. IsCoded (f j)) e h.0
]

span_coded : (f : ℕ → Coded) (s : Span) (k : ℕ) → AreCoded (over_bins f s) → IsIn s k → IsCoded (f k)
span_coded f s k h i = let p = i.0 in let q = i.1 in bins_coded f s.start (s.end - s.start) k h i.0 (omega (arith, p, q))

-- all bins of a channel are
abbrev BinsAre : (ℕ → Span) → (ℕ → ℕ → Coded) → ℕ → Type 0
BinsAre s g c = (k : ℕ) → IsIn (s c) k → IsCoded (g c k)

channels_coded : (s : ℕ → Span) (cs : List ℕ) (g : ℕ → ℕ → Coded) → AreCoded (over_channels s cs g) → Each (BinsAre s g) cs
unfolding over_channels
channels_coded s [] g h = tt
channels_coded s (c ∷ cs) g h =
    let p = coded_both (over_bins (g c) (s c)) (over_channels s cs g) h in
    (λ k i. span_coded (g c) (s c) k p.0 i, channels_coded s cs g p.1)

-- ---- each coded channel is in order

each_first : (P : ℕ → Type 0) (xs ys : List ℕ) → Each P (xs ++ ys) → Each P xs
each_first P [] ys h = tt
each_first P (x ∷ xs) ys h = (h.0, each_first P xs ys h.1)

each_second : (P : ℕ → Type 0) (xs ys : List ℕ) → Each P (xs ++ ys) → Each P ys
each_second P [] ys h = h
each_second P (x ∷ xs) ys h = each_second P xs ys h.1

each_full : (P : ℕ → Type 0) (coupled : ℕ → Bool) (shared : ℕ) (came : Bool) (i n c : ℕ) → Each P (with_coupling coupled shared came i n) → i ≤ c → c < i + n → P c
each_full P coupled shared came i zero c h le lt = absurd (omega (arith, le, lt))
each_full P coupled shared came i (suc n) c h le lt =
    let there = subst (Each P) (order_step coupled shared came i n) h in
    elim (cases_lt i c) [
      | inl more ↦ each_full P coupled shared (came || coupled i) (suc i) n c (each_second P (if coupled i && not came then shared ∷ [] else []) (with_coupling coupled shared (came || coupled i) (suc i) n) there.1) (omega (arith, more)) (omega (arith, lt))
      | inr here ↦ let e : i ≡ c = omega (arith, le, here) in subst P e there.0
    ]

on_or_off : (t : Bool) → (t ≡ true) ⊎ (t ≡ false)
on_or_off true = inl refl
on_or_off false = inr refl

each_shared : (P : ℕ → Type 0) (coupled : ℕ → Bool) (shared i n c : ℕ) → Each P (with_coupling coupled shared false i n) → i ≤ c → c < i + n → coupled c ≡ true → P shared
each_shared P coupled shared i zero c h le lt on = absurd (omega (arith, le, lt))
each_shared P coupled shared i (suc n) c h le lt on =
    let there = subst (Each P) (order_step coupled shared false i n) h in
    let now = if coupled i && not false then shared ∷ [] else [] in
    let rest = with_coupling coupled shared (false || coupled i) (suc i) n in
    elim (on_or_off (coupled i)) [
      | inl on_here ↦
          let first : Each P (if true && not false then shared ∷ [] else []) = subst (λ (t : Bool). Each P (if t && not false then shared ∷ [] else [])) on_here (each_first P now rest there.1) in
          first.0
      | inr off_here ↦
          let behind : Each P (with_coupling coupled shared false (suc i) n) = subst (λ (t : Bool). Each P (with_coupling coupled shared (false || t) (suc i) n)) off_here (each_second P now rest there.1) in
          elim (cases_lt i c) [
            | inl more ↦ each_shared P coupled shared (suc i) n c behind (omega (arith, more)) (omega (arith, lt)) on
            | inr here ↦ let e : i ≡ c = omega (arith, le, here) in let both : true ≡ false = sym on ∙ (ap coupled (sym e) ∙ off_here) in absurd cc
          ]
    ]

-- which channel stands behind the full ones
behind_full : (used low : Bool) (full c : ℕ) → full ≤ c → c < full + count_of used + count_of low → ((used ≡ true) × (c ≡ full)) ⊎ ((low ≡ true) × (c ≡ full + count_of used))
behind_full true true full c le lt = elim (cases_lt full c) [ inl more ↦ inr (refl, omega (arith, more, lt)) | inr here ↦ inl (refl, omega (arith, le, here)) ]
behind_full true false full c le lt = inl (refl, omega (arith, le, lt))
behind_full false true full c le lt = inr (refl, omega (arith, le, lt))
behind_full false false full c le lt = absurd (omega (arith, le, lt))

each_low : (P : ℕ → Type 0) (coupled : ℕ → Bool) (full : ℕ) (used low : Bool) → low ≡ true → Each P (order_of coupled full used low) → P (full + count_of used)
unfolding order_of
each_low P coupled full used true e h = (each_second P (with_coupling coupled full (not used) 0 full) ((full + count_of used) ∷ []) h).0
each_low P coupled full used false e h = absurd cc

each_front : (P : ℕ → Type 0) (coupled : ℕ → Bool) (full : ℕ) (used low : Bool) → Each P (order_of coupled full used low) → Each P (with_coupling coupled full (not used) 0 full)
unfolding order_of
each_front P coupled full used low h = each_first P (with_coupling coupled full (not used) 0 full) (if low then (full + count_of used) ∷ [] else []) h

each_coded : (P : ℕ → Type 0) (coupled : ℕ → Bool) (full : ℕ) (used low : Bool) → (used ≡ true → Some_is full coupled) → Each P (order_of coupled full used low) → (c : ℕ) → c < full + count_of used + count_of low → P c
each_coded P coupled full used low some h c lt = elim (cases_lt c full) [
  | inl few ↦ each_full P coupled full (not used) 0 full c (each_front P coupled full used low h) (omega arith) (omega (arith, few))
  | inr le ↦
      elim (behind_full used low full c le lt) [
        | inl p ↦
            let r = some p.0 in
            let front : Each P (with_coupling coupled full (not true) 0 full) = subst (λ (t : Bool). Each P (with_coupling coupled full (not t) 0 full)) p.0 (each_front P coupled full used low h) in
            let shared : P full = each_shared P coupled full 0 full r.0 front (omega arith) (let small = r.1 in omega (arith, small)) r.2 in
            subst P (sym p.1) shared
        | inr p ↦ subst P (sym p.1) (each_low P coupled full used low p.0 h)
      ]
]

pub bin_coded : (h : Head) (f : Block) (g : ℕ → ℕ → Coded) → (holds f.cplinu ≡ true → Some_is (full_of h.acmod) (is_coupled (strategy_of f))) → AreCoded (in_order h f g) → (c k : ℕ) → IsIn (span_in h f c) k → IsCoded (g c k)
bin_coded h f g some are c k i = elim (cases_lt c (coded_in h f)) [
  | inl lt ↦
      each_coded (BinsAre (span_in h f) g) (is_coupled (strategy_of f)) (full_of h.acmod) (holds f.cplinu) h.lfeon some
      (channels_coded (span_in h f) (order_of (is_coupled (strategy_of f)) (full_of h.acmod) (holds f.cplinu) h.lfeon) g are) c lt k i
  | inr le ↦
      let j : IsIn blank_span k = subst (λ (s : Span). IsIn s k) (span_blank h f c le) i in
      let p = j.1 in absurd (omega (arith, p))
]

-- ---- exponents

exponent_small : (span : Span) (o : Option (ℕ × Spelling)) (k : ℕ) → ((kind : ℕ) (s : Spelling) → o ≡ Some (kind, s) → Spells kind span s) → IsIn span k → exponent_by span o k ≤ 24
exponent_small span None k h i = omega arith
exponent_small span (Some (kind, s)) k h i = let most = (h kind s refl).most k i in omega (arith, most)

held_small : (h : Head) (e : List Block) (b : Block) (c k : ℕ) → head_fields.Lawful h → AreLawful h e → (block_fields h e).Lawful b → c < coded_in h (filled_of h e b) → IsIn (span_in h (filled_of h e b) c) k → exponent_in h e b c k ≤ 24
unfolding exponent_in
held_small h e b c k head earlier l lt i = exponent_small (span_in h (filled_of h e b) c) (held_exponents h e b c) k (held_spells h e b c head earlier l lt) i

in_small : (h : Head) (e : List Block) (b : Block) (c k : ℕ) → head_fields.Lawful h → AreLawful h e → (block_fields h e).Lawful b → IsIn (span_in h (filled_of h e b) c) k → exponent_in h e b c k ≤ 24
in_small h e b c k head earlier l i = elim (cases_lt c (coded_in h (filled_of h e b))) [
  | inl lt ↦ held_small h e b c k head earlier l lt i
  | inr le ↦
      let j : IsIn blank_span k = subst (λ (s : Span). IsIn s k) (span_blank h (filled_of h e b) c le) i in
      let p = j.1 in absurd (omega (arith, p))
]

-- ---- a block

if_in : (t : Bool) (n : ℕ) → t ≡ true → (if t then n else 0) ≡ n
if_in true n e = refl
if_in false n e = absurd cc

if_out : (t : Bool) (n : ℕ) → t ≡ false → (if t then n else 0) ≡ 0
if_out true n e = absurd cc
if_out false n e = refl

zero_readable : (code bap exponent : ℕ) → code ≡ 0 → bap ≡ 0 → exponent ≡ 0 → IsReadable code bap exponent
unfolding levels
zero_readable code bap exponent a b c =
    subst (λ (x : ℕ). IsReadable x bap exponent) (sym a)
    (subst (λ (x : ℕ). IsReadable 0 x exponent) (sym b)
    (subst (λ (x : ℕ). IsReadable 0 0 x) (sym c) (record { is_pointer = omega arith; is_code = omega arith; is_small = omega arith })))

pub block_readable : (h : Head) (e : List Block) (b : ℕ) (x : BlockRecord) (g : FrameCodes) → 0 < full_of h.acmod → head_fields.Lawful h → AreLawful h e → IsBlock h e x → IsBlockReading h e b x g
    → (c k : ℕ) → c < 7 → k < 256 → IsReadable (cell g.codes c b k) (cell g.baps c b k) (cell g.exps c b k)
block_readable h e b x g some head earlier l r c k small below =
    let f = filled_of h e x.fields in
    let s = span_in h f c in
    let fields = whole_lawful h e x.fields x.skipped l.fields in
    let at = λ (c k : ℕ). coded (cell g.baps c b k) (cell g.codes c b k) in
    elim (cases_in s k) [
      | inl i ↦
          let in_span = in_true s k i in
          let exps : cell g.exps c b k ≡ exponent_in h e x.fields c k = r.exps c k small below ∙ if_in (is_in s k) (exponent_in h e x.fields c k) in_span in
          let one = bin_coded h f at (one_is_coupled h e x.fields some earlier fields) (subst AreCoded r.codes l.coded) c k i in
          record { is_pointer = one.pointer; is_code = one.code; is_small = subst (λ (n : ℕ). n ≤ 24) (sym exps) (in_small h e x.fields c k head earlier fields i) }
      | inr out ↦
          let none = in_false s k out in
          zero_readable (cell g.codes c b k) (cell g.baps c b k) (cell g.exps c b k) (r.elsewhere c k small below none) (r.baps c k small below ∙ if_out (is_in s k) _ none) (r.exps c k small below ∙ if_out (is_in s k) _ none)
    ]
