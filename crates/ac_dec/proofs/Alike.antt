-- Coefficients that are the same are taken apart to the same, and the channels behind the full ones stay.
use Rattle.std.proofs.Common.{◌≡◌, ℕ, zero, suc, ◌+◌, ◌<◌, ◌≤◌, Bool, true, false, ◌&&◌, List, [], ◌∷◌, nat_lt, Option, Some, None, ℤ, refl, ap, ap₂, sym, ◌∙◌, arith, inl, inr}
use Rattle.std.specs.Prelude.{◌-◌, ◌/◌, take, slice_index_or, nat_eq, nat_le, ◌+ℤ◌, neg_ℤ, if◌then◌else◌}
use Rattle.std.proofs.lemmas.Bool.{cases_lt, cases_eq, lt-ltb, le-ltb}
use Rattle.std.proofs.lemmas.Bool.Decides.{nat_tests}
use Rattle.ac_base.specs.Shape.{full_of, count_of, is_stereo, rematrix_bands}
use Rattle.ac_reading.proofs.HeldSpells.{full_most}
use Rattle.ac_record.specs.Empty.{empty_block}
use Rattle.ac_record.specs.Frames.{FrameCodes}
use Rattle.ac_rows.specs.Blocks.{Block}
use Rattle.ac_rows.specs.declared.head.Head.{Head}
use Rattle.ac_rows.specs.Filled.{holds, entry, listed, held, is_coupled, span_in, coupling_in, filled_of}
use Rattle.ac_rows.specs.Groups.{strategy_of}
use Rattle.ac_separation.specs.Separation.{clamped, is_in, band_of, separated, uncoupled_of, has_sums, cut_in, unrematrixed_of}
use Rattle.ac_dec.specs.Heard.{block_at, values_of, separated_of, coded_at, heard_of}

-- the same in all channels and bins
abbrev pub Same : (ℕ → ℕ → ℤ) → (ℕ → ℕ → ℤ) → Type 0
Same x y = (c k : ℕ) → c < 7 → k < 256 → x c k ≡ y c k

pub uncoupled_same : (h : Head) (f : Block) (x y : ℕ → ℕ → ℤ) → Same x y → Same (uncoupled_of h f x) (uncoupled_of h f y)
unfolding uncoupled_of
uncoupled_same h f x y same c k small below =
    let full = full_of h.acmod in
    let most = full_most h.acmod in
    let t = nat_lt c full && is_coupled (strategy_of f) c && is_in (span_in h f full) k in
    ap₂ (λ (a b : ℤ). if t then separated f c (band_of f ((k - (span_in h f full).start) / 12)) a else b) (same full k (omega (arith, most)) below) (same c k small below)

pub unrematrixed_same : (h : Head) (f : Block) (x y : ℕ → ℕ → ℤ) → Same x y → Same (unrematrixed_of h f x) (unrematrixed_of h f y)
unfolding unrematrixed_of
unrematrixed_same h f x y same c k small below =
    let t = has_sums h f k in
    let zero_same = same 0 k (omega arith) below in
    let one_same = same 1 k (omega arith) below in
    ap₂ (λ (p q : ℤ). if t then (if nat_eq c 0 then p else if nat_eq c 1 then q else x c k) else x c k)
    (ap₂ (λ (a b : ℤ). clamped (a +ℤ b)) zero_same one_same) (ap₂ (λ (a b : ℤ). clamped (a +ℤ neg_ℤ b)) zero_same one_same)
    ∙ ap (λ (z : ℤ). if t then (if nat_eq c 0 then clamped (y 0 k +ℤ y 1 k) else if nat_eq c 1 then clamped (y 0 k +ℤ neg_ℤ (y 1 k)) else z) else z) (same c k small below)

-- ---- channels behind the full ones

pub uncoupled_behind : (h : Head) (f : Block) (x : ℕ → ℕ → ℤ) (c k : ℕ) → full_of h.acmod ≤ c → uncoupled_of h f x c k ≡ x c k
unfolding uncoupled_of
uncoupled_behind h f x c k behind =
    let full = full_of h.acmod in
    ap (λ (t : Bool). if t && is_coupled (strategy_of f) c && is_in (span_in h f full) k then separated f c (band_of f ((k - (span_in h f full).start) / 12)) (x full k) else x c k)
    (le-ltb c full behind)

none_at : (j : ℕ) → entry {A = Bool} (None ∷ None ∷ None ∷ None ∷ []) j ≡ None
none_at zero = refl
none_at (suc zero) = refl
none_at (suc (suc zero)) = refl
none_at (suc (suc (suc zero))) = refl
none_at (suc (suc (suc (suc n)))) = refl

no_flags : (h : Head) (e : List Block) (b : Block) (j : ℕ) → is_stereo h.acmod ≡ false → entry (filled_of h e b).rematflg j ≡ None
unfolding filled_of listed
no_flags h e b j off =
    ap (λ (t : Bool). entry (listed 4 0 (λ k. if t && nat_lt k (rematrix_bands (coupling_in e b).range) then Some (holds (held (λ d. entry d.rematflg k) e b)) else None)) j) off
    ∙ none_at j

and_none : (a b : Bool) (o : Option Bool) → o ≡ None → (a && b && holds o) ≡ false
and_none true true o e = ap holds e
and_none true false o e = refl
and_none false b o e = refl

no_sums : (h : Head) (e : List Block) (b : Block) (k : ℕ) → is_stereo h.acmod ≡ false → has_sums h (filled_of h e b) k ≡ false
no_sums h e b k off =
    let f = filled_of h e b in
    and_none (nat_le 13 k) (nat_lt k (cut_in h f)) _ (no_flags h e b _ off)

later_channel : (t : Bool) (c : ℕ) (p q z : ℤ) → 2 ≤ c → (if t then (if nat_eq c 0 then p else if nat_eq c 1 then q else z) else z) ≡ z
later_channel true c p q z l =
    let not_left : nat_eq c 0 ≡ false = grind (arith, nat_tests) in
    let not_right : nat_eq c 1 ≡ false = grind (arith, nat_tests) in
    rw not_left (rw not_right refl)
later_channel false c p q z l = refl

pub unrematrixed_behind : (h : Head) (e : List Block) (b : Block) (x : ℕ → ℕ → ℤ) (c k : ℕ) → full_of h.acmod ≤ c → unrematrixed_of h (filled_of h e b) x c k ≡ x c k
unfolding unrematrixed_of
unrematrixed_behind h e b x c k behind =
    let f = filled_of h e b in
    elim (cases_eq h.acmod 2) [
      | inl two ↦
          let full : full_of h.acmod ≡ 2 = ap full_of two in
          later_channel (has_sums h f k) c (clamped (x 0 k +ℤ x 1 k)) (clamped (x 0 k +ℤ neg_ℤ (x 1 k))) (x c k) (omega (arith, full, behind))
      | inr other ↦
          ap (λ (t : Bool). if t then (if nat_eq c 0 then clamped (x 0 k +ℤ x 1 k) else if nat_eq c 1 then clamped (x 0 k +ℤ neg_ℤ (x 1 k)) else x c k) else x c k)
          (no_sums h e b k (let off : is_stereo h.acmod ≡ false = grind (arith, nat_tests) in off))
    ]

pub separated_behind : (g : FrameCodes) (b c k : ℕ) → full_of g.head.acmod ≤ c → separated_of g b c k ≡ values_of g b c k
separated_behind g b c k behind =
    unrematrixed_behind g.head (take b g.block) (slice_index_or g.block b empty_block) (uncoupled_of g.head (block_at g b) (values_of g b)) c k behind
    ∙ uncoupled_behind g.head (block_at g b) (values_of g b) c k behind

-- ---- what is heard stands in the row of its coded channel

pub heard_is : (g : FrameCodes) (c b k : ℕ) → heard_of g c b k ≡ separated_of g b (coded_at g c b) k
unfolding heard_of
heard_is g c b k =
    let full = full_of g.head.acmod in
    let low = full + count_of (holds (block_at g b).cplinu) in
    elim (cases_lt c full) [
      | inl lt ↦
          let e = lt-ltb c full lt in
          ap (λ (t : Bool). if t then separated_of g b c k else values_of g b (coded_at g c b) k) e
          ∙ sym (ap (λ (t : Bool). separated_of g b (if t then c else low) k) e)
      | inr le ↦
          let e = le-ltb c full le in
          ap (λ (t : Bool). if t then separated_of g b c k else values_of g b (if t then c else low) k) e
          ∙ (sym (separated_behind g b low k (omega arith)) ∙ sym (ap (λ (t : Bool). separated_of g b (if t then c else low) k) e))
    ]
