-- What the bytes of a frame say of its size.
use Rattle.std.proofs.Common.{◌≡◌, ℕ, zero, suc, ◌+◌, ◌*◌, ◌/◌, ◌%◌, ◌^◌, ◌<◌, ◌≤◌, Bool, List, [], ◌∷◌, ◌++◌, length, take, slice_index, Option, None, refl, ap, ap₂, sym, ◌∙◌, arith}
use Rattle.std.proofs.lemmas.List.{get_or-take}
use Rattle.ac_base.specs.Sizes.{code_words}
use Rattle.ac_bits.specs.Bits.{bits, bits_of}
use Rattle.ac_bits.proofs.Laws.{bits-split, bits-zero}
use Rattle.ac_codec.specs.declared.refused.Refused.{Refused}
use Rattle.ac_codec.specs.declared.refused.Row.TheVariants.{Fscod, Frmsizecod}
use Rattle.ac_codec.specs.Codec.{below}
use Rattle.ac_rows.specs.declared.head.Head.{Head}
use Rattle.ac_rows.specs.HeadRows.{whole_head, sync_only, eight_only}
use Rattle.ac_record.specs.Faults.{first_of, size_refusal, words_at}
use Rattle.ac_record.specs.Laws.{AreBytes}
use Rattle.ac_record.proofs.Leading.{says}

-- ---- bytes of the same bits

abbrev lowered : List ℕ → List ℕ
lowered [] = []
lowered (b ∷ bs) = b % 2 ^ 8 ∷ lowered bs

lowered_bits : (bs : List ℕ) → bits_of (lowered bs) ≡ bits_of bs
lowered_bits [] = refl
lowered_bits (b ∷ bs) =
    ap₂ (λ (x y : List Bool). x ++ y) (sym (bits-split b 0 8 ∙ ap (λ (x : List Bool). x ++ bits (b % 2 ^ 8) 8) (bits-zero (b / 2 ^ 8)))) (lowered_bits bs)

lowered_long : (bs : List ℕ) → length (lowered bs) ≡ length bs
lowered_long [] = refl
lowered_long (b ∷ bs) = ap (λ n. suc n) (lowered_long bs)

lowered_at : (bs : List ℕ) (k : ℕ) → slice_index (lowered bs) k ≡ slice_index bs k % 2 ^ 8
lowered_at [] k = refl
lowered_at (b ∷ bs) zero = refl
lowered_at (b ∷ bs) (suc k) = lowered_at bs k

lowered_fit : (bs : List ℕ) → AreBytes (lowered bs)
lowered_fit bs k inside = let e = lowered_at bs k in omega (arith, e)

-- ---- the size by the first six bytes

abbrev refusal_by : ℕ → ℕ → ℕ → ℕ → Option Refused
refusal_by a b e f =
    first_of (sync_only (256 * a + b)) (first_of (below 3 Fscod (e / 64)) (first_of (below 38 Frmsizecod (e % 64)) (eight_only (f / 8))))

-- the same first six bytes
pub record AreSix (xs ys : List ℕ) : Type 0 where
  pub zeroth : slice_index xs 0 ≡ slice_index ys 0
  pub first : slice_index xs 1 ≡ slice_index ys 1
  pub fourth : slice_index xs 4 ≡ slice_index ys 4
  pub fifth : slice_index xs 5 ≡ slice_index ys 5

pub six_refusal : (xs ys : List ℕ) → AreSix xs ys → size_refusal xs ≡ size_refusal ys
six_refusal xs ys s =
    ap₂ (λ a b. refusal_by a b (slice_index xs 4) (slice_index xs 5)) s.zeroth s.first
    ∙ ap₂ (λ e f. refusal_by (slice_index ys 0) (slice_index ys 1) e f) s.fourth s.fifth

pub six_words : (xs ys : List ℕ) → AreSix xs ys → words_at xs ≡ words_at ys
six_words xs ys s = ap (λ e. code_words (e / 64) (e % 64)) s.fourth

pub six_by : (xs ys : List ℕ) → ((k : ℕ) → k < 6 → slice_index xs k ≡ slice_index ys k) → AreSix xs ys
six_by xs ys e = record { zeroth = e 0 (omega arith); first = e 1 (omega arith); fourth = e 4 (omega arith); fifth = e 5 (omega arith) }

pub six_taken : (n : ℕ) (xs : List ℕ) → 6 ≤ n → AreSix (take n xs) xs
six_taken n xs enough = six_by (take n xs) xs (λ k below. get_or-take n xs k 0 (omega arith))

-- the first six are bytes
abbrev pub SixFit : List ℕ → Type 0
SixFit xs = (k : ℕ) → k < 6 → slice_index xs k < 2 ^ 8

six_lowered : (xs : List ℕ) → SixFit xs → AreSix (lowered xs) xs
six_lowered xs fit = six_by (lowered xs) xs (λ k below. let e = lowered_at xs k in let f = fit k below in omega (arith, e, f))

-- bytes that begin with a head say its size
pub record SaysSize (bytes : List ℕ) (h : Head) : Type 0 where
  pub none : size_refusal bytes ≡ None
  pub words : words_at bytes ≡ code_words h.fscod h.frmsizecod

pub says_size : (bytes : List ℕ) (h : Head) (addbsi more : List Bool) → SixFit bytes → 6 ≤ length bytes → whole_head.Lawful (h, addbsi) → bits_of bytes ≡ whole_head.spell (h, addbsi) ++ more
    → SaysSize bytes h
says_size bytes h addbsi more fit long lawful whole =
    let low = lowered bytes in
    let e = lowered_long bytes in
    let s = says low h addbsi more (lowered_fit bytes) (omega (arith, e, long)) lawful (lowered_bits bytes ∙ whole) in
    let same = six_lowered bytes fit in
    record {
      none = sym (six_refusal low bytes same) ∙ s.none;
      words = sym (six_words low bytes same) ∙ ap₂ code_words s.rate s.code;
    }
