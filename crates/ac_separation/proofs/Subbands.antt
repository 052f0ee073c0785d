-- The bands of subbands, and the factors of coordinates.
use Rattle.std.proofs.Common.{◌≡◌, ℕ, zero, suc, ◌+◌, ◌-◌, ◌*◌, ◌^◌, ◌<◌, ◌≤◌, Bool, true, false, List, length, slice_index_or, set, arith, refl, ap, ap₂, sym, ◌∙◌}
use Rattle.std.specs.Prelude.{◌==◌, if◌then◌else◌}
use Rattle.std.proofs.lemmas.Nat.{mul-le}
use Rattle.ac_base.proofs.Powers.{pow_le}
use Rattle.ac_rematrix.proofs.Halved.{after_set}
use Rattle.ac_coordinates.specs.Factor.{factor_of}
use Rattle.ac_rows.specs.Blocks.{Block}
use Rattle.ac_rows.specs.Filled.{holds, entry}
use Rattle.ac_separation.specs.Separation.{band_of}

joined_or_next : (t : Bool) (a m : ℕ) → a ≤ m → (if t then a else suc a) ≤ m + 1
joined_or_next true a m h = omega arith
joined_or_next false a m h = omega arith

-- a subband's band is none behind its own number
pub band_bound : (f : Block) (n : ℕ) → band_of f n ≤ n
unfolding band_of
band_bound f zero = omega arith
band_bound f (suc n) = omega (arith, joined_or_next (holds (entry f.cplbndstrc (suc n))) (band_of f n) n (band_bound f n))

-- one subband more
band_more : (f : Block) (n : ℕ) → band_of f (suc n) ≡ (if holds (entry f.cplbndstrc (suc n)) then band_of f n else suc (band_of f n))
unfolding band_of
band_more f n = refl

either_below : (t : Bool) (a b n : ℕ) → a < n → b < n → (if t then a else b) < n
either_below true a b n h k = h
either_below false a b n h k = k

-- a factor is less than 1 / 2 of 2 ^ 20
pub factor_bound : (e m : ℕ) → e ≤ 15 → m ≤ 15 → factor_of e m < 2 ^ 19
factor_bound e m a b =
    let power = pow_le (14 - e) 14 (omega arith) in
    let most = mul-le (m + 16) (2 ^ (14 - e)) 31 (2 ^ 14) (omega arith) power in
    either_below (e == 15) m ((m + 16) * 2 ^ (14 - e)) (2 ^ 19) (omega arith) (omega (arith, most))

-- ---- the table of bands

pub bands_start : (f : Block) (xs : List ℕ) → slice_index_or xs 0 0 ≡ 0 → (n : ℕ) → n < 1 → slice_index_or xs n 0 ≡ band_of f n
unfolding band_of
bands_start f xs e zero below = e
bands_start f xs e (suc n) below = absurd (omega arith)

as_suc : (t : Bool) (a : ℕ) → (if t then a else a + 1) ≡ (if t then a else suc a)
as_suc true a = refl
as_suc false a = omega arith

chosen : (s t : Bool) (a b : ℕ) → s ≡ t → a ≡ b → (if s then a else a + 1) ≡ (if t then b else suc b)
chosen s t a b p q = ap₂ (λ (u : Bool) (v : ℕ). if u then v else v + 1) p q ∙ as_suc t b

band_after : (f : Block) (n p z : ℕ) (t : Bool) → 1 ≤ n → p ≡ band_of f (n - 1) → t ≡ holds (entry f.cplbndstrc n) → z ≡ (if t then p else p + 1)
    → z ≡ band_of f n
band_after f zero p z t some e q is = absurd (omega arith)
band_after f (suc n) p z t some e q is =
    let back : suc n - 1 ≡ n = omega arith in
    is ∙ chosen t (holds (entry f.cplbndstrc (suc n))) p (band_of f n) q (e ∙ ap (band_of f) back) ∙ sym (band_more f n)

-- one entry more
pub bands_more : (f : Block) (xs : List ℕ) (n z : ℕ) (t : Bool) → 1 ≤ n → n < length xs
    → ((j : ℕ) → j < n → slice_index_or xs j 0 ≡ band_of f j) → t ≡ holds (entry f.cplbndstrc n)
    → z ≡ (if t then slice_index_or xs (n - 1) 0 else slice_index_or xs (n - 1) 0 + 1)
    → (j : ℕ) → j < n + 1 → slice_index_or (set xs n z) j 0 ≡ band_of f j
bands_more f xs n z t some room before q is j below =
    after_set (λ i v. i < n + 1 → v ≡ band_of f i) 0 xs n z room
    (λ here. band_after f n (slice_index_or xs (n - 1) 0) z t some (before (n - 1) (omega arith)) q is)
    j (λ other here. before j (omega arith)) below
