-- The transform back by four classes of rows.
use Rattle.std.proofs.Common.{◌≡◌, ℕ, ◌+◌, ◌-◌, ◌*◌, ◌/◌, ◌%◌, ◌^◌, ◌<◌, ◌≤◌, List, unsigned_abs, ℤ, neg_ℤ, ◌+ℤ◌, ◌-ℤ◌, refl, sym, ap, ap₂, ◌∙◌, arith, inl, inr}
use Rattle.std.proofs.lemmas.Bool.{cases_eq}
use Rattle.std.proofs.lemmas.Int.{ints}
use Rattle.ac_base.specs.Sigma.{sigma}
use Rattle.ac_base.proofs.Sums.{sigma_bound}
use Rattle.ac_base.proofs.Rearranged.{sigma_same, sigma_add, sigma_split}
use Rattle.ac_convolution.specs.Negacyclic.{items, wave}
use Rattle.ac_convolution.specs.Rows.{row, Rows, RowsWithin}
use Rattle.ac_convolution.specs.Transform.{inverse_of, class_of, eighth_of, waves_of}
use Rattle.ac_convolution.proofs.Alternating.{Alternates, wave_16, wave_low, wave_high, same_at, opposite_at}

-- what alternates is the wave of its first numbers
pub wave_is : (xs f : ℕ → ℤ) → Alternates 16 f → ((k : ℕ) → k < 16 → xs k ≡ f k) → (n : ℕ) → wave 16 xs n ≡ f n
wave_is xs f alters same n =
    elim (cases_eq (n / 16 % 2) 0) [
      | inl even ↦
          wave_low 16 xs n (n / 16) (n % 16) refl refl even
          ∙ same (n % 16) (omega arith)
          ∙ sym (same_at 16 f alters (n / 32) (n % 16) n (omega arith))
      | inr other ↦
          wave_high 16 xs n (n / 16) (n % 16) refl refl (omega arith)
          ∙ ap neg_ℤ (same (n % 16) (omega arith))
          ∙ sym (opposite_at 16 f alters (n / 32) (n % 16) n (omega arith))
    ]

pub wave_first : (xs : ℕ → ℤ) (n : ℕ) → n < 16 → wave 16 xs n ≡ xs n
wave_first xs n below = wave_low 16 xs n 0 n (omega arith) (omega arith) refl

wave_less : (u v : ℕ → ℤ) (n : ℕ) → wave 16 (λ k. u k -ℤ v k) n ≡ wave 16 u n -ℤ wave 16 v n
wave_less u v n =
    let both : Alternates 16 (λ j. wave 16 u j -ℤ wave 16 v j) =
    λ j.
    let left : wave 16 u (j + 16) ≡ neg_ℤ (wave 16 u j) = wave_16 u j in
    let right : wave 16 v (j + 16) ≡ neg_ℤ (wave 16 v j) = wave_16 v j in
    omega (arith, ints) in
    wave_is (λ k. u k -ℤ v k) (λ j. wave 16 u j -ℤ wave 16 v j) both
    (λ k below. sym (ap₂ ◌-ℤ◌ (wave_first u k below) (wave_first v k below))) n

sigma_four : (f : ℕ → ℤ) → sigma 4 f ≡ ((f 0 +ℤ f 1) +ℤ f 2) +ℤ f 3
unfolding sigma
sigma_four f = omega (arith, ints)

class_is : (q : ℕ → ℕ → ℤ) (r e c k : ℕ) → r % 8 ≡ e → r / 8 ≡ c → class_of q r k ≡ ((q e k +ℤ q (e + 8) (k + 248 * c)) +ℤ q (e + 16) (k + 496 * c)) +ℤ q (e + 24) (k + 744 * c)
unfolding class_of
class_is q r e c k low high =
    sigma_four (λ t. q (r % 8 + 8 * t) (k + 31 * (8 * t * (r / 8))))
    ∙ ap₂ ◌+ℤ◌
    (ap₂ ◌+ℤ◌ (ap₂ ◌+ℤ◌ (ap₂ q (omega arith) (omega arith)) (ap₂ q (omega arith) (omega arith))) (ap₂ q (omega arith) (omega arith)))
    (ap₂ q (omega arith) (omega arith))

waves : (q : List (List ℤ)) (e : ℕ) → Alternates 16 (waves_of q e)
waves q e = wave_16 (items (row q e))

here : (q : List (List ℤ)) (e k : ℕ) → k < 16 → waves_of q e k ≡ items (row q e) k
here q e k below = wave_first (items (row q e)) k below

-- the classes, in the words of the code: e + 8 and the rows 16 on
pub class_0 : (q : List (List ℤ)) (r k : ℕ) → r < 8 → k < 16 → class_of (waves_of q) r k ≡ (items (row q r) k +ℤ items (row q (r + 16)) k) +ℤ (items (row q (r + 8)) k +ℤ items (row q (r + 8 + 16)) k)
class_0 q r k below within =
    let is = class_is (waves_of q) r r 0 k (omega arith) (omega arith) in
    let first = here q r k within in
    let second = same_at 16 (waves_of q (r + 8)) (waves q (r + 8)) 0 k (k + 248 * 0) (omega arith) ∙ here q (r + 8) k within in
    let third = same_at 16 (waves_of q (r + 16)) (waves q (r + 16)) 0 k (k + 496 * 0) (omega arith) ∙ here q (r + 16) k within in
    let place : r + 24 ≡ r + 8 + 16 = omega arith in
    let fourth = same_at 16 (waves_of q (r + 24)) (waves q (r + 24)) 0 k (k + 744 * 0) (omega arith) ∙ here q (r + 24) k within ∙ ap (λ e. items (row q e) k) place in
    omega (arith, ints)

pub class_2 : (q : List (List ℤ)) (r k : ℕ) → 16 ≤ r → r < 24 → k < 16 → class_of (waves_of q) r k ≡ (items (row q (r - 16)) k +ℤ items (row q (r - 16 + 16)) k) -ℤ (items (row q (r - 8)) k +ℤ items (row q (r - 8 + 16)) k)
class_2 q r k from below within =
    let e = r - 16 in
    let is = class_is (waves_of q) r (r - 16) 2 k (omega arith) (omega arith) in
    let first = here q (r - 16) k within in
    let place_2 : r - 16 + 8 ≡ r - 8 = omega arith in
    let place_4 : r - 16 + 24 ≡ r - 8 + 16 = omega arith in
    let second = opposite_at 16 (waves_of q (r - 16 + 8)) (waves q (r - 16 + 8)) 15 k (k + 248 * 2) (omega arith) ∙ ap neg_ℤ (here q (r - 16 + 8) k within ∙ ap (λ e. items (row q e) k) place_2) in
    let third = same_at 16 (waves_of q (r - 16 + 16)) (waves q (r - 16 + 16)) 31 k (k + 496 * 2) (omega arith) ∙ here q (r - 16 + 16) k within in
    let fourth = opposite_at 16 (waves_of q (r - 16 + 24)) (waves q (r - 16 + 24)) 46 k (k + 744 * 2) (omega arith) ∙ ap neg_ℤ (here q (r - 16 + 24) k within ∙ ap (λ e. items (row q e) k) place_4) in
    omega (arith, ints)

pub class_1 : (q : List (List ℤ)) (r k : ℕ) → 8 ≤ r → r < 16 → k < 16 → class_of (waves_of q) r k ≡ (items (row q (r - 8)) k -ℤ items (row q (r - 8 + 16)) k) -ℤ wave 16 (λ k. items (row q r) k -ℤ items (row q (r + 16)) k) (k + 8)
class_1 q r k from below within =
    let is = class_is (waves_of q) r (r - 8) 1 k (omega arith) (omega arith) in
    let first = here q (r - 8) k within in
    let place_2 : r - 8 + 8 ≡ r = omega arith in
    let place_4 : r - 8 + 24 ≡ r + 16 = omega arith in
    let second = opposite_at 16 (waves_of q (r - 8 + 8)) (waves q (r - 8 + 8)) 7 (k + 8) (k + 248 * 1) (omega arith) ∙ ap (λ e. neg_ℤ (waves_of q e (k + 8))) place_2 in
    let third = opposite_at 16 (waves_of q (r - 8 + 16)) (waves q (r - 8 + 16)) 15 k (k + 496 * 1) (omega arith) ∙ ap neg_ℤ (here q (r - 8 + 16) k within) in
    let fourth = same_at 16 (waves_of q (r - 8 + 24)) (waves q (r - 8 + 24)) 23 (k + 8) (k + 744 * 1) (omega arith) ∙ ap (λ e. waves_of q e (k + 8)) place_4 in
    let less = wave_less (items (row q r)) (items (row q (r + 16))) (k + 8) in
    omega (arith, ints)

pub class_3 : (q : List (List ℤ)) (r k : ℕ) → 24 ≤ r → r < 32 → k < 16 → class_of (waves_of q) r k ≡ (items (row q (r - 24)) k -ℤ items (row q (r - 24 + 16)) k) +ℤ wave 16 (λ k. items (row q (r - 16)) k -ℤ items (row q (r - 16 + 16)) k) (k + 8)
class_3 q r k from below within =
    let is = class_is (waves_of q) r (r - 24) 3 k (omega arith) (omega arith) in
    let first = here q (r - 24) k within in
    let place_2 : r - 24 + 8 ≡ r - 16 = omega arith in
    let place_4 : r - 24 + 24 ≡ r - 16 + 16 = omega arith in
    let second = same_at 16 (waves_of q (r - 24 + 8)) (waves q (r - 24 + 8)) 23 (k + 8) (k + 248 * 3) (omega arith) ∙ ap (λ e. waves_of q e (k + 8)) place_2 in
    let third = opposite_at 16 (waves_of q (r - 24 + 16)) (waves q (r - 24 + 16)) 46 k (k + 496 * 3) (omega arith) ∙ ap neg_ℤ (here q (r - 24 + 16) k within) in
    let fourth = opposite_at 16 (waves_of q (r - 24 + 24)) (waves q (r - 24 + 24)) 69 (k + 8) (k + 744 * 3) (omega arith) ∙ ap (λ e. neg_ℤ (waves_of q e (k + 8))) place_4 in
    let less = wave_less (items (row q (r - 16))) (items (row q (r - 16 + 16))) (k + 8) in
    omega (arith, ints)

-- what alternates by its four rows
pub class_alternates : (q : ℕ → ℕ → ℤ) → ((e : ℕ) → Alternates 16 (q e)) → (r : ℕ) → Alternates 16 (class_of q r)
class_alternates q alters r k =
    let is = class_is q r (r % 8) (r / 8) (k + 16) refl refl in
    let was = class_is q r (r % 8) (r / 8) k refl refl in
    let c = r / 8 in
    let e = r % 8 in
    let first = alters (r % 8) k in
    let second = opposite_at 16 (q (r % 8 + 8)) (alters (r % 8 + 8)) 0 (k + 248 * (r / 8)) (k + 16 + 248 * (r / 8)) (omega arith) in
    let third = opposite_at 16 (q (r % 8 + 16)) (alters (r % 8 + 16)) 0 (k + 496 * (r / 8)) (k + 16 + 496 * (r / 8)) (omega arith) in
    let fourth = opposite_at 16 (q (r % 8 + 24)) (alters (r % 8 + 24)) 0 (k + 744 * (r / 8)) (k + 16 + 744 * (r / 8)) (omega arith) in
    omega (arith, ints)

sigma_eights : (f : ℕ → ℤ) → sigma 32 f ≡ sigma 8 (λ e. ((f e +ℤ f (e + 8)) +ℤ f (e + 16)) +ℤ f (e + 24))
sigma_eights f =
    let first = sigma_split 8 24 f in
    let second = sigma_split 8 16 (λ e. f (8 + e)) in
    let third = sigma_split 8 8 (λ e. f (8 + (8 + e))) in
    let two = sigma_same 8 (λ e. f (8 + e)) (λ e. f (e + 8)) (λ e below. ap f (omega arith)) in
    let three = sigma_same 8 (λ e. f (8 + (8 + e))) (λ e. f (e + 16)) (λ e below. ap f (omega arith)) in
    let four = sigma_same 8 (λ e. f (8 + (8 + (8 + e)))) (λ e. f (e + 24)) (λ e below. ap f (omega arith)) in
    let join_2 = sigma_add 8 f (λ e. f (e + 8)) in
    let join_3 = sigma_add 8 (λ e. f e +ℤ f (e + 8)) (λ e. f (e + 16)) in
    let join_4 = sigma_add 8 (λ e. (f e +ℤ f (e + 8)) +ℤ f (e + 16)) (λ e. f (e + 24)) in
    omega (arith, ints)

pub eighth_is : (q : ℕ → ℕ → ℤ) → ((e : ℕ) → Alternates 16 (q e)) → (x : List (List ℤ)) → Rows 32 48 (class_of q) x → (i k : ℕ) → i < 16 → k < 16 → eighth_of x i k ≡ inverse_of q i k
eighth_is q alters x are i k below within =
    let f : ℕ → ℤ = λ e. q e (k + 31 * (e * i)) in
    sigma_same 8 (λ e. items (row x (8 * (i % 4) + e)) (31 * (e * i) % 32 + k)) (λ e. ((f e +ℤ f (e + 8)) +ℤ f (e + 16)) +ℤ f (e + 24))
    (λ e small.
    are (8 * (i % 4) + e) (omega arith) (31 * (e * i) % 32 + k) (omega arith)
    ∙ class_is q (8 * (i % 4) + e) e (i % 4) (31 * (e * i) % 32 + k) (omega arith) (omega arith)
    ∙ ap₂ ◌+ℤ◌
    (ap₂ ◌+ℤ◌
    (ap₂ ◌+ℤ◌
    (sym (same_at 16 (q e) (alters e) (31 * (e * i) / 32) (31 * (e * i) % 32 + k) (k + 31 * (e * i)) (omega arith)))
    (sym (same_at 16 (q (e + 8)) (alters (e + 8)) (31 * (e * i) / 32 + 31 * (i / 4)) (31 * (e * i) % 32 + k + 248 * (i % 4)) (k + 31 * ((e + 8) * i)) (omega arith))))
    (sym (same_at 16 (q (e + 16)) (alters (e + 16)) (31 * (e * i) / 32 + 62 * (i / 4)) (31 * (e * i) % 32 + k + 496 * (i % 4)) (k + 31 * ((e + 16) * i)) (omega arith))))
    (sym (same_at 16 (q (e + 24)) (alters (e + 24)) (31 * (e * i) / 32 + 93 * (i / 4)) (31 * (e * i) % 32 + k + 744 * (i % 4)) (k + 31 * ((e + 24) * i)) (omega arith))))
    ∙ sym (sigma_eights f)

pub eighth_bound : (x : List (List ℤ)) → RowsWithin (2 ^ 56) 32 48 x → (i k n : ℕ) → i < 16 → k < 16 → n ≤ 8 → unsigned_abs (sigma n (λ e. items (row x (8 * (i % 4) + e)) (31 * (e * i) % 32 + k))) ≤ n * 2 ^ 56
eighth_bound x small i k n below within most =
    sigma_bound (λ e. items (row x (8 * (i % 4) + e)) (31 * (e * i) % 32 + k)) (2 ^ 56) n
    (λ e under. small (8 * (i % 4) + e) (omega arith) (31 * (e * i) % 32 + k) (omega arith))
