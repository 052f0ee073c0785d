-- The sum over 512 places is the sum over 256 folded values.
use Rattle.std.proofs.Common.{◌≡◌, ℕ, ◌+◌, ◌-◌, ◌*◌, ◌<◌, ◌≤◌, ℤ, pos, neg_ℤ, List, ◌+ℤ◌, ◌*ℤ◌, slice_index_or, arith, ap, ap₂, sym, ◌∙◌}
use Rattle.std.proofs.lemmas.Bool.Decides.{nat_tests}
use Rattle.std.proofs.lemmas.Int.{ints}
use Rattle.ac_base.specs.Cosine.{cosine_at}
use Rattle.ac_base.proofs.Products.{sum_times, less_times}
use Rattle.ac_base.proofs.Rearranged.{sigma_same, sigma_split, sigma_pairs}
use Rattle.ac_base.proofs.Waves.{cosine_same, cosine_turn}
use Rattle.ac_mdct.specs.Fold.{folded}
use Rattle.ac_mdct.specs.Forward.{phase, forward_sum}
use Rattle.ac_mdct.specs.Place.{place}
use Rattle.ac_mdct.proofs.Folds.{folded_sum, folded_low, folded_high}

pub place_low : (i : ℕ) → i < 128 → place i ≡ i
unfolding place
place_low i low = grind (arith, nat_tests)

pub place_high : (i : ℕ) → 128 ≤ i → place i ≡ i + 128
unfolding place
place_high i high = grind (arith, nat_tests)

-- the phases of two places n and m of sum k add up
phases : (k n m : ℕ) → phase k n + phase k m ≡ (2 * k + 1) * (2 * (n + m) + 514)
phases k n m = omega arith

pub odd_places : (k n m : ℕ) → n + m ≡ 255 → cosine_at (phase k m) ≡ neg_ℤ (cosine_at (phase k n))
odd_places k n m sum =
    let all = phases k n m ∙ ap (λ s. (2 * k + 1) * (2 * s + 514)) sum in
    cosine_turn (phase k n) (phase k m) k (omega arith)

pub even_places : (k n m : ℕ) → n + m ≡ 767 → cosine_at (phase k m) ≡ cosine_at (phase k n)
even_places k n m sum =
    let all = phases k n m ∙ ap (λ s. (2 * k + 1) * (2 * s + 514)) sum in
    cosine_same (phase k n) (phase k m) (2 * k + 1) (omega arith)

low_term : (v : List ℤ) (k i : ℕ) → i < 128 → slice_index_or v i (pos 0) *ℤ cosine_at (phase k i) +ℤ slice_index_or v (255 - i) (pos 0) *ℤ cosine_at (phase k (255 - i)) ≡ folded v i *ℤ cosine_at (phase k (place i))
low_term v k i low =
    let opposite = odd_places k i (255 - i) (omega arith) in
    let terms = less_times (slice_index_or v i (pos 0)) (slice_index_or v (255 - i) (pos 0)) (cosine_at (phase k i)) (cosine_at (phase k (255 - i))) opposite in
    sym terms ∙ ap₂ ◌*ℤ◌ (sym (folded_low v i low)) (ap (λ n. cosine_at (phase k n)) (sym (place_low i low)))

high_term : (v : List ℤ) (k i : ℕ) → i < 128 → slice_index_or v (256 + i) (pos 0) *ℤ cosine_at (phase k (256 + i)) +ℤ slice_index_or v (256 + (255 - i)) (pos 0) *ℤ cosine_at (phase k (256 + (255 - i))) ≡ folded v (128 + i) *ℤ cosine_at (phase k (place (128 + i)))
high_term v k i low =
    let same = even_places k (256 + i) (256 + (255 - i)) (omega arith) in
    let terms = sum_times (slice_index_or v (256 + i) (pos 0)) (slice_index_or v (256 + (255 - i)) (pos 0)) (cosine_at (phase k (256 + i))) in
    let second = ap (λ z. slice_index_or v (256 + (255 - i)) (pos 0) *ℤ z) same in
    let high = folded_high v (128 + i) (omega arith) in
    let first_place : 128 + i + 128 ≡ 256 + i = omega arith in
    let second_place : 639 - (128 + i) ≡ 256 + (255 - i) = omega arith in
    let whole : folded v (128 + i) ≡ slice_index_or v (256 + i) (pos 0) +ℤ slice_index_or v (256 + (255 - i)) (pos 0) =
    high ∙ ap₂ (λ a b. slice_index_or v a (pos 0) +ℤ slice_index_or v b (pos 0)) first_place second_place in
    let at_place : place (128 + i) ≡ 256 + i = place_high (128 + i) (omega arith) ∙ first_place in
    let factors = ap₂ ◌*ℤ◌ whole (ap (λ n. cosine_at (phase k n)) at_place) in
    omega (arith, ints)

pub forward_folds : (v : List ℤ) (k : ℕ) → forward_sum (λ n. slice_index_or v n (pos 0)) k ≡ folded_sum (folded v) k
forward_folds v k =
    let f : ℕ → ℤ = λ n. slice_index_or v n (pos 0) *ℤ cosine_at (phase k n) in
    let g : ℕ → ℤ = λ i. folded v i *ℤ cosine_at (phase k (place i)) in
    let halves = sigma_split 256 256 f in
    let low = sigma_pairs 128 f ∙ sigma_same 128 (λ i. f i +ℤ f (128 + 128 - 1 - i)) g (λ i below. low_term v k i below) in
    let high = sigma_pairs 128 (λ i. f (256 + i)) ∙ sigma_same 128 (λ i. f (256 + i) +ℤ f (256 + (128 + 128 - 1 - i))) (λ i. g (128 + i)) (λ i below. high_term v k i below) in
    let folds = sigma_split 128 128 g in
    omega (arith, ints)
