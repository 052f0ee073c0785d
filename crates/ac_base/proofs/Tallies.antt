-- Laws of counts of mantissas.
use Rattle.std.proofs.Common.{◌≡◌, ℕ, zero, suc, ◌+◌, ◌<◌, List, [], ◌∷◌, length, slice_index, refl, sym, ap, ◌∙◌, arith}
use Rattle.ac_base.specs.Counts.{Tally, none, with_one, joined, tally_of, SixthsAreWithinExact, TalliesJoin}
use Rattle.ac_base.specs.Fit.{tally_bins}

pub sixths_within : SixthsAreWithinExact
sixths_within t = omega arith

pub same_tally : (s t : Tally) → s.linear ≡ t.linear → s.n1 ≡ t.n1 → s.n2 ≡ t.n2 → s.n4 ≡ t.n4 → s ≡ t
same_tally s t a b c d = λ i. record { linear = a i; n1 = b i; n2 = c i; n4 = d i }

pub join : TalliesJoin
join [] ys = same_tally _ _ (omega arith) (omega arith) (omega arith) (omega arith)
join (x ∷ xs) ys =
    let ih = join xs ys in
    same_tally _ _ (omega (arith, ap (λ (t : Tally). t.linear) ih)) (omega (arith, ap (λ (t : Tally). t.n1) ih)) (omega (arith, ap (λ (t : Tally). t.n2) ih)) (omega (arith, ap (λ (t : Tally). t.n4) ih))

-- ---- in any order
pub joined-none : (t : Tally) → joined t none ≡ t
joined-none t = same_tally _ _ (omega arith) (omega arith) (omega arith) (omega arith)

pub joined-swap : (s t : Tally) → joined s t ≡ joined t s
joined-swap s t = same_tally _ _ (omega arith) (omega arith) (omega arith) (omega arith)

pub joined-assoc : (s t u : Tally) → joined (joined s t) u ≡ joined s (joined t u)
joined-assoc s t u = same_tally _ _ (omega arith) (omega arith) (omega arith) (omega arith)

with_one-joined : (s t : Tally) (bap : ℕ) → with_one (joined s t) bap ≡ joined s (with_one t bap)
with_one-joined s t bap = same_tally _ _ (omega arith) (omega arith) (omega arith) (omega arith)

-- ---- the mantissas of bins as a list
bins_none : (bap : ℕ → ℕ) (from : ℕ) → tally_bins bap from 0 ≡ none
unfolding tally_bins
bins_none bap from = refl

bins_more : (bap : ℕ → ℕ) (from n : ℕ) → tally_bins bap from (suc n) ≡ with_one (tally_bins bap from n) (bap (from + n))
unfolding tally_bins
bins_more bap from n = refl

first_bin : (bap : ℕ → ℕ) (from n : ℕ) → tally_bins bap from (suc n) ≡ joined (with_one none (bap from)) (tally_bins bap (from + 1) n)
first_bin bap from zero =
    let e : from + 0 ≡ from = omega arith in
    bins_more bap from 0
    ∙ (ap (λ (t : Tally). with_one t (bap (from + 0))) (bins_none bap from)
    ∙ (ap (λ k. with_one none (bap k)) e
    ∙ (sym (joined-none (with_one none (bap from))) ∙ ap (joined (with_one none (bap from))) (sym (bins_none bap (from + 1))))))
first_bin bap from (suc n) =
    let e : from + suc n ≡ from + 1 + n = omega arith in
    bins_more bap from (suc n)
    ∙ (ap (λ k. with_one (tally_bins bap from (suc n)) (bap k)) e
    ∙ (ap (λ (t : Tally). with_one t (bap (from + 1 + n))) (first_bin bap from n)
    ∙ (with_one-joined (with_one none (bap from)) (tally_bins bap (from + 1) n) (bap (from + 1 + n))
    ∙ ap (joined (with_one none (bap from))) (sym (bins_more bap (from + 1) n)))))

-- the pointers of n bins from a bin on, as a list
pub tally_of_bins : (bap : ℕ → ℕ) (from : ℕ) (baps : List ℕ) → ((k : ℕ) → k < length baps → slice_index baps k ≡ bap (from + k)) → tally_of baps ≡ tally_bins bap from (length baps)
tally_of_bins bap from [] same = sym (bins_none bap from)
tally_of_bins bap from (b ∷ baps) same =
    let zero_on : from + 0 ≡ from = omega arith in
    let first : b ≡ bap from = same 0 (omega arith) ∙ ap bap zero_on in
    let later : (k : ℕ) → k < length baps → slice_index baps k ≡ bap (from + 1 + k) =
    λ k l. let e : from + suc k ≡ from + 1 + k = omega arith in same (suc k) (omega arith) ∙ ap bap e in
    let rest = tally_of_bins bap (from + 1) baps later in
    let split : with_one (tally_of baps) b ≡ joined (with_one none b) (tally_of baps) =
    same_tally _ _ (omega arith) (omega arith) (omega arith) (omega arith) in
    split
    ∙ (ap (λ k. joined (with_one none k) (tally_of baps)) first
    ∙ (ap (joined (with_one none (bap from))) rest ∙ sym (first_bin bap from (length baps))))
