-- The quantisers of each pointer, read off the tables.
use Rattle.std.proofs.Common.{◌≡◌, ℕ, ◌+◌, ◌-◌, ◌≤◌, true, List, [], ◌∷◌, slice_index, refl, arith, subst}
use Rattle.std.specs.Prelude.{nat_le, nat_eq}
use Rattle.std.proofs.lemmas.Bool.Decides.{nat_tests}
use Rattle.ac_base.proofs.Tests.{all_below-at}
use Rattle.ac_mant.specs.Quantiser.{levels, width, code_limit}

pub levels_least : (bap : ℕ) → bap ≤ 5 → 1 ≤ levels bap
unfolding levels
levels_least bap most = let test = all_below-at 6 (λ k. nat_le 1 (levels k)) refl bap (omega arith) in grind (arith, nat_tests, test)

pub levels_most : (bap : ℕ) → bap ≤ 5 → levels bap ≤ 15
unfolding levels
levels_most bap most = let test = all_below-at 6 (λ k. nat_le (levels k) 15) refl bap (omega arith) in grind (arith, nat_tests, test)

pub width_least : (bap : ℕ) → 6 ≤ bap → bap ≤ 15 → 5 ≤ width bap
unfolding width
width_least bap least most =
    let test = all_below-at 10 (λ k. nat_le 5 (width (k + 6))) refl (bap - 6) (omega arith) in
    let place : bap - 6 + 6 ≡ bap = omega arith in
    let there = subst (λ (k : ℕ). nat_le 5 (width k) ≡ true) place test in
    grind (arith, nat_tests, there)

pub width_most : (bap : ℕ) → bap ≤ 15 → width bap ≤ 16
unfolding width
width_most bap most = let test = all_below-at 16 (λ k. nat_le (width k) 16) refl bap (omega arith) in grind (arith, nat_tests, test)

-- the limits of codes, listed
abbrev pub limits : List ℕ
limits = 1 ∷ 3 ∷ 5 ∷ 7 ∷ 11 ∷ 15 ∷ 32 ∷ 64 ∷ 128 ∷ 256 ∷ 512 ∷ 1024 ∷ 2048 ∷ 4096 ∷ 16384 ∷ 65536 ∷ []

pub limit_listed : (bap : ℕ) → bap ≤ 15 → slice_index limits bap ≡ code_limit bap
unfolding levels width
limit_listed bap most =
    let test = all_below-at 16 (λ k. nat_eq (slice_index limits k) (code_limit k)) refl bap (omega arith) in
    grind (arith, nat_tests, test)
