-- The numbers that stand at mantissas: how wide they are, and that they fit.
use Rattle.std.proofs.Common.{◌≡◌, ◌≢◌, ℕ, ◌^◌, ◌<◌, ◌≤◌, List, [], ◌∷◌, arith, refl, inl, inr, subst}
use Rattle.std.specs.Prelude.{◌||◌, nat_le, nat_eq}
use Rattle.std.proofs.lemmas.Bool.{cases_eq}
use Rattle.std.proofs.lemmas.Bool.Decides.{nat_tests}
use Rattle.ac_base.specs.Counts.{code_width}
use Rattle.ac_base.proofs.Tests.{all_below-at}
use Rattle.ac_mant.specs.Quantiser.{levels, width, code_limit}
use Rattle.ac_mant.specs.Groups.{IsCoded, AreCoded, zeros, number, number_width}
use Rattle.ac_mant.specs.declared.ahead.Ahead.{Ahead}
use Rattle.ac_mant.specs.declared.coded.Coded.{Coded}
use Rattle.ac_mant.proofs.Coming.{coming_below, limit_of_1, limit_of_2, limit_of_4}

own_most : (bap : ℕ) → bap ≤ 15 → code_width bap ≤ 16
own_most bap most = let test = all_below-at 16 (λ k. nat_le (code_width k) 16) refl bap (omega arith) in grind (arith, nat_tests, test)

pub number_width_most : (a : Ahead) (bap : ℕ) → bap ≤ 15 → number_width a bap ≤ 16
number_width_most a bap most = let own = own_most bap most in grind (arith, nat_tests)

-- a code of its own fits its bits
own_fits : (bap code : ℕ) → bap ≤ 15 → bap ≢ 1 → bap ≢ 2 → bap ≢ 4 → code < code_limit bap → code < 2 ^ code_width bap
unfolding levels width
own_fits bap code most not_1 not_2 not_4 below =
    let test = all_below-at 16 (λ k. nat_eq k 1 || nat_eq k 2 || nat_eq k 4 || nat_le (code_limit k) (2 ^ code_width k)) refl bap (omega arith) in
    grind (arith, nat_tests, test)

pub number_fits : (a : Ahead) (x : Coded) (xs : List Coded) → IsCoded x → AreCoded xs → number zeros a x xs < 2 ^ number_width a x.bap
number_fits a x xs coded others =
    elim (cases_eq x.bap 1) [
      | inl is_1 ↦
          let below : x.code < 3 = subst (λ (n : ℕ). x.code < n) (limit_of_1 x.bap is_1) coded.code in
          let limit : code_limit 1 ≡ 3 = limit_of_1 1 refl in
          let first = coming_below 1 3 xs (0 ∷ 0 ∷ []) 0 limit others (omega arith, (omega arith, omega arith)) in
          let second = coming_below 1 3 xs (0 ∷ 0 ∷ []) 1 limit others (omega arith, (omega arith, omega arith)) in
          grind (arith, nat_tests)
      | inr not_1 ↦
          elim (cases_eq x.bap 2) [
            | inl is_2 ↦
                let below : x.code < 5 = subst (λ (n : ℕ). x.code < n) (limit_of_2 x.bap is_2) coded.code in
                let limit : code_limit 2 ≡ 5 = limit_of_2 2 refl in
                let first = coming_below 2 5 xs (0 ∷ 0 ∷ []) 0 limit others (omega arith, (omega arith, omega arith)) in
                let second = coming_below 2 5 xs (0 ∷ 0 ∷ []) 1 limit others (omega arith, (omega arith, omega arith)) in
                grind (arith, nat_tests)
            | inr not_2 ↦
                elim (cases_eq x.bap 4) [
                  | inl is_4 ↦
                      let below : x.code < 11 = subst (λ (n : ℕ). x.code < n) (limit_of_4 x.bap is_4) coded.code in
                      let limit : code_limit 4 ≡ 11 = limit_of_4 4 refl in
                      let first = coming_below 4 11 xs (0 ∷ []) 0 limit others (omega arith, omega arith) in
                      grind (arith, nat_tests)
                  | inr not_4 ↦
                      let own = own_fits x.bap x.code coded.pointer not_1 not_2 not_4 coded.code in
                      grind (arith, nat_tests)
                ]
          ]
    ]
