-- The value of no code is 0.
use Rattle.std.proofs.Common.{◌≡◌, ℕ, zero, suc, ◌+◌, ◌*◌, ◌^◌, ◌<◌, ◌≤◌, Bool, true, false, ◌&&◌, List, slice_index, pos, unsigned_abs, refl, ap, sym, subst, ◌∙◌, arith, inl, inr}
use Rattle.std.specs.Prelude.{replicate, ◌==◌}
use Rattle.std.proofs.lemmas.Bool.{cases_eq}
use Rattle.std.proofs.lemmas.Bool.Decides.{nat_tests}
use Rattle.std.proofs.lemmas.List.{get_or-replicate}
use Rattle.ac_base.specs.Sigma.{Lists, Within}
use Rattle.std.proofs.Math.Nat.{zero-div}
use Rattle.ac_mant.specs.Quantiser.{levels, middle, IsCode, value_of}
use Rattle.ac_dec.specs.Values.{IsReadable, IsReadableRow}

none_value : (code exponent : ℕ) → IsCode 0 code → pos 0 ≡ value_of code 0 exponent
unfolding levels middle
none_value zero exponent is = ap pos (sym (zero-div (1 * 2 ^ exponent)))
none_value (suc code) exponent is = absurd (omega (arith, is))

pub zero_value : (code bap exponent : ℕ) → bap ≡ 0 → IsReadable code bap exponent → pos 0 ≡ value_of code bap exponent
zero_value code bap exponent none is =
    subst (λ (b : ℕ). pos 0 ≡ value_of code b exponent) (sym none) (none_value code exponent (subst (λ (b : ℕ). IsCode b code) none is.is_code))

-- those of a row without bits
pub silent_values : (codes baps exps : List ℕ) → IsReadableRow codes baps exps → ((k : ℕ) → k < 256 → slice_index baps k ≡ 0)
    → Lists 256 (λ k. value_of (slice_index codes k) (slice_index baps k) (slice_index exps k)) (replicate 256 (pos 0))
silent_values codes baps exps are none k lt =
    get_or-replicate 256 k (pos 0) (pos 0) lt ∙ zero_value (slice_index codes k) (slice_index baps k) (slice_index exps k) (none k lt) (are k lt)

pub silent_bound : Within (2 ^ 24) 256 (replicate 256 (pos 0))
silent_bound k lt = rw (get_or-replicate 256 k (pos 0) (pos 0) lt) (omega arith)

pub eq_from : (a b : ℕ) → (a == b) ≡ true → a ≡ b
eq_from a b e = grind (arith, nat_tests)

-- all of so many, and one more
pub all_more : (P : ℕ → Type 0) (n : ℕ) (all here : Bool) → (all ≡ true → (k : ℕ) → k < n → P k) → (here ≡ true → P n) → (all && here) ≡ true → (k : ℕ) → k < n + 1 → P k
all_more P n true true before now e k lt = elim (cases_eq k n) [
  | inl eq ↦ subst P (sym eq) (now refl)
  | inr ne ↦ before refl k (omega arith)
]
all_more P n true false before now e k lt = absurd cc
all_more P n false here before now e k lt = absurd cc
