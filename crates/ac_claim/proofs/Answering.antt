-- The answers of tests, and of loops over the first faults.
use Rattle.std.proofs.Common.{◌≡◌, ℕ, zero, suc, ◌+◌, ◌<◌, ◌≤◌, Option, Some, None, Result, Ok, Err, refl, sym, ap, ◌∙◌, inl, inr, subst, arith}
use Rattle.std.proofs.lemmas.Bool.{cases_eq}
use Rattle.ac_claim.specs.declared.no.No.{No}
use Rattle.ac_claim.specs.Potentials.{or_else, first_below}
use Rattle.ac_claim.specs.Tests.{result_of}
use Rattle.ac_claim.proofs.Firsts.{or-none, or-both, first-more}

pub err_some : (o : Option No) (fault : No) → Err fault ≡ result_of o → o ≡ Some fault
err_some None fault h = cc
err_some (Some other) fault h = cc

pub ok_none : (o : Option No) (u : Unit {0}) → Ok u ≡ result_of o → o ≡ None
ok_none None u h = refl
ok_none (Some other) u h = cc

pub none_ok : (o : Option No) → o ≡ None → Ok tt ≡ result_of o
none_ok o h = sym (ap result_of h)

or-some : (a b : Option No) (fault : No) → a ≡ Some fault → or_else a b ≡ Some fault
or-some None b fault h = cc
or-some (Some other) b fault h = h

first-at : (n i : ℕ) (f : ℕ → Option No) (fault : No) → i < n → first_below i f ≡ None → f i ≡ Some fault → first_below n f ≡ Some fault
first-at zero i f fault l h e = absurd (omega arith)
first-at (suc n) i f fault l h e = first-more n f ∙ elim (cases_eq i n) [
  | inl same ↦
      or-none (first_below n f) (f n) (subst (λ k. first_below k f ≡ None) same h) ∙ subst (λ k. f k ≡ Some fault) same e
  | inr other ↦ or-some (first_below n f) (f n) fault (first-at n i f fault (omega arith) h e)
]

-- a loop over the first n things stops at a fault, goes on where there is none, and ends
pub stops : (n i : ℕ) (f : ℕ → Option No) (fault : No) → i < n → first_below i f ≡ None → Err fault ≡ result_of (f i) → Err fault ≡ result_of (first_below n f)
stops n i f fault l h e = sym (ap result_of (first-at n i f fault l h (err_some (f i) fault e)))

pub goes : (i : ℕ) (f : ℕ → Option No) (u : Unit {0}) → first_below i f ≡ None → Ok u ≡ result_of (f i) → first_below (i + 1) f ≡ None
goes i f u h e =
    let step : i + 1 ≡ suc i = omega arith in
    ap (λ k. first_below k f) step ∙ (first-more i f ∙ or-both (first_below i f) (f i) h (ok_none (f i) u e))

pub ends : (n i : ℕ) (f : ℕ → Option No) → n ≤ i → i ≤ n → first_below i f ≡ None → Ok tt ≡ result_of (first_below n f)
ends n i f l m h = let same : i ≡ n = omega arith in none_ok (first_below n f) (subst (λ k. first_below k f ≡ None) same h)

-- two tests, one after the other
pub first_fails : (a b : Option No) (fault : No) → Err fault ≡ result_of a → Err fault ≡ result_of (or_else a b)
first_fails a b fault h = sym (ap result_of (or-some a b fault (err_some a fault h)))

pub second : (a b : Option No) (u : Unit {0}) (r : Result (Unit {0}) No) → Ok u ≡ result_of a → r ≡ result_of b → r ≡ result_of (or_else a b)
second a b u r h e = e ∙ sym (ap result_of (or-none a b (ok_none a u h)))
