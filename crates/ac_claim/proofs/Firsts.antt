-- The first faults of several things.
use Rattle.std.proofs.Common.{◌≡◌, ℕ, zero, suc, ◌<◌, ◌≤◌, Bool, true, false, Option, Some, None, refl, sym, inl, inr, subst, arith}
use Rattle.std.specs.Prelude.{if◌then◌else◌, nat_lt}
use Rattle.std.proofs.lemmas.Bool.{cases_eq, ltb-false}
use Rattle.ac_base.specs.declared.sizes.Part.{Part}
use Rattle.ac_base.specs.declared.sizes.Part.TheVariants.{Front, Total, Last}
use Rattle.ac_claim.specs.declared.no.No.{No}
use Rattle.ac_claim.specs.Potentials.{or_else, first_below, first_part, number_of}

pub or-parts : (a b : Option No) → or_else a b ≡ None → (a ≡ None) × (b ≡ None)
or-parts None b h = (refl, h)
or-parts (Some fault) b h = cc

pub or-none : (a b : Option No) → a ≡ None → or_else a b ≡ b
or-none None b h = refl
or-none (Some fault) b h = cc

pub some-none : {P : Type 0} (fault : No) → Some fault ≡ None → P
some-none fault h = cc

pub or-both : (a b : Option No) → a ≡ None → b ≡ None → or_else a b ≡ None
or-both None b e h = h
or-both (Some fault) b e h = some-none fault e

-- a choice that has no fault
pub else-none : (b : Bool) (fault : No) → (if b then None else Some fault) ≡ None → b ≡ true
else-none true fault h = refl
else-none false fault h = some-none fault h

pub then-none : (b : Bool) (fault : No) → (if b then Some fault else None) ≡ None → b ≡ false
then-none true fault h = some-none fault h
then-none false fault h = refl

pub first-zero : (f : ℕ → Option No) → first_below 0 f ≡ None
unfolding first_below
first-zero f = refl

pub first-more : (n : ℕ) (f : ℕ → Option No) → first_below (suc n) f ≡ or_else (first_below n f) (f n)
unfolding first_below
first-more n f = refl

pub none-each : (n : ℕ) (f : ℕ → Option No) (i : ℕ) → first_below n f ≡ None → i < n → f i ≡ None
unfolding first_below
none-each zero f i h l = absurd (omega arith)
none-each (suc n) f i h l =
    let parts = or-parts (first_below n f) (f n) h in
    elim (cases_eq i n) [
      | inl e ↦ subst (λ k. f k ≡ None) (sym e) parts.1
      | inr other ↦ none-each n f i parts.0 (omega arith)
    ]

pub none-all : (n : ℕ) (f : ℕ → Option No) → ((i : ℕ) → i < n → f i ≡ None) → first_below n f ≡ None
unfolding first_below
none-all zero f h = refl
none-all (suc n) f h =
    or-both (first_below n f) (f n) (none-all n f (λ i l. h i (omega arith))) (h n (omega arith))

-- of the three parts
pub none-part : (f : Part → Option No) → first_part f ≡ None → (part : Part) → f part ≡ None
none-part f h Front = (or-parts (f Front) (or_else (f Total) (f Last)) h).0
none-part f h Total = (or-parts (f Total) (f Last) (or-parts (f Front) (or_else (f Total) (f Last)) h).1).0
none-part f h Last = (or-parts (f Total) (f Last) (or-parts (f Front) (or_else (f Total) (f Last)) h).1).1

pub part-few : (part : Part) → number_of part < 3
part-few Front = omega arith
part-few Total = omega arith
part-few Last = omega arith

pub of-parts : (P : ℕ → Type 0) → ((part : Part) → P (number_of part)) → (part : ℕ) → part < 3 → P part
of-parts P h zero l = h Front
of-parts P h (suc zero) l = h Total
of-parts P h (suc (suc zero)) l = h Last
of-parts P h (suc (suc (suc n))) l = absurd (omega arith)

pub le-of : (a b : ℕ) → nat_lt b a ≡ false → a ≤ b
le-of a b h = ltb-false b a h
