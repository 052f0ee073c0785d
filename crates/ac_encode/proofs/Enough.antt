-- Whether the rate is enough for a layout; and where it isn't, which part is too large.
use Rattle.std.proofs.Common.{◌≡◌, ◌⊎◌, ℕ, ◌+◌, ◌-◌, ◌*◌, ◌≤◌, Option, Some, None, refl, sym, subst, ◌∙◌, arith, inl, inr}
use Rattle.std.proofs.lemmas.Bool.{cases_lt, cases_eq, ne_eqb}
use Rattle.ac_base.specs.declared.sizes.Part.{Part}
use Rattle.ac_base.specs.declared.sizes.Part.TheVariants.{Front, Total, Last}
use Rattle.ac_base.specs.declared.sizes.Parts.{Parts}
use Rattle.ac_base.specs.Fit.{FitIn, rooms_of}
use Rattle.ac_base.specs.Rates.{IsRate}
use Rattle.ac_base.specs.Sizes.{table_words, front_room, end_room, tail_bits, skip_spare}
use Rattle.ac_base.proofs.RateTable.{rate_least}
use Rattle.ac_enc.specs.Layout.{Layout, range_of, cheapest_bits, CheapestFits, IsEnough, IsFirstOver, IsTooLow}
use Rattle.ac_words.specs.declared.meaning.Options.{Options}

-- ---- parts and rooms

fit_known : (words : ℕ) (p : Parts) → FitIn words p ⊎ (FitIn words p → ⊥)
fit_known words p = elim (cases_lt (front_room words) p.front) [
  | inl over ↦ inr (λ f. omega (arith, over, f.in_front))
  | inr front ↦ elim (cases_lt (16 * words) p.total) [
    | inl over ↦ inr (λ f. omega (arith, over, f.whole))
    | inr total ↦ elim (cases_lt (end_room words) (p.last + tail_bits + skip_spare)) [
      | inl over ↦ inr (λ f. omega (arith, over, f.at_end))
      | inr last ↦ inl (record { in_front = front; whole = total; at_end = last })
    ]
  ]
]

-- the parts don't fit: one is too large, and it is the first
first_over : (words : ℕ) (p : Parts) → tail_bits + skip_spare ≤ end_room words → (FitIn words p → ⊥) → (part : Part) × (needed : ℕ) × (room : ℕ) × IsFirstOver p (rooms_of words) part needed room
first_over words p least over_all = elim (cases_lt (16 * words) p.total) [
  | inl over ↦ (Total, p.total, 16 * words, (over, refl, refl))
  | inr total ↦ elim (cases_lt (front_room words) p.front) [
    | inl over ↦ (Front, p.front, front_room words, (total, over, refl, refl))
    | inr front ↦ elim (cases_lt (end_room words - (tail_bits + skip_spare)) p.last) [
      | inl over ↦ (Last, p.last, end_room words - (tail_bits + skip_spare), (total, front, over, refl, refl))
      | inr last ↦ absurd (over_all (record { in_front = front; whole = total; at_end = omega (arith, last, least) }))
    ]
  ]
]

pub one_over : (p rooms : Parts) (part other : Part) (needed room much little : ℕ) → IsFirstOver p rooms part needed room → IsFirstOver p rooms other much little
    → (part ≡ other) × (needed ≡ much) × (room ≡ little)
one_over p rooms Total Total needed room much little a b = (refl, a.1 ∙ sym b.1, a.2 ∙ sym b.2)
one_over p rooms Front Front needed room much little a b = (refl, a.2 ∙ sym b.2, a.3 ∙ sym b.3)
one_over p rooms Last Last needed room much little a b = (refl, a.3 ∙ sym b.3, a.4 ∙ sym b.4)
one_over p rooms Total Front needed room much little a b = absurd (omega (arith, a.0, b.0))
one_over p rooms Total Last needed room much little a b = absurd (omega (arith, a.0, b.0))
one_over p rooms Front Total needed room much little a b = absurd (omega (arith, a.0, b.0))
one_over p rooms Front Last needed room much little a b = absurd (omega (arith, a.1, b.1))
one_over p rooms Last Total needed room much little a b = absurd (omega (arith, a.0, b.0))
one_over p rooms Last Front needed room much little a b = absurd (omega (arith, a.1, b.1))

-- ---- enough

never : (o : Options) (l : Layout) → (CheapestFits o l (table_words o.rate l.fscod) None → ⊥)
    → ((range : ℕ × ℕ) → range_of o l ≡ Some range → CheapestFits o l (table_words o.rate l.fscod) (Some range) → ⊥) → IsEnough o l → ⊥
never o l plain coupled (inl fits) = plain fits
never o l plain coupled (inr (range, same, fits)) = coupled range same fits

some_other : (r : Option (ℕ × ℕ)) (range : ℕ × ℕ) → r ≡ None → r ≡ Some range → ⊥
some_other r range e f = absurd cc

some_same : (r : Option (ℕ × ℕ)) (range other : ℕ × ℕ) → r ≡ Some range → r ≡ Some other → other ≡ range
some_same r range other e f = cc

by_range : (o : Options) (l : Layout) (r : Option (ℕ × ℕ)) → range_of o l ≡ r → (CheapestFits o l (table_words o.rate l.fscod) None → ⊥) → IsEnough o l ⊎ (IsEnough o l → ⊥)
by_range o l None e plain = inr (never o l plain (λ range same fits. some_other (range_of o l) range e same))
by_range o l (Some range) e plain = elim (fit_known (table_words o.rate l.fscod) (cheapest_bits o l (Some range))) [
  | inl fits ↦ inl (inr (range, e, fits))
  | inr over ↦ inr (never o l plain (λ other same fits. over (subst (λ (r : ℕ × ℕ). CheapestFits o l (table_words o.rate l.fscod) (Some r)) (some_same (range_of o l) range other e same) fits)))
]

pub enough_known : (o : Options) (l : Layout) → IsEnough o l ⊎ (IsEnough o l → ⊥)
enough_known o l = elim (fit_known (table_words o.rate l.fscod) (cheapest_bits o l None)) [
  | inl fits ↦ inl (inl fits)
  | inr over ↦ by_range o l (range_of o l) refl over
]

-- ---- too low

-- a frame has room for its end
end_least : (words : ℕ) → 64 ≤ words → tail_bits + skip_spare ≤ end_room words
end_least words least = omega (arith, least)

table_least : (rate fscod : ℕ) → 32 ≤ rate → 64 ≤ table_words rate fscod
table_least rate fscod least = elim (cases_eq fscod 0) [
  | inl first ↦ rw first (omega (arith, least))
  | inr other ↦ elim (cases_eq fscod 1) [
    | inl second ↦ rw second (omega (arith, least))
    | inr third ↦ rw (ne_eqb fscod 0 other, ne_eqb fscod 1 third) (omega (arith, least))
  ]
]

pub too_low : (o : Options) (l : Layout) → IsRate o.rate → (IsEnough o l → ⊥) → (part : Part) × (needed : ℕ) × (room : ℕ) × IsTooLow o l part needed room
too_low o l is short =
    let words = table_words o.rate l.fscod in
    let least = end_least words (table_least o.rate l.fscod (rate_least o.rate is)) in
    let f = first_over words (cheapest_bits o l None) least (λ fits. short (inl fits)) in
    (f.0, f.1, f.2, record { short = short; first = f.3 })
