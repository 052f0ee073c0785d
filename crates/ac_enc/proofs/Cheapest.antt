-- The cheapest assignment of a shape, by the options and the layout: when it fits.
use Rattle.std.proofs.Common.{◌≡◌, ◌⊎◌, ◌↔◌, ℕ, ◌+◌, ◌-◌, ◌*◌, ◌/◌, ◌<◌, ◌≤◌, Bool, true, false, List, [], MatchOption, Option, Some, None, IsTrue, not, ◌&&◌, ◌||◌, nat_eq, if◌then◌else◌, inl, inr, refl, ap, sym, subst, ◌∙◌, arith}
use Rattle.std.specs.Prelude.{⊤}
use Rattle.std.proofs.lemmas.Bool.{cases_lt, true≢false, false≢true}
use Rattle.ac_base.specs.declared.shapes.Shape.{Shape}
use Rattle.ac_base.specs.declared.sizes.Parts.{Parts}
use Rattle.ac_base.specs.Fit.{FitIn, parts_of, rooms_of, side_of, exponents_in}
use Rattle.ac_base.specs.Sizes.{frame_words_of, table_words, words_before, end_room, front_room}
use Rattle.ac_expo.specs.Raw.{channels, channel_span}
use Rattle.ac_cost.specs.Parts.{parts_at, FitsAt, IsFeasible, cheapest_assign, cheapest_words}
use Rattle.ac_cost.specs.Pointers.{run_bap}
use Rattle.ac_cost.proofs.Fewest.{cheapest-is, cheapest}
use Rattle.ac_energy.specs.Coefficients.{Coefficients}
use Rattle.ac_coupling.specs.Coupling.{is_worth}
use Rattle.ac_words.specs.declared.meaning.Options.{Options}
use Rattle.ac_enc.specs.declared.fault.NewFault.{NewFault}
use Rattle.ac_enc.specs.declared.fault.NewFault.TheVariants.{RateTooLow, NoMemory}
use Rattle.ac_enc.specs.Frame.{Couples}
use Rattle.ac_enc.specs.Layout.{Layout, range_of, IsShapeWith, cheapest_bits, CheapestFits, IsEnough, IsNewFault}
use Rattle.ac_enc.specs.Sounds.{IsCoupledShape, CoupledFits, IsFirstFault}
use Rattle.ac_enc.proofs.OneShape.{one_with, one_range}

-- ---- the bits are those of the layout
parts_same : (o : Options) (l : Layout) (words : ℕ) (couple : Option (ℕ × ℕ)) (shape : Shape) (raw : List (List (List ℕ))) → IsShapeWith o l words couple shape → parts_at shape raw 0 (cheapest_assign shape) ≡ cheapest_bits o l couple
unfolding run_bap
parts_same o l words couple shape raw p =
    λ i. parts_of (p.layout i) (p.low i) (p.width i) (p.coupled i) (cheapest_words (p.layout i) (p.low i) (p.coupled i)) (λ c b k. 0)

pub to_layout : (o : Options) (l : Layout) (words : ℕ) (couple : Option (ℕ × ℕ)) (shape : Shape) (raw : List (List (List ℕ))) → IsShapeWith o l words couple shape → FitsAt shape raw 0 (cheapest_assign shape) → CheapestFits o l words couple
to_layout o l words couple shape raw p fits = subst (λ (w : ℕ). FitIn w (cheapest_bits o l couple)) p.size (subst (FitIn shape.words) (parts_same o l words couple shape raw p) fits)

pub to_shape : (o : Options) (l : Layout) (words : ℕ) (couple : Option (ℕ × ℕ)) (shape : Shape) (raw : List (List (List ℕ))) → IsShapeWith o l words couple shape → CheapestFits o l words couple → FitsAt shape raw 0 (cheapest_assign shape)
to_shape o l words couple shape raw p fits = subst (FitIn shape.words) (sym (parts_same o l words couple shape raw p)) (subst (λ (w : ℕ). FitIn w (cheapest_bits o l couple)) (sym p.size) fits)

-- ---- a greater size
none_last : (shape : Shape) (raw : List (List (List ℕ))) → (parts_at shape raw 0 (cheapest_assign shape)).last ≡ 0
none_last shape raw =
    sym (ap (λ (p : Parts). p.last) (cheapest-is shape raw (side_of shape.acmod shape.lfe shape.couple) (exponents_in (channel_span shape) (channels shape) (cheapest_assign shape) 0) refl refl))

larger : (w v : ℕ) (p : Parts) → (v ≡ w) ⊎ (v ≡ w + 1) → 64 ≤ v → p.last ≡ 0 → FitIn w p → FitIn v p
larger w v p (inl e) least none fits = subst (λ (n : ℕ). FitIn n p) (sym e) fits
larger w v p (inr e) least none fits =
    let f = fits.in_front in
    let t = fits.whole in
    record { in_front = omega (arith, e, f); whole = omega (arith, e, t); at_end = omega (arith, none, least) }

pub grown : (o : Options) (l : Layout) (words table : ℕ) (couple : Option (ℕ × ℕ)) (shape : Shape) → IsShapeWith o l words couple shape → (words ≡ table) ⊎ (words ≡ table + 1) → 64 ≤ words
    → CheapestFits o l table couple → CheapestFits o l words couple
grown o l words table couple shape p size least fits =
    larger table words (cheapest_bits o l couple) size least (ap (λ (q : Parts). q.last) (sym (parts_same o l words couple shape [] p)) ∙ none_last shape []) fits

-- ---- whether it fits
fits_or_not : (w : ℕ) (p : Parts) → FitIn w p ⊎ (FitIn w p → ⊥)
fits_or_not w p =
    elim (cases_lt (front_room w) p.front) [
      | inl over ↦ inr (λ fits. let f = fits.in_front in omega (arith, over, f))
      | inr front ↦
          elim (cases_lt (16 * w) p.total) [
            | inl over ↦ inr (λ fits. let f = fits.whole in omega (arith, over, f))
            | inr total ↦
                elim (cases_lt (end_room w) (p.last + 18 + 8)) [
                  | inl over ↦ inr (λ fits. let f = fits.at_end in omega (arith, over, f))
                  | inr last ↦ inl (record { in_front = front; whole = total; at_end = last })
                ]
          ]
    ]

-- the first part that is too large
pub is_over : (w : ℕ) (p : Parts) → 64 ≤ w → (FitIn w p → ⊥) → p.total ≤ (rooms_of w).total → p.front ≤ (rooms_of w).front → (rooms_of w).last < p.last
is_over w p least short total front =
    elim (cases_lt (rooms_of w).last p.last) [
      | inl over ↦ over
      | inr last ↦ absurd (short (record { in_front = front; whole = total; at_end = omega (arith, last, least) }))
    ]

pub fault_is : (o : Options) (l : Layout) (fault : NewFault) → (IsEnough o l → ⊥) → IsFirstFault (cheapest_bits o l None) (rooms_of (table_words o.rate l.fscod)) fault → IsNewFault o l fault
fault_is o l (RateTooLow part needed room) short first = record { short = short; first = first }
fault_is o l NoMemory short first = absurd first

-- the first frame has the table's size
first_step : (rate : ℕ) → words_before rate (0 + 1) - words_before rate 0 ≡ 320 * rate / 147
first_step rate = omega arith

pub first_words : (rate fscod : ℕ) → frame_words_of rate fscod 0 ≡ table_words rate fscod
first_words rate fscod = ap (λ (m : ℕ). if nat_eq fscod 0 then 2 * rate else if nat_eq fscod 1 then m else 3 * rate) (first_step rate)

-- ---- the choice
taken : (fits worth plain : Bool) → (fits && (worth || not plain)) ≡ true → (fits ≡ true) × ((worth ≡ true) ⊎ (plain ≡ false))
taken true true plain t = (refl, inl refl)
taken true false false t = (refl, inr refl)
taken true false true t = absurd (false≢true t)
taken false worth plain t = absurd (false≢true t)

take_it : (fits worth plain : Bool) → fits ≡ true → (worth ≡ true) ⊎ (plain ≡ true → ⊥) → (fits && (worth || not plain)) ≡ true
take_it true true plain f w = refl
take_it true false false f w = refl
take_it true false true f (inl e) = absurd (false≢true e)
take_it true false true f (inr n) = absurd (n refl)
take_it false worth plain f w = absurd (false≢true f)

pub decided : (o : Options) (l : Layout) (words : ℕ) (x : Coefficients) (range : ℕ × ℕ) (coupled : Shape) (fits worth plain result : Bool) → range_of o l ≡ Some range → IsShapeWith o l words (Some range) coupled
    → IsTrue fits ↔ CheapestFits o l words (Some range) → worth ≡ is_worth coupled x → IsTrue plain ↔ CheapestFits o l words None → result ≡ (fits && (worth || not plain)) → IsTrue result ↔ Couples o l words x range
decided o l words x range coupled fits worth plain result usable is f w p e = (
  (λ t. let both = taken fits worth plain (sym e ∙ t) in
      record {
        usable = usable;
        fits = f.0 both.0;
        why = elim both.1 [
          | inl good ↦ inl (coupled, is, sym w ∙ good)
          | inr over ↦ inr (λ h. true≢false (sym (p.1 h) ∙ over))
        ];
      }),
  (λ c.
      let why : (worth ≡ true) ⊎ (plain ≡ true → ⊥) =
      elim c.why [
        | inl h ↦ inl (w ∙ (ap (λ (s : Shape). is_worth s x) (one_with o l words (Some range) coupled h.0 is h.1) ∙ h.2))
        | inr alone ↦ inr (λ t. alone (p.0 t))
      ] in
      e ∙ take_it fits worth plain (f.1 c.fits) why),
)

-- where it isn't coupled, the cheapest fits without coupling
pub plain_fits : (o : Options) (l : Layout) (words : ℕ) (x : Coefficients) (plain : Shape) → IsShapeWith o l words None plain → (words ≡ table_words o.rate l.fscod) ⊎ (words ≡ table_words o.rate l.fscod + 1) → 64 ≤ words
    → ((range : ℕ × ℕ) → range_of o l ≡ Some range → (coupled : Shape) × IsShapeWith o l words (Some range) coupled) → ((range : ℕ × ℕ) → Couples o l words x range → ⊥) → IsEnough o l → CheapestFits o l words None
plain_fits o l words x plain is size least shapes none (inl fits) = grown o l words (table_words o.rate l.fscod) None plain is size least fits
plain_fits o l words x plain is size least shapes none (inr c) =
    elim (fits_or_not words (cheapest_bits o l None)) [
      | inl fits ↦ fits
      | inr over ↦
          let coupled = shapes c.0 c.1 in
          let fits = grown o l words (table_words o.rate l.fscod) (Some c.0) coupled.0 coupled.1 size least c.2 in
          absurd (none c.0 (record { usable = c.1; fits = fits; why = inr over }))
    ]

-- ---- where the rate is too low nothing fits
pub none_fits : (o : Options) (l : Layout) (couple : Option (ℕ × ℕ)) (shape : Shape) (raw : List (List (List ℕ))) (t : ℕ) → (IsEnough o l → ⊥) → (couple ≡ None) ⊎ (couple ≡ range_of o l)
    → IsShapeWith o l (table_words o.rate l.fscod) couple shape → IsFeasible shape raw t → ⊥
none_fits o l None shape raw t short which is feasible = short (inl (to_layout o l (table_words o.rate l.fscod) None shape raw is (cheapest shape raw t feasible)))
none_fits o l (Some range) shape raw t short (inl e) is feasible = absurd (subst (λ (r : Option (ℕ × ℕ)). MatchOption r ⊥ (λ _. ⊤)) e tt)
none_fits o l (Some range) shape raw t short (inr e) is feasible =
    short (inr (range, sym e, to_layout o l (table_words o.rate l.fscod) (Some range) shape raw is (cheapest shape raw t feasible)))

pub tested : (o : Options) (l : Layout) (words : ℕ) (couple : Option (ℕ × ℕ)) (shape : Shape) (bits : Parts) (result : Bool) → IsShapeWith o l words couple shape → ((raw : List (List (List ℕ))) → bits ≡ parts_at shape raw 0 (cheapest_assign shape))
    → IsTrue result ↔ FitIn shape.words bits → IsTrue result ↔ CheapestFits o l words couple
tested o l words couple shape bits result is cheap fits = (
  (λ t. to_layout o l words couple shape [] is (subst (FitIn shape.words) (cheap []) (fits.0 t))),
  (λ h. fits.1 (subst (FitIn shape.words) (sym (cheap [])) (to_shape o l words couple shape [] is h))),
)

-- ---- what the code asks
pub coupled_tested : (o : Options) (l : Layout) (words : ℕ) (coupled : Shape) (result : Bool) → IsCoupledShape o l words coupled
    → ((couple : Option (ℕ × ℕ)) → IsShapeWith o l words couple coupled → IsTrue result ↔ CheapestFits o l words couple) → IsTrue result ↔ CoupledFits o l words
coupled_tested o l words coupled result is f = (
  (λ t. (is.range, is.usable, (f (Some is.range) is.shaped).0 t)),
  (λ h. (f (Some is.range) is.shaped).1 (subst (λ (r : ℕ × ℕ). CheapestFits o l words (Some r)) (one_range o l h.0 is.range h.1 is.usable) h.2)),
)

-- it doesn't couple
pub uncoupled : (o : Options) (l : Layout) (words : ℕ) (x : Coefficients) (coupled : Shape) (result : Bool) → IsCoupledShape o l words coupled
    → ((range : ℕ × ℕ) → range_of o l ≡ Some range → IsShapeWith o l words (Some range) coupled → IsTrue result ↔ Couples o l words x range) → result ≡ false → (range : ℕ × ℕ) → Couples o l words x range → ⊥
uncoupled o l words x coupled result is f out range c =
    true≢false (sym ((f is.range is.usable is.shaped).1 (subst (λ (r : ℕ × ℕ). Couples o l words x r) (one_range o l range is.range c.usable is.usable) c)) ∙ out)

pub coupled_at : (o : Options) (l : Layout) (words : ℕ) (coupled : Shape) → IsCoupledShape o l words coupled → (range : ℕ × ℕ) → range_of o l ≡ Some range → (shape : Shape) × IsShapeWith o l words (Some range) shape
coupled_at o l words coupled is range usable = (coupled, subst (λ (r : ℕ × ℕ). IsShapeWith o l words (Some r) coupled) (one_range o l is.range range is.usable usable) is.shaped)

pub at_table : (o : Options) (l : Layout) (words : ℕ) (couple : Option (ℕ × ℕ)) → words ≡ table_words o.rate l.fscod → CheapestFits o l words couple → CheapestFits o l (table_words o.rate l.fscod) couple
at_table o l words couple e fits = subst (λ (w : ℕ). FitIn w (cheapest_bits o l couple)) e fits

from_table : (o : Options) (l : Layout) (words : ℕ) (couple : Option (ℕ × ℕ)) → words ≡ table_words o.rate l.fscod → CheapestFits o l (table_words o.rate l.fscod) couple → CheapestFits o l words couple
from_table o l words couple e fits = subst (λ (w : ℕ). FitIn w (cheapest_bits o l couple)) (sym e) fits

pub with_coupling : (o : Options) (l : Layout) (words : ℕ) → words ≡ table_words o.rate l.fscod → CoupledFits o l words → IsEnough o l
with_coupling o l words e h = inr (h.0, h.1, at_table o l words (Some h.0) e h.2)

pub not_enough : (o : Options) (l : Layout) (words : ℕ) (plain coupled : Bool) → words ≡ table_words o.rate l.fscod → IsTrue plain ↔ CheapestFits o l words None → IsTrue coupled ↔ CoupledFits o l words
    → plain ≡ false → coupled ≡ false → IsEnough o l → ⊥
not_enough o l words plain coupled e p c out none (inl fits) = true≢false (sym (p.1 (from_table o l words None e fits)) ∙ out)
not_enough o l words plain coupled e p c out none (inr h) = true≢false (sym (c.1 (h.0, h.1, from_table o l words (Some h.0) e h.2)) ∙ none)

pub too_large : (o : Options) (l : Layout) (words : ℕ) (shape : Shape) (bits rooms : Parts) (plain : Bool) → IsShapeWith o l words None shape → 64 ≤ words → ((raw : List (List (List ℕ))) → bits ≡ parts_at shape raw 0 (cheapest_assign shape)) → rooms ≡ rooms_of words
    → IsTrue plain ↔ CheapestFits o l words None → plain ≡ false → bits.total ≤ rooms.total → bits.front ≤ rooms.front → rooms.last < bits.last
too_large o l words shape bits rooms plain is least cheap room p out =
    let short : FitIn words bits → ⊥ = λ h. true≢false (sym (p.1 (subst (λ (q : Parts). FitIn words q) (cheap [] ∙ parts_same o l words None shape [] is) h)) ∙ out) in
    subst (λ (r : Parts). bits.total ≤ r.total → bits.front ≤ r.front → r.last < bits.last) (sym room) (is_over words bits least short)

pub fault_made : (o : Options) (l : Layout) (words : ℕ) (shape : Shape) (bits rooms : Parts) (fault : NewFault) → IsShapeWith o l words None shape → words ≡ table_words o.rate l.fscod → ((raw : List (List (List ℕ))) → bits ≡ parts_at shape raw 0 (cheapest_assign shape))
    → rooms ≡ rooms_of words → (IsEnough o l → ⊥) → IsFirstFault bits rooms fault → IsNewFault o l fault
fault_made o l words shape bits rooms fault is e cheap room short first =
    fault_is o l fault short
    (subst (λ (r : Parts). IsFirstFault (cheapest_bits o l None) r fault) (room ∙ ap rooms_of e)
    (subst (λ (b : Parts). IsFirstFault b rooms fault) (cheap [] ∙ parts_same o l words None shape [] is) first))
