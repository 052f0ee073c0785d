-- The shapes of a frame: each is told by what it is asked to have.
use Rattle.std.proofs.Common.{◌≡◌, ℕ, ◌+◌, ◌≤◌, Bool, Option, Some, None, MatchOption, inl, inr, refl, ap, sym, subst, ◌∙◌, arith}
use Rattle.std.specs.Prelude.{⊤}
use Rattle.std.proofs.Math.Bridge.{le_prop}
use mathlib.Core.HLevel.{is_prop→PathP}
use Rattle.ac_base.specs.declared.shapes.Shape.{Shape}
use Rattle.ac_base.specs.Shape.{IsCoupling, full_of, count_of}
use Rattle.ac_base.specs.Sizes.{least_words, most_words}
use Rattle.ac_energy.specs.Coefficients.{Coefficients}
use Rattle.ac_words.specs.declared.meaning.Options.{Options}
use Rattle.ac_enc.specs.Frame.{Couples, IsShapeFor}
use Rattle.ac_enc.specs.Layout.{Layout, channels_in, range_of, IsShapeWith}
use Rattle.ac_enc.proofs.Alike.{Alike, turned, fewer, worth_same}

coupling_prop : (acmod : ℕ) (couple : Option (ℕ × ℕ)) → IsProp (IsCoupling acmod couple)
coupling_prop acmod couple = hlevel le_prop

-- a shape is told by its fields
same_shape : (s t : Shape) → s.fscod ≡ t.fscod → s.acmod ≡ t.acmod → s.lfe ≡ t.lfe → s.bw ≡ t.bw → s.couple ≡ t.couple → s.words ≡ t.words → s ≡ t
same_shape s t a b c d e f = λ i. record {
  fscod = a i;
  acmod = b i;
  lfe = c i;
  bw = d i;
  couple = e i;
  words = f i;
  sampling = is_prop→PathP (λ j. a j ≤ 2) (λ j. le_prop) s.sampling t.sampling i;
  some_channel = is_prop→PathP (λ j. 1 ≤ b j) (λ j. le_prop) s.some_channel t.some_channel i;
  channels = is_prop→PathP (λ j. b j ≤ 7) (λ j. le_prop) s.channels t.channels i;
  bandwidth = is_prop→PathP (λ j. d j ≤ 60) (λ j. le_prop) s.bandwidth t.bandwidth i;
  coupling = is_prop→PathP (λ j. IsCoupling (b j) (e j)) (λ j. coupling_prop (b j) (e j)) s.coupling t.coupling i;
  least_size = is_prop→PathP (λ j. least_words ≤ f j) (λ j. le_prop) s.least_size t.least_size i;
  most_size = is_prop→PathP (λ j. f j ≤ most_words) (λ j. le_prop) s.most_size t.most_size i;
}

pub one_with : (o : Options) (l : Layout) (words : ℕ) (couple : Option (ℕ × ℕ)) (s t : Shape) → IsShapeWith o l words couple s → IsShapeWith o l words couple t → s ≡ t
one_with o l words couple s t p q =
    same_shape s t (p.sampling_rate ∙ sym q.sampling_rate) (p.layout ∙ sym q.layout) (p.low ∙ sym q.low) (p.width ∙ sym q.width) (p.coupled ∙ sym q.coupled) (p.size ∙ sym q.size)

-- ---- what a shape for a layout has
pub record IsOf (l : Layout) (words : ℕ) (shape : Shape) : Type 0 where
  pub sampling_rate : shape.fscod ≡ l.fscod
  pub layout : shape.acmod ≡ l.acmod
  pub low : shape.lfe ≡ l.lfe
  pub size : shape.words ≡ words

of_with : (o : Options) (l : Layout) (words : ℕ) (couple : Option (ℕ × ℕ)) (s : Shape) → IsShapeWith o l words couple s → IsOf l words s
of_with o l words couple s p = record { sampling_rate = p.sampling_rate; layout = p.layout; low = p.low; size = p.size }

pub of_for : (o : Options) (l : Layout) (words : ℕ) (x : Coefficients) (s : Shape) → IsShapeFor o l words x s → IsOf l words s
of_for o l words x s (inl h) = of_with o l words (Some h.0) s h.2
of_for o l words x s (inr h) = of_with o l words None s h.1

-- its channels are those of the layout
pub channels_are : (l : Layout) (words : ℕ) (s : Shape) → IsOf l words s → full_of s.acmod + count_of s.lfe ≡ channels_in l
channels_are l words s p = ap (λ (n : ℕ). full_of n + count_of s.lfe) p.layout ∙ ap (λ (b : Bool). full_of l.acmod + count_of b) p.low

pub alike_of : (l : Layout) (words : ℕ) (s : Shape) (x y : Coefficients) → IsOf l words s → Alike (channels_in l) x y → Alike (full_of s.acmod + count_of s.lfe) x y
alike_of l words s x y is same = fewer (channels_in l) (full_of s.acmod + count_of s.lfe) x y (omega (arith, channels_are l words s is)) same

pub alike_full : (l : Layout) (words : ℕ) (s : Shape) (x y : Coefficients) → IsOf l words s → Alike (channels_in l) x y → Alike (full_of s.acmod) x y
alike_full l words s x y is same = fewer (channels_in l) (full_of s.acmod) x y (omega (arith, channels_are l words s is)) same

-- ---- the choice is told by the coefficients of the layout's channels
couples_same : (o : Options) (l : Layout) (words : ℕ) (x y : Coefficients) (range : ℕ × ℕ) → Alike (channels_in l) x y → Couples o l words x range → Couples o l words y range
couples_same o l words x y range same c = record {
  usable = c.usable;
  fits = c.fits;
  why = elim c.why [
    | inl w ↦
        let is = of_with o l words (Some range) w.0 w.1 in
        inl (w.0, w.1, sym (worth_same w.0 x y (alike_full l words w.0 x y is same)) ∙ w.2)
    | inr n ↦ inr n
  ];
}

pub for_same : (o : Options) (l : Layout) (words : ℕ) (x y : Coefficients) (s : Shape) → Alike (channels_in l) x y → IsShapeFor o l words x s → IsShapeFor o l words y s
for_same o l words x y s same (inl h) = inl (h.0, couples_same o l words x y h.0 same h.1, h.2)
for_same o l words x y s same (inr h) = inr (λ range c. h.0 range (couples_same o l words y x range (turned (channels_in l) x y same) c), h.1)

-- ---- there is one
some_same : (p q : ℕ × ℕ) → Some p ≡ Some q → p ≡ q
some_same p q e = subst (λ (o : Option (ℕ × ℕ)). MatchOption o ⊤ (λ r. p ≡ r)) e refl

pub one_range : (o : Options) (l : Layout) (p q : ℕ × ℕ) → range_of o l ≡ Some p → range_of o l ≡ Some q → p ≡ q
one_range o l p q a b = some_same p q (sym a ∙ b)

pub no_range : (o : Options) (l : Layout) (p : ℕ × ℕ) → range_of o l ≡ None → range_of o l ≡ Some p → ⊥
no_range o l p a b = subst (λ (r : Option (ℕ × ℕ)). MatchOption r ⊤ (λ _. ⊥)) (sym a ∙ b) tt

pub one_for : (o : Options) (l : Layout) (words : ℕ) (x : Coefficients) (s t : Shape) → IsShapeFor o l words x s → IsShapeFor o l words x t → s ≡ t
one_for o l words x s t (inl p) (inl q) =
    one_with o l words (Some q.0) s t (subst (λ (r : ℕ × ℕ). IsShapeWith o l words (Some r) s) (one_range o l p.0 q.0 p.1.usable q.1.usable) p.2) q.2
one_for o l words x s t (inl p) (inr q) = absurd (q.0 p.0 p.1)
one_for o l words x s t (inr p) (inl q) = absurd (p.0 q.0 q.1)
one_for o l words x s t (inr p) (inr q) = one_with o l words None s t p.1 q.1
