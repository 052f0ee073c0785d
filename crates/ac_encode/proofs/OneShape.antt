-- Two shapes of one frame are one.
use Rattle.std.proofs.Common.{◌≡◌, ℕ, ◌≤◌, Option, Some, None, sym, ◌∙◌, inl, inr}
use Rattle.std.proofs.Math.Bridge.{le_prop}
use mathlib.Core.HLevel.{is_prop→PathP}
use Rattle.ac_base.specs.declared.shapes.Shape.{Shape}
use Rattle.ac_base.specs.Shape.{IsCoupling}
use Rattle.ac_base.specs.Sizes.{least_words, most_words}
use Rattle.ac_words.specs.declared.meaning.Options.{Options}
use Rattle.ac_enc.specs.Frame.{Places, coefficients, IsShapeOf}
use Rattle.ac_enc.specs.Layout.{Layout, IsShapeWith}

coupling_prop : (acmod : ℕ) (couple : Option (ℕ × ℕ)) → IsProp (IsCoupling acmod couple)
coupling_prop acmod couple = hlevel le_prop

-- a shape is told by its fields
same_shape : (s t : Shape) → s.fscod ≡ t.fscod → s.acmod ≡ t.acmod → s.lfe ≡ t.lfe → s.bw ≡ t.bw → s.couple ≡ t.couple → s.words ≡ t.words → s ≡ t
same_shape s t a b c d e f = λ i. record {
  fscod = a i;
  acmod = b i;
  lfe = c i;
  bw = d i;
  couple = e i;
  words = f i;
  sampling = is_prop→PathP (λ j. a j ≤ 2) (λ j. le_prop) s.sampling t.sampling i;
  some_channel = is_prop→PathP (λ j. 1 ≤ b j) (λ j. le_prop) s.some_channel t.some_channel i;
  channels = is_prop→PathP (λ j. b j ≤ 7) (λ j. le_prop) s.channels t.channels i;
  bandwidth = is_prop→PathP (λ j. d j ≤ 60) (λ j. le_prop) s.bandwidth t.bandwidth i;
  coupling = is_prop→PathP (λ j. IsCoupling (b j) (e j)) (λ j. coupling_prop (b j) (e j)) s.coupling t.coupling i;
  least_size = is_prop→PathP (λ j. least_words ≤ f j) (λ j. le_prop) s.least_size t.least_size i;
  most_size = is_prop→PathP (λ j. f j ≤ most_words) (λ j. le_prop) s.most_size t.most_size i;
}

by_couple : (o : Options) (l : Layout) (words : ℕ) (a b : Option (ℕ × ℕ)) (s t : Shape) → a ≡ b → IsShapeWith o l words a s → IsShapeWith o l words b t → s ≡ t
by_couple o l words a b s t same p q =
    same_shape s t (p.sampling_rate ∙ sym q.sampling_rate) (p.layout ∙ sym q.layout) (p.low ∙ sym q.low) (p.width ∙ sym q.width) (p.coupled ∙ (same ∙ sym q.coupled)) (p.size ∙ sym q.size)

pub one_shape : (o : Options) (l : Layout) (i : ℕ) (x : Places) (s t : Shape) → IsShapeOf o l i (coefficients x) s → IsShapeOf o l i (coefficients x) t → s ≡ t
one_shape o l i x s t (inl (range, c, p)) (inl (other, d, q)) = by_couple o l _ (Some range) (Some other) s t (sym c.usable ∙ d.usable) p q
one_shape o l i x s t (inl (range, c, p)) (inr (none, q)) = absurd (none range c)
one_shape o l i x s t (inr (none, p)) (inl (range, c, q)) = absurd (none range c)
one_shape o l i x s t (inr (none, p)) (inr (never, q)) = by_couple o l _ None None s t (λ j. None) p q
