use Rattle.std.proofs.Common.{◌≡◌, inl, inr, ◌-◌, ◌+◌, ◌<◌, ◌≤◌, ℕ, pos, slice_index, length, take, arith, ap, ◌∙◌, sym, subst, rules}
use Rattle.ac_alloc.specs.Excitation.{excite_by}
use Rattle.ac_alloc.specs.Masking.{masked, IsLevel, first_band}
use Rattle.ac_alloc.specs.Codes.{knee}
use Rattle.ac_alloc.specs.Integration.{bndpsd}
use Rattle.std.proofs.lemmas.List.{length-take-le}
use Rattle.ac_base.specs.Allocation.{hth_list, masktab_list}
use Rattle.ac_base.proofs.AllocationTables.{bands_small}
use Rattle.ac_alloc.proofs.Folds.{bndpsd_alone, bndpsd_alone_bound}
use Rattle.ac_alloc.proofs.Lists.{of_equal}
use Rattle.ac_base.proofs.SpanBounds.{span_some, span_end}
use Rattle.ac_alloc.proofs.Spans.{bands_are, bands_rise}
use Rattle.ac_alloc.proofs.mask.Mask.of.Goals as goal

pub excite_span-requires-clause-bands : goal.excite_span-requires-clause-bands
excite_span-requires-clause-bands c =
    let s = c.args.span.now in
    let to = c.band_of.result + 1 in
    let e : to ≡ slice_index masktab_list (s.end - 1) + 1 = ap (λ x. x + 1) c.band_of.ensures.value in
    let small = bands_small (s.end - 1) (omega (arith, span_some s c.requires.span, span_end s c.requires.span)) in
    let long : length (take to c.integrate.new.out) ≡ to = length-take-le to c.integrate.new.out (omega arith) in
    bands_are s c.band_of-from.result (length (take to c.integrate.new.out)) c.requires.span c.band_of-from.ensures.value (long ∙ e)

pub excite_span-requires-clause-bounds : goal.excite_span-requires-clause-bounds
excite_span-requires-clause-bounds c =
    bndpsd_alone_bound (c.band_of.result + 1) c.integrate.new.out c.integrate.ensures.bound

pub masks-requires-clause-levels : goal.masks-requires-clause-levels
masks-requires-clause-levels c =
    λ (b : ℕ). subst IsLevel (sym (of_equal (pos 0) 50 b)) (search rules)

pub returns-clause-masks : goal.returns-clause-masks
returns-clause-masks c =
    λ (b : ℕ) l m.
    let s = c.args.span.now in
    let p = c.args.p.now in
    let from = c.band_of-from.result in
    let Q = bndpsd s.start s.end c.args.exps.now in
    let to = c.band_of.result + 1 in
    let P = λ (j : ℕ). slice_index c.integrate.new.out j in
    let R = λ (j : ℕ). slice_index (take to c.integrate.new.out) j in
    let same : P ≡ Q = λ i j. c.integrate.ensures.value j i in
    let et : to ≡ slice_index masktab_list (s.end - 1) + 1 = ap (λ x. x + 1) c.band_of.ensures.value in
    let alone = bndpsd_alone s.start s.end to c.args.exps.now c.integrate.new.out (omega (arith, span_some s c.requires.span)) (span_end s c.requires.span) et c.integrate.ensures.value in
    let there : R ≡ Q = λ i j. alone j i in
    let small = bands_small (s.end - 1) (omega (arith, span_some s c.requires.span, span_end s c.requires.span)) in
    let long : length (take to c.integrate.new.out) ≡ to = length-take-le to c.integrate.new.out (omega arith) in
    let lo : from ≤ b = omega (arith, c.band_of-from.ensures.value) in
    let hi : b < c.band_of.result + 1 = omega (arith, c.band_of.ensures.value) in
    let h = slice_index (hth_list p.fscod) b in
    let e = c.excite_span.ensures.value b lo (omega (arith, hi, long)) ∙ ap (λ (F : ℕ → ℕ). excite_by s.lead p from F b) there ∙ ap (λ f. excite_by s.lead p f Q b) c.band_of-from.ensures.value in
    c.masks.ensures.value b lo hi ∙ ap (λ x. masked x (knee p) (P b) h) e ∙ ap (λ (F : ℕ → ℕ). masked (excite_by s.lead p (first_band s) Q b) (knee p) (F b) h) same

pub masks-requires-clause-order : goal.masks-requires-clause-order
masks-requires-clause-order c =
    let s = c.args.span.now in
    let rise = bands_rise s.start (s.end - 1) (omega (arith, span_some s c.requires.span)) (omega (arith, span_some s c.requires.span, span_end s c.requires.span)) in
    omega (arith, rise, c.band_of-from.ensures.value, c.band_of.ensures.value)

pub returns-clause-rest : goal.returns-clause-rest
returns-clause-rest c =
    λ (b : ℕ) h.
    let zero = of_equal (pos 0) 50 b in
    elim h [
      | inl below ↦ c.masks.ensures.rest b (inl (omega (arith, below, c.band_of-from.ensures.value))) ∙ zero
      | inr above ↦ c.masks.ensures.rest b (inr (omega (arith, above, c.band_of.ensures.value))) ∙ zero
    ]
