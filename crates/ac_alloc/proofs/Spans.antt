-- The bands of spans.
use Rattle.std.proofs.Common.{◌≡◌, ℕ, ◌+◌, ◌-◌, ◌<◌, ◌≤◌, slice_index, List, arith, refl, ap, ◌∙◌}
use Rattle.std.specs.Prelude.{nat_le}
use Rattle.std.proofs.lemmas.Bool.{leb-true}
use Rattle.ac_base.specs.declared.spans.Span.{Span}
use Rattle.ac_base.specs.declared.spans.Lead.{Lead}
use Rattle.ac_base.specs.declared.spans.Lead.TheVariants as lead
use Rattle.ac_base.specs.Allocation.{masktab_list}
use Rattle.ac_base.specs.Shape.{IsSpan, IsSpanOf}
use Rattle.ac_base.proofs.SpanBounds.{span_some, span_end}
use Rattle.ac_base.proofs.Tests.{all_below-at}
use Rattle.ac_base.proofs.AllocationTables.{all_rises, bands_small}
use Rattle.ac_base.specs.Spans.{IsIn}
use Rattle.ac_alloc.specs.declared.mask.Mask.{Mask}
use Rattle.ac_alloc.specs.declared.params.Params.{Params}
use Rattle.ac_alloc.specs.Excitation.{AreBands}
use Rattle.ac_alloc.specs.Integration.{psd}
use Rattle.ac_alloc.specs.Masking.{IsMaskOf, mask}
use Rattle.ac_alloc.specs.Pointers.{bap, bap_at, bap_under}

pub late_band : (k : ℕ) → k < 217 → 30 ≤ slice_index masktab_list (36 + k)
late_band k below = leb-true _ _ (all_below-at 217 (λ k. nat_le 30 (slice_index masktab_list (36 + k))) refl k below)

pub bands_rise : (i j : ℕ) → i ≤ j → j < 253 → slice_index masktab_list i ≤ slice_index masktab_list j
bands_rise i j l m = all_rises masktab_list i j refl l m

wide : (start end from to : ℕ) → start ≡ 0 → 37 ≤ end → end ≤ 253 → from ≡ slice_index masktab_list start → to ≡ slice_index masktab_list (end - 1) + 1 → (from ≡ 0) × (31 ≤ to) × (to ≤ 50)
wide start end from to es l m ef et =
    let e : 36 + (end - 37) ≡ end - 1 = omega arith in
    let late = late_band (end - 37) (omega arith) in
    let same = ap (slice_index masktab_list) e in
    (ef ∙ ap (slice_index masktab_list) es, omega arith, omega (arith, bands_small (end - 1) (omega arith)))

bands_by : (l : Lead) (start end from to : ℕ) → start < end → end ≤ 253 → IsSpanOf l start end → from ≡ slice_index masktab_list start → to ≡ slice_index masktab_list (end - 1) + 1 → AreBands l from to
bands_by lead.Free start end from to some most h ef et = wide start end from to h.0 (omega arith) most ef et
bands_by lead.Coupled start end from to some most h ef et = wide start end from to h.0 (omega arith) most ef et
bands_by lead.Coupling start end from to some most h ef et =
    (omega (arith, bands_rise start (end - 1) (omega arith) (omega arith)), omega (arith, bands_small (end - 1) (omega arith)))
bands_by lead.Low start end from to some most h ef et =
    let e : end - 1 ≡ 6 = omega (arith, h.1) in
    let six = ap (slice_index masktab_list) e in
    (ef ∙ ap (slice_index masktab_list) h.0, et ∙ ap (λ x. x + 1) six)

pub bands_are : (s : Span) (from to : ℕ) → IsSpan s → from ≡ slice_index masktab_list s.start → to ≡ slice_index masktab_list (s.end - 1) + 1 → AreBands s.lead from to
bands_are s from to h ef et = bands_by s.lead s.start s.end from to (span_some s h) (span_end s h) h ef et

-- the masks of a channel give its pointers
pub under_mask : (p : Params) (s : Span) (exps : List ℕ) (m : Mask) (k t : ℕ) → IsSpan s → IsMaskOf p s exps m → IsIn s k → bap_under m exps k t ≡ bap_at p s exps k t
under_mask p s exps m k t is of inside =
    let b = slice_index masktab_list k in
    let near = span_end s is in
    let lo = bands_rise s.start k inside.0 (omega (arith, inside.1)) in
    let hi = bands_rise k (s.end - 1) (omega (arith, inside.1)) (omega (arith, inside.1)) in
    ap (λ x. bap x m.floor (psd exps k) t) (of.0 b lo hi) ∙ ap (λ f. bap (mask p s exps b) f (psd exps k) t) of.1
