use Rattle.std.proofs.Common.{◌≡◌, true, false, ℕ, pos, slice_index, slice_index_or, Bool, arith, ap, sym, ◌∙◌}
use Rattle.std.specs.Prelude.{if◌then◌else◌}
use Rattle.ac_alloc.specs.Pointers.{level, bap, bap_at}
use Rattle.ac_alloc.specs.declared.params.Params.{Params}
use Rattle.ac_alloc.proofs.Spans.{under_mask}
use Rattle.ac_alloc.specs.Integration.{psd}
use Rattle.ac_base.specs.Allocation.{masktab_list}
use Rattle.ac_base.proofs.AllocationTables.{bands_small}
use Rattle.ac_base.proofs.SpanBounds.{span_end}
use Rattle.ac_alloc.proofs.pointers.baps.Goals as goal

pub returns-else-silent-clause-bins : goal.returns-else-silent-clause-bins
returns-else-silent-clause-bins c =
    λ (k : ℕ) p q.
    let b = slice_index masktab_list k in
    let end = span_end c.args.span.now c.requires.span in
    let small = bands_small k (omega arith) in
    let m = slice_index_or c.args.mask.now.m b (pos 0) in
    let heard : c.args.silent ≡ false = cc in
    let v = c.raised_levels.ensures.value b (omega arith) in
    c.allocate_bins.ensures.bins k p q (level m c.args.mask.now.floor c.args.t) v ∙ sym (ap (λ (s : Bool). if s then 0 else bap m c.args.mask.now.floor (psd c.args.exps.now k) c.args.t) heard)

pub returns-then-silent-clause-value : goal.returns-then-silent-clause-value
returns-then-silent-clause-value c =
    λ (p : Params) of (k : ℕ) inside.
    let silent : c.args.silent ≡ true = cc in
    c.silence_bins.ensures.bins k inside.0 inside.1 ∙ sym (ap (λ (s : Bool). if s then 0 else bap_at p c.args.span.now c.args.exps.now k c.args.t) silent)

pub returns-else-silent-clause-value : goal.returns-else-silent-clause-value
returns-else-silent-clause-value c =
    λ (p : Params) of (k : ℕ) inside.
    let b = slice_index masktab_list k in
    let end = span_end c.args.span.now c.requires.span in
    let small = bands_small k (omega (arith, inside.1)) in
    let m = slice_index_or c.args.mask.now.m b (pos 0) in
    let heard : c.args.silent ≡ false = cc in
    let v = c.raised_levels.ensures.value b (omega arith) in
    c.allocate_bins.ensures.bins k inside.0 inside.1 (level m c.args.mask.now.floor c.args.t) v
    ∙ under_mask p c.args.span.now c.args.exps.now c.args.mask.now k c.args.t c.requires.span of inside
    ∙ sym (ap (λ (s : Bool). if s then 0 else bap_at p c.args.span.now c.args.exps.now k c.args.t) heard)
