-- The order of a block's mantissas (A/52 5.3.3): channel by channel, those of the coupling channel behind those of the first coupled
-- channel, those of LFE last; within a channel by bin.
use Rattle.std.specs.Prelude.{ℕ, zero, suc, ◌+◌, ◌-◌, ◌&&◌, not, Bool, true, if◌then◌else◌, List, [], ◌∷◌, ◌++◌, map}
use Rattle.std.specs.List.{range_with_len}
use Rattle.ac_base.specs.declared.spans.Span.{Span}
use Rattle.ac_base.specs.Shape.{full_of, count_of}
use Rattle.ac_rows.specs.Blocks.{Block}
use Rattle.ac_rows.specs.declared.head.Head.{Head}
use Rattle.ac_rows.specs.Groups.{strategy_of}
use Rattle.ac_rows.specs.Filled.{holds, is_coupled, span_in}

-- n full channels from number i on, and the coupling channel behind the first coupled one of them, unless it came before
unfoldable pub with_coupling : (ℕ → Bool) → ℕ → Bool → ℕ → ℕ → List ℕ
with_coupling coupled shared came i zero = []
with_coupling coupled shared came i (suc n) =
    if coupled i && not came then i ∷ shared ∷ with_coupling coupled shared true (suc i) n
    else i ∷ with_coupling coupled shared came (suc i) n

-- the coded channels in the order of their mantissas, by which full channels are coupled
unfoldable pub order_of : (ℕ → Bool) → ℕ → Bool → Bool → List ℕ
order_of coupled full used low =
    with_coupling coupled full (not used) 0 full ++ (if low then (full + count_of used) ∷ [] else [])

-- what the bins of a span have, in order
abbrev pub over_bins : {A : Type 0} → (ℕ → A) → Span → List A
over_bins f span = map f (range_with_len span.start (span.end - span.start))

-- what the bins of these channels have, in order
unfoldable pub over_channels : {A : Type 0} → (ℕ → Span) → List ℕ → (ℕ → ℕ → A) → List A
over_channels span [] f = []
over_channels span (c ∷ cs) f = over_bins (f c) (span c) ++ over_channels span cs f

-- of a filled block: f of each coded channel and each of its bins
abbrev pub in_order : {A : Type 0} → Head → Block → (ℕ → ℕ → A) → List A
in_order h f g =
    over_channels (span_in h f) (order_of (is_coupled (strategy_of f)) (full_of h.acmod) (holds f.cplinu) h.lfeon) g
