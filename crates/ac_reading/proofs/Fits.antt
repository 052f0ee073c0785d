-- Groups that were sent for a span give exponents to the bins of each span that begins there and ends no later.
use Rattle.std.proofs.Common.{◌≡◌, ℕ, zero, suc, ◌+◌, ◌-◌, ◌*◌, ◌/◌, ◌≤◌, Bool, Option, Some, None, refl, ap, ap₂, ◌∙◌, arith}
use Rattle.std.specs.Prelude.{if◌then◌else◌}
use Rattle.ac_base.specs.declared.spans.Lead.{Lead}
use Rattle.ac_base.specs.declared.spans.Lead.TheVariants.{Free, Coupled, Coupling, Low}
use Rattle.ac_base.specs.declared.spans.Span.{Span}
use Rattle.ac_base.specs.Shape.{IsSpan}
use Rattle.ac_base.specs.Spans.{IsIn, IsKind, is_coupling, greatest_kind, width, groups_of}
use Rattle.ac_codec.specs.Codec.{single}
use Rattle.ac_expo.specs.Spelling.{Spelling}
use Rattle.ac_expo.specs.Steps.{step_of}
use Rattle.ac_expo.specs.Groups.{sum_to, mapped_of}
use Rattle.ac_expo.proofs.Walk.{walk}
use Rattle.ac_expo.proofs.Refusals.{within_all}
use Rattle.ac_rows.specs.Spelled.{spelled_row, groups_row, first_bad, bad_exponent}
use Rattle.ac_rows.proofs.Deciding.{none_refused}
use Rattle.ac_rows.proofs.SpelledSound.{groups_row_lawful}
use Rattle.ac_reading.specs.Spells.{Spells}

none_bad : (channel : ℕ) (o : Option ℕ) → bad_exponent channel o ≡ None → o ≡ None
none_bad channel None e = refl
none_bad channel (Some place) e = absurd cc

row_parts : (kind : ℕ) (span : Span) (channel : ℕ) (s : Spelling) → (spelled_row kind span channel).Lawful s → (groups_row (groups_of kind span)).Lawful s × (bad_exponent channel (first_bad kind span s) ≡ None)
unfolding spelled_row single
row_parts kind span channel s h = h

-- groups that were read for a span
pub row_spells : (kind : ℕ) (span : Span) (channel : ℕ) (s : Spelling) → IsKind kind span → IsSpan span → (spelled_row kind span channel).Lawful s → Spells kind span s
row_spells kind span channel s is_kind is_span h =
    let p = row_parts kind span channel s h in
    let g = groups_row_lawful (groups_of kind span) s p.0 in
    let none = none_refused kind span s (none_bad channel (first_bad kind span s) p.1) in
    let first : s.first ≤ 15 = omega (arith, g.0) in
    let within = within_all kind span s is_span is_kind g.1 first none in
    let at = (walk kind span is_span is_kind).0 in
    record {
      is_kind = is_kind;
      is_span = is_span;
      first = first;
      there = λ k inside. omega (arith, at.within k inside.0 inside.1, g.1);
      least = λ k inside. (within k inside).0;
      most = λ k inside. (within k inside).1;
    }

-- ---- another span

step_same : (kind : ℕ) (less span : Span) → less.start ≡ span.start → is_coupling less.lead ≡ is_coupling span.lead → (k : ℕ) → step_of kind less k ≡ step_of kind span k
unfolding step_of
step_same kind less span start lead k = ap₂ (λ (a : ℕ) (b : Bool). (k - a + (if b then width kind else width kind - 1)) / width kind) start lead

pub sum_same : (a b : Lead) → is_coupling a ≡ is_coupling b → (s : Spelling) (n : ℕ) → sum_to a s n ≡ sum_to b s n
unfolding sum_to
sum_same a b e s zero = ap (λ (x : Bool). if x then 2 * s.first else s.first) e
sum_same a b e s (suc n) = ap (λ (x : ℕ). x + mapped_of s.groups n) (sum_same a b e s n)

pub kinds_most : (lead : Lead) → greatest_kind lead ≤ 3
kinds_most Free = omega arith
kinds_most Coupled = omega arith
kinds_most Coupling = omega arith
kinds_most Low = omega arith

pub spells_less : (kind : ℕ) (span less : Span) (s : Spelling) → less.start ≡ span.start → is_coupling less.lead ≡ is_coupling span.lead → less.end ≤ span.end → IsKind kind less → IsSpan less → Spells kind span s → Spells kind less s
spells_less kind span less s start lead end is_kind is_span h =
    let inside : (k : ℕ) → IsIn less k → IsIn span k = λ k i. (omega (arith, i.0), omega (arith, i.1)) in
    let step = step_same kind less span start lead in
    let sum = λ (k : ℕ). sum_same less.lead span.lead lead s (step_of kind less k) ∙ ap (sum_to span.lead s) (step k) in
    record {
      is_kind = is_kind;
      is_span = is_span;
      first = h.first;
      there = λ k i. omega (arith, step k, h.there k (inside k i));
      least = λ k i. omega (arith, step k, sum k, h.least k (inside k i));
      most = λ k i. omega (arith, step k, sum k, h.most k (inside k i));
    }
