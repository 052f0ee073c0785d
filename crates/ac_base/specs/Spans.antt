-- The bins of a span, the kinds of exponents that its channel takes, and its groups (A/52 5.4.3.21 to 5.4.3.23, 7.1.2, 7.1.3).
use Rattle.std.specs.Prelude.{ℕ, ◌+◌, ◌-◌, ◌*◌, ◌/◌, ◌<◌, ◌≤◌, ◌==◌, if◌then◌else◌, Bool, true, false}
use Rattle.ac_base.specs.declared.spans.Lead.{Lead}
use Rattle.ac_base.specs.declared.spans.Lead.TheVariants.{Free, Coupled, Coupling, Low}
use Rattle.ac_base.specs.declared.spans.Span.{Span}

-- the coupling channel, whose exponents begin with a reference (A/52 7.1.3)
abbrev pub is_coupling : Lead → Bool
is_coupling Free = false
is_coupling Coupled = false
is_coupling Coupling = true
is_coupling Low = false

-- the bin is one of the span
abbrev pub IsIn : Span → ℕ → Type 0
IsIn span bin = (span.start ≤ bin) × (bin < span.end)

-- the kinds are 1 for D15, 2 for D25 and 3 for D45 (A/52 5.4.3.21, 5.4.3.22); LFE has D15 alone (5.4.3.23)
abbrev pub greatest_kind : Lead → ℕ
greatest_kind Free = 3
greatest_kind Coupled = 3
greatest_kind Coupling = 3
greatest_kind Low = 1

-- a kind that the channel takes
abbrev pub IsKind : ℕ → Span → Type 0
IsKind kind span = (1 ≤ kind) × (kind ≤ greatest_kind span.lead)

-- the bins that a difference covers (A/52 7.1.3: grpsize)
abbrev pub width : ℕ → ℕ
width kind = if kind == 1 then 1 else (if kind == 2 then 2 else 4)

-- nchgrps, ncplgrps and nlfegrps (A/52 7.1.3)
unfoldable pub groups_of : ℕ → Span → ℕ
groups_of kind span =
    if is_coupling span.lead
    then (span.end - span.start) / (3 * width kind)
    else (if kind == 1 then (span.end - 1) / 3 else (if kind == 2 then (span.end + 2) / 6 else (span.end + 8) / 12))
