-- The spelling of a list of exponents in groups (A/52 7.1.3; the fields: 5.4.3.25 to 5.4.3.27, 5.4.3.29). What stands in
-- the steps past the end, and which group is refused, is this project's own.
use Rattle.std.specs.Prelude.{◌≡◌, ℕ, zero, suc, ◌+◌, ◌-◌, ◌*◌, ◌/◌, ◌%◌, ◌<◌, ◌≤◌, ◌==◌, ◌⊎◌, min, nat_lt, if◌then◌else◌, List, [], ◌∷◌, ◌++◌, length, slice_index}
use Rattle.ac_base.specs.declared.spans.Lead.{Lead}
use Rattle.ac_base.specs.declared.spans.Span.{Span}
use Rattle.ac_base.specs.Spans.{IsIn, IsKind, is_coupling}
use Rattle.ac_base.specs.Shape.{IsSpan}
use Rattle.ac_base.specs.Spans.{groups_of}
use Rattle.ac_expo.specs.Steps.{step_of, bin_of}
use Rattle.ac_expo.specs.Greatest.{IsSpellable}
use Rattle.ac_expo.specs.Spelling.{Spelling}

-- exps is the exponent of bin 0 (A/52 5.4.3.27), cplabsexp half that of the start (5.4.3.25)
abbrev pub first_of : Span → List ℕ → ℕ
first_of span exps = if is_coupling span.lead then slice_index exps span.start / 2 else slice_index exps 0

-- the exponent before the first difference (A/52 7.1.3)
abbrev pub reference : Lead → ℕ → ℕ
reference lead first = if is_coupling lead then 2 * first else first

-- a step past the end has the greatest exponent that can be spelled, at most 24 (this project's own)
unfoldable pub past : ℕ → Span → List ℕ → ℕ → ℕ
past kind span exps step = min 24 (slice_index exps (span.end - 1) + 2 * (step - step_of kind span (span.end - 1)))

-- the exponent of a step
unfoldable pub at_step : ℕ → Span → List ℕ → ℕ → ℕ
at_step kind span exps step =
    if step == 0
    then reference span.lead (first_of span exps)
    else (if nat_lt (bin_of kind span step) span.end then slice_index exps (bin_of kind span step) else past kind span exps step)

-- M: a difference plus 2 (A/52 7.1.3)
abbrev pub mapped : ℕ → Span → List ℕ → ℕ → ℕ
mapped kind span exps i = at_step kind span exps (i + 1) + 2 - at_step kind span exps i

-- a group of three differences in 7 bits (A/52 7.1.3)
abbrev pub group_of : ℕ → Span → List ℕ → ℕ → ℕ
group_of kind span exps place =
    25 * mapped kind span exps (3 * place) + 5 * mapped kind span exps (3 * place + 1) + mapped kind span exps (3 * place + 2)

-- the first n groups
unfoldable pub groups_below : ℕ → Span → List ℕ → ℕ → List ℕ
groups_below kind span exps zero = []
groups_below kind span exps (suc n) = groups_below kind span exps n ++ group_of kind span exps n ∷ []

-- the first exponent and all groups of a list
abbrev pub spelled_of : ℕ → Span → List ℕ → Spelling
spelled_of kind span exps = record { first = first_of span exps; groups = groups_below kind span exps (groups_of kind span) }

-- ---- and back (A/52 7.1.3)

-- M of difference i: a group is 25 M1 + 5 M2 + M3
unfoldable pub mapped_of : List ℕ → ℕ → ℕ
mapped_of groups i =
    let group = slice_index groups (i / 3) in
    if i % 3 == 0 then group / 25 else (if i % 3 == 1 then group / 5 % 5 else group % 5)

-- the reference and the first n differences, each plus 2
unfoldable pub sum_to : Lead → Spelling → ℕ → ℕ
sum_to lead spelled zero = reference lead spelled.first
sum_to lead spelled (suc n) = sum_to lead spelled n + mapped_of spelled.groups n

-- the exponent of a step, where it isn't below 0
abbrev pub spelled_exponent : Lead → Spelling → ℕ → ℕ
spelled_exponent lead spelled step = sum_to lead spelled step - 2 * step

-- ---- refusals of the reader (this project's own)

-- an exponent is outside 0 to 24
abbrev pub IsOutside : Lead → Spelling → ℕ → Type 0
IsOutside lead spelled step = (sum_to lead spelled step < 2 * step) ⊎ (2 * step + 24 < sum_to lead spelled step)

-- the group at a place gives the exponents of steps 3 place + 1 to 3 place + 3
abbrev pub IsOfGroup : ℕ → ℕ → Type 0
IsOfGroup place step = (3 * place < step) × (step ≤ 3 * place + 3)

-- the group at a place is over 124, or gives an exponent outside 0 to 24 at a bin below the end
abbrev pub IsRefused : ℕ → Span → Spelling → ℕ → Type 0
IsRefused kind span spelled place =
    (124 < slice_index spelled.groups place)
    ⊎ ((k : ℕ) × (IsIn span k × IsOfGroup place (step_of kind span k) × IsOutside span.lead spelled (step_of kind span k)))

-- the first group that is refused
pub record IsFirstRefused (kind : ℕ) (span : Span) (spelled : Spelling) (place : ℕ) : Type 0 where
  pub within : place < length spelled.groups
  pub refused : IsRefused kind span spelled place
  pub first : (earlier : ℕ) → earlier < place → IsRefused kind span spelled earlier → ⊥

-- no group is refused
abbrev pub NoneRefused : ℕ → Span → Spelling → Type 0
NoneRefused kind span spelled = (place : ℕ) → place < length spelled.groups → IsRefused kind span spelled place → ⊥

-- ---- what the reader gives (A/52 7.1.3)

-- the bins of the span have the exponents that were spelled
abbrev pub IsExpanded : ℕ → Span → Spelling → List ℕ → Type 0
IsExpanded kind span spelled exps = (k : ℕ) → IsIn span k → slice_index exps k ≡ spelled_exponent span.lead spelled (step_of kind span k)

-- a list that can be spelled comes back: a law of these definitions
abbrev pub ExpandUndoesGroup : Type 0
ExpandUndoesGroup =
    (kind : ℕ) (span : Span) (exps : List ℕ) → IsSpan span → IsKind kind span → IsSpellable kind span exps
    → NoneRefused kind span (spelled_of kind span exps) × IsExpanded kind span (spelled_of kind span exps) exps
