-- The sixths of the bins of a run (A/52 7.2.2), and the table that they are read from.
use Rattle.std.specs.Prelude.{◌≡◌, ℕ, zero, suc, ◌+◌, ◌*◌, ◌/◌, ◌-◌, ◌<◌, ◌≤◌, ℤ, pos, ◌-ℤ◌, List, map, slice_index, if◌then◌else◌, ◌==◌}
use Rattle.ac_base.specs.Allocation.{masktab_list, bndtab_list}
use Rattle.ac_base.specs.declared.spans.Span.{Span}
use Rattle.ac_base.specs.Shape.{IsSpan}
use Rattle.ac_alloc.specs.declared.params.Params.{Params}
use Rattle.ac_alloc.specs.Codes.{floor_of}
use Rattle.ac_alloc.specs.Keys.{lowest}
use Rattle.ac_alloc.specs.Masking.{IsLevel, mask}
use Rattle.ac_alloc.specs.Pointers.{natural, bap_at}
use Rattle.ac_base.specs.Spans.{width}
use Rattle.ac_expo.specs.Steps.{step_of}
use Rattle.ac_base.specs.Spans.{IsIn, IsKind}
use Rattle.ac_sixths.specs.Keys.{weight, sixths}

-- f a + f (a + 1) + .. + f (a + n - 1)
unfoldable pub total_from : (ℕ → ℕ) → ℕ → ℕ → ℕ
total_from f a zero = 0
total_from f a (suc n) = total_from f a n + f (a + n)

-- the sum over the bins of a span
abbrev pub total_over : Span → (ℕ → ℕ) → ℕ
total_over s f = total_from f s.start (s.end - s.start)

-- what the mantissas of a coded channel cost in a block at offset t; at 0 none is sent
abbrev pub span_sixths : Params → Span → List ℕ → ℕ → ℕ
span_sixths p s exps t = if t == 0 then 0 else total_over s (λ k. weight (bap_at p s exps k t))

-- ---- how the program holds a run
-- entry i is the sixths where the key is 3000 - i above the offset
abbrev pub IsSixthTable : List ℕ → Type 0
IsSixthTable f = (i : ℕ) → i < 4128 → slice_index f i ≡ sixths (pos 3000 -ℤ pos i)

-- one number of each row of a table
abbrev pub column : List (List ℕ) → ℕ → List ℕ
column rows i = map (λ row. slice_index row i) rows

-- the entry of bin k at offset t
abbrev pub entry_at : List ℕ → List ℕ → List ℕ → ℕ → ℕ → ℕ
entry_at f levels bases t k = slice_index f (slice_index bases (slice_index masktab_list k) + 4 * slice_index levels k + t)

-- the entry of the i-th piece of m bins from bin a on, by the base of its band and an offset together
abbrev pub piece_at : List ℕ → List ℕ → ℕ → ℕ → ℕ → ℕ → ℕ
piece_at f levels base a m i = slice_index f (base + 4 * slice_index levels (a + i * m))

-- the bands from one up to but not another have n bins each
abbrev pub AreWide : ℕ → ℕ → ℕ → Type 0
AreWide n from to = (b : ℕ) → from ≤ b → b < to → slice_index bndtab_list (b + 1) ≡ slice_index bndtab_list b + n

-- in these bands, which begin at the first bin of a piece, each m bins have one level
abbrev pub ArePieces : ℕ → ℕ → ℕ → List ℕ → Type 0
ArePieces m from to levels =
    (b i k : ℕ) → from ≤ b → b < to → k < m → slice_index bndtab_list b + i * m + k < slice_index bndtab_list (b + 1)
    → slice_index levels (slice_index bndtab_list b + i * m + k) ≡ slice_index levels (slice_index bndtab_list b + i * m)

-- the bins that share an exponent have one level: w bins from bin 1 on, then the next w, and so on (A/52 7.1.3); the
-- coupling channel begins 36 and some twelves behind bin 1, so that its steps are among these
abbrev pub AreShared : ℕ → ℕ → ℕ → List ℕ → Type 0
AreShared w start end levels =
    (j k : ℕ) → start ≤ j → j < end → start ≤ k → k < end → (j + w - 1) / w ≡ (k + w - 1) / w → slice_index levels j ≡ slice_index levels k

-- what a program that adds by bands asks of a row: small numbers, and levels that the bins of a step share
abbrev pub AreHeld : ℕ → Span → List ℕ → List ℕ → Type 0
AreHeld kind s levels bases =
    ((k : ℕ) → s.start ≤ k → k < s.end → slice_index levels k ≤ 192)
    × ((b : ℕ) → b < 50 → slice_index bases b ≤ 2232)
    × AreShared (width kind) s.start s.end levels

-- the level of an exponent
abbrev pub level_of : ℕ → ℕ
level_of exponent = 8 * (24 - exponent)

-- the base of a band: with its mask, base + 4 level is 3000 less the key
abbrev pub base_of : ℤ → ℕ
base_of mask = 2232 - (natural mask + 3008) / 4

-- the levels and bases are those of a coded channel with the lowest floor
abbrev pub IsRun : Params → Span → List ℕ → List ℕ → List ℕ → Type 0
IsRun p s exps levels bases =
    (floor_of p ≡ lowest)
    × ((k : ℕ) → s.start ≤ k → k < s.end → (slice_index exps k ≤ 24) × (slice_index levels k ≡ level_of (slice_index exps k)))
    × ((k : ℕ) → s.start ≤ k → k < s.end
    → IsLevel (mask p s exps (slice_index masktab_list k))
    × (slice_index bases (slice_index masktab_list k) ≡ base_of (mask p s exps (slice_index masktab_list k))))

-- ---- laws
-- what is equal in each step of a kind of exponents is shared as above
abbrev pub StepsAreShared : Type 0
StepsAreShared =
    (kind : ℕ) (s : Span) (xs : List ℕ) → IsSpan s → IsKind kind s
    → ((j k : ℕ) → IsIn s j → IsIn s k → step_of kind s j ≡ step_of kind s k → slice_index xs j ≡ slice_index xs k)
    → AreShared (width kind) s.start s.end xs
