-- Raw exponents of coefficients (A/52 8.2.7), whose scale 2 ^ 24 is this project's own.
use Rattle.std.specs.Prelude.{◌≡◌, ℕ, zero, suc, ◌*◌, ◌^◌, ◌<◌, ◌≤◌, nat_lt, if◌then◌else◌, ℤ, pos, List, [], slice_index, slice_index_or, unsigned_abs}
use Rattle.ac_base.specs.declared.shapes.Shape.{Shape}
use Rattle.ac_base.specs.declared.spans.Span.{Span}
use Rattle.ac_base.specs.Shape.{span_of, coded_of}
use Rattle.ac_base.specs.Spans.{IsIn}

-- the greatest e from 0 to n with magnitude * 2 ^ e below 2 ^ 24, by a search downwards
unfoldable pub raw_below : ℕ → ℕ → ℕ
raw_below zero magnitude = 0
raw_below (suc e) magnitude = if nat_lt (magnitude * 2 ^ suc e) (2 ^ 24) then suc e else raw_below e magnitude

-- the raw exponent: the greatest from 0 to 24
abbrev pub raw_of : ℤ → ℕ
raw_of c = raw_below 24 (unsigned_abs c)

-- e is the raw exponent of c, said without a search
pub record IsRaw (c : ℤ) (e : ℕ) : Type 0 where
  pub bound : e ≤ 24
  pub fits : unsigned_abs c * 2 ^ e < 2 ^ 24
  pub greatest : (other : ℕ) → other ≤ 24 → unsigned_abs c * 2 ^ other < 2 ^ 24 → other ≤ e

-- the search gives it: a law of these definitions
abbrev pub RawIsGreatest : Type 0
RawIsGreatest = (c : ℤ) → unsigned_abs c < 2 ^ 24 → IsRaw c (raw_of c)

-- ---- the raw exponents of a frame (A/52 8.2.7): by coded channel, block and bin of the channel's span

-- those of a row
abbrev pub AreRawInRow : Span → List ℤ → List ℕ → Type 0
AreRawInRow span cs es = (k : ℕ) → IsIn span k → slice_index es k ≡ raw_of (slice_index_or cs k (pos 0))

-- of the six blocks of a channel
abbrev pub AreRawInBlocks : Span → List (List ℤ) → List (List ℕ) → Type 0
AreRawInBlocks span cs es = (b : ℕ) → b < 6 → AreRawInRow span (slice_index_or cs b []) (slice_index_or es b [])

-- the span of a coded channel of a shape
abbrev pub channel_span : Shape → ℕ → Span
channel_span shape c = span_of shape.acmod shape.bw shape.couple c

-- how many coded channels a shape has
abbrev pub channels : Shape → ℕ
channels shape = coded_of shape.acmod shape.lfe shape.couple

-- and of all coded channels
abbrev pub AreRaw : Shape → List (List (List ℤ)) → List (List (List ℕ)) → Type 0
AreRaw shape cs es = (c : ℕ) → c < channels shape → AreRawInBlocks (channel_span shape c) (slice_index_or cs c []) (slice_index_or es c [])

-- ---- elsewhere (this project's own)

-- each entry outside the spans of the coded channels is 24
abbrev pub AreSilentElsewhere : Shape → List (List (List ℕ)) → Type 0
AreSilentElsewhere shape es =
    (c b k : ℕ) → c < 7 → b < 6 → k < 256 → (c < channels shape → IsIn (channel_span shape c) k → ⊥)
    → slice_index (slice_index_or (slice_index_or es c []) b []) k ≡ 24

-- what stands outside the span stays, in each block
abbrev pub KeepsOutside : Span → List (List ℕ) → List (List ℕ) → Type 0
KeepsOutside span old new =
    (b k : ℕ) → (IsIn span k → ⊥) → slice_index (slice_index_or new b []) k ≡ slice_index (slice_index_or old b []) k

-- and for each channel
abbrev pub KeepsElsewhere : Shape → List (List (List ℕ)) → List (List (List ℕ)) → Type 0
KeepsElsewhere shape old new =
    (c b k : ℕ) → (c < channels shape → IsIn (channel_span shape c) k → ⊥)
    → slice_index (slice_index_or (slice_index_or new c []) b []) k
    ≡ slice_index (slice_index_or (slice_index_or old c []) b []) k

-- ---- which coefficients have raw exponents

-- those of a row are below 2 ^ 24 in magnitude
abbrev pub AreSmallInRow : Span → List ℤ → Type 0
AreSmallInRow span cs = (k : ℕ) → IsIn span k → unsigned_abs (slice_index_or cs k (pos 0)) < 2 ^ 24

-- those of the six blocks of a channel
abbrev pub AreSmallInBlocks : Span → List (List ℤ) → Type 0
AreSmallInBlocks span cs = (b : ℕ) → b < 6 → AreSmallInRow span (slice_index_or cs b [])

-- and those of all coded channels
abbrev pub AreSmall : Shape → List (List (List ℤ)) → Type 0
AreSmall shape cs = (c : ℕ) → c < channels shape → AreSmallInBlocks (channel_span shape c) (slice_index_or cs c [])
