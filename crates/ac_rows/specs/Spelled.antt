-- The exponents of a channel as one field: the first exponent and its groups (A/52 5.4.3.25 to 5.4.3.29, 7.1.3). Which group
-- is refused is this project's own.
use Rattle.std.specs.Prelude.{ℕ, zero, suc, ◌+◌, ◌*◌, ◌++◌, Bool, ◌&&◌, ◌||◌, false, nat_lt, nat_le, if◌then◌else◌, List, length, Option}
use Rattle.std.specs.Prelude.{Some, None, slice_index}
use Rattle.ac_base.specs.declared.spans.Span.{Span}
use Rattle.ac_base.specs.declared.spans.Lead.{Lead}
use Rattle.ac_bits.specs.Bits.{bits}
use Rattle.ac_codec.specs.Lists.{spelled_each}
use Rattle.ac_expo.specs.Spelling.{Spelling}
use Rattle.ac_base.specs.Spans.{groups_of}
use Rattle.ac_expo.specs.Steps.{step_of}
use Rattle.ac_expo.specs.Groups.{sum_to}
use Rattle.ac_codec.specs.declared.refused.Refused.{Refused}
use Rattle.ac_codec.specs.declared.refused.Refused.TheVariants.{BadExponent}
use Rattle.ac_codec.specs.Codec.{Codec, field, any, pair, shaped, each, single}

-- some number below n passes the test
unfoldable pub any_below : ℕ → (ℕ → Bool) → Bool
any_below zero p = false
any_below (suc n) p = any_below n p || p n

-- the first of n numbers from i on that passes it
unfoldable pub first_from : ℕ → ℕ → (ℕ → Bool) → Option ℕ
first_from zero i p = None
first_from (suc n) i p = if p i then Some i else first_from n (suc i) p

-- the exponent of a step is outside 0 to 24
abbrev pub is_outside : Lead → Spelling → ℕ → Bool
is_outside lead s step = nat_lt (sum_to lead s step) (2 * step) || nat_lt (2 * step + 24) (sum_to lead s step)

-- the bin is one of the span, its step is of the group at a place, and its exponent is outside
abbrev pub is_bad_bin : ℕ → Span → Spelling → ℕ → ℕ → Bool
is_bad_bin kind span s place k =
    nat_le span.start k && nat_lt (3 * place) (step_of kind span k) && nat_le (step_of kind span k) (3 * place + 3)
    && is_outside span.lead s (step_of kind span k)

-- a group is over 124, or gives an exponent outside 0 to 24 at a bin below the end
abbrev pub is_bad_group : ℕ → Span → Spelling → ℕ → Bool
is_bad_group kind span s place = nat_lt 124 (slice_index s.groups place) || any_below span.end (is_bad_bin kind span s place)

-- the first such group
unfoldable pub first_bad : ℕ → Span → Spelling → Option ℕ
first_bad kind span s = first_from (length s.groups) 0 (is_bad_group kind span s)

abbrev pub bad_exponent : ℕ → Option ℕ → Option Refused
bad_exponent channel None = None
bad_exponent channel (Some place) = Some (BadExponent channel place)

abbrev pub spelling_to : ℕ × List ℕ → Spelling
spelling_to p = record { first = p.0; groups = p.1 }

abbrev pub spelling_from : Spelling → ℕ × List ℕ
spelling_from s = (s.first, s.groups)

-- a first exponent of 4 bits and n groups of 7
unfoldable pub groups_row : ℕ → Codec Spelling
groups_row n = shaped spelling_to spelling_from (pair (field 4 any) (λ _. each n 0 (λ _. field 7 any)))

-- the exponents of a coded channel in a kind, as one field
unfoldable pub spelled_row : ℕ → Span → ℕ → Codec Spelling
spelled_row kind span channel = single (4 + 7 * groups_of kind span)
    (λ s. bad_exponent channel (first_bad kind span s)) (groups_row (groups_of kind span))

-- their bits
abbrev pub spelling_bits : Spelling → List Bool
spelling_bits s = bits s.first 4 ++ spelled_each (λ g. bits g 7) s.groups
