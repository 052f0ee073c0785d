-- The coded channels of a block: the full ones, then the coupling channel where coupling is in use in this block, then LFE (this
-- project's numbering). f is a block that was filled, so that it has all that it needs (A/52 5.4.3).
use Rattle.std.specs.Prelude.{ℕ, ◌+◌, ◌&&◌, ◌==◌, nat_lt, nat_le, Bool, if◌then◌else◌}
use Rattle.ac_base.specs.declared.spans.Span.{Span}
use Rattle.ac_base.specs.Shape.{full_of, count_of}
use Rattle.ac_rows.specs.Blocks.{Block}
use Rattle.ac_rows.specs.declared.head.Head.{Head}
use Rattle.ac_rows.specs.Filled.{holds}

-- how many they are
abbrev pub coded_in : Head → Block → ℕ
coded_in h f = full_of h.acmod + count_of (holds f.cplinu) + count_of h.lfeon

-- what coded channel c has: one value for each full channel, one for the coupling channel, one for LFE
abbrev pub by_channel : {A : Type 0} → Head → Block → ℕ → (ℕ → A) → A → A → A
by_channel h f c full shared low =
    if nat_lt c (full_of h.acmod) then full c else if holds f.cplinu && c == full_of h.acmod then shared else low

-- the bin is one of the span
abbrev pub is_in : Span → ℕ → Bool
is_in span k = nat_le span.start k && nat_lt k span.end
