-- The bins of the channels behind the full ones (A/52 7.1.3).
use Rattle.std.specs.Prelude.{ℕ, ◌+◌, ◌==◌, ◌&&◌, if◌then◌else◌}
use Rattle.ac_base.specs.declared.spans.Span.{Span}
use Rattle.ac_base.specs.Shape.{next_span, low_span}
use Rattle.ac_rows.specs.Blocks.{Block}
use Rattle.ac_rows.specs.declared.head.Head.{Head}
use Rattle.ac_rows.specs.Groups.{strategy_of}
use Rattle.ac_rows.specs.Filled.{holds, range_of, blank_span}

-- of coded channel c of a filled block with so many full channels
abbrev pub later_span : Head → Block → ℕ → ℕ → Span
later_span h b full c =
    let s = strategy_of b in
    if holds s.cplinu then (if c == full then next_span (range_of s) else if c == full + 1 && h.lfeon then low_span else blank_span)
    else (if c == full && h.lfeon then low_span else blank_span)
