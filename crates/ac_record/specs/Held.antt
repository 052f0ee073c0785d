-- The exponents and the bit allocation pointers that hold in a block: by what the block sends and what the blocks before it in its
-- frame sent last (A/52 5.4.3, 7.1.3, 7.2.2).
use Rattle.std.proofs.Math.Nat.{min-le_right}
use Rattle.std.specs.Prelude.{ℕ, ◌+◌, ◌*◌, ◌==◌, min, Bool, List, map, slice_index, Option, Some, None}
use Rattle.std.specs.List.{range_with_len}
use Rattle.ac_base.specs.declared.spans.Span.{Span}
use Rattle.ac_base.specs.Allocation.{bins}
use Rattle.ac_base.specs.Sigma.{sum_below}
use Rattle.ac_expo.specs.Spelling.{Spelling}
use Rattle.ac_expo.specs.Steps.{step_of}
use Rattle.ac_expo.specs.Groups.{spelled_exponent}
use Rattle.ac_alloc.specs.declared.params.Params.{Params}
use Rattle.ac_alloc.specs.Pointers.{pointer}
use Rattle.ac_rows.specs.Blocks.{Block}
use Rattle.ac_rows.specs.declared.head.Head.{Head}
use Rattle.ac_rows.specs.Filled.{number, entry, held, filled_of, span_in}
use Rattle.ac_record.specs.Channels.{coded_in, by_channel}

-- ---- exponents

-- a kind with exponents in groups, where there are any
abbrev pub with_kind : ℕ → Option Spelling → Option (ℕ × Spelling)
with_kind kind None = None
with_kind kind (Some s) = Some (kind, s)

-- what block b sends of the exponents of a coded channel of block f (A/52 5.4.3.21 to 5.4.3.29)
abbrev pub sent_exponents : Head → Block → ℕ → Block → Option (ℕ × Spelling)
sent_exponents h f c b =
    by_channel h f c (λ i. with_kind (slice_index b.chexpstr i) (entry b.exps i))
    (with_kind (number b.cplexpstr) b.cplabsexp)
    (with_kind 1 b.lfeexps)

-- those that hold: its own, or else the latest (strategy code 0: A/52 5.4.3.21 to 5.4.3.23)
abbrev pub held_exponents : Head → List Block → Block → ℕ → Option (ℕ × Spelling)
held_exponents h earlier b c = held (sent_exponents h (filled_of h earlier b) c) earlier b

-- the exponent of a bin by a kind and groups (A/52 7.1.3)
abbrev pub exponent_by : Span → Option (ℕ × Spelling) → ℕ → ℕ
exponent_by span None k = 0
exponent_by span (Some p) k = spelled_exponent span.lead p.1 (step_of p.0 span k)

-- the exponent of bin k of a coded channel
unfoldable pub exponent_in : Head → List Block → Block → ℕ → ℕ → ℕ
exponent_in h earlier b c k = exponent_by (span_in h (filled_of h earlier b) c) (held_exponents h earlier b c) k

-- ---- pointers

-- fsnroffst, cplfsnroffst or lfefsnroffst (A/52 5.4.3.38, 5.4.3.40, 5.4.3.42)
abbrev pub fine_of : Head → Block → ℕ → ℕ
fine_of h f c = by_channel h f c (λ i. number (entry f.fsnroffst i)) (number f.cplfsnroffst) (number f.lfefsnroffst)

-- fgaincod, cplfgaincod or lfefgaincod (A/52 5.4.3.39, 5.4.3.41, 5.4.3.43)
abbrev pub gain_of : Head → Block → ℕ → ℕ
gain_of h f c = by_channel h f c (λ i. number (entry f.fgaincod i)) (number f.cplfgaincod) (number f.lfefgaincod)

-- the SNR offset of a coded channel (A/52 7.2.2.1)
abbrev pub offset_of : Head → Block → ℕ → ℕ
offset_of h f c = 16 * number f.csnroffst + fine_of h f c

-- all SNR offset codes of the block are 0, so that no bin has bits (A/52 7.2.2.7)
abbrev pub is_silent : Head → Block → Bool
is_silent h f = number f.csnroffst + sum_below (coded_in h f) (fine_of h f) == 0

-- the parameters of a coded channel's bit allocation. Each is at most the greatest code of its field, as each field that is read is
abbrev pub params_in : Head → Block → ℕ → Params
params_in h f c = record {
  fscod = min h.fscod 2;
  sdcycod = min (number f.sdcycod) 3;
  fdcycod = min (number f.fdcycod) 3;
  sgaincod = min (number f.sgaincod) 3;
  dbpbcod = min (number f.dbpbcod) 3;
  floorcod = min (number f.floorcod) 7;
  fgaincod = min (gain_of h f c) 7;
  cplfleak = min (number f.cplfleak) 7;
  cplsleak = min (number f.cplsleak) 7;
  sampling = min-le_right h.fscod 2;
  slow_code = min-le_right (number f.sdcycod) 3;
  fast_code = min-le_right (number f.fdcycod) 3;
  gain_code = min-le_right (number f.sgaincod) 3;
  knee_code = min-le_right (number f.dbpbcod) 3;
  floor_code = min-le_right (number f.floorcod) 7;
  fast_gain_code = min-le_right (gain_of h f c) 7;
  fast_leak_code = min-le_right (number f.cplfleak) 7;
  slow_leak_code = min-le_right (number f.cplsleak) 7;
}

-- the exponents of a coded channel as a list by bin
abbrev pub exponents_in : Head → List Block → Block → ℕ → List ℕ
exponents_in h earlier b c = map (exponent_in h earlier b c) (range_with_len 0 bins)

-- the pointer of bin k of a coded channel
unfoldable pub pointer_in : Head → List Block → Block → ℕ → ℕ → ℕ
pointer_in h earlier b c k =
    let f = filled_of h earlier b in
    pointer (is_silent h f) (params_in h f c) (span_in h f c) (exponents_in h earlier b c) k (offset_of h f c)
