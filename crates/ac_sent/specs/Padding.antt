-- Where the bits go that the fields of a frame leave over, over plain numbers. Skip fields are those of A/52 5.4.3.58 to
-- 5.4.3.60, aux bits those of 5.4.4.1, the first CRC part that of 7.10.1; the rule that shares the bits out is this project's own.
use Rattle.std.specs.Prelude.{ℕ, zero, suc, ◌+◌, ◌-◌, ◌*◌, ◌/◌, min, Option, Some, None}
use Rattle.ac_base.specs.Sizes.{end_room, tail_bits}

-- what aux bits may take of the rest of the frame: not the mantissas of block 5, and not the
-- 18 bits of auxdatae, crcrsv and crc2 (A/52 5.4.4.3, 5.4.5)
abbrev pub aux_room : ℕ → ℕ → ℕ
aux_room words last = end_room words - last - tail_bits

-- what is left of a frame whose fields, without skip fields and aux bits, have so many bits
abbrev pub left_over : ℕ → ℕ → ℕ
left_over words total = 16 * words - total

-- how many bits the skip fields have to take: what is left, less the room of the aux bits
abbrev pub to_skip : ℕ → ℕ → ℕ → ℕ
to_skip words total last = left_over words total - aux_room words last

-- the least skipl for which the skip field has n bits or more: 9 for skipl, 8 for each byte (A/52 5.4.3.59, 5.4.3.60)
abbrev pub least_skipl : ℕ → ℕ
least_skipl n = (n - 9 + 7) / 8

-- the skipl of a block that is to take n bits: none for 0, and at most 511, which is 4,097 bits
unfoldable pub skipl_of : ℕ → Option ℕ
skipl_of zero = None
skipl_of (suc n) = Some (min 511 (least_skipl (suc n)))

-- the blocks are filled in the order 5, 4, 3, 2, 1: those behind a block take 4,097 bits each first
unfoldable pub skip : ℕ → ℕ → Option ℕ
skip x block = skipl_of (x - 4097 * (5 - block))

-- the bits of a skip field behind skiple (A/52 5.4.3.58 to 5.4.3.60)
abbrev pub skip_bits : Option ℕ → ℕ
skip_bits None = 0
skip_bits (Some skipl) = 9 + 8 * skipl

-- the bits of all skip fields
unfoldable pub skipped : ℕ → ℕ
skipped x = skip_bits (skip x 1) + skip_bits (skip x 2) + skip_bits (skip x 3) + skip_bits (skip x 4) + skip_bits (skip x 5)

-- the rest of what is left is aux bits (A/52 5.4.4.1)
abbrev pub aux_bits : ℕ → ℕ → ℕ → ℕ
aux_bits words total last = left_over words total - skipped (to_skip words total last)
