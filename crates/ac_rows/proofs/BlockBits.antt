-- The bits of a lawful block, group by group.
use Rattle.std.proofs.Common.{◌≡◌, ℕ, ◌+◌, Bool, List, ◌++◌, length, refl, ap, arith, length-append}
use Rattle.ac_codec.specs.Codec.{pair, shaped, given, field, tested_bit, fitted, each, cons, cons_then, absent, slot, free}
use Rattle.std.specs.Prelude.{replicate, false}
use Rattle.ac_base.specs.Shape.{full_of, is_stereo}
use Rattle.ac_rows.specs.declared.head.Head.{Head}
use Rattle.ac_rows.specs.Known.{known_of}
use Rattle.ac_rows.specs.Blocks.{Block}
use Rattle.ac_rows.specs.declared.groups.Strategy.{Strategy}
use Rattle.ac_rows.specs.declared.groups.Codes.{Codes}
use Rattle.ac_rows.specs.declared.groups.Allocation.{Allocation}
use Rattle.ac_rows.specs.declared.groups.Coupling.{Coupling}
use Rattle.ac_rows.specs.declared.groups.Known.{Known}
use Rattle.ac_rows.specs.Groups.{start_of, strategy_of, shared_of, codes_of, exponents_of, allocation_of, rest_of}
use Rattle.ac_rows.specs.BlockRows.{start, strategy, coupled_each, joined_each, shared, codes, rematrix_each, strategy_each, width_each}
use Rattle.ac_rows.specs.BlockRows.{exponents, allocation, parameters, offsets, leaks, offset_each, alternating, rest, block_rows}
use Rattle.ac_rows.specs.BlockRows.{block_fields, whole_block, skip_bits, coupling_now}
use Rattle.ac_rows.specs.Bits.{strategy_bits, shared_bits, codes_bits, exponents_bits, allocation_bits, block_bits, BlockIsLawful}
use Rattle.ac_rows.proofs.JoinedChannels.{shared_same}
use Rattle.ac_rows.proofs.ZippedLawful.{exponents_same}

pub record BlockParts (full : ℕ) (stereo low : Bool) (known : Known) (b : Block) : Type 0 where
  pub start : (start full).Lawful (start_of b)
  pub strategy : (strategy full stereo known.begun).Lawful (strategy_of b)
  pub shared : (shared known (coupling_now known (strategy_of b))).Lawful (shared_of b)
  pub codes : (codes full stereo low known (coupling_now known (strategy_of b))).Lawful (codes_of b)
  pub exponents : (exponents full (coupling_now known (strategy_of b)) (codes_of b)).Lawful (exponents_of b)
  pub allocation : (allocation full low known (coupling_now known (strategy_of b))).Lawful (allocation_of b)
  pub rest : rest.Lawful (rest_of b)

pub block_parts : (full : ℕ) (stereo low : Bool) (known : Known) (b : Block) → (block_rows full stereo low known).Lawful b
    → BlockParts full stereo low known b
unfolding block_rows shaped pair
block_parts full stereo low known b h = record {
  start = h.0;
  strategy = h.1.0;
  shared = h.1.1.0;
  codes = h.1.1.1.0;
  exponents = h.1.1.1.1.0;
  allocation = h.1.1.1.1.1.0;
  rest = h.1.1.1.1.1.1;
}

strategy_same : (full : ℕ) (stereo begun : Bool) (s : Strategy) → (strategy full stereo begun).spell s ≡ strategy_bits s
unfolding strategy coupled_each joined_each pair shaped given field tested_bit each cons cons_then absent
strategy_same full stereo begun s = refl

codes_same : (full : ℕ) (stereo low : Bool) (known : Known) (c : Coupling) (k : Codes)
    → (codes full stereo low known c).spell k ≡ codes_bits full k
unfolding codes rematrix_each strategy_each width_each pair shaped given slot field tested_bit each cons absent
codes_same full stereo low known c k = refl

allocation_same : (full : ℕ) (low : Bool) (known : Known) (c : Coupling) (x : Allocation)
    → (allocation full low known c).spell x ≡ allocation_bits x
unfolding allocation parameters offsets leaks offset_each alternating fitted pair shaped given field tested_bit each cons absent
allocation_same full low known c x = refl

pub block_same : (full : ℕ) (stereo low : Bool) (known : Known) (b : Block) → (block_rows full stereo low known).Lawful b
    → (block_rows full stereo low known).spell b ≡ block_bits full b
unfolding block_rows shaped pair
block_same full stereo low known b h =
    let p = block_parts full stereo low known b h in
    let c = coupling_now known (strategy_of b) in
    rw (
      strategy_same full stereo known.begun (strategy_of b),
      shared_same known c (shared_of b) p.shared,
      codes_same full stereo low known c (codes_of b),
      exponents_same full c (codes_of b) (exponents_of b) p.exponents,
      allocation_same full low known c (allocation_of b),
    ) refl

seven : (t u v w x y z : List Bool) → length (t ++ (u ++ (v ++ (w ++ (x ++ (y ++ z)))))) ≡ length t + length u + length v + length w
    + length x + length y + length z
seven t u v w x y z =
    let a = length-append y z in
    let b = length-append x (y ++ z) in
    let c = length-append w (x ++ (y ++ z)) in
    let d = length-append v (w ++ (x ++ (y ++ z))) in
    let e = length-append u (v ++ (w ++ (x ++ (y ++ z)))) in
    let f = length-append t (u ++ (v ++ (w ++ (x ++ (y ++ z))))) in
    omega (arith, a, b, c, d, e, f)

-- how many they are
pub block_length : (full : ℕ) (b : Block) → length (block_bits full b) ≡ length ((start full).spell (start_of b))
    + length (strategy_bits (strategy_of b)) + length (shared_bits (shared_of b)) + length (codes_bits full (codes_of b))
    + length (exponents_bits (exponents_of b)) + length (allocation_bits (allocation_of b)) + length (rest.spell (rest_of b))
block_length full b =
    seven ((start full).spell (start_of b)) (strategy_bits (strategy_of b)) (shared_bits (shared_of b)) (codes_bits full (codes_of b))
    (exponents_bits (exponents_of b)) (allocation_bits (allocation_of b)) (rest.spell (rest_of b))

pub fields_lawful : (h : Head) (earlier : List Block) (b : Block) → (block_fields h earlier).Lawful b → BlockIsLawful (full_of h.acmod) b
unfolding block_fields
fields_lawful h earlier b k = (is_stereo h.acmod, h.lfeon, known_of earlier, k)

-- a whole block whose skip bytes are 0
pub whole_bits : (h : Head) (earlier : List Block) (b : Block) → (block_fields h earlier).Lawful b
    → (whole_block h earlier).spell (b, replicate (skip_bits b) false) ≡ block_bits (full_of h.acmod) b ++ replicate (skip_bits b) false
unfolding whole_block block_fields pair free
whole_bits h earlier b k =
    ap (λ l. l ++ replicate (skip_bits b) false) (block_same (full_of h.acmod) (is_stereo h.acmod) h.lfeon (known_of earlier) b k)
