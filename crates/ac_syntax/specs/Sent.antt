-- Heads and blocks as this encoder fills them, which is this project's profile: no optional field of the head, no dynamic range
-- word, all full channels coupled or none, each subband a band, no phase flags; block 0 sends all, a later block keeps all but the
-- exponents. Their rows have the widths of `side_bits`.
use Rattle.std.specs.Prelude.{◌≡◌, ℕ, ◌+◌, ◌<◌, ◌&&◌, false, nat_lt, is_some, List, [], length, sum, Option}
use Rattle.ac_bits.specs.Bits.{bits}
use Rattle.ac_base.specs.Shape.{full_of}
use Rattle.ac_base.specs.SideBits.{head_rows, first_block_rows, later_block_rows}
use Rattle.ac_codec.specs.Codec.{some_spell}
use Rattle.ac_codec.specs.Lists.{spelled_each}
use Rattle.ac_rows.specs.Blocks.{Block}
use Rattle.ac_rows.specs.declared.head.Head.{Head}
use Rattle.ac_rows.specs.Groups.{exponents_of}
use Rattle.ac_rows.specs.HeadRows.{head_fields}
use Rattle.ac_rows.specs.Filled.{holds, entry, channel_coupled, coupling_in}
use Rattle.ac_rows.specs.BlockRows.{block_fields, AreLawful}
use Rattle.ac_rows.specs.Bits.{exponents_bits}

pub record IsSentHead (h : Head) : Type 0 where
  pub compre : h.compre ≡ false
  pub langcode : h.langcode ≡ false
  pub audprodie : h.audprodie ≡ false
  pub timecod1e : h.timecod1e ≡ false
  pub timecod2e : h.timecod2e ≡ false
  pub addbsie : h.addbsie ≡ false

-- what all blocks have
pub record IsSent (h : Head) (couple : Option (ℕ × ℕ)) (earlier : List Block) (b : Block) : Type 0 where
  pub dynrnge : b.dynrnge ≡ false
  pub skiple : b.skiple ≡ false
  pub range : (coupling_in earlier b).range ≡ couple
  pub coupled : (i : ℕ) → i < 5 → channel_coupled (coupling_in earlier b) i ≡ (nat_lt i (full_of h.acmod) && is_some couple)

-- block 0 sends each subband as a band, and no phase flags
pub record IsFirstSent (h : Head) (couple : Option (ℕ × ℕ)) (b : Block) : Type 0 where
  pub sent : IsSent h couple [] b
  pub bands : (k : ℕ) → holds (entry b.cplbndstrc k) ≡ false
  pub phases : holds b.phsflginu ≡ false

-- a later block keeps all but the exponents
pub record IsLaterSent (h : Head) (couple : Option (ℕ × ℕ)) (earlier : List Block) (b : Block) : Type 0 where
  pub sent : IsSent h couple earlier b
  pub cplstre : b.cplstre ≡ false
  pub cplcoe : (i : ℕ) → holds (entry b.cplcoe i) ≡ false
  pub rematstr : holds b.rematstr ≡ false
  pub baie : b.baie ≡ false
  pub snroffste : b.snroffste ≡ false
  pub cplleake : holds b.cplleake ≡ false

-- chbwcod, exponents and gainrng
abbrev pub exponent_rows : Block → ℕ
exponent_rows b = length (spelled_each (some_spell (λ v. bits v 6)) b.chbwcod) + length (exponents_bits (exponents_of b))

-- the rows of a head
abbrev pub HeadIsSide : Type 0
HeadIsSide = (h : Head) → head_fields.Lawful h → IsSentHead h → length (head_fields.spell h) ≡ sum (head_rows h.acmod)

-- of block 0, behind whose exponents nothing is left out
abbrev pub FirstIsSide : Type 0
FirstIsSide =
    (h : Head) (couple : Option (ℕ × ℕ)) (b : Block) → head_fields.Lawful h → (block_fields h []).Lawful b → IsFirstSent h couple b
    → length ((block_fields h []).spell b) ≡ sum (first_block_rows h.acmod h.lfeon couple) + exponent_rows b

-- and of a later block
abbrev pub LaterIsSide : Type 0
LaterIsSide =
    (h : Head) (couple : Option (ℕ × ℕ)) (earlier : List Block) (b : Block) → head_fields.Lawful h → AreLawful h earlier
    → (block_fields h earlier).Lawful b → IsLaterSent h couple earlier b
    → length ((block_fields h earlier).spell b) ≡ sum (later_block_rows h.acmod h.lfeon couple) + exponent_rows b
