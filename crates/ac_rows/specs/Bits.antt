-- The bits of groups of fields. Which fields are there shows in their values, so the bits of a group don't depend on what is known
-- of the blocks before, nor on the coupling that holds: each is taken here at the first block of a frame.
use Rattle.std.specs.Prelude.{ℕ, ◌<◌, ◌^◌, Bool, false, List, [], ◌++◌, Option}
use Rattle.std.specs.List.{All}
use Rattle.std.specs.Option.{ForSome}
use Rattle.ac_bits.specs.Bits.{bits}
use Rattle.ac_expo.specs.Spelling.{Spelling}
use Rattle.ac_codec.specs.Codec.{some_spell}
use Rattle.ac_codec.specs.Lists.{spelled_each}
use Rattle.ac_rows.specs.declared.groups.Strategy.{Strategy}
use Rattle.ac_rows.specs.declared.groups.Coupling.{Coupling}
use Rattle.ac_rows.specs.declared.groups.ChannelShared.{ChannelShared}
use Rattle.ac_rows.specs.declared.groups.Shared.{Shared}
use Rattle.ac_rows.specs.declared.groups.Codes.{Codes}
use Rattle.ac_rows.specs.declared.groups.Exponents.{Exponents}
use Rattle.ac_rows.specs.declared.groups.Allocation.{Allocation}
use Rattle.ac_rows.specs.declared.groups.Known.{Known}
use Rattle.ac_rows.specs.Filled.{entry, latest_strategy, coupling_of}
use Rattle.ac_rows.specs.Spelled.{spelling_bits}
use Rattle.ac_rows.specs.Known.{known_of}
use Rattle.ac_rows.specs.BlockRows.{zipped, start, strategy, channel_shared, shared, codes, allocation, rest, block_rows}
use Rattle.ac_rows.specs.Blocks.{Block}
use Rattle.ac_rows.specs.Groups.{start_of, strategy_of, shared_of, codes_of, exponents_of, allocation_of, rest_of}

-- nothing is known, and coupling isn't in use
abbrev pub nothing : Known
nothing = known_of []

abbrev pub uncoupled : Coupling
uncoupled = coupling_of (latest_strategy [])

abbrev pub strategy_bits : Strategy → List Bool
strategy_bits s = (strategy 0 false false).spell s

abbrev pub StrategyFits : Strategy → Type 0
StrategyFits s = (full : ℕ) × (stereo : Bool) × (begun : Bool) × (strategy full stereo begun).Lawful s

abbrev pub channel_bits : ChannelShared → List Bool
channel_bits x = (channel_shared false false 0).spell x

abbrev pub ChannelFits : ChannelShared → Type 0
ChannelFits x = (coupled : Bool) × (may : Bool) × (bands : ℕ) × (channel_shared coupled may bands).Lawful x

abbrev pub shared_bits : Shared → List Bool
shared_bits x = (shared nothing uncoupled).spell x

abbrev pub SharedIsLawful : Shared → Type 0
SharedIsLawful x = (known : Known) × (c : Coupling) × (shared known c).Lawful x

abbrev pub codes_bits : ℕ → Codes → List Bool
codes_bits full k = (codes full false false nothing uncoupled).spell k

abbrev pub CodesAreLawful : ℕ → Codes → Type 0
CodesAreLawful full k = (stereo : Bool) × (low : Bool) × (known : Known) × (c : Coupling) × (codes full stereo low known c).Lawful k

abbrev pub allocation_bits : Allocation → List Bool
allocation_bits x = (allocation 0 false nothing uncoupled).spell x

abbrev pub AllocationIsLawful : Allocation → Type 0
AllocationIsLawful x = (full : ℕ) × (low : Bool) × (known : Known) × (c : Coupling) × (allocation full low known c).Lawful x

-- an exponent of 4 bits and groups of 7
abbrev pub SpellingFits : Spelling → Type 0
SpellingFits s = (s.first < 2 ^ 4) × All (λ g. g < 2 ^ 7) s.groups

-- a channel's exponents and gainrng
abbrev pub exponent_bits : Option Spelling × Option ℕ → List Bool
exponent_bits p = some_spell spelling_bits p.0 ++ some_spell (λ v. bits v 2) p.1

abbrev pub exponents_bits : Exponents → List Bool
exponents_bits x = some_spell spelling_bits x.cplabsexp ++ (spelled_each exponent_bits (zipped x.exps x.gainrng)
    ++ some_spell spelling_bits x.lfeexps)

pub record ExponentsFit (x : Exponents) : Type 0 where
  pub shared : ForSome x.cplabsexp SpellingFits
  pub channels : (i : ℕ) → i < 5 → ForSome (entry x.exps i) SpellingFits
  pub gains : (i : ℕ) → i < 5 → ForSome (entry x.gainrng i) (λ v. v < 2 ^ 2)
  pub low : ForSome x.lfeexps SpellingFits

-- the two coordinates of a band
abbrev pub coordinate_bits : Option ℕ × Option ℕ → List Bool
coordinate_bits p = some_spell (λ v. bits v 4) p.0 ++ some_spell (λ v. bits v 4) p.1

-- a channel's fine offset and fast gain
abbrev pub offset_bits : Option ℕ × Option ℕ → List Bool
offset_bits p = some_spell (λ v. bits v 4) p.0 ++ some_spell (λ v. bits v 3) p.1

-- the bits of all groups of a block
abbrev pub block_bits : ℕ → Block → List Bool
block_bits full b =
    (start full).spell (start_of b) ++ (strategy_bits (strategy_of b) ++ (shared_bits (shared_of b) ++ (codes_bits full (codes_of b)
    ++ (exponents_bits (exponents_of b) ++ (allocation_bits (allocation_of b) ++ rest.spell (rest_of b))))))

abbrev pub BlockIsLawful : ℕ → Block → Type 0
BlockIsLawful full b = (stereo : Bool) × (low : Bool) × (known : Known) × (block_rows full stereo low known).Lawful b
