-- The fields of a block before its mantissas (A/52 5.3.3), a line for each, in seven groups. Which fields are there follows from
-- acmod and lfeon of the head, from the fields before, from the coupling that holds in the block, and from nothing else; what
-- earlier blocks gave is asked for only by fields that are refused where there is nothing to reuse.
use Rattle.std.specs.Option.{ForSome}
use Rattle.std.specs.Prelude.{◌≡◌, ◌<◌, ◌≤◌, ℕ, zero, suc, ◌+◌, ◌*◌, ◌&&◌, ◌||◌, not, Bool, true, false, nat_lt, nat_le, is_some}
use Rattle.std.specs.Prelude.{if◌then◌else◌, List, [], ◌∷◌, ◌++◌, length, Option, Some, None, slice_index}
use Rattle.ac_base.specs.declared.spans.Span.{Span}
use Rattle.ac_base.specs.Shape.{full_of, is_stereo, subbands, rematrix_bands, full_span, next_span, low_span, count_of}
use Rattle.ac_expo.specs.Spelling.{Spelling}
use Rattle.ac_codec.specs.declared.refused.Refused.{Refused}
use Rattle.ac_codec.specs.declared.refused.Refused.TheVariants.{Reserved, ShortBlock, Dither, Delta, NoReuse}
use Rattle.ac_codec.specs.declared.refused.Row.TheVariants.{Cplstre, Cplinu, Chincpl, Cplendf, Cplcoe, Rematstr, Cplexpstr, Chexpstr}
use Rattle.ac_codec.specs.declared.refused.Row.TheVariants.{Lfeexpstr, Chbwcod, Baie, Snroffste, Cplleake}
use Rattle.ac_codec.specs.Codec.{Codec, field, any, below, reused, flag, tested_bit, one_where, zero_where, absent, given, slot, pair}
use Rattle.ac_codec.specs.Codec.{shaped, fitted, each, cons_then, free}
use Rattle.ac_rows.specs.Blocks.{Block}
use Rattle.ac_rows.specs.declared.head.Head.{Head}
use Rattle.ac_rows.specs.declared.groups.Start.{Start}
use Rattle.ac_rows.specs.declared.groups.Strategy.{Strategy}
use Rattle.ac_rows.specs.declared.groups.Coupling.{Coupling}
use Rattle.ac_rows.specs.declared.groups.ChannelShared.{ChannelShared}
use Rattle.ac_rows.specs.declared.groups.Shared.{Shared}
use Rattle.ac_rows.specs.declared.groups.Codes.{Codes}
use Rattle.ac_rows.specs.declared.groups.Exponents.{Exponents}
use Rattle.ac_rows.specs.declared.groups.Allocation.{Allocation}
use Rattle.ac_rows.specs.declared.groups.Rest.{Rest}
use Rattle.ac_rows.specs.declared.groups.Known.{Known}
use Rattle.ac_rows.specs.Groups.{start_of, strategy_of, shared_of, codes_of, exponents_of, allocation_of, rest_of, block_of}
use Rattle.ac_rows.specs.Filled.{holds, number, entry, channel_coupled, coupling_of, over}
use Rattle.ac_rows.specs.Known.{known_of, may_keep_coordinates, may_keep_shared, may_keep_channel}
use Rattle.ac_rows.specs.Spelled.{spelled_row}

-- ---- the start (A/52 5.4.3.1 to 5.4.3.4)

-- a bit for each full channel that has to be 0
unfoldable pub clear_each : ℕ → Refused → Codec (List Bool)
clear_each full r = each 5 0 (λ i. slot (nat_lt i full) false (tested_bit (one_where false r)))

abbrev pub start_to : List Bool × (List Bool × (Bool × Option ℕ)) → Start
start_to (a, (b, (c, d))) = record { blksw = a; dithflag = b; dynrnge = c; dynrng = d }

abbrev pub start_from : Start → List Bool × (List Bool × (Bool × Option ℕ))
start_from x = (x.blksw, (x.dithflag, (x.dynrnge, x.dynrng)))

unfoldable pub start : ℕ → Codec Start
start full = shaped start_to start_from (
    pair (clear_each full ShortBlock) (λ _.  -- blksw
    pair (clear_each full Dither) (λ _.  -- dithflag
    pair flag (λ dynrnge.  -- dynrnge
    given dynrnge (field 8 any)))))  -- dynrng

-- ---- the coupling strategy (A/52 5.4.3.7 to 5.4.3.13)

-- n entries from number i on, of which the first `full` in all stand for channels where the strategy is sent. At the last
-- channel 0 is refused unless a channel before it is coupled
unfoldable pub coupled_each : ℕ → ℕ → Bool → ℕ → Bool → Codec (List (Option Bool))
coupled_each zero i sent full seen = absent []
coupled_each (suc n) i sent full seen =
    cons_then (given (sent && nat_lt i full) (tested_bit (zero_where (nat_lt (suc i) full || seen) (Reserved Chincpl))))
    (λ coupled. coupled_each n (suc i) sent full (seen || holds coupled))

-- there is a subband: cplbegf is at most cplendf + 2
abbrev pub no_less : ℕ → ℕ → Option Refused
no_less cplbegf cplendf = if nat_lt (cplendf + 2) cplbegf then Some (Reserved Cplendf) else None

-- the subbands of a strategy that is sent
abbrev pub sent_subbands : Bool → Option ℕ → Option ℕ → ℕ
sent_subbands sent cplbegf cplendf = subbands (if sent then Some (number cplbegf, number cplendf) else None)

-- a bit for each subband but the first
unfoldable pub joined_each : ℕ → Codec (List (Option Bool))
joined_each subbands = each 18 0 (λ k. given (nat_le 1 k && nat_lt k subbands) flag)

abbrev pub strategy_to : Bool × (Option Bool × (List (Option Bool) × (Option Bool × (Option ℕ × (Option ℕ
    × List (Option Bool)))))) → Strategy
strategy_to (a, (b, (c, (d, (e, (f, g)))))) = record {
  cplstre = a;
  cplinu = b;
  chincpl = c;
  phsflginu = d;
  cplbegf = e;
  cplendf = f;
  cplbndstrc = g;
}

abbrev pub strategy_from : Strategy → Bool × (Option Bool × (List (Option Bool) × (Option Bool × (Option ℕ × (Option ℕ
    × List (Option Bool))))))
strategy_from x = (x.cplstre, (x.cplinu, (x.chincpl, (x.phsflginu, (x.cplbegf, (x.cplendf, x.cplbndstrc))))))

-- one channel can't be coupled
unfoldable pub strategy : ℕ → Bool → Bool → Codec Strategy
strategy full stereo begun = shaped strategy_to strategy_from (
    pair (tested_bit (zero_where begun (NoReuse Cplstre))) (λ cplstre.  -- cplstre
    pair (given cplstre (tested_bit (one_where (nat_lt 1 full) (Reserved Cplinu)))) (λ cplinu.  -- cplinu
    pair (coupled_each 5 0 (holds cplinu) full false) (λ _.  -- chincpl
    pair (given (holds cplinu && stereo) flag) (λ _.  -- phsflginu
    pair (given (holds cplinu) (field 4 any)) (λ cplbegf.  -- cplbegf
    pair (given (holds cplinu) (field 4 (no_less (number cplbegf)))) (λ cplendf.  -- cplendf
    joined_each (sent_subbands (holds cplinu) cplbegf cplendf))))))))  -- cplbndstrc

-- ---- coordinates and phase flags (A/52 5.4.3.14 to 5.4.3.18)

-- the two lists of a list of pairs, and back
abbrev pub firsts : {A B : Type 0} → List (A × B) → List A
firsts [] = []
firsts (x ∷ xs) = x.0 ∷ firsts xs

abbrev pub seconds : {A B : Type 0} → List (A × B) → List B
seconds [] = []
seconds (x ∷ xs) = x.1 ∷ seconds xs

abbrev pub zipped : {A B : Type 0} → List A → List B → List (A × B)
zipped [] ys = []
zipped (x ∷ xs) [] = []
zipped (x ∷ xs) (y ∷ ys) = (x, y) ∷ zipped xs ys

-- two lists of one length from rows that alternate
unfoldable pub alternating : {A B : Type 0} → Codec (List (A × B)) → Codec (List A × List B)
alternating c = fitted (λ xs. (firsts xs, seconds xs)) (λ p. zipped p.0 p.1) (λ p. length p.0 ≡ length p.1) c

-- cplcoexp and cplcomant of each band
unfoldable pub coordinate_each : ℕ → Codec (List (Option ℕ) × List (Option ℕ))
coordinate_each bands = alternating (each 18 0 (λ k. pair (given (nat_lt k bands) (field 4 any))
    (λ _. given (nat_lt k bands) (field 4 any))))

abbrev pub channel_to : Option Bool × (Option ℕ × (List (Option ℕ) × List (Option ℕ))) → ChannelShared
channel_to (a, (b, (c, d))) = record { cplcoe = a; mstrcplco = b; cplcoexp = c; cplcomant = d }

abbrev pub channel_from : ChannelShared → Option Bool × (Option ℕ × (List (Option ℕ) × List (Option ℕ)))
channel_from x = (x.cplcoe, (x.mstrcplco, (x.cplcoexp, x.cplcomant)))

-- a channel's cplcoe, mstrcplco, and coordinates
unfoldable pub channel_shared : Bool → Bool → ℕ → Codec ChannelShared
channel_shared coupled may bands = shaped channel_to channel_from (
    pair (given coupled (tested_bit (zero_where may (NoReuse Cplcoe)))) (λ cplcoe.  -- cplcoe
    pair (given (holds cplcoe) (field 2 any)) (λ _.  -- mstrcplco
    coordinate_each (if holds cplcoe then bands else 0))))  -- cplcoexp, cplcomant

unfoldable pub shared_each : Known → Coupling → Codec (List ChannelShared)
shared_each known c = each 5 0 (λ i. channel_shared (channel_coupled c i) (may_keep_coordinates known c i) c.bands)

abbrev pub coes : List ChannelShared → List (Option Bool)
coes [] = []
coes (x ∷ xs) = x.cplcoe ∷ coes xs

abbrev pub masters : List ChannelShared → List (Option ℕ)
masters [] = []
masters (x ∷ xs) = x.mstrcplco ∷ masters xs

abbrev pub coordinate_exps : List ChannelShared → List (List (Option ℕ))
coordinate_exps [] = []
coordinate_exps (x ∷ xs) = x.cplcoexp ∷ coordinate_exps xs

abbrev pub coordinate_mants : List ChannelShared → List (List (Option ℕ))
coordinate_mants [] = []
coordinate_mants (x ∷ xs) = x.cplcomant ∷ coordinate_mants xs

-- the same by four lists
abbrev pub joined_channels : List (Option Bool) → List (Option ℕ) → List (List (Option ℕ)) → List (List (Option ℕ)) → List ChannelShared
joined_channels (w ∷ ws) (x ∷ xs) (y ∷ ys) (z ∷ zs) =
    record { cplcoe = w; mstrcplco = x; cplcoexp = y; cplcomant = z } ∷ joined_channels ws xs ys zs
joined_channels ws xs ys zs = []

-- a phase flag for each band, where some channel's coordinates are sent
unfoldable pub phase_each : ℕ → Codec (List (Option Bool))
phase_each bands = each 18 0 (λ k. given (nat_le 0 k && nat_lt k bands) flag)

abbrev pub any_sent : List ChannelShared → Bool
any_sent [] = false
any_sent (x ∷ xs) = holds x.cplcoe || any_sent xs

abbrev pub shared_to : List ChannelShared × List (Option Bool) → Shared
shared_to p = record {
  cplcoe = coes p.0;
  mstrcplco = masters p.0;
  cplcoexp = coordinate_exps p.0;
  cplcomant = coordinate_mants p.0;
  phsflg = p.1;
}

abbrev pub shared_from : Shared → List ChannelShared × List (Option Bool)
shared_from x = (joined_channels x.cplcoe x.mstrcplco x.cplcoexp x.cplcomant, x.phsflg)

-- the four lists have one length
abbrev pub SharedFits : Shared → Type 0
SharedFits x = (length x.mstrcplco ≡ length x.cplcoe) × (length x.cplcoexp ≡ length x.cplcoe) × (length x.cplcomant ≡ length x.cplcoe)

unfoldable pub shared : Known → Coupling → Codec Shared
shared known c = fitted shared_to shared_from SharedFits (
    pair (shared_each known c) (λ channels.  -- cplcoe, mstrcplco, cplcoexp, cplcomant
    phase_each (if c.phases && any_sent channels then c.bands else 0)))  -- phsflg

-- ---- rematrixing, exponent strategies and bandwidths (A/52 5.4.3.19 to 5.4.3.24)

unfoldable pub rematrix_each : ℕ → Codec (List (Option Bool))
rematrix_each bands = each 4 0 (λ k. given (nat_lt k bands) flag)

unfoldable pub strategy_each : ℕ → Known → Coupling → Codec (List ℕ)
strategy_each full known c = each 5 0 (λ i. slot (nat_lt i full) 0 (field 2 (reused (may_keep_channel known c i) Chexpstr)))

-- an uncoupled channel with new exponents has a bandwidth
abbrev pub has_width : ℕ → Coupling → List ℕ → ℕ → Bool
has_width full c chexpstr i = nat_lt i full && (not (channel_coupled c i) && nat_lt 0 (slice_index chexpstr i))

unfoldable pub width_each : ℕ → Coupling → List ℕ → Codec (List (Option ℕ))
width_each full c chexpstr = each 5 0 (λ i. given (has_width full c chexpstr i) (field 6 (below 61 Chbwcod)))

abbrev pub codes_to : Option Bool × (List (Option Bool) × (Option ℕ × (List ℕ × (Option Bool × List (Option ℕ))))) → Codes
codes_to (a, (b, (c, (d, (e, f))))) = record { rematstr = a; rematflg = b; cplexpstr = c; chexpstr = d; lfeexpstr = e; chbwcod = f }

abbrev pub codes_from : Codes → Option Bool × (List (Option Bool) × (Option ℕ × (List ℕ × (Option Bool × List (Option ℕ)))))
codes_from x = (x.rematstr, (x.rematflg, (x.cplexpstr, (x.chexpstr, (x.lfeexpstr, x.chbwcod)))))

unfoldable pub codes : ℕ → Bool → Bool → Known → Coupling → Codec Codes
codes full stereo low known c = shaped codes_to codes_from (
    pair (given stereo (tested_bit (zero_where known.begun (NoReuse Rematstr)))) (λ rematstr.  -- rematstr
    pair (rematrix_each (if holds rematstr then rematrix_bands c.range else 0)) (λ _.  -- rematflg
    pair (given (is_some c.range) (field 2 (reused (may_keep_shared known c) Cplexpstr))) (λ _.  -- cplexpstr
    pair (strategy_each full known c) (λ chexpstr.  -- chexpstr
    pair (given low (tested_bit (zero_where known.low (NoReuse Lfeexpstr)))) (λ _.  -- lfeexpstr
    width_each full c chexpstr))))))  -- chbwcod

-- ---- exponents (A/52 5.4.3.25 to 5.4.3.29)

-- the bins of a full channel that sends exponents
abbrev pub sent_span : Coupling → List (Option ℕ) → ℕ → Span
sent_span c chbwcod i = full_span (number (entry chbwcod i)) (if channel_coupled c i then c.range else None)

-- a channel's exponents and gainrng
unfoldable pub exponents_each : Coupling → Codes → Codec (List (Option Spelling) × List (Option ℕ))
exponents_each c k =
    alternating (each 5 0 (λ i.
    pair (given (nat_lt 0 (slice_index k.chexpstr i)) (spelled_row (slice_index k.chexpstr i) (sent_span c k.chbwcod i) i)) (λ _.  -- exps
    given (nat_lt 0 (slice_index k.chexpstr i)) (field 2 any))))  -- gainrng

abbrev pub exponents_to : Option Spelling × ((List (Option Spelling) × List (Option ℕ)) × Option Spelling) → Exponents
exponents_to p = record { cplabsexp = p.0; exps = p.1.0.0; gainrng = p.1.0.1; lfeexps = p.1.1 }

abbrev pub exponents_from : Exponents → Option Spelling × ((List (Option Spelling) × List (Option ℕ)) × Option Spelling)
exponents_from x = (x.cplabsexp, ((x.exps, x.gainrng), x.lfeexps))

-- coded channels are the full ones, then the coupling channel where coupling is in use, then LFE
unfoldable pub exponents : ℕ → Coupling → Codes → Codec Exponents
exponents full c k = shaped exponents_to exponents_from (
    pair (given (nat_lt 0 (number k.cplexpstr)) (spelled_row (number k.cplexpstr) (next_span c.range) full)) (λ _.  -- cplabsexp
    pair (exponents_each c k) (λ _.  -- exps, gainrng
    given (holds k.lfeexpstr) (spelled_row 1 low_span (full + count_of (is_some c.range))))))  -- lfeexps

-- ---- the bit allocation (A/52 5.4.3.30 to 5.4.3.46)

-- a channel's fine offset and fast gain
unfoldable pub offset_each : ℕ → Codec (List (Option ℕ) × List (Option ℕ))
offset_each full = alternating (each 5 0 (λ i. pair (given (nat_lt i full) (field 4 any)) (λ _. given (nat_lt i full) (field 3 any))))

abbrev pub ParameterFields : Type 0
ParameterFields = Bool × (Option ℕ × (Option ℕ × (Option ℕ × (Option ℕ × Option ℕ))))

-- baie and what it sends
unfoldable pub parameters : Bool → Codec ParameterFields
parameters begun =
    pair (tested_bit (zero_where begun (NoReuse Baie))) (λ baie.  -- baie
    pair (given baie (field 2 any)) (λ _.  -- sdcycod
    pair (given baie (field 2 any)) (λ _.  -- fdcycod
    pair (given baie (field 2 any)) (λ _.  -- sgaincod
    pair (given baie (field 2 any)) (λ _.  -- dbpbcod
    given baie (field 3 any))))))  -- floorcod

abbrev pub OffsetFields : Type 0
OffsetFields = Bool × (Option ℕ × (Option ℕ × (Option ℕ × ((List (Option ℕ) × List (Option ℕ)) × (Option ℕ × Option ℕ)))))

-- snroffste and what it sends
unfoldable pub offsets : ℕ → Bool → Known → Coupling → Codec OffsetFields
offsets full low known c =
    pair (tested_bit (zero_where (known.begun && (not (is_some c.range) || known.offset)) (NoReuse Snroffste))) (λ snroffste.  -- snroffste
    pair (given snroffste (field 6 any)) (λ _.  -- csnroffst
    pair (given (snroffste && is_some c.range) (field 4 any)) (λ _.  -- cplfsnroffst
    pair (given (snroffste && is_some c.range) (field 3 any)) (λ _.  -- cplfgaincod
    pair (offset_each (if snroffste then full else 0)) (λ _.  -- fsnroffst, fgaincod
    pair (given (snroffste && low) (field 4 any)) (λ _.  -- lfefsnroffst
    given (snroffste && low) (field 3 any)))))))  -- lfefgaincod

abbrev pub LeakFields : Type 0
LeakFields = Option Bool × (Option ℕ × Option ℕ)

-- cplleake and what it sends
unfoldable pub leaks : Known → Coupling → Codec LeakFields
leaks known c =
    pair (given (is_some c.range) (tested_bit (zero_where known.leaks (NoReuse Cplleake)))) (λ cplleake.  -- cplleake
    pair (given (holds cplleake) (field 3 any)) (λ _.  -- cplfleak
    given (holds cplleake) (field 3 any)))  -- cplsleak

abbrev pub allocation_to : ParameterFields × (OffsetFields × LeakFields) → Allocation
allocation_to p = record {
  baie = p.0.0;
  sdcycod = p.0.1.0;
  fdcycod = p.0.1.1.0;
  sgaincod = p.0.1.1.1.0;
  dbpbcod = p.0.1.1.1.1.0;
  floorcod = p.0.1.1.1.1.1;
  snroffste = p.1.0.0;
  csnroffst = p.1.0.1.0;
  cplfsnroffst = p.1.0.1.1.0;
  cplfgaincod = p.1.0.1.1.1.0;
  fsnroffst = p.1.0.1.1.1.1.0.0;
  fgaincod = p.1.0.1.1.1.1.0.1;
  lfefsnroffst = p.1.0.1.1.1.1.1.0;
  lfefgaincod = p.1.0.1.1.1.1.1.1;
  cplleake = p.1.1.0;
  cplfleak = p.1.1.1.0;
  cplsleak = p.1.1.1.1;
}

abbrev pub parameters_of : Allocation → ParameterFields
parameters_of x = (x.baie, (x.sdcycod, (x.fdcycod, (x.sgaincod, (x.dbpbcod, x.floorcod)))))

abbrev pub offsets_of : Allocation → OffsetFields
offsets_of x = (x.snroffste, (x.csnroffst, (x.cplfsnroffst, (x.cplfgaincod, ((x.fsnroffst, x.fgaincod), (x.lfefsnroffst, x.lfefgaincod))))))

abbrev pub leaks_of : Allocation → LeakFields
leaks_of x = (x.cplleake, (x.cplfleak, x.cplsleak))

abbrev pub allocation_from : Allocation → ParameterFields × (OffsetFields × LeakFields)
allocation_from x = (parameters_of x, (offsets_of x, leaks_of x))

unfoldable pub allocation : ℕ → Bool → Known → Coupling → Codec Allocation
allocation full low known c = shaped allocation_to allocation_from (pair (parameters known.begun)
    (λ _. pair (offsets full low known c) (λ _. leaks known c)))

-- ---- the rest (A/52 5.4.3.47, 5.4.3.58, 5.4.3.59)

abbrev pub rest_to : Bool × (Bool × Option ℕ) → Rest
rest_to (a, (b, c)) = record { deltbaie = a; skiple = b; skipl = c }

abbrev pub rest_from : Rest → Bool × (Bool × Option ℕ)
rest_from x = (x.deltbaie, (x.skiple, x.skipl))

unfoldable pub rest : Codec Rest
rest = shaped rest_to rest_from (
    pair (tested_bit (one_where false Delta)) (λ _.  -- deltbaie
    pair flag (λ skiple.  -- skiple
    given skiple (field 9 any))))  -- skipl

-- ---- a block

-- the coupling that holds in a block with this strategy
abbrev pub coupling_now : Known → Strategy → Coupling
coupling_now known s = coupling_of (over s known.strategy)

abbrev pub GroupFields : Type 0
GroupFields = Start × (Strategy × (Shared × (Codes × (Exponents × (Allocation × Rest)))))

abbrev pub groups_to : GroupFields → Block
groups_to (a, (b, (c, (d, (e, (f, g)))))) = block_of a b c d e f g

abbrev pub groups_from : Block → GroupFields
groups_from b = (start_of b, (strategy_of b, (shared_of b, (codes_of b, (exponents_of b, (allocation_of b, rest_of b))))))

-- all fields of a block, where this is known of the blocks before
unfoldable pub block_rows : ℕ → Bool → Bool → Known → Codec Block
block_rows full stereo low known = shaped groups_to groups_from (
    pair (start full) (λ _.
    pair (strategy full stereo known.begun) (λ s.
    pair (shared known (coupling_now known s)) (λ _.
    pair (codes full stereo low known (coupling_now known s)) (λ k.
    pair (exponents full (coupling_now known s) k) (λ _.
    pair (allocation full low known (coupling_now known s)) (λ _.
    rest)))))))

-- all fields of a block behind these
unfoldable pub block_fields : Head → List Block → Codec Block
block_fields h earlier = block_rows (full_of h.acmod) (is_stereo h.acmod) h.lfeon (known_of earlier)

abbrev pub bits_skipped : Option ℕ → ℕ
bits_skipped None = 0
bits_skipped (Some n) = 8 * n

-- the skip bytes (A/52 5.4.3.60)
abbrev pub skip_bits : Block → ℕ
skip_bits b = bits_skipped b.skipl

-- a block and the bits of its skip bytes, which are free
unfoldable pub whole_block : Head → List Block → Codec (Block × List Bool)
whole_block h earlier = pair (block_fields h earlier) (λ b. free (skip_bits b))

-- blocks that a frame can have behind these, in their order
abbrev pub AreLawfulAfter : Head → List Block → List Block → Type 0
AreLawfulAfter h before [] = Unit {0}
AreLawfulAfter h before (b ∷ bs) = (block_fields h before).Lawful b × AreLawfulAfter h (before ++ b ∷ []) bs

-- the first blocks of a frame
abbrev pub AreLawful : Head → List Block → Type 0
AreLawful h blocks = AreLawfulAfter h [] blocks

-- ---- bounds, of which the bins of a channel are made

-- a coupling range of 4-bit codes that has a subband
abbrev pub HasSubbands : Option (ℕ × ℕ) → Type 0
HasSubbands range = ForSome range (λ p. (p.0 ≤ 15) × (p.1 ≤ 15) × (p.0 ≤ p.1 + 2))

-- strategies of 2 bits, and bandwidths that aren't reserved
pub record CodesFit (c : Coupling) (k : Codes) : Type 0 where
  pub shared : number k.cplexpstr ≤ 3
  pub used : 0 < number k.cplexpstr → is_some c.range ≡ true
  pub kinds : (i : ℕ) → i < 5 → slice_index k.chexpstr i ≤ 3
  pub widths : (i : ℕ) → i < 5 → number (entry k.chbwcod i) ≤ 60

-- cplbegf and cplendf are there both or not at all, and as a range they have a subband
pub record PairFits (cplbegf cplendf : Option ℕ) : Type 0 where
  pub both : is_some cplbegf ≡ is_some cplendf
  pub begin : number cplbegf ≤ 15
  pub end : number cplendf ≤ 15
  pub some : number cplbegf ≤ number cplendf + 2
