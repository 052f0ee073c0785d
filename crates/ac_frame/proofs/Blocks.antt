-- The head, the blocks and the tail of a mono frame that carries no mantissas, by the rows of every layout and by those of the plain
-- frame: one list of bits.
use Rattle.std.proofs.Common.{◌≡◌, ℕ, zero, suc, ◌+◌, ◌*◌, ◌^◌, Bool, true, false, List, [], ◌∷◌, ◌++◌, append_assoc, replicate, Option, Some, None, refl, ap, sym, ◌∙◌, arith}
use Rattle.std.specs.Prelude.{is_some}
use Rattle.std.proofs.lemmas.List.{append-nil}
use Rattle.std.proofs.lemmas.Nat.{pow_pos}
use Rattle.ac_base.specs.Profile.{sent_sdcycod, sent_fdcycod, sent_sgaincod, sent_dbpbcod, sent_floorcod, sent_fgaincod}
use Rattle.ac_bits.specs.Bits.{bits, bit}
use Rattle.ac_bits.proofs.Laws.{bits-join}
use Rattle.ac_codec.specs.Codec.{field, tested_bit, absent, given, slot, pair, shaped, fitted, cons, cons_then, each, free}
use Rattle.ac_codec.specs.Lists.{spelled_each}
use Rattle.ac_expo.specs.Spelling.{Spelling}
use Rattle.ac_rows.specs.Blocks.{Block}
use Rattle.ac_rows.specs.Bits.{strategy_bits, shared_bits, codes_bits, exponents_bits, allocation_bits, block_bits}
use Rattle.ac_rows.specs.BlockRows.{clear_each, start, coupled_each, joined_each, strategy, alternating, coordinate_each, channel_shared, shared_each, phase_each, shared, rematrix_each, strategy_each, width_each, codes, offset_each, parameters, offsets, leaks, allocation, rest, bits_skipped}
use Rattle.ac_rows.specs.declared.head.Head.{Head}
use Rattle.ac_rows.specs.HeadRows.{layout, layout_rows, service, service_rows, head_fields, whole_head}
use Rattle.ac_rows.specs.Filled.{listed}
use Rattle.ac_rows.specs.Groups.{start_of, strategy_of, shared_of, codes_of, exponents_of, allocation_of, rest_of}
use Rattle.ac_rows.specs.Known.{known_of}
use Rattle.ac_frame.specs.Rows.{row, spell, group_rows}
use Rattle.ac_frame.specs.Plain.{head_rows, tail_rows, strategy_rows, allocation_rows, reuse_rows, skip_rows, first_block_rows, later_block_rows}
use Rattle.ac_frame.proofs.Spelling.{spell-append}

-- ---- the fields of such a block
abbrev one_there : {A : Type 0} → Option A → List (Option A)
one_there o = o ∷ None ∷ None ∷ None ∷ None ∷ []

-- block 0, and a later one: what block 0 sends is there where it is `first`
abbrev pub mono_fields : Bool → ℕ → Option ℕ → Option Spelling → Option ℕ → Option ℕ → (ℕ → Option ℕ) → Option ℕ → Block
mono_fields first code width exps gain zero_code sent skipl = record {
  blksw = replicate 5 false;
  dithflag = replicate 5 false;
  dynrnge = false;
  dynrng = None;
  cplstre = first;
  cplinu = elim first [ true ↦ Some false | false ↦ None ];
  chincpl = replicate 5 None;
  phsflginu = None;
  cplbegf = None;
  cplendf = None;
  cplbndstrc = replicate 18 None;
  cplcoe = replicate 5 None;
  mstrcplco = replicate 5 None;
  cplcoexp = replicate 5 (replicate 18 None);
  cplcomant = replicate 5 (replicate 18 None);
  phsflg = replicate 18 None;
  rematstr = None;
  rematflg = replicate 4 None;
  cplexpstr = None;
  chexpstr = code ∷ 0 ∷ 0 ∷ 0 ∷ 0 ∷ [];
  lfeexpstr = None;
  chbwcod = one_there width;
  cplabsexp = None;
  exps = one_there exps;
  gainrng = one_there gain;
  lfeexps = None;
  baie = first;
  sdcycod = sent sent_sdcycod;
  fdcycod = sent sent_fdcycod;
  sgaincod = sent sent_sgaincod;
  dbpbcod = sent sent_dbpbcod;
  floorcod = sent sent_floorcod;
  snroffste = first;
  csnroffst = zero_code;
  cplfsnroffst = None;
  cplfgaincod = None;
  fsnroffst = one_there zero_code;
  fgaincod = one_there (sent sent_fgaincod);
  lfefsnroffst = None;
  lfefgaincod = None;
  cplleake = None;
  cplfleak = None;
  cplsleak = None;
  deltbaie = false;
  skiple = is_some skipl;
  skipl = skipl;
}

abbrev pub first_fields : ℕ → Spelling → Block
first_fields bw s = mono_fields true 3 (Some bw) (Some s) (Some 0) (Some 0) (λ v. Some v) None

abbrev pub later_fields : Option ℕ → Block
later_fields skipl = mono_fields false 0 None None None None (λ v. None) skipl

-- ---- groups of exponents
pub groups_spelled : (groups : List ℕ) → spell (group_rows groups) ≡ spelled_each (λ g. bits g 7) groups
unfolding spell group_rows
groups_spelled [] = refl
groups_spelled (g ∷ groups) = ap (λ l. bits g 7 ++ l) (groups_spelled groups)

-- ---- block 0
-- what stands behind gainrng
behind : ℕ → Spelling → List Bool
behind bw s = allocation_bits (allocation_of (first_fields bw s)) ++ rest.spell (rest_of (first_fields bw s))

-- with gainrng in front, it is the allocation's rows
behind_is : (bw : ℕ) (s : Spelling) → false ∷ false ∷ behind bw s ≡ spell allocation_rows
unfolding behind spell allocation_rows bits allocation parameters offsets leaks offset_each alternating fitted pair shaped given field tested_bit each cons absent rest
behind_is bw s = refl

gathered : (g r : List Bool) → (((g ++ (false ∷ false ∷ [])) ++ []) ++ []) ++ r ≡ g ++ (false ∷ false ∷ r)
gathered g r =
    ap (λ l. l ++ r) (append-nil ((g ++ (false ∷ false ∷ [])) ++ []) ∙ append-nil (g ++ (false ∷ false ∷ []))) ∙ append_assoc g (false ∷ false ∷ []) r

-- the exponents with gainrng and what stands behind them
middle_is : (bw : ℕ) (s : Spelling) → exponents_bits (exponents_of (first_fields bw s)) ++ behind bw s
    ≡ bits s.first 4 ++ ((((spelled_each (λ g. bits g 7) s.groups ++ (false ∷ false ∷ [])) ++ []) ++ []) ++ behind bw s)
unfolding bits
middle_is bw s = refl

-- what stands before them
front_is : (bw : ℕ) (s : Spelling) (l : List Bool) → (start 1).spell (start_of (first_fields bw s)) ++ (strategy_bits (strategy_of (first_fields bw s)) ++ (shared_bits (shared_of (first_fields bw s)) ++ (codes_bits 1 (codes_of (first_fields bw s)) ++ (bits s.first 4 ++ l))))
    ≡ spell (strategy_rows bw s.first) ++ l
unfolding start clear_each slot strategy coupled_each joined_each cons_then shared shared_each channel_shared coordinate_each phase_each codes rematrix_each strategy_each width_each known_of listed alternating fitted pair shaped given field tested_bit each cons absent bits spell strategy_rows
front_is bw s l = refl

pub first_spelled : (bw : ℕ) (s : Spelling) → block_bits 1 (first_fields bw s) ≡ spell (first_block_rows bw s.first s.groups)
unfolding behind
first_spelled bw s =
    let d = first_fields bw s in
    let groups = spelled_each (λ g. bits g 7) s.groups in
    let front : List Bool → List Bool = λ l. (start 1).spell (start_of d) ++ (strategy_bits (strategy_of d) ++ (shared_bits (shared_of d) ++ (codes_bits 1 (codes_of d) ++ l))) in
    let rows = group_rows s.groups ++ allocation_rows in
    ap front (middle_is bw s ∙ ap (λ l. bits s.first 4 ++ l) (gathered groups (behind bw s)))
    ∙ (front_is bw s (groups ++ (false ∷ false ∷ behind bw s))
    ∙ (ap (λ l. spell (strategy_rows bw s.first) ++ l) (ap (λ l. groups ++ l) (behind_is bw s) ∙ (ap (λ l. l ++ spell allocation_rows) (sym (groups_spelled s.groups)) ∙ sym (spell-append (group_rows s.groups) allocation_rows)))
    ∙ sym (spell-append (strategy_rows bw s.first) rows)))

-- ---- a later block
zeros-join : (n m : ℕ) → bits 0 n ++ bits 0 m ≡ bits 0 (n + m)
zeros-join n m =
    let none : 0 * 2 ^ m + 0 ≡ 0 = omega arith in
    sym (bits-join 0 n m 0 (pow_pos m)) ∙ ap (λ v. bits v (n + m)) none

-- n times 0, as a number
pub zeros_are : (n : ℕ) → replicate n false ≡ bits 0 n
unfolding bits
zeros_are zero = refl
zeros_are (suc n) =
    let more : 1 + n ≡ suc n = omega arith in
    ap (λ l. false ∷ l) (zeros_are n) ∙ zeros-join 1 n ∙ ap (bits 0) more

later_none : block_bits 1 (later_fields None) ≡ spell (later_block_rows None)
unfolding start clear_each slot strategy coupled_each joined_each cons_then shared shared_each channel_shared coordinate_each phase_each codes rematrix_each strategy_each width_each allocation parameters offsets leaks offset_each rest known_of listed alternating fitted pair shaped given field tested_bit each cons absent bits spell reuse_rows skip_rows
later_none = refl

later_some : (k : ℕ) (l : List Bool) → block_bits 1 (later_fields (Some k)) ++ l ≡ spell (reuse_rows ++ (row 1 1 ∷ row k 9 ∷ [])) ++ l
unfolding start clear_each slot strategy coupled_each joined_each cons_then shared shared_each channel_shared coordinate_each phase_each codes rematrix_each strategy_each width_each allocation parameters offsets leaks offset_each rest known_of listed alternating fitted pair shaped given field tested_bit each cons absent bits spell reuse_rows
later_some k l = refl

skip_some : (k : ℕ) → spell (later_block_rows (Some k)) ≡ spell (reuse_rows ++ (row 1 1 ∷ row k 9 ∷ [])) ++ (bits 0 (8 * k) ++ [])
unfolding spell reuse_rows skip_rows bits
skip_some k = refl

-- with its skip bytes
pub later_spelled : (o : Option ℕ) → block_bits 1 (later_fields o) ++ replicate (bits_skipped o) false ≡ spell (later_block_rows o)
later_spelled None = append-nil (block_bits 1 (later_fields None)) ∙ later_none
later_spelled (Some k) =
    let rows = spell (reuse_rows ++ (row 1 1 ∷ row k 9 ∷ [])) in
    later_some k (replicate (8 * k) false) ∙ (ap (λ l. rows ++ l) (zeros_are (8 * k) ∙ sym (append-nil (bits 0 (8 * k)))) ∙ sym (skip_some k))

-- ---- the head
abbrev pub mono_head : ℕ → ℕ → ℕ → Head
mono_head fscod frmsizecod crc1 = record {
  syncword = 0x0B77;
  crc1 = crc1;
  fscod = fscod;
  frmsizecod = frmsizecod;
  bsid = 8;
  bsmod = 0;
  acmod = 1;
  cmixlev = None;
  surmixlev = None;
  dsurmod = None;
  lfeon = false;
  dialnorm = 31;
  compre = false;
  compr = None;
  langcode = false;
  langcod = None;
  audprodie = false;
  mixlevel = None;
  roomtyp = None;
  copyrightb = false;
  origbs = true;
  timecod1e = false;
  timecod1 = None;
  timecod2e = false;
  timecod2 = None;
  addbsie = false;
  addbsil = None;
}

pub head_spelled : (fscod frmsizecod crc1 : ℕ) → whole_head.spell (mono_head fscod frmsizecod crc1, []) ≡ bits 0x0B77 16 ++ (bits crc1 16 ++ spell (head_rows fscod frmsizecod))
unfolding whole_head head_fields layout layout_rows service service_rows free pair shaped given field tested_bit spell head_rows bits
head_spelled fscod code crc1 = refl

-- ---- what stands behind block 5
pub tail_spelled : (aux : ℕ) (crcrsv : Bool) (l : List Bool) → replicate aux false ++ (false ∷ crcrsv ∷ l) ≡ spell (tail_rows aux (bit crcrsv)) ++ l
unfolding spell tail_rows bits
tail_spelled aux true l = ap (λ x. x ++ (false ∷ true ∷ l)) (zeros_are aux) ∙ sym (append_assoc (bits 0 aux) (false ∷ true ∷ []) l)
tail_spelled aux false l = ap (λ x. x ++ (false ∷ false ∷ l)) (zeros_are aux) ∙ sym (append_assoc (bits 0 aux) (false ∷ false ∷ []) l)
