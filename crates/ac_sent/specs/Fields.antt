-- The fields that this encoder sends: which values stand in them is this project's profile. Block 0 sends each strategy, coordinate,
-- flag and parameter, and the blocks behind it keep them; exponents go by the strategy codes (A/52 5.3, 5.4).
use Rattle.std.specs.Prelude.{ℕ, ◌/◌, ◌%◌, ◌&&◌, ◌==◌, not, nat_lt, nat_le, is_some, Bool, true, false, if◌then◌else◌, List, [], replicate, Option, Some, None, slice_index, slice_index_or}
use Rattle.ac_base.specs.declared.shapes.Shape.{Shape}
use Rattle.ac_base.specs.Profile.{sent_sdcycod, sent_fdcycod, sent_sgaincod, sent_dbpbcod, sent_floorcod, sent_fgaincod, sent_cplfleak, sent_cplsleak}
use Rattle.ac_base.specs.Shape.{full_of, is_stereo, has_center, has_surround, subbands, rematrix_bands, coded_of}
use Rattle.ac_base.specs.Words.{word_of}
use Rattle.ac_alloc.specs.Codes.{encoder_params}
use Rattle.ac_alloc.specs.Pointers.{pointer}
use Rattle.ac_base.specs.Fit.{parts_of}
use Rattle.ac_base.specs.declared.sizes.Parts.{Parts}
use Rattle.ac_expo.specs.Groups.{spelled_of}
use Rattle.ac_expo.specs.Raw.{channel_span}
use Rattle.ac_expo.specs.Spelling.{Spelling}
use Rattle.ac_coordinates.specs.declared.Coordinate.{Coordinate}
use Rattle.ac_rows.specs.Blocks.{Block}
use Rattle.ac_rows.specs.declared.head.Head.{Head}
use Rattle.ac_rows.specs.Filled.{listed}
use Rattle.ac_sent.specs.Values.{Quantised}
use Rattle.ac_sent.specs.Padding.{skip, to_skip}

-- a value that is there where the test holds
abbrev pub when : {A : Type 0} → Bool → A → Option A
when there a = if there then Some a else None

-- ---- the head (A/52 5.3.1, 5.3.2)

abbrev pub sent_head : Shape → ℕ → ℕ → Head
sent_head shape frmsizecod crc1 = record {
  syncword = 0x0B77;
  crc1 = crc1;
  fscod = shape.fscod;
  frmsizecod = frmsizecod;
  bsid = 8;
  bsmod = 0;
  acmod = shape.acmod;
  cmixlev = when (has_center shape.acmod) 0;
  surmixlev = when (has_surround shape.acmod) 0;
  dsurmod = when (is_stereo shape.acmod) 0;
  lfeon = shape.lfe;
  dialnorm = 31;
  compre = false;
  compr = None;
  langcode = false;
  langcod = None;
  audprodie = false;
  mixlevel = None;
  roomtyp = None;
  copyrightb = false;
  origbs = true;
  timecod1e = false;
  timecod1 = None;
  timecod2e = false;
  timecod2 = None;
  addbsie = false;
  addbsil = None;
}

-- ---- what is handed in, by coded channel and block

-- the strategy code (A/52 5.4.3.21 to 5.4.3.23)
abbrev pub code_at : Quantised → ℕ → ℕ → ℕ
code_at q c b = slice_index (word_of q.assign.w c) b

-- the exponents by bin
abbrev pub exponents_at : Quantised → ℕ → ℕ → List ℕ
exponents_at q c b = slice_index_or (slice_index_or q.exps c []) b []

-- the exponents in groups, where the block sends any (A/52 7.1.3)
abbrev pub spelling_at : Quantised → ℕ → ℕ → Option Spelling
spelling_at q c b =
    when (nat_lt 0 (code_at q c b)) (spelled_of (code_at q c b) (channel_span q.shape c) (exponents_at q c b))

-- the bit allocation pointer of a bin (A/52 7.2.2.7); at offset 0 all SNR offset codes are 0
abbrev pub pointer_at : Quantised → ℕ → ℕ → ℕ → ℕ
pointer_at q c b k =
    pointer (q.t == 0) (encoder_params q.shape.fscod q.shape.sampling) (channel_span q.shape c) (exponents_at q c b) k q.t

-- the bits of the parts of the frame
abbrev pub parts_at : Quantised → Parts
parts_at q = parts_of q.shape.acmod q.shape.lfe q.shape.bw q.shape.couple q.assign.w (pointer_at q)

-- LFE's number among the coded channels
abbrev pub low_number : Shape → ℕ
low_number shape = coded_of shape.acmod false shape.couple

-- the coordinate of a full channel in a band
abbrev pub coordinate_at : Quantised → ℕ → ℕ → Coordinate
coordinate_at q i k = slice_index_or (slice_index_or q.coords.of i []) k (record { exp = 0; mant = 0 })

-- the flag of a rematrix band
abbrev pub rematrixed : Quantised → ℕ → Bool
rematrixed q k = slice_index_or q.remat k false

-- skipl of a block, by this project's padding: blocks 5 to 1 are filled in this order
abbrev pub skip_at : Quantised → ℕ → Option ℕ
skip_at q b = if b == 0 then None else skip (to_skip q.shape.words (parts_at q).total (parts_at q).last) b

abbrev pub begin_code : Option (ℕ × ℕ) → ℕ
begin_code None = 0
begin_code (Some p) = p.0

abbrev pub end_code : Option (ℕ × ℕ) → ℕ
end_code None = 0
end_code (Some p) = p.1

-- ---- a block (A/52 5.3.3)

-- the fields of block b, as those of block 0 or of a later one, with this skipl
unfoldable pub sent_fields : Quantised → Bool → ℕ → Option ℕ → Block
sent_fields q first b skipl =
    let full = full_of q.shape.acmod in
    let stereo = is_stereo q.shape.acmod in
    let coupled = is_some q.shape.couple in
    let bands = subbands q.shape.couple in
    record {
      blksw = replicate 5 false;
      dithflag = replicate 5 false;
      dynrnge = false;
      dynrng = None;
      cplstre = first;
      cplinu = when first coupled;
      chincpl = listed 5 0 (λ i. when (first && coupled && nat_lt i full) true);
      phsflginu = when (first && coupled && stereo) false;
      cplbegf = when (first && coupled) (begin_code q.shape.couple);
      cplendf = when (first && coupled) (end_code q.shape.couple);
      cplbndstrc = listed 18 0 (λ k. when (first && nat_le 1 k && nat_lt k bands) false);
      cplcoe = listed 5 0 (λ i. when (coupled && nat_lt i full) first);
      mstrcplco = listed 5 0 (λ i. when (first && coupled && nat_lt i full) 0);
      cplcoexp = listed 5 0 (λ i. listed 18 0 (λ k. when (first && nat_lt i full && nat_lt k bands) (coordinate_at q i k).exp));
      cplcomant = listed 5 0 (λ i. listed 18 0 (λ k. when (first && nat_lt i full && nat_lt k bands) (coordinate_at q i k).mant));
      phsflg = replicate 18 None;
      rematstr = when stereo first;
      rematflg = listed 4 0 (λ k. when (first && stereo && nat_lt k (rematrix_bands q.shape.couple)) (rematrixed q k));
      cplexpstr = when coupled (code_at q full b);
      chexpstr = listed 5 0 (λ i. if nat_lt i full then code_at q i b else 0);
      lfeexpstr = when q.shape.lfe (nat_lt 0 (code_at q (low_number q.shape) b));
      chbwcod = listed 5 0 (λ i. when (nat_lt i full && not coupled && nat_lt 0 (code_at q i b)) q.shape.bw);
      cplabsexp = if coupled then spelling_at q full b else None;
      exps = listed 5 0 (λ i. if nat_lt i full then spelling_at q i b else None);
      gainrng = listed 5 0 (λ i. when (nat_lt i full && nat_lt 0 (code_at q i b)) 0);
      lfeexps = if q.shape.lfe then spelling_at q (low_number q.shape) b else None;
      baie = first;
      sdcycod = when first sent_sdcycod;
      fdcycod = when first sent_fdcycod;
      sgaincod = when first sent_sgaincod;
      dbpbcod = when first sent_dbpbcod;
      floorcod = when first sent_floorcod;
      snroffste = first;
      csnroffst = when first (q.t / 16);
      cplfsnroffst = when (first && coupled) (q.t % 16);
      cplfgaincod = when (first && coupled) sent_fgaincod;
      fsnroffst = listed 5 0 (λ i. when (first && nat_lt i full) (q.t % 16));
      fgaincod = listed 5 0 (λ i. when (first && nat_lt i full) sent_fgaincod);
      lfefsnroffst = when (first && q.shape.lfe) (q.t % 16);
      lfefgaincod = when (first && q.shape.lfe) sent_fgaincod;
      cplleake = when coupled first;
      cplfleak = when (first && coupled) sent_cplfleak;
      cplsleak = when (first && coupled) sent_cplsleak;
      deltbaie = false;
      skiple = is_some skipl;
      skipl = skipl;
    }

unfoldable pub sent_block : Quantised → ℕ → Block
sent_block q b = sent_fields q (b == 0) b (skip_at q b)
