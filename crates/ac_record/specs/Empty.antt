-- A reading of nothing: 0, false and None everywhere.
use Rattle.std.specs.Prelude.{false, List, replicate, None}
use Rattle.ac_rows.specs.Blocks.{Block}
use Rattle.ac_rows.specs.declared.block.Block as rows
use Rattle.ac_rows.specs.declared.head.Head.{Head}
use Rattle.ac_record.specs.Frames.{FrameCodes}

abbrev pub empty_head : Head
empty_head = record {
  syncword = 0;
  crc1 = 0;
  fscod = 0;
  frmsizecod = 0;
  bsid = 0;
  bsmod = 0;
  acmod = 0;
  cmixlev = None;
  surmixlev = None;
  dsurmod = None;
  lfeon = false;
  dialnorm = 0;
  compre = false;
  compr = None;
  langcode = false;
  langcod = None;
  audprodie = false;
  mixlevel = None;
  roomtyp = None;
  copyrightb = false;
  origbs = false;
  timecod1e = false;
  timecod1 = None;
  timecod2e = false;
  timecod2 = None;
  addbsie = false;
  addbsil = None;
}

-- no field but these coordinates
abbrev pub block_with : {C : Type 0} → List (List C) → List (List C) → rows.Block C
block_with exps mants = record {
  blksw = replicate 5 false;
  dithflag = replicate 5 false;
  dynrnge = false;
  dynrng = None;
  cplstre = false;
  cplinu = None;
  chincpl = replicate 5 None;
  phsflginu = None;
  cplbegf = None;
  cplendf = None;
  cplbndstrc = replicate 18 None;
  cplcoe = replicate 5 None;
  mstrcplco = replicate 5 None;
  cplcoexp = exps;
  cplcomant = mants;
  phsflg = replicate 18 None;
  rematstr = None;
  rematflg = replicate 4 None;
  cplexpstr = None;
  chexpstr = replicate 5 0;
  lfeexpstr = None;
  chbwcod = replicate 5 None;
  cplabsexp = None;
  exps = replicate 5 None;
  gainrng = replicate 5 None;
  lfeexps = None;
  baie = false;
  sdcycod = None;
  fdcycod = None;
  sgaincod = None;
  dbpbcod = None;
  floorcod = None;
  snroffste = false;
  csnroffst = None;
  cplfsnroffst = None;
  cplfgaincod = None;
  fsnroffst = replicate 5 None;
  fgaincod = replicate 5 None;
  lfefsnroffst = None;
  lfefgaincod = None;
  cplleake = None;
  cplfleak = None;
  cplsleak = None;
  deltbaie = false;
  skiple = false;
  skipl = None;
}

abbrev pub empty_block : Block
empty_block = block_with (replicate 5 (replicate 18 None)) (replicate 5 (replicate 18 None))

abbrev pub empty_codes : FrameCodes
empty_codes = record {
  head = empty_head;
  block = replicate 6 empty_block;
  exps = replicate 7 (replicate 6 (replicate 256 0));
  baps = replicate 7 (replicate 6 (replicate 256 0));
  codes = replicate 7 (replicate 6 (replicate 256 0));
}
