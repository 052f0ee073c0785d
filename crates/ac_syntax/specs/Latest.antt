-- The latest value of each field that may be reused (A/52 5.4.3), as one block: what none of the blocks has is not there.
use Rattle.std.specs.Prelude.{List, slice_index_or, []}
use Rattle.std.specs.Option.{option_or}
use Rattle.ac_rows.specs.Blocks.{Block}
use Rattle.ac_rows.specs.Filled.{entry, listed, latest}

-- the values kept so far, under those of one block more: its own where it has them

abbrev pub over : Block → Block → Block
over b kept = record {
  blksw = kept.blksw;
  dithflag = kept.dithflag;
  dynrnge = kept.dynrnge;
  dynrng = kept.dynrng;
  cplstre = kept.cplstre;
  cplinu = option_or b.cplinu kept.cplinu;
  chincpl = listed 5 0 (λ i. option_or (entry b.chincpl i) (entry kept.chincpl i));
  phsflginu = option_or b.phsflginu kept.phsflginu;
  cplbegf = option_or b.cplbegf kept.cplbegf;
  cplendf = option_or b.cplendf kept.cplendf;
  cplbndstrc = listed 18 0 (λ k. option_or (entry b.cplbndstrc k) (entry kept.cplbndstrc k));
  cplcoe = kept.cplcoe;
  mstrcplco = listed 5 0 (λ i. option_or (entry b.mstrcplco i) (entry kept.mstrcplco i));
  cplcoexp = listed 5 0 (λ i. listed 18 0 (λ k. option_or (entry (slice_index_or b.cplcoexp i []) k) (entry
      (slice_index_or kept.cplcoexp i []) k)));
  cplcomant = listed 5 0 (λ i. listed 18 0
      (λ k. option_or (entry (slice_index_or b.cplcomant i []) k) (entry (slice_index_or kept.cplcomant i []) k)));
  phsflg = listed 18 0 (λ k. option_or (entry b.phsflg k) (entry kept.phsflg k));
  rematstr = kept.rematstr;
  rematflg = listed 4 0 (λ k. option_or (entry b.rematflg k) (entry kept.rematflg k));
  cplexpstr = kept.cplexpstr;
  chexpstr = kept.chexpstr;
  lfeexpstr = kept.lfeexpstr;
  chbwcod = listed 5 0 (λ i. option_or (entry b.chbwcod i) (entry kept.chbwcod i));
  cplabsexp = option_or b.cplabsexp kept.cplabsexp;
  exps = listed 5 0 (λ i. option_or (entry b.exps i) (entry kept.exps i));
  gainrng = kept.gainrng;
  lfeexps = option_or b.lfeexps kept.lfeexps;
  baie = kept.baie;
  sdcycod = option_or b.sdcycod kept.sdcycod;
  fdcycod = option_or b.fdcycod kept.fdcycod;
  sgaincod = option_or b.sgaincod kept.sgaincod;
  dbpbcod = option_or b.dbpbcod kept.dbpbcod;
  floorcod = option_or b.floorcod kept.floorcod;
  snroffste = kept.snroffste;
  csnroffst = option_or b.csnroffst kept.csnroffst;
  cplfsnroffst = option_or b.cplfsnroffst kept.cplfsnroffst;
  cplfgaincod = option_or b.cplfgaincod kept.cplfgaincod;
  fsnroffst = listed 5 0 (λ i. option_or (entry b.fsnroffst i) (entry kept.fsnroffst i));
  fgaincod = listed 5 0 (λ i. option_or (entry b.fgaincod i) (entry kept.fgaincod i));
  lfefsnroffst = option_or b.lfefsnroffst kept.lfefsnroffst;
  lfefgaincod = option_or b.lfefgaincod kept.lfefgaincod;
  cplleake = kept.cplleake;
  cplfleak = option_or b.cplfleak kept.cplfleak;
  cplsleak = option_or b.cplsleak kept.cplsleak;
  deltbaie = kept.deltbaie;
  skiple = kept.skiple;
  skipl = kept.skipl;
}

-- what these blocks have last; of the fields that aren't reused it has those of the block b
unfoldable pub latest_block : Block → List Block → Block
latest_block b blocks = record {
  blksw = b.blksw;
  dithflag = b.dithflag;
  dynrnge = b.dynrnge;
  dynrng = b.dynrng;
  cplstre = b.cplstre;
  cplinu = latest (λ d. d.cplinu) blocks;
  chincpl = listed 5 0 (λ i. latest (λ d. entry d.chincpl i) blocks);
  phsflginu = latest (λ d. d.phsflginu) blocks;
  cplbegf = latest (λ d. d.cplbegf) blocks;
  cplendf = latest (λ d. d.cplendf) blocks;
  cplbndstrc = listed 18 0 (λ k. latest (λ d. entry d.cplbndstrc k) blocks);
  cplcoe = b.cplcoe;
  mstrcplco = listed 5 0 (λ i. latest (λ d. entry d.mstrcplco i) blocks);
  cplcoexp = listed 5 0 (λ i. listed 18 0 (λ k. latest (λ d. entry (slice_index_or d.cplcoexp i []) k) blocks));
  cplcomant = listed 5 0 (λ i. listed 18 0 (λ k. latest (λ d. entry (slice_index_or d.cplcomant i []) k) blocks));
  phsflg = listed 18 0 (λ k. latest (λ d. entry d.phsflg k) blocks);
  rematstr = b.rematstr;
  rematflg = listed 4 0 (λ k. latest (λ d. entry d.rematflg k) blocks);
  cplexpstr = b.cplexpstr;
  chexpstr = b.chexpstr;
  lfeexpstr = b.lfeexpstr;
  chbwcod = listed 5 0 (λ i. latest (λ d. entry d.chbwcod i) blocks);
  cplabsexp = latest (λ d. d.cplabsexp) blocks;
  exps = listed 5 0 (λ i. latest (λ d. entry d.exps i) blocks);
  gainrng = b.gainrng;
  lfeexps = latest (λ d. d.lfeexps) blocks;
  baie = b.baie;
  sdcycod = latest (λ d. d.sdcycod) blocks;
  fdcycod = latest (λ d. d.fdcycod) blocks;
  sgaincod = latest (λ d. d.sgaincod) blocks;
  dbpbcod = latest (λ d. d.dbpbcod) blocks;
  floorcod = latest (λ d. d.floorcod) blocks;
  snroffste = b.snroffste;
  csnroffst = latest (λ d. d.csnroffst) blocks;
  cplfsnroffst = latest (λ d. d.cplfsnroffst) blocks;
  cplfgaincod = latest (λ d. d.cplfgaincod) blocks;
  fsnroffst = listed 5 0 (λ i. latest (λ d. entry d.fsnroffst i) blocks);
  fgaincod = listed 5 0 (λ i. latest (λ d. entry d.fgaincod i) blocks);
  lfefsnroffst = latest (λ d. d.lfefsnroffst) blocks;
  lfefgaincod = latest (λ d. d.lfefgaincod) blocks;
  cplleake = b.cplleake;
  cplfleak = latest (λ d. d.cplfleak) blocks;
  cplsleak = latest (λ d. d.cplsleak) blocks;
  deltbaie = b.deltbaie;
  skiple = b.skiple;
  skipl = b.skipl;
}
