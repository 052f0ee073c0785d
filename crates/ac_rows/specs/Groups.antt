-- A block by groups of its fields.
use Rattle.std.specs.Prelude.{List}
use Rattle.ac_rows.specs.Blocks.{Block}
use Rattle.ac_rows.specs.declared.block.Block as rows
use Rattle.ac_rows.specs.declared.groups.Start.{Start}
use Rattle.ac_rows.specs.declared.groups.Strategy.{Strategy}
use Rattle.ac_rows.specs.declared.groups.Shared.{Shared}
use Rattle.ac_rows.specs.declared.groups.Codes.{Codes}
use Rattle.ac_rows.specs.declared.groups.Exponents.{Exponents}
use Rattle.ac_rows.specs.declared.groups.Allocation.{Allocation}
use Rattle.ac_rows.specs.declared.groups.Rest.{Rest}

abbrev pub start_of : Block → Start
start_of b = record { blksw = b.blksw; dithflag = b.dithflag; dynrnge = b.dynrnge; dynrng = b.dynrng }

abbrev pub strategy_of : Block → Strategy
strategy_of b = record {
  cplstre = b.cplstre;
  cplinu = b.cplinu;
  chincpl = b.chincpl;
  phsflginu = b.phsflginu;
  cplbegf = b.cplbegf;
  cplendf = b.cplendf;
  cplbndstrc = b.cplbndstrc;
}

abbrev pub shared_of : Block → Shared
shared_of b = record { cplcoe = b.cplcoe; mstrcplco = b.mstrcplco; cplcoexp = b.cplcoexp; cplcomant = b.cplcomant; phsflg = b.phsflg }

abbrev pub codes_of : Block → Codes
codes_of b = record {
  rematstr = b.rematstr;
  rematflg = b.rematflg;
  cplexpstr = b.cplexpstr;
  chexpstr = b.chexpstr;
  lfeexpstr = b.lfeexpstr;
  chbwcod = b.chbwcod;
}

abbrev pub exponents_of : Block → Exponents
exponents_of b = record { cplabsexp = b.cplabsexp; exps = b.exps; gainrng = b.gainrng; lfeexps = b.lfeexps }

abbrev pub allocation_of : Block → Allocation
allocation_of b = record {
  baie = b.baie;
  sdcycod = b.sdcycod;
  fdcycod = b.fdcycod;
  sgaincod = b.sgaincod;
  dbpbcod = b.dbpbcod;
  floorcod = b.floorcod;
  snroffste = b.snroffste;
  csnroffst = b.csnroffst;
  cplfsnroffst = b.cplfsnroffst;
  cplfgaincod = b.cplfgaincod;
  fsnroffst = b.fsnroffst;
  fgaincod = b.fgaincod;
  lfefsnroffst = b.lfefsnroffst;
  lfefgaincod = b.lfefgaincod;
  cplleake = b.cplleake;
  cplfleak = b.cplfleak;
  cplsleak = b.cplsleak;
}

abbrev pub rest_of : Block → Rest
rest_of b = record { deltbaie = b.deltbaie; skiple = b.skiple; skipl = b.skipl }

-- and back, whatever the numbers of coordinates are
abbrev pub block_with : {C : Type 0} → Start → Strategy → Shared → Codes → Exponents → Allocation → Rest → List (List C)
    → List (List C) → rows.Block C
block_with a b c d e f g exps mants = record {
  blksw = a.blksw;
  dithflag = a.dithflag;
  dynrnge = a.dynrnge;
  dynrng = a.dynrng;
  cplstre = b.cplstre;
  cplinu = b.cplinu;
  chincpl = b.chincpl;
  phsflginu = b.phsflginu;
  cplbegf = b.cplbegf;
  cplendf = b.cplendf;
  cplbndstrc = b.cplbndstrc;
  cplcoe = c.cplcoe;
  mstrcplco = c.mstrcplco;
  cplcoexp = exps;
  cplcomant = mants;
  phsflg = c.phsflg;
  rematstr = d.rematstr;
  rematflg = d.rematflg;
  cplexpstr = d.cplexpstr;
  chexpstr = d.chexpstr;
  lfeexpstr = d.lfeexpstr;
  chbwcod = d.chbwcod;
  cplabsexp = e.cplabsexp;
  exps = e.exps;
  gainrng = e.gainrng;
  lfeexps = e.lfeexps;
  baie = f.baie;
  sdcycod = f.sdcycod;
  fdcycod = f.fdcycod;
  sgaincod = f.sgaincod;
  dbpbcod = f.dbpbcod;
  floorcod = f.floorcod;
  snroffste = f.snroffste;
  csnroffst = f.csnroffst;
  cplfsnroffst = f.cplfsnroffst;
  cplfgaincod = f.cplfgaincod;
  fsnroffst = f.fsnroffst;
  fgaincod = f.fgaincod;
  lfefsnroffst = f.lfefsnroffst;
  lfefgaincod = f.lfefgaincod;
  cplleake = f.cplleake;
  cplfleak = f.cplfleak;
  cplsleak = f.cplsleak;
  deltbaie = g.deltbaie;
  skiple = g.skiple;
  skipl = g.skipl;
}

abbrev pub block_of : Start → Strategy → Shared → Codes → Exponents → Allocation → Rest → Block
block_of a b c d e f g = block_with a b c d e f g c.cplcoexp c.cplcomant
