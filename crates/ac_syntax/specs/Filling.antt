-- A filled block from what earlier blocks have last: this project's own way to it.
use Rattle.std.specs.Prelude.{Bool, ◌&&◌, nat_lt, nat_le, is_some, if◌then◌else◌, [], Option, Some, None, slice_index_or}
use Rattle.std.specs.Option.{option_or}
use Rattle.ac_base.specs.Shape.{full_of, is_stereo, subbands, rematrix_bands}
use Rattle.ac_rows.specs.Blocks.{Block}
use Rattle.ac_rows.specs.declared.head.Head.{Head}
use Rattle.ac_rows.specs.declared.groups.Coupling.{Coupling}
use Rattle.ac_rows.specs.Filled.{entry, holds, listed, channel_coupled}

-- its own value, or else the one kept where it is needed
abbrev pub or_if : {A : Type 0} → Bool → Option A → Option A → Option A
or_if there own kept = if there then option_or own kept else own

-- the block b with this coupling, filled by what was kept
abbrev pub filled_by : Head → Coupling → Block → Block → Block
filled_by h c k b =
    let full = full_of h.acmod in
    let stereo = is_stereo h.acmod in
    let used = is_some c.range in
    record b {
      cplinu = option_or b.cplinu k.cplinu;
      chincpl = listed 5 0 (λ i. or_if (used && nat_lt i full) (entry b.chincpl i) (entry k.chincpl i));
      phsflginu = or_if (used && stereo) b.phsflginu k.phsflginu;
      cplbegf = or_if used b.cplbegf k.cplbegf;
      cplendf = or_if used b.cplendf k.cplendf;
      cplbndstrc = listed 18 0 (λ j. or_if (nat_le 1 j && nat_lt j (subbands c.range)) (entry b.cplbndstrc j) (entry k.cplbndstrc j));
      mstrcplco = listed 5 0 (λ i. or_if (channel_coupled c i) (entry b.mstrcplco i) (entry k.mstrcplco i));
      cplcoexp = listed 5 0 (λ i. listed 18 0 (λ j. or_if (channel_coupled c i
          && nat_lt j c.bands) (entry (slice_index_or b.cplcoexp i []) j) (entry (slice_index_or k.cplcoexp i []) j)));
      cplcomant = listed 5 0 (λ i. listed 18 0 (λ j. or_if (channel_coupled c i
          && nat_lt j c.bands) (entry (slice_index_or b.cplcomant i []) j) (entry (slice_index_or k.cplcomant i []) j)));
      phsflg = listed 18 0 (λ j. if stereo && nat_lt j c.bands
          then Some (c.phases && holds (option_or (entry b.phsflg j) (entry k.phsflg j))) else None);
      rematflg = listed 4 0 (λ j. if stereo && nat_lt j (rematrix_bands c.range)
          then Some (holds (option_or (entry b.rematflg j) (entry k.rematflg j))) else None);
      chbwcod = listed 5 0 (λ i. if channel_coupled c i then None else or_if (nat_lt i full) (entry b.chbwcod i) (entry k.chbwcod i));
      cplabsexp = or_if used b.cplabsexp k.cplabsexp;
      exps = listed 5 0 (λ i. or_if (nat_lt i full) (entry b.exps i) (entry k.exps i));
      lfeexps = or_if h.lfeon b.lfeexps k.lfeexps;
      sdcycod = option_or b.sdcycod k.sdcycod;
      fdcycod = option_or b.fdcycod k.fdcycod;
      sgaincod = option_or b.sgaincod k.sgaincod;
      dbpbcod = option_or b.dbpbcod k.dbpbcod;
      floorcod = option_or b.floorcod k.floorcod;
      csnroffst = option_or b.csnroffst k.csnroffst;
      cplfsnroffst = or_if used b.cplfsnroffst k.cplfsnroffst;
      cplfgaincod = or_if used b.cplfgaincod k.cplfgaincod;
      fsnroffst = listed 5 0 (λ i. or_if (nat_lt i full) (entry b.fsnroffst i) (entry k.fsnroffst i));
      fgaincod = listed 5 0 (λ i. or_if (nat_lt i full) (entry b.fgaincod i) (entry k.fgaincod i));
      lfefsnroffst = or_if h.lfeon b.lfefsnroffst k.lfefsnroffst;
      lfefgaincod = or_if h.lfeon b.lfefgaincod k.lfefgaincod;
      cplfleak = or_if used b.cplfleak k.cplfleak;
      cplsleak = or_if used b.cplsleak k.cplsleak;
    }
