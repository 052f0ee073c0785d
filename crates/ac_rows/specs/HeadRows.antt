-- The fields of a frame before block 0 (A/52 5.3.1, 5.3.2), a line for each.
use Rattle.std.specs.Prelude.{ℕ, ◌+◌, ◌*◌, ◌==◌, Bool, List, Option, Some, None, if◌then◌else◌}
use Rattle.ac_base.specs.Shape.{has_center, has_surround, is_stereo}
use Rattle.ac_codec.specs.declared.refused.Refused.{Refused}
use Rattle.ac_codec.specs.declared.refused.Refused.TheVariants.{BadSync, BadBsid, DualMono}
use Rattle.ac_codec.specs.declared.refused.Row.TheVariants.{Fscod, Frmsizecod}
use Rattle.ac_codec.specs.Codec.{Codec, field, any, below, flag, free, pair, shaped, given}
use Rattle.ac_rows.specs.declared.head.Head.{Head}
use Rattle.ac_rows.specs.declared.head_groups.Layout.{Layout}
use Rattle.ac_rows.specs.declared.head_groups.Service.{Service}

-- 0x0B77 alone (A/52 5.4.1.1)
abbrev pub sync_only : ℕ → Option Refused
sync_only v = if v == 0x0B77 then None else Some BadSync

-- the version of the syntax that this profile reads (A/52 5.4.2.1)
abbrev pub eight_only : ℕ → Option Refused
eight_only v = if v == 8 then None else Some (BadBsid v)

-- two programmes of one channel are left out by this project's profile (A/52 5.4.2.3)
abbrev pub no_dual : ℕ → Option Refused
no_dual v = if v == 0 then Some DualMono else None

abbrev pub LayoutFields : Type 0
LayoutFields = ℕ × (ℕ × (ℕ × (ℕ × (ℕ × (ℕ × (ℕ × (Option ℕ × (Option ℕ × (Option ℕ × (Bool × ℕ))))))))))

abbrev pub layout_to : LayoutFields → Layout
layout_to (a, (b, (c, (d, (e, (f, (g, (h, (i, (j, (k, l))))))))))) =
    record {
      syncword = a;
      crc1 = b;
      fscod = c;
      frmsizecod = d;
      bsid = e;
      bsmod = f;
      acmod = g;
      cmixlev = h;
      surmixlev = i;
      dsurmod = j;
      lfeon = k;
      dialnorm = l;
    }

abbrev pub layout_from : Layout → LayoutFields
layout_from x = (
  x.syncword,
  (
    x.crc1,
    (
      x.fscod,
      (
        x.frmsizecod,
        (
          x.bsid,
          (
            x.bsmod,
            (
              x.acmod,
              (
                x.cmixlev,
                (
                  x.surmixlev,
                  (x.dsurmod, (x.lfeon, x.dialnorm)),
                ),
              ),
            ),
          ),
        ),
      ),
    ),
  ),
)

unfoldable pub layout_rows : Codec LayoutFields
layout_rows =
    pair (field 16 sync_only) (λ _.  -- syncword
    pair (field 16 any) (λ _.  -- crc1
    pair (field 2 (below 3 Fscod)) (λ _.  -- fscod
    pair (field 6 (below 38 Frmsizecod)) (λ _.  -- frmsizecod
    pair (field 5 eight_only) (λ _.  -- bsid
    pair (field 3 any) (λ _.  -- bsmod
    pair (field 3 no_dual) (λ acmod.  -- acmod
    pair (given (has_center acmod) (field 2 any)) (λ _.  -- cmixlev
    pair (given (has_surround acmod) (field 2 any)) (λ _.  -- surmixlev
    pair (given (is_stereo acmod) (field 2 any)) (λ _.  -- dsurmod
    pair flag (λ _.  -- lfeon
    field 5 any)))))))))))  -- dialnorm

unfoldable pub layout : Codec Layout
layout = shaped layout_to layout_from layout_rows

abbrev pub ServiceFields : Type 0
ServiceFields = Bool × (Option ℕ × (Bool × (Option ℕ × (Bool × (Option ℕ × (Option ℕ × (Bool × (Bool × (Bool × (Option ℕ
    × (Bool × (Option ℕ × (Bool × Option ℕ)))))))))))))

abbrev pub service_to : ServiceFields → Service
service_to (a, (b, (c, (d, (e, (f, (g, (h, (i, (j, (k, (l, (m, (n, o)))))))))))))) =
    record {
      compre = a;
      compr = b;
      langcode = c;
      langcod = d;
      audprodie = e;
      mixlevel = f;
      roomtyp = g;
      copyrightb = h;
      origbs = i;
      timecod1e = j;
      timecod1 = k;
      timecod2e = l;
      timecod2 = m;
      addbsie = n;
      addbsil = o;
    }

abbrev pub service_from : Service → ServiceFields
service_from x = (
  x.compre,
  (
    x.compr,
    (
      x.langcode,
      (
        x.langcod,
        (
          x.audprodie,
          (
            x.mixlevel,
            (
              x.roomtyp,
              (
                x.copyrightb,
                (x.origbs, (x.timecod1e, (x.timecod1, (x.timecod2e, (x.timecod2, (x.addbsie, x.addbsil)))))),
              ),
            ),
          ),
        ),
      ),
    ),
  ),
)

unfoldable pub service_rows : Codec ServiceFields
service_rows =
    pair flag (λ compre.  -- compre
    pair (given compre (field 8 any)) (λ _.  -- compr
    pair flag (λ langcode.  -- langcode
    pair (given langcode (field 8 any)) (λ _.  -- langcod
    pair flag (λ audprodie.  -- audprodie
    pair (given audprodie (field 5 any)) (λ _.  -- mixlevel
    pair (given audprodie (field 2 any)) (λ _.  -- roomtyp
    pair flag (λ _.  -- copyrightb
    pair flag (λ _.  -- origbs
    pair flag (λ timecod1e.  -- timecod1e
    pair (given timecod1e (field 14 any)) (λ _.  -- timecod1
    pair flag (λ timecod2e.  -- timecod2e
    pair (given timecod2e (field 14 any)) (λ _.  -- timecod2
    pair flag (λ addbsie.  -- addbsie
    given addbsie (field 6 any)))))))))))))))  -- addbsil

unfoldable pub service : Codec Service
service = shaped service_to service_from service_rows

abbrev pub layout_of : Head → Layout
layout_of h = record {
  syncword = h.syncword;
  crc1 = h.crc1;
  fscod = h.fscod;
  frmsizecod = h.frmsizecod;
  bsid = h.bsid;
  bsmod = h.bsmod;
  acmod = h.acmod;
  cmixlev = h.cmixlev;
  surmixlev = h.surmixlev;
  dsurmod = h.dsurmod;
  lfeon = h.lfeon;
  dialnorm = h.dialnorm;
}

abbrev pub service_of : Head → Service
service_of h = record {
  compre = h.compre;
  compr = h.compr;
  langcode = h.langcode;
  langcod = h.langcod;
  audprodie = h.audprodie;
  mixlevel = h.mixlevel;
  roomtyp = h.roomtyp;
  copyrightb = h.copyrightb;
  origbs = h.origbs;
  timecod1e = h.timecod1e;
  timecod1 = h.timecod1;
  timecod2e = h.timecod2e;
  timecod2 = h.timecod2;
  addbsie = h.addbsie;
  addbsil = h.addbsil;
}

abbrev pub head_to : Layout × Service → Head
head_to p = record {
  syncword = p.0.syncword;
  crc1 = p.0.crc1;
  fscod = p.0.fscod;
  frmsizecod = p.0.frmsizecod;
  bsid = p.0.bsid;
  bsmod = p.0.bsmod;
  acmod = p.0.acmod;
  cmixlev = p.0.cmixlev;
  surmixlev = p.0.surmixlev;
  dsurmod = p.0.dsurmod;
  lfeon = p.0.lfeon;
  dialnorm = p.0.dialnorm;
  compre = p.1.compre;
  compr = p.1.compr;
  langcode = p.1.langcode;
  langcod = p.1.langcod;
  audprodie = p.1.audprodie;
  mixlevel = p.1.mixlevel;
  roomtyp = p.1.roomtyp;
  copyrightb = p.1.copyrightb;
  origbs = p.1.origbs;
  timecod1e = p.1.timecod1e;
  timecod1 = p.1.timecod1;
  timecod2e = p.1.timecod2e;
  timecod2 = p.1.timecod2;
  addbsie = p.1.addbsie;
  addbsil = p.1.addbsil;
}

abbrev pub head_from : Head → Layout × Service
head_from h = (layout_of h, service_of h)

-- all fields of a head
unfoldable pub head_fields : Codec Head
head_fields = shaped head_to head_from (pair layout (λ _. service))

-- addbsil says one less than the bytes of addbsi (A/52 5.4.2.30, 5.4.2.31)
abbrev pub extra_bits : Option ℕ → ℕ
extra_bits None = 0
extra_bits (Some n) = 8 * (n + 1)

abbrev pub addbsi_bits : Head → ℕ
addbsi_bits h = extra_bits h.addbsil

-- a head and the bits of addbsi, which are free
unfoldable pub whole_head : Codec (Head × List Bool)
whole_head = pair head_fields (λ h. free (addbsi_bits h))
