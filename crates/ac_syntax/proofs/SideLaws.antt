-- The rows as this encoder fills them have the widths of the side bits.
use Rattle.std.proofs.Common.{◌≡◌, ℕ, ◌+◌, Bool, false, [], ◌∷◌, ◌++◌, length, Option, ap, ◌∙◌, arith}
use Rattle.std.specs.Prelude.{is_some}
use Rattle.ac_bits.specs.Bits.{bits}
use Rattle.ac_bits.proofs.Laws.{length-bits}
use Rattle.ac_base.specs.Shape.{is_stereo, has_center, has_surround}
use Rattle.ac_base.specs.SideBits.{when}
use Rattle.ac_codec.specs.Codec.{field, tested_bit, given, some_spell, pair, shaped}
use Rattle.ac_rows.specs.declared.head_groups.Layout.{Layout}
use Rattle.ac_rows.specs.declared.head_groups.Service.{Service}
use Rattle.ac_rows.specs.HeadRows.{layout, layout_rows, service, service_rows, head_fields, layout_of, service_of}
use Rattle.ac_syntax.specs.Sent.{HeadIsSide}
use Rattle.ac_syntax.proofs.Widths.{number_width, l2, l4, l6, l7}

-- ---- a head
nothing_there : (w : ℕ) (there : Bool) (o : Option ℕ) → is_some o ≡ there → there ≡ false → length (some_spell (λ v. bits v w) o) ≡ 0
nothing_there w there o e f = number_width there w o e ∙ ap (λ b. when b w) f

service_width : (x : Service) → service.Lawful x → x.compre ≡ false → x.langcode ≡ false → x.audprodie ≡ false → x.timecod1e ≡ false
    → x.timecod2e ≡ false → x.addbsie ≡ false → length (service.spell x) ≡ 8
unfolding service service_rows shaped pair given field tested_bit
service_width x l a b c d e f =
    let n1 = nothing_there 8 x.compre x.compr l.1.0.0 a in
    let n2 = nothing_there 8 x.langcode x.langcod l.1.1.1.0.0 b in
    let n3 = nothing_there 5 x.audprodie x.mixlevel l.1.1.1.1.1.0.0 c in
    let n4 = nothing_there 2 x.audprodie x.roomtyp l.1.1.1.1.1.1.0.0 c in
    let n5 = nothing_there 14 x.timecod1e x.timecod1 l.1.1.1.1.1.1.1.1.1.1.0.0 d in
    let n6 = nothing_there 14 x.timecod2e x.timecod2 l.1.1.1.1.1.1.1.1.1.1.1.1.0.0 e in
    let n7 = nothing_there 6 x.addbsie x.addbsil l.1.1.1.1.1.1.1.1.1.1.1.1.1.1.0 f in
    let t3 =
    some_spell (λ v. bits v 14) x.timecod1 ++ (x.timecod2e ∷ []
    ++ (some_spell (λ v. bits v 14) x.timecod2 ++ (x.addbsie ∷ [] ++ some_spell (λ v. bits v 6) x.addbsil))) in
    let t2 =
    some_spell (λ v. bits v 5) x.mixlevel ++ (some_spell (λ v. bits v 2) x.roomtyp
    ++ (x.copyrightb ∷ [] ++ (x.origbs ∷ [] ++ (x.timecod1e ∷ [] ++ t3)))) in
    let s1 =
    l6 (x.compre ∷ []) (some_spell (λ v. bits v 8) x.compr) (x.langcode ∷ []) (some_spell (λ v. bits v 8) x.langcod) (x.audprodie ∷ [])
    t2 in
    let s2 =
    l6 (some_spell (λ v. bits v 5) x.mixlevel) (some_spell (λ v. bits v 2) x.roomtyp) (x.copyrightb ∷ []) (x.origbs ∷ []) (x.timecod1e ∷ [])
    t3 in
    let s3 =
    l4 (some_spell (λ v. bits v 14) x.timecod1) (x.timecod2e ∷ []) (some_spell (λ v. bits v 14) x.timecod2)
    (x.addbsie ∷ [] ++ some_spell (λ v. bits v 6) x.addbsil) in
    let s4 = l2 (x.addbsie ∷ []) (some_spell (λ v. bits v 6) x.addbsil) in
    omega (arith, n1, n2, n3, n4, n5, n6, n7, s1, s2, s3, s4)

layout_width : (x : Layout) → layout.Lawful x → length (layout.spell x) ≡ 57 + when (has_center x.acmod) 2 + when (has_surround x.acmod) 2
    + when (is_stereo x.acmod) 2
unfolding layout layout_rows shaped pair given field tested_bit
layout_width x l =
    let n1 = number_width (has_center x.acmod) 2 x.cmixlev l.1.1.1.1.1.1.1.0.0 in
    let n2 = number_width (has_surround x.acmod) 2 x.surmixlev l.1.1.1.1.1.1.1.1.0.0 in
    let n3 = number_width (is_stereo x.acmod) 2 x.dsurmod l.1.1.1.1.1.1.1.1.1.0.0 in
    let t2 =
    bits x.acmod 3 ++ (some_spell (λ v. bits v 2) x.cmixlev ++ (some_spell (λ v. bits v 2) x.surmixlev
    ++ (some_spell (λ v. bits v 2) x.dsurmod ++ (x.lfeon ∷ [] ++ bits x.dialnorm 5)))) in
    let s1 = l7 (bits x.syncword 16) (bits x.crc1 16) (bits x.fscod 2) (bits x.frmsizecod 6) (bits x.bsid 5) (bits x.bsmod 3) t2 in
    let s2 =
    l6 (bits x.acmod 3) (some_spell (λ v. bits v 2) x.cmixlev) (some_spell (λ v. bits v 2) x.surmixlev)
    (some_spell (λ v. bits v 2) x.dsurmod) (x.lfeon ∷ []) (bits x.dialnorm 5) in
    omega (
      arith,
      n1,
      n2,
      n3,
      s1,
      s2,
      length-bits x.syncword 16,
      length-bits x.crc1 16,
      length-bits x.fscod 2,
      length-bits x.frmsizecod 6,
      length-bits x.bsid 5,
      length-bits x.bsmod 3,
      length-bits x.acmod 3,
      length-bits x.dialnorm 5,
    )

pub head_is_side : HeadIsSide
unfolding head_fields shaped pair
head_is_side h l e =
    let a = layout_width (layout_of h) l.0 in
    let b = service_width (service_of h) l.1 e.compre e.langcode e.audprodie e.timecod1e e.timecod2e e.addbsie in
    let s = l2 (layout.spell (layout_of h)) (service.spell (service_of h)) in
    omega (arith, a, b, s)
