-- The exponents that hold in a block give one to each bin of its spans: those sent for it, and those of an earlier block, since reuse
-- is refused where the latest that were sent begin elsewhere or end too low.
use Rattle.std.proofs.Common.{◌≡◌, ℕ, zero, suc, ◌+◌, ◌<◌, ◌≤◌, ◌^◌, ◌==◌, Bool, true, false, ◌&&◌, List, [], get_or, slice_index, nat_lt, Option, Some, None, refl, ap, sym, subst, ◌∙◌, arith}
use Rattle.std.specs.Prelude.{is_some, not, nat_le, if◌then◌else◌}
use Rattle.std.specs.Option.{option_or, ForSome}
use Rattle.std.proofs.lemmas.Bool.{lt-ltb}
use Rattle.std.proofs.lemmas.Bool.Decides.{nat_tests}
use Rattle.ac_base.specs.declared.spans.Span.{Span}
use Rattle.ac_base.specs.Shape.{full_of, full_span, free_span, coupled_span, next_span, low_span, coupling_start, end_of, is_stereo, count_of, IsSpan}
use Rattle.ac_base.specs.Spans.{is_coupling, IsKind}
use Rattle.ac_expo.specs.Spelling.{Spelling}
use Rattle.ac_codec.specs.declared.refused.Row.TheVariants.{Chexpstr, Cplexpstr, Chbwcod}
use Rattle.ac_codec.specs.Codec.{field, any, given, slot, SlotLawful, pair, fitted, shaped, reused, below}
use Rattle.ac_rows.specs.Blocks.{Block}
use Rattle.ac_rows.specs.declared.head.Head.{Head}
use Rattle.ac_rows.specs.declared.groups.Coupling.{Coupling}
use Rattle.ac_rows.specs.declared.groups.Codes.{Codes}
use Rattle.ac_rows.specs.declared.groups.Exponents.{Exponents}
use Rattle.ac_rows.specs.declared.groups.Known.{Known}
use Rattle.ac_rows.specs.Groups.{strategy_of, codes_of, exponents_of}
use Rattle.ac_rows.specs.Filled.{number, entry, latest_in, latest, channel_coupled, coupling_in, end_free, begin_of}
use Rattle.ac_rows.specs.Known.{known_of, end_sent, reaches, may_keep_channel, may_keep_shared}
use Rattle.ac_rows.specs.Spelled.{spelled_row}
use Rattle.ac_rows.specs.BlockRows.{codes, exponents, strategy_each, width_each, has_width, exponents_each, alternating, sent_span, block_fields, HasSubbands, AreLawful}
use Rattle.ac_rows.proofs.Bounds.{each_here, codes_fit, known_pair, range_fits}
use Rattle.ac_rows.proofs.BlockBits.{BlockParts, block_parts}
use Rattle.ac_rows.proofs.ZippedLawful.{zipped_lawful}
use Rattle.ac_record.specs.Held.{with_kind}
use Rattle.ac_reading.specs.Spells.{Spells}
use Rattle.ac_reading.proofs.Fits.{row_spells, spells_less, kinds_most}
use Rattle.ac_reading.proofs.Latest.{Both, both_latest}
use Rattle.ac_reading.proofs.Coupling.{coupled_range}

-- ---- what is lawful in a block

parts_of : (h : Head) (before : List Block) (b : Block) → (block_fields h before).Lawful b → BlockParts (full_of h.acmod) (is_stereo h.acmod) h.lfeon (known_of before) b
unfolding block_fields
parts_of h before b l = block_parts (full_of h.acmod) (is_stereo h.acmod) h.lfeon (known_of before) b l

-- the codes of a block and its exponents, by the coupling that holds
pub record Parts (h : Head) (before : List Block) (b : Block) : Type 0 where
  pub codes : (codes (full_of h.acmod) (is_stereo h.acmod) h.lfeon (known_of before) (coupling_in before b)).Lawful (codes_of b)
  pub exponents : (exponents (full_of h.acmod) (coupling_in before b) (codes_of b)).Lawful (exponents_of b)
  pub range : HasSubbands (coupling_in before b).range

pub parts : (h : Head) (before : List Block) (b : Block) → AreLawful h before → (block_fields h before).Lawful b → Parts h before b
unfolding known_of
parts h before b k l =
    let p = parts_of h before b l in
    record { codes = p.codes; exponents = p.exponents; range = range_fits (full_of h.acmod) (is_stereo h.acmod) (known_of before) (strategy_of b) (known_pair h before k) p.strategy }

-- row by row
abbrev pub KindIs : Known → Coupling → ℕ → ℕ → ℕ → Type 0
KindIs known c full i kind = SlotLawful (nat_lt i full) 0 (λ v. (v < 2 ^ 2) × (reused (may_keep_channel known c i) Chexpstr v ≡ None)) kind

abbrev pub SharedIs : Known → Coupling → Option ℕ → Type 0
SharedIs known c o = (is_some o ≡ is_some c.range) × ForSome o (λ v. (v < 2 ^ 2) × (reused (may_keep_shared known c) Cplexpstr v ≡ None))

pub code_rows : (full : ℕ) (stereo low : Bool) (known : Known) (c : Coupling) (k : Codes) → (codes full stereo low known c).Lawful k → SharedIs known c k.cplexpstr × (strategy_each full known c).Lawful k.chexpstr × (width_each full c k.chexpstr).Lawful k.chbwcod
unfolding codes shaped pair given field
code_rows full stereo low known c k h = (h.1.1.0, h.1.1.1.0, h.1.1.1.1.1)

pub kind_row : (full : ℕ) (known : Known) (c : Coupling) (xs : List ℕ) → (strategy_each full known c).Lawful xs → (i : ℕ) → i < 5 → KindIs known c full i (slice_index xs i)
unfolding strategy_each slot field
kind_row full known c xs h i lt = each_here 5 (λ i. slot (nat_lt i full) 0 (field 2 (reused (may_keep_channel known c i) Chexpstr))) xs h i 0 lt

pub width_row : (full : ℕ) (c : Coupling) (kinds : List ℕ) (xs : List (Option ℕ)) → (width_each full c kinds).Lawful xs → (i : ℕ) → i < 5 → is_some (entry xs i) ≡ has_width full c kinds i
unfolding width_each given
width_row full c kinds xs h i lt = (each_here 5 (λ i. given (has_width full c kinds i) (field 6 (below 61 Chbwcod))) xs h i None lt).0

abbrev pub ListIs : ℕ → Span → ℕ → Option Spelling → Type 0
ListIs kind span channel o = (is_some o ≡ nat_lt 0 kind) × ForSome o (spelled_row kind span channel).Lawful

pub exponent_rows : (full : ℕ) (c : Coupling) (k : Codes) (x : Exponents) → (exponents full c k).Lawful x
    → ListIs (number k.cplexpstr) (next_span c.range) full x.cplabsexp × (exponents_each c k).Lawful (x.exps, x.gainrng)
    × ForSome x.lfeexps (spelled_row 1 low_span (full + count_of (is_some c.range))).Lawful
unfolding exponents shaped pair given
exponent_rows full c k x h = (h.0, h.1.0, h.1.1.1)

first_given : (there : Bool) (kind : ℕ) (span : Span) (channel : ℕ) (p : Option Spelling × Option ℕ) → (pair (given there (spelled_row kind span channel)) (λ _. given there (field 2 any))).Lawful p → (is_some p.0 ≡ there) × ForSome p.0 (spelled_row kind span channel).Lawful
unfolding pair given
first_given there kind span channel p h = h.0

pub list_row : (c : Coupling) (k : Codes) (xs : List (Option Spelling)) (ys : List (Option ℕ)) → (exponents_each c k).Lawful (xs, ys) → (i : ℕ) → i < 5 → ListIs (slice_index k.chexpstr i) (sent_span c k.chbwcod i) i (entry xs i)
unfolding exponents_each alternating fitted
list_row c k xs ys h i lt =
    first_given (nat_lt 0 (slice_index k.chexpstr i)) (slice_index k.chexpstr i) (sent_span c k.chbwcod i) i (get_or xs i None, get_or ys i None)
    (zipped_lawful 5 (λ i. pair (given (nat_lt 0 (slice_index k.chexpstr i)) (spelled_row (slice_index k.chexpstr i) (sent_span c k.chbwcod i) i)) (λ _. given (nat_lt 0 (slice_index k.chexpstr i)) (field 2 any))) xs ys h.0 h.1 i None None lt)

-- ---- full channels

-- the list was sent for a span with this end
pub record FullFits (p : ℕ × Spelling) (e : ℕ) : Type 0 where
  pub span : Span
  pub spells : Spells p.0 span p.1
  pub start : span.start ≡ 0
  pub lead : is_coupling span.lead ≡ false
  pub end : span.end ≡ e

pub free_is : (w : ℕ) → w ≤ 60 → IsSpan (free_span w)
free_is w le = (refl, (w, le, refl))

pub coupled_is : (p : ℕ) → p ≤ 15 → IsSpan (coupled_span p)
coupled_is p le = (refl, (p, le, refl))

pub some_kind : (n : ℕ) → (suc n == 0) ≡ false
some_kind n = grind (arith, nat_tests)

pub some_same : {A : Type 0} (a b : A) → Some a ≡ Some b → a ≡ b
some_same a b e = cc

pub full_both : (kind : ℕ) (o : Option Spelling) (coupled : Bool) (range : Option (ℕ × ℕ)) (width : Option ℕ) (channel : ℕ)
    → kind ≤ 3 → ListIs kind (full_span (number width) (if coupled then range else None)) channel o
    → (coupled ≡ true → is_some range ≡ true) → HasSubbands range → (0 < kind → coupled ≡ false → is_some width ≡ true) → number width ≤ 60
    → Both FullFits (with_kind kind o) (if kind == 0 then None else (if coupled then Some (coupling_start (begin_of range)) else end_free width))
full_both zero None coupled range width channel small list used subbands has narrow = tt
full_both zero (Some s) coupled range width channel small list used subbands has narrow = let e : true ≡ false = list.0 in absurd cc
full_both (suc n) None coupled range width channel small list used subbands has narrow = let e : false ≡ true = list.0 ∙ lt-ltb 0 (suc n) (omega arith) in absurd cc
full_both (suc n) (Some s) true None width channel small list used subbands has narrow = let e : false ≡ true = used refl in absurd cc
full_both (suc n) (Some s) true (Some p) width channel small list used subbands has narrow =
    let is = coupled_is p.0 (subbands p refl).0 in
    rw (some_kind n) (record { span = coupled_span p.0; spells = row_spells (suc n) (coupled_span p.0) channel s (omega arith, small) is (list.1 s refl); start = refl; lead = refl; end = refl })
full_both (suc n) (Some s) false range None channel small list used subbands has narrow = let e : false ≡ true = has (omega arith) refl in absurd cc
full_both (suc n) (Some s) false range (Some w) channel small list used subbands has narrow =
    let is = free_is w narrow in
    rw (some_kind n) (record { span = free_span w; spells = row_spells (suc n) (free_span w) channel s (omega arith, small) is (list.1 s refl); start = refl; lead = refl; end = refl })

-- what a block sends
abbrev pub full_sent : ℕ → Block → Option (ℕ × Spelling)
full_sent i b = with_kind (slice_index b.chexpstr i) (entry b.exps i)

pub has_there : (full i kind : ℕ) (coupled : Bool) (o : Option ℕ) → i < full → is_some o ≡ (nat_lt i full && (not coupled && nat_lt 0 kind)) → 0 < kind → coupled ≡ false → is_some o ≡ true
has_there full i kind coupled o lt e some free = e ∙ rw (lt-ltb i full lt, free, lt-ltb 0 kind some) refl

pub record FullRows (h : Head) (before : List Block) (b : Block) (i : ℕ) : Type 0 where
  pub kind : KindIs (known_of before) (coupling_in before b) (full_of h.acmod) i (slice_index b.chexpstr i)
  pub list : ListIs (slice_index b.chexpstr i) (sent_span (coupling_in before b) b.chbwcod i) i (entry b.exps i)
  pub width : is_some (entry b.chbwcod i) ≡ has_width (full_of h.acmod) (coupling_in before b) b.chexpstr i
  pub narrow : number (entry b.chbwcod i) ≤ 60
  pub small : slice_index b.chexpstr i ≤ 3
  pub used : channel_coupled (coupling_in before b) i ≡ true → is_some (coupling_in before b).range ≡ true

pub full_rows : (h : Head) (before : List Block) (b : Block) (i : ℕ) → i < 5 → Parts h before b → FullRows h before b i
full_rows h before b i lt p =
    let c = coupling_in before b in
    let k = code_rows (full_of h.acmod) (is_stereo h.acmod) h.lfeon (known_of before) c (codes_of b) p.codes in
    let x = exponent_rows (full_of h.acmod) c (codes_of b) (exponents_of b) p.exponents in
    let fit = codes_fit (full_of h.acmod) (is_stereo h.acmod) h.lfeon (known_of before) c (codes_of b) p.codes in
    record {
      kind = kind_row (full_of h.acmod) (known_of before) c b.chexpstr k.1 i lt;
      list = list_row c (codes_of b) b.exps b.gainrng x.1 i lt;
      width = width_row (full_of h.acmod) c b.chexpstr b.chbwcod k.2 i lt;
      narrow = fit.widths i lt;
      small = fit.kinds i lt;
      used = coupled_range before b i lt;
    }

full_each : (h : Head) (i : ℕ) → i < 5 → i < full_of h.acmod → (before : List Block) (b : Block) → AreLawful h before → (block_fields h before).Lawful b → Both FullFits (full_sent i b) (end_sent (coupling_in before b) b i)
full_each h i small lt before b k l =
    let p = parts h before b k l in
    let r = full_rows h before b i small p in
    let c = coupling_in before b in
    full_both (slice_index b.chexpstr i) (entry b.exps i) (channel_coupled c i) c.range (entry b.chbwcod i) i r.small r.list r.used p.range
    (has_there (full_of h.acmod) i (slice_index b.chexpstr i) (channel_coupled c i) (entry b.chbwcod i) lt r.width) r.narrow

pub full_latest : (h : Head) (i : ℕ) → i < 5 → i < full_of h.acmod → (earlier : List Block) → AreLawful h earlier → Both FullFits (latest (full_sent i) earlier) (latest_in (λ before b. end_sent (coupling_in before b) b i) [] earlier)
full_latest h i small lt earlier k = both_latest FullFits (λ _. full_sent i) (λ before b. end_sent (coupling_in before b) b i) h (full_each h i small lt) [] earlier tt k

-- the end that is asked for
pub reached : (m n : ℕ) → nat_le n m ≡ true → n ≤ m
reached m n e = grind (arith, nat_tests)

kept_full : (kind : ℕ) (s : Spelling) (m n : ℕ) (less : Span) → FullFits (kind, s) m → IsSpan less → less.start ≡ 0 → is_coupling less.lead ≡ false → IsKind 3 less → less.end ≡ n → n ≤ m → Spells kind less s
kept_full kind s m n less f is start lead most end le =
    let kinds = f.spells.is_kind in
    let three = kinds_most f.span.lead in
    spells_less kind f.span less s (start ∙ sym f.start) (lead ∙ sym f.lead) (omega (arith, f.end)) (kinds.0, omega (arith, kinds.1, most.1)) is f.spells

pub full_now : (kind : ℕ) (o : Option Spelling) (coupled : Bool) (range : Option (ℕ × ℕ)) (own kept : Option ℕ) (channel : ℕ) (L : Option (ℕ × Spelling)) (E : Option ℕ)
    → kind ≤ 3 → ListIs kind (full_span (number own) (if coupled then range else None)) channel o
    → (coupled ≡ true → is_some range ≡ true) → HasSubbands range → (0 < kind → coupled ≡ false → is_some own ≡ true) → (kind ≡ 0 → is_some own ≡ false)
    → number (if coupled then None else option_or own kept) ≤ 60 → Both FullFits L E
    → (kind ≡ 0 → reaches E (if coupled then Some (coupling_start (begin_of range)) else end_free kept) ≡ true)
    → (k : ℕ) (s : Spelling) → option_or (with_kind kind o) L ≡ Some (k, s) → Spells k (full_span (number (if coupled then None else option_or own kept)) (if coupled then range else None)) s
full_now zero (Some t) coupled range own kept channel L E small list used subbands has lacks narrow fits reach k s e = let f : true ≡ false = list.0 in absurd cc
full_now zero None coupled range (Some w) kept channel L E small list used subbands has lacks narrow fits reach k s e = let f : true ≡ false = lacks refl in absurd cc
full_now zero None coupled range None kept channel None E small list used subbands has lacks narrow fits reach k s e = absurd cc
full_now zero None coupled range None kept channel (Some p) None small list used subbands has lacks narrow fits reach k s e = absurd fits
full_now zero None true None None kept channel (Some p) (Some m) small list used subbands has lacks narrow fits reach k s e = let f : false ≡ true = used refl in absurd cc
full_now zero None true (Some r) None kept channel (Some p) (Some m) small list used subbands has lacks narrow fits reach k s e =
    let same : p ≡ (k, s) = cc in
    let f : FullFits (k, s) m = subst (λ (q : ℕ × Spelling). FullFits q m) same fits in
    kept_full k s m (coupling_start r.0) (coupled_span r.0) f (coupled_is r.0 (subbands r refl).0) refl refl (omega arith, omega arith) refl (reached m (coupling_start r.0) (reach refl))
full_now zero None false range None None channel (Some p) (Some m) small list used subbands has lacks narrow fits reach k s e = let f : false ≡ true = reach refl in absurd cc
full_now zero None false range None (Some w) channel (Some p) (Some m) small list used subbands has lacks narrow fits reach k s e =
    let same : p ≡ (k, s) = cc in
    let f : FullFits (k, s) m = subst (λ (q : ℕ × Spelling). FullFits q m) same fits in
    kept_full k s m (end_of w) (free_span w) f (free_is w narrow) refl refl (omega arith, omega arith) refl (reached m (end_of w) (reach refl))
full_now (suc n) None coupled range own kept channel L E small list used subbands has lacks narrow fits reach k s e = let f : false ≡ true = list.0 ∙ lt-ltb 0 (suc n) (omega arith) in absurd cc
full_now (suc n) (Some t) true None own kept channel L E small list used subbands has lacks narrow fits reach k s e = let f : false ≡ true = used refl in absurd cc
full_now (suc n) (Some t) true (Some r) own kept channel L E small list used subbands has lacks narrow fits reach k s e =
    let both : ◌≡◌ {A = ℕ × Spelling} (suc n, t) (k, s) = some_same (suc n, t) (k, s) e in
    let kind : suc n ≡ k = ap (λ (q : ℕ × Spelling). q.0) both in
    let same : t ≡ s = ap (λ (q : ℕ × Spelling). q.1) both in
    let row = row_spells (suc n) (coupled_span r.0) channel t (omega arith, small) (coupled_is r.0 (subbands r refl).0) (list.1 t refl) in
    subst (λ (q : ℕ). Spells q (coupled_span r.0) s) kind (subst (λ (q : Spelling). Spells (suc n) (coupled_span r.0) q) same row)
full_now (suc n) (Some t) false range None kept channel L E small list used subbands has lacks narrow fits reach k s e = let f : false ≡ true = has (omega arith) refl in absurd cc
full_now (suc n) (Some t) false range (Some w) kept channel L E small list used subbands has lacks narrow fits reach k s e =
    let both : ◌≡◌ {A = ℕ × Spelling} (suc n, t) (k, s) = some_same (suc n, t) (k, s) e in
    let kind : suc n ≡ k = ap (λ (q : ℕ × Spelling). q.0) both in
    let same : t ≡ s = ap (λ (q : ℕ × Spelling). q.1) both in
    let row = row_spells (suc n) (free_span w) channel t (omega arith, small) (free_is w narrow) (list.1 t refl) in
    subst (λ (q : ℕ). Spells q (free_span w) s) kind (subst (λ (q : Spelling). Spells (suc n) (free_span w) q) same row)
