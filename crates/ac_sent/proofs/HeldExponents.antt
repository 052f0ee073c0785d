-- The exponents that hold in a block that is sent are those that were handed in.
use Rattle.std.proofs.Common.{◌≡◌, ℕ, zero, suc, ◌+◌, ◌<◌, ◌≤◌, ◌&&◌, Bool, true, false, slice_index, Option, None, nat_lt, refl, ap, ap₂, sym, subst, ◌∙◌, inl, inr, arith}
use Rattle.std.specs.Prelude.{is_some, if◌then◌else◌, ◌==◌}
use Rattle.std.specs.Option.{option_or}
use Rattle.std.proofs.lemmas.Bool.{lt-ltb, ltb-true, le-ltb, eq-eqb, ne_eqb, cases_eq}
use Rattle.ac_base.specs.declared.spans.Span.{Span}
use Rattle.ac_base.specs.Shape.{full_of, count_of}
use Rattle.ac_base.specs.Spans.{IsIn}
use Rattle.ac_expo.specs.Raw.{channel_span, channels}
use Rattle.ac_expo.specs.Spelling.{Spelling}
use Rattle.ac_expo.proofs.Spellings.{back}
use Rattle.ac_rows.specs.Blocks.{Block}
use Rattle.ac_rows.specs.Filled.{entry, holds, number, latest, held}
use Rattle.ac_record.specs.Held.{with_kind, sent_exponents, held_exponents, exponent_by, exponent_in}
use Rattle.ac_sent.specs.Values.{Quantised}
use Rattle.ac_sent.specs.Asked.{IsQuantised}
use Rattle.ac_sent.specs.Fields.{when, sent_head, sent_fields, sent_block, code_at, exponents_at, spelling_at, low_number, skip_at}
use Rattle.ac_sent.proofs.Listed.{entry_at}
use Rattle.ac_sent.proofs.Spans.{is_span, full_most}
use Rattle.ac_sent.proofs.Earlier.{sent_before, block_first, block_later, latest_held}
use Rattle.ac_sent.proofs.Reuse.{sends_first, code_entry, strategy_number}
use Rattle.ac_sent.proofs.Blocks.{spelling_of_channel, low_code}
use Rattle.ac_sent.proofs.Fillings.{channel_cases, filled_block, filled_inu, filled_span}

-- ---- by what a channel is
pub by_full : {A : Type 0} (full c : ℕ) (used : Bool) (x y z : A) → nat_lt c full ≡ true → (if nat_lt c full then x else if used && c == full then y else z) ≡ x
by_full full c used x y z e = rw e refl

pub by_shared : {A : Type 0} (full c : ℕ) (used : Bool) (x y z : A) → c ≡ full → used ≡ true → (if nat_lt c full then x else if used && c == full then y else z) ≡ y
by_shared full c used x y z e u = rw (le-ltb c full (omega (arith, e)), u, eq-eqb c full e) refl

pub by_low : {A : Type 0} (full c : ℕ) (used coupled : Bool) (x y z : A) → c ≡ full + count_of coupled + count_of false → used ≡ coupled → (if nat_lt c full then x else if used && c == full then y else z) ≡ z
by_low full c used true x y z e u = rw (le-ltb c full (omega (arith, e)), u, ne_eqb c full (omega (arith, e))) refl
by_low full c used false x y z e u = rw (le-ltb c full (omega (arith, e)), u) refl

-- ---- what a block sends of a channel's exponents
kind_when : (kind : ℕ) (there : Bool) (s : Spelling) → with_kind kind (when there s) ≡ when there (kind, s)
kind_when kind true s = refl
kind_when kind false s = refl

paired : ℕ → Spelling → ℕ × Spelling
paired kind s = (kind, s)

low_when : (code : ℕ) (s : Spelling) → code ≤ 1 → when (nat_lt 0 code) (paired 1 s) ≡ when (nat_lt 0 code) (paired code s)
low_when zero s small = refl
low_when (suc n) s small = let e : 1 ≡ suc n = omega (arith, small) in ap (λ (k : ℕ). when (nat_lt 0 (suc n)) (paired k s)) e

full_groups : (q : Quantised) (first : Bool) (b : ℕ) (skipl : Option ℕ) (i : ℕ) → nat_lt i (full_of q.shape.acmod) ≡ true → entry (sent_fields q first b skipl).exps i ≡ spelling_at q i b
unfolding sent_fields
full_groups q first b skipl i here =
    let lt : i < 5 = omega (arith, ltb-true i (full_of q.shape.acmod) here, full_most q.shape) in
    entry_at 5 (λ j. if nat_lt j (full_of q.shape.acmod) then spelling_at q j b else None) i None lt ∙ ap (λ (t : Bool). if t then spelling_at q i b else None) here

shared_groups : (q : Quantised) (first : Bool) (b : ℕ) (skipl : Option ℕ) → is_some q.shape.couple ≡ true → (sent_fields q first b skipl).cplabsexp ≡ spelling_at q (full_of q.shape.acmod) b
unfolding sent_fields
shared_groups q first b skipl used = ap (λ (t : Bool). if t then spelling_at q (full_of q.shape.acmod) b else None) used

low_groups : (q : Quantised) (first : Bool) (b : ℕ) (skipl : Option ℕ) → q.shape.lfe ≡ true → (sent_fields q first b skipl).lfeexps ≡ spelling_at q (low_number q.shape) b
unfolding sent_fields
low_groups q first b skipl low = ap (λ (t : Bool). if t then spelling_at q (low_number q.shape) b else None) low

-- the kind and the groups that a block sends, where it sends any
abbrev pub sent_kind : Quantised → ℕ → ℕ → Option (ℕ × Spelling)
sent_kind q b c = when (nat_lt 0 (code_at q c b)) (code_at q c b, spelling_of_channel q b c)

low_paired : (code : ℕ) (s : Spelling) → code ≤ 1 → when {A = ℕ × Spelling} (nat_lt 0 code) (1, s) ≡ when {A = ℕ × Spelling} (nat_lt 0 code) (code, s)
unfolding paired
low_paired code s small = low_when code s small

pub kind_sent : (q : Quantised) → IsQuantised q → (frmsizecod crc1 : ℕ) (f : Block) → holds f.cplinu ≡ is_some q.shape.couple → (c b : ℕ) → c < channels q.shape → b < 6 → (first : Bool) (skipl : Option ℕ)
    → sent_exponents (sent_head q.shape frmsizecod crc1) f c (sent_fields q first b skipl) ≡ sent_kind q b c
kind_sent q is code crc1 f inu c b lt in_frame first skipl =
    let full = full_of q.shape.acmod in
    let d = sent_fields q first b skipl in
    let x = with_kind (slice_index d.chexpstr c) (entry d.exps c) in
    let y = with_kind (number d.cplexpstr) d.cplabsexp in
    let z = with_kind 1 d.lfeexps in
    elim (channel_cases q.shape c lt) [
      | inl here ↦ by_full full c (holds f.cplinu) x y z here ∙ (ap₂ with_kind (code_entry q first b skipl c here) (full_groups q first b skipl c here) ∙ kind_when (code_at q c b) (nat_lt 0 (code_at q c b)) (spelling_of_channel q b c))
      | inr (inl e) ↦
          by_shared full c (holds f.cplinu) x y z e.1 (inu ∙ e.0)
          ∙ (ap₂ with_kind (strategy_number q first b skipl e.0) (shared_groups q first b skipl e.0)
          ∙ (kind_when (code_at q full b) (nat_lt 0 (code_at q full b)) (spelling_of_channel q b full) ∙ ap (sent_kind q b) (sym e.1)))
      | inr (inr e) ↦
          by_low full c (holds f.cplinu) (is_some q.shape.couple) x y z e.1 inu
          ∙ (ap (with_kind 1) (low_groups q first b skipl e.0)
          ∙ (kind_when 1 (nat_lt 0 (code_at q (low_number q.shape) b)) (spelling_of_channel q b (low_number q.shape))
          ∙ (low_paired (code_at q (low_number q.shape) b) (spelling_of_channel q b (low_number q.shape)) (low_code q is b in_frame e.0) ∙ ap (sent_kind q b) (sym e.1))))
    ]

-- ---- what holds
back_again : (q : Quantised) → IsQuantised q → (c b k : ℕ) → c < channels q.shape → b < 6 → IsIn (channel_span q.shape c) k → 0 < code_at q c b → (o : Option (ℕ × Spelling))
    → exponent_by (channel_span q.shape c) (option_or (sent_kind q b c) o) k ≡ slice_index (exponents_at q c b) k
back_again q is c b k lt in_frame inside some o =
    let span = channel_span q.shape c in
    let code = code_at q c b in
    ap (λ (t : Bool). exponent_by span (option_or (when t (code, spelling_of_channel q b c)) o) k) (lt-ltb 0 code some)
    ∙ sym ((back code span (exponents_at q c b) (is_span q.shape c) (some, is.assigned.kinds c b lt in_frame) (is.spellable c b lt in_frame some)).1 k inside)

exps_held : (q : Quantised) → IsQuantised q → (frmsizecod crc1 : ℕ) (f : Block) → holds f.cplinu ≡ is_some q.shape.couple → (c k : ℕ) → c < channels q.shape → IsIn (channel_span q.shape c) k → (b : ℕ) → b < 6
    → exponent_by (channel_span q.shape c) (held (sent_exponents (sent_head q.shape frmsizecod crc1) f c) (sent_before q b) (sent_block q b)) k ≡ slice_index (exponents_at q c b) k
exps_held q is code crc1 f inu c k lt inside zero in_frame =
    let g = sent_exponents (sent_head q.shape code crc1) f c in
    let E = exponent_by (channel_span q.shape c) in
    ap (λ (d : Block). E (option_or (g d) (latest g (sent_before q 0))) k) (block_first q)
    ∙ (ap (λ o. E (option_or o (latest g (sent_before q 0))) k) (kind_sent q is code crc1 f inu c 0 lt in_frame true None)
    ∙ back_again q is c 0 k lt in_frame inside (sends_first q is c lt) (latest g (sent_before q 0)))
exps_held q is code crc1 f inu c k lt inside (suc n) in_frame =
    let g = sent_exponents (sent_head q.shape code crc1) f c in
    let E = exponent_by (channel_span q.shape c) in
    let own = ap (λ (d : Block). E (option_or (g d) (latest g (sent_before q (suc n)))) k) (block_later q n) ∙ ap (λ o. E (option_or o (latest g (sent_before q (suc n)))) k) (kind_sent q is code crc1 f inu c (suc n) lt in_frame false (skip_at q (suc n))) in
    elim (cases_eq (code_at q c (suc n)) 0) [
      | inr some ↦ own ∙ back_again q is c (suc n) k lt in_frame inside (omega (arith, some)) (latest g (sent_before q (suc n)))
      | inl none ↦
          let before = exps_held q is code crc1 f inu c k lt inside n (omega (arith, in_frame)) in
          let e : n + 1 ≡ suc n = omega arith in
          let P : ℕ → Type 0 = λ m. code_at q c m ≡ 0 → slice_index (exponents_at q c m) k ≡ slice_index (exponents_at q c n) k in
          let same = subst P e (λ z. is.reused c n k lt (omega (arith, in_frame)) z inside) none in
          own
          ∙ (ap (λ (v : ℕ). E (option_or (when (nat_lt 0 v) (v, spelling_of_channel q (suc n) c)) (latest g (sent_before q (suc n)))) k) none
          ∙ (ap (λ o. E o k) (latest_held q g n) ∙ (before ∙ sym same)))
    ]

pub exponent_held : (q : Quantised) → IsQuantised q → (frmsizecod crc1 c b k : ℕ) → c < channels q.shape → b < 6 → IsIn (channel_span q.shape c) k
    → exponent_in (sent_head q.shape frmsizecod crc1) (sent_before q b) (sent_block q b) c k ≡ slice_index (exponents_at q c b) k
unfolding exponent_in
exponent_held q is code crc1 c b k lt in_frame inside =
    let h = sent_head q.shape code crc1 in
    ap (λ (s : Span). exponent_by s (held_exponents h (sent_before q b) (sent_block q b) c) k) (filled_span q is code crc1 b c lt)
    ∙ exps_held q is code crc1 (filled_block q code crc1 b) (filled_inu q code crc1 b) c k lt inside b in_frame
