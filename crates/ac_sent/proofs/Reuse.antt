-- What there is to reuse in each block that is sent.
use Rattle.std.proofs.Common.{◌≡◌, ◌⊎◌, ℕ, zero, suc, ◌%◌, ◌<◌, ◌&&◌, Bool, true, false, List, [], slice_index, Option, Some, None, nat_lt, refl, ap, ap₂, sym, ◌∙◌, inl, inr, arith}
use Rattle.std.specs.Prelude.{is_some, not, if◌then◌else◌, ◌==◌}
use Rattle.std.proofs.lemmas.Bool.{lt-ltb, ltb-true, le-leb, eq-eqb, ne_eqb}
use Rattle.ac_base.specs.Shape.{full_of, subbands, coupling_start}
use Rattle.ac_expo.specs.Raw.{channels}
use Rattle.ac_rows.specs.Blocks.{Block}
use Rattle.ac_rows.specs.declared.groups.Coupling.{Coupling}
use Rattle.ac_rows.specs.Filled.{listed, entry, holds, number, latest_in, latest, held, channel_coupled, coupling_in, begin_of, channel_end, end_free}
use Rattle.ac_rows.specs.Known.{is_begun, known_of, bands_given, range_sent, end_sent, is_count, covers, reaches, may_keep_coordinates, may_keep_shared, may_keep_channel}
use Rattle.ac_rows.proofs.Later.{begun_more}
use Rattle.ac_sent.specs.Values.{Quantised}
use Rattle.ac_sent.specs.Asked.{IsQuantised}
use Rattle.ac_sent.specs.Fields.{when, sent_fields, sent_block, code_at, low_number}
use Rattle.ac_sent.proofs.Listed.{entry_at}
use Rattle.ac_sent.proofs.Tests.{some_when, holds_when, and_both, and_true}
use Rattle.ac_sent.proofs.Earlier.{sent_before, before_none, before_more, block_first, block_later, first_block, later_block, latest_sent, held_sent, latest_held, any_sent_block}
use Rattle.ac_sent.proofs.SharedRows.{sent_coupling, channel_is_coupled}
use Rattle.ac_sent.proofs.Coupling.{coupling_sent}
use Rattle.ac_sent.proofs.Spans.{full_coded, coupling_coded, low_coded, full_most}

abbrev pub the_coupling : Quantised → Coupling
the_coupling q = sent_coupling (full_of q.shape.acmod) q.shape.couple

-- block 0 sends exponents of each coded channel
pub sends_first : (q : Quantised) → IsQuantised q → (c : ℕ) → c < channels q.shape → 0 < code_at q c 0
sends_first q is c lt = omega (arith, (is.assigned.words c lt).sends)

pub first_coupling : (q : Quantised) → coupling_in [] (sent_block q 0) ≡ the_coupling q
first_coupling q = sym (ap (λ (l : List Block). coupling_in l (sent_block q 0)) (before_none q)) ∙ coupling_sent q 0

-- ---- facts of a known that hold behind block 0
pub begun : (q : Quantised) (n : ℕ) → (known_of (sent_before q (suc n))).begun ≡ true
unfolding known_of
begun q n = ap is_begun (before_more q n) ∙ begun_more (sent_before q n) (sent_block q n)

-- ---- coordinates
bands_or : (there first : Bool) (n : ℕ) → (if holds (when there first) then Some n else None) ≡ when (there && first) n
bands_or true true n = refl
bands_or true false n = refl
bands_or false first n = refl

given_bands : (q : Quantised) (d : Block) (first : Bool) (i : ℕ) → i < 5 → (is_some q.shape.couple && nat_lt i (full_of q.shape.acmod)) ≡ true
    → d.cplcoe ≡ listed 5 0 (λ k. when (is_some q.shape.couple && nat_lt k (full_of q.shape.acmod)) first) → bands_given (the_coupling q) d i ≡ when first (subbands q.shape.couple)
given_bands q d first i lt there e =
    let f : ℕ → Option Bool = λ k. when (is_some q.shape.couple && nat_lt k (full_of q.shape.acmod)) first in
    let P : Option Bool → Option ℕ = λ o. if holds o then Some (subbands q.shape.couple) else None in
    ap P (ap (λ l. entry l i) e ∙ entry_at 5 f i None lt)
    ∙ bands_or (is_some q.shape.couple && nat_lt i (full_of q.shape.acmod)) first (subbands q.shape.couple)
    ∙ ap (λ (t : Bool). when (t && first) (subbands q.shape.couple)) there

coes_first : (q : Quantised) → (first_block q).cplcoe ≡ listed 5 0 (λ k. when (is_some q.shape.couple && nat_lt k (full_of q.shape.acmod)) true)
unfolding sent_fields
coes_first q = refl

coes_later : (q : Quantised) (n : ℕ) → (later_block q n).cplcoe ≡ listed 5 0 (λ k. when (is_some q.shape.couple && nat_lt k (full_of q.shape.acmod)) false)
unfolding sent_fields
coes_later q n = refl

bands_known : (q : Quantised) (n i : ℕ) → i < 5 → (is_some q.shape.couple && nat_lt i (full_of q.shape.acmod)) ≡ true
    → latest_in (λ before b. bands_given (coupling_in before b) b i) [] (sent_before q (suc n)) ≡ Some (subbands q.shape.couple)
bands_known q n i lt there =
    latest_sent q (λ before b. bands_given (coupling_in before b) b i) (Some (subbands q.shape.couple))
    (ap (λ (c : Coupling). bands_given c (sent_block q 0) i) (first_coupling q) ∙ (ap (λ (d : Block). bands_given (the_coupling q) d i) (block_first q) ∙ given_bands q (first_block q) true i lt there (coes_first q)))
    (λ m. inl (ap (λ (c : Coupling). bands_given c (sent_block q (suc m)) i) (coupling_sent q (suc m)) ∙ (ap (λ (d : Block). bands_given (the_coupling q) d i) (block_later q m) ∙ given_bands q (later_block q m) false i lt there (coes_later q m)))) n

is_count_same : (o : Option ℕ) (n : ℕ) → o ≡ Some n → is_count o n ≡ true
is_count_same o n e = ap (λ (x : Option ℕ). is_count x n) e ∙ eq-eqb n n refl

pub coordinates_kept : (q : Quantised) (n i : ℕ) → i < 5 → (is_some q.shape.couple && nat_lt i (full_of q.shape.acmod)) ≡ true → may_keep_coordinates (known_of (sent_before q (suc n))) (the_coupling q) i ≡ true
unfolding known_of
coordinates_kept q n i lt there =
    is_count_same _ (subbands q.shape.couple)
    (entry_at 5 (λ j. latest_in (λ before b. bands_given (coupling_in before b) b j) [] (sent_before q (suc n))) i None lt ∙ bands_known q n i lt there)

-- ---- the coupling channel's exponents
range_or : (v : ℕ) (r : Option (ℕ × ℕ)) → 0 < v → (if v == 0 then None else r) ≡ r
range_or v r some = rw (ne_eqb v 0 (omega arith)) refl

range_again : (v : ℕ) (r : Option (ℕ × ℕ)) → ((if v == 0 then None else r) ≡ None) ⊎ ((if v == 0 then None else r) ≡ r)
range_again zero r = inl refl
range_again (suc v) r = inr (range_or (suc v) r (omega arith))

pub strategy_number : (q : Quantised) (first : Bool) (b : ℕ) (skipl : Option ℕ) → is_some q.shape.couple ≡ true → number (sent_fields q first b skipl).cplexpstr ≡ code_at q (full_of q.shape.acmod) b
unfolding sent_fields
strategy_number q first b skipl used = ap (λ (t : Bool). number (when t (code_at q (full_of q.shape.acmod) b))) used

range_known : (q : Quantised) → IsQuantised q → (n : ℕ) → is_some q.shape.couple ≡ true → latest_in (λ before b. range_sent (coupling_in before b) b) [] (sent_before q (suc n)) ≡ q.shape.couple
range_known q is n used =
    let R : ℕ → Option (ℕ × ℕ) = λ v. if v == 0 then None else q.shape.couple in
    let full = full_of q.shape.acmod in
    latest_sent q (λ before b. range_sent (coupling_in before b) b) q.shape.couple
    (ap (λ (c : Coupling). range_sent c (sent_block q 0)) (first_coupling q)
    ∙ (ap (λ (d : Block). range_sent (the_coupling q) d) (block_first q) ∙ (ap R (strategy_number q true 0 None used) ∙ range_or (code_at q full 0) q.shape.couple (sends_first q is full (coupling_coded q.shape used)))))
    (λ m.
    let e : range_sent (coupling_in (sent_before q (suc m)) (sent_block q (suc m))) (sent_block q (suc m)) ≡ R (code_at q full (suc m)) =
    ap (λ (c : Coupling). range_sent c (sent_block q (suc m))) (coupling_sent q (suc m)) ∙ (ap (λ (d : Block). range_sent (the_coupling q) d) (block_later q m) ∙ ap R (strategy_number q false (suc m) _ used)) in
    elim (range_again (code_at q full (suc m)) q.shape.couple) [ inl a ↦ inl (e ∙ a) | inr a ↦ inr (e ∙ a) ])
    n

covers_same : (o r : Option (ℕ × ℕ)) → o ≡ r → is_some r ≡ true → covers o r ≡ true
covers_same o None e used = absurd cc
covers_same o (Some p) e used = ap (λ (x : Option (ℕ × ℕ)). covers x (Some p)) e ∙ and_both _ _ (eq-eqb p.0 p.0 refl) (le-leb p.1 p.1 (omega arith))

pub shared_kept : (q : Quantised) → IsQuantised q → (n : ℕ) → is_some q.shape.couple ≡ true → may_keep_shared (known_of (sent_before q (suc n))) (the_coupling q) ≡ true
unfolding known_of
shared_kept q is n used = covers_same _ q.shape.couple (range_known q is n used) used

-- ---- the full channels' exponents
abbrev end_as : Bool → ℕ → Option ℕ → Option ℕ
end_as coupled start w = if coupled then Some start else end_free w

-- the end of each full channel
abbrev the_end : Quantised → Option ℕ
the_end q = end_as (is_some q.shape.couple) (coupling_start (begin_of q.shape.couple)) (Some q.shape.bw)

-- its bandwidth, where it isn't coupled
abbrev the_width : Quantised → Option ℕ
the_width q = when (not (is_some q.shape.couple)) q.shape.bw

sent_end : (coupled : Bool) (start bw code : ℕ) → 0 < code → end_as coupled start (when (not coupled && nat_lt 0 code) bw) ≡ end_as coupled start (Some bw)
sent_end true start bw code some = refl
sent_end false start bw code some = ap (λ (t : Bool). end_free (when t bw)) (lt-ltb 0 code some)

width_end : (coupled : Bool) (start bw : ℕ) → end_as coupled start (when (not coupled) bw) ≡ end_as coupled start (Some bw)
width_end true start bw = refl
width_end false start bw = refl

sent_width : (coupled : Bool) (bw code : ℕ) → 0 < code → when (not coupled && nat_lt 0 code) bw ≡ when (not coupled) bw
sent_width true bw code some = refl
sent_width false bw code some = ap (λ (t : Bool). when t bw) (lt-ltb 0 code some)

kept_width : (coupled : Bool) (bw code : ℕ) → code ≡ 0 → when (not coupled && nat_lt 0 code) bw ≡ None
kept_width true bw code none = refl
kept_width false bw code none = ap (λ (v : ℕ). when (nat_lt 0 v) bw) none

pub code_entry : (q : Quantised) (first : Bool) (b : ℕ) (skipl : Option ℕ) (i : ℕ) → nat_lt i (full_of q.shape.acmod) ≡ true → slice_index (sent_fields q first b skipl).chexpstr i ≡ code_at q i b
unfolding sent_fields
code_entry q first b skipl i here =
    let lt : i < 5 = omega (arith, ltb-true i (full_of q.shape.acmod) here, full_most q.shape) in
    entry_at 5 (λ j. if nat_lt j (full_of q.shape.acmod) then code_at q j b else 0) i 0 lt ∙ ap (λ (t : Bool). if t then code_at q i b else 0) here

pub width_entry : (q : Quantised) (first : Bool) (b : ℕ) (skipl : Option ℕ) (i : ℕ) → nat_lt i (full_of q.shape.acmod) ≡ true → entry (sent_fields q first b skipl).chbwcod i ≡ when (not (is_some q.shape.couple) && nat_lt 0 (code_at q i b)) q.shape.bw
unfolding sent_fields
width_entry q first b skipl i here =
    let lt : i < 5 = omega (arith, ltb-true i (full_of q.shape.acmod) here, full_most q.shape) in
    entry_at 5 (λ j. when (nat_lt j (full_of q.shape.acmod) && not (is_some q.shape.couple) && nat_lt 0 (code_at q j b)) q.shape.bw) i None lt
    ∙ ap (λ (t : Bool). when (t && not (is_some q.shape.couple) && nat_lt 0 (code_at q i b)) q.shape.bw) here

coupled_here : (q : Quantised) (i : ℕ) → nat_lt i (full_of q.shape.acmod) ≡ true → channel_coupled (the_coupling q) i ≡ is_some q.shape.couple
coupled_here q i here =
    let lt : i < 5 = omega (arith, ltb-true i (full_of q.shape.acmod) here, full_most q.shape) in
    channel_is_coupled (full_of q.shape.acmod) q.shape.couple i lt ∙ (ap (λ (t : Bool). is_some q.shape.couple && t) here ∙ and_true (is_some q.shape.couple))

-- the end up to which a block sends, by its code
end_of_code : (q : Quantised) (first : Bool) (b : ℕ) (skipl : Option ℕ) (i : ℕ) → nat_lt i (full_of q.shape.acmod) ≡ true
    → end_sent (the_coupling q) (sent_fields q first b skipl) i
    ≡ (if code_at q i b == 0 then None else end_as (is_some q.shape.couple) (coupling_start (begin_of q.shape.couple)) (when (not (is_some q.shape.couple) && nat_lt 0 (code_at q i b)) q.shape.bw))
end_of_code q first b skipl i here =
    let P : ℕ → Bool → Option ℕ → Option ℕ = λ v t w. if v == 0 then None else end_as t (coupling_start (begin_of q.shape.couple)) w in
    let d = sent_fields q first b skipl in
    ap (λ v. P v (channel_coupled (the_coupling q) i) (entry d.chbwcod i)) (code_entry q first b skipl i here)
    ∙ (ap (λ t. P (code_at q i b) t (entry d.chbwcod i)) (coupled_here q i here)
    ∙ ap (λ w. P (code_at q i b) (is_some q.shape.couple) w) (width_entry q first b skipl i here))

code_there : {A : Type 0} (v : ℕ) (o : Option A) → 0 < v → (if v == 0 then None else o) ≡ o
code_there v o some = rw (ne_eqb v 0 (omega arith)) refl

end_again : (coupled : Bool) (start bw v : ℕ) → ((if v == 0 then None else end_as coupled start (when (not coupled && nat_lt 0 v) bw)) ≡ None)
    ⊎ ((if v == 0 then None else end_as coupled start (when (not coupled && nat_lt 0 v) bw)) ≡ end_as coupled start (Some bw))
end_again coupled start bw zero = inl refl
end_again coupled start bw (suc v) = inr (code_there (suc v) (end_as coupled start (when (not coupled && nat_lt 0 (suc v)) bw)) (omega arith) ∙ sent_end coupled start bw (suc v) (omega arith))

ends_known : (q : Quantised) → IsQuantised q → (n i : ℕ) → nat_lt i (full_of q.shape.acmod) ≡ true → latest_in (λ before b. end_sent (coupling_in before b) b i) [] (sent_before q (suc n)) ≡ the_end q
ends_known q is n i here =
    let coupled = is_some q.shape.couple in
    let start = coupling_start (begin_of q.shape.couple) in
    let some = sends_first q is i (full_coded q.shape i here) in
    latest_sent q (λ before b. end_sent (coupling_in before b) b i) (the_end q)
    (ap (λ (c : Coupling). end_sent c (sent_block q 0) i) (first_coupling q)
    ∙ (ap (λ (d : Block). end_sent (the_coupling q) d i) (block_first q)
    ∙ (end_of_code q true 0 None i here
    ∙ (code_there (code_at q i 0) (end_as coupled start (when (not coupled && nat_lt 0 (code_at q i 0)) q.shape.bw)) some ∙ sent_end coupled start q.shape.bw (code_at q i 0) some))))
    (λ m.
    let e = ap (λ (c : Coupling). end_sent c (sent_block q (suc m)) i) (coupling_sent q (suc m)) ∙ (ap (λ (d : Block). end_sent (the_coupling q) d i) (block_later q m) ∙ end_of_code q false (suc m) _ i here) in
    elim (end_again coupled start q.shape.bw (code_at q i (suc m))) [ inl a ↦ inl (e ∙ a) | inr a ↦ inr (e ∙ a) ])
    n

width_again : (coupled : Bool) (bw v : ℕ) → (when (not coupled && nat_lt 0 v) bw ≡ None) ⊎ (when (not coupled && nat_lt 0 v) bw ≡ when (not coupled) bw)
width_again coupled bw zero = inl (kept_width coupled bw 0 refl)
width_again coupled bw (suc v) = inr (sent_width coupled bw (suc v) (omega arith))

-- the bandwidth that holds
pub width_held : (q : Quantised) → IsQuantised q → (b i : ℕ) → nat_lt i (full_of q.shape.acmod) ≡ true → held (λ d. entry d.chbwcod i) (sent_before q b) (sent_block q b) ≡ when (not (is_some q.shape.couple)) q.shape.bw
width_held q is b i here =
    let coupled = is_some q.shape.couple in
    held_sent q (λ d. entry d.chbwcod i) (the_width q)
    (width_entry q true 0 None i here ∙ sent_width coupled q.shape.bw (code_at q i 0) (sends_first q is i (full_coded q.shape i here)))
    (λ m. elim (width_again coupled q.shape.bw (code_at q i (suc m))) [
      | inl a ↦ inl (width_entry q false (suc m) _ i here ∙ a)
      | inr a ↦ inr (width_entry q false (suc m) _ i here ∙ a)
    ]) b

reaches_same : (o r : Option ℕ) → o ≡ r → is_some r ≡ true → reaches o r ≡ true
reaches_same o None e some = absurd cc
reaches_same o (Some n) e some = ap (λ (x : Option ℕ). reaches x (Some n)) e ∙ le-leb n n (omega arith)

some_end : (coupled : Bool) (start bw : ℕ) → is_some (end_as coupled start (Some bw)) ≡ true
some_end true start bw = refl
some_end false start bw = refl

pub channel_kept : (q : Quantised) → IsQuantised q → (n i : ℕ) → nat_lt i (full_of q.shape.acmod) ≡ true → may_keep_channel (known_of (sent_before q (suc n))) (the_coupling q) i ≡ true
unfolding known_of
channel_kept q is n i here =
    let lt : i < 5 = omega (arith, ltb-true i (full_of q.shape.acmod) here, full_most q.shape) in
    let coupled = is_some q.shape.couple in
    let start = coupling_start (begin_of q.shape.couple) in
    let e = entry_at 5 (λ j. latest_in (λ before b. end_sent (coupling_in before b) b j) [] (sent_before q (suc n))) i None lt ∙ ends_known q is n i here in
    let w = entry_at 5 (λ j. latest (λ b. entry b.chbwcod j) (sent_before q (suc n))) i None lt ∙ (latest_held q (λ d. entry d.chbwcod i) n ∙ width_held q is n i here) in
    let f : channel_end (the_coupling q) i (the_width q) ≡ the_end q = ap (λ t. end_as t start (the_width q)) (coupled_here q i here) ∙ width_end coupled start q.shape.bw in
    let P : Option ℕ → Option ℕ → Bool = λ a b. reaches a (channel_end (the_coupling q) i b) in
    ap₂ P e w ∙ (ap (reaches (the_end q)) f ∙ reaches_same (the_end q) (the_end q) refl (some_end coupled start q.shape.bw))

-- ---- LFE's exponents, the coupling channel's offset and leaks
low_flag : (q : Quantised) → q.shape.lfe ≡ true → holds (first_block q).lfeexpstr ≡ nat_lt 0 (code_at q (low_number q.shape) 0)
unfolding sent_fields
low_flag q low = ap (λ (t : Bool). holds (when t (nat_lt 0 (code_at q (low_number q.shape) 0)))) low

pub low_kept : (q : Quantised) → IsQuantised q → (n : ℕ) → q.shape.lfe ≡ true → (known_of (sent_before q (suc n))).low ≡ true
unfolding known_of
low_kept q is n low =
    any_sent_block q (λ b. holds b.lfeexpstr) (low_flag q low ∙ lt-ltb 0 (code_at q (low_number q.shape) 0) (sends_first q is (low_number q.shape) (low_coded q.shape low))) n

offset_flag : (q : Quantised) → is_some (first_block q).cplfsnroffst ≡ is_some q.shape.couple
unfolding sent_fields
offset_flag q = some_when (is_some q.shape.couple) (q.t % 16)

pub offset_kept : (q : Quantised) (n : ℕ) → is_some q.shape.couple ≡ true → (known_of (sent_before q (suc n))).offset ≡ true
unfolding known_of
offset_kept q n used = any_sent_block q (λ b. is_some b.cplfsnroffst) (offset_flag q ∙ used) n

leaks_flag : (q : Quantised) → holds (first_block q).cplleake ≡ is_some q.shape.couple
unfolding sent_fields
leaks_flag q = holds_when (is_some q.shape.couple) true ∙ and_true (is_some q.shape.couple)

pub leaks_kept : (q : Quantised) (n : ℕ) → is_some q.shape.couple ≡ true → (known_of (sent_before q (suc n))).leaks ≡ true
unfolding known_of
leaks_kept q n used = any_sent_block q (λ b. holds b.cplleake) (leaks_flag q ∙ used) n
