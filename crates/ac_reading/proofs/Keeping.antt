-- Rows of the block before, where they were made from the same.
use Rattle.std.proofs.Common.{◌≡◌, ℕ, ◌+◌, ◌-◌, ◌<◌, ◌≤◌, Bool, true, false, ◌&&◌, List, [], ◌∷◌, ◌++◌, slice_index, Option, Some, None, refl, ap, ap₂, sym, subst, ◌∙◌, arith, inl, inr}
use Rattle.std.specs.Prelude.{if◌then◌else◌, slice_index_or, ◌==◌, nat_lt, min}
use Rattle.std.specs.Option.{ForSome, option_or}
use Rattle.std.proofs.Math.Nat.{min-le_right}
use Rattle.std.proofs.lemmas.Bool.{cases_eq}
use Rattle.std.proofs.lemmas.Bool.Decides.{nat_tests}
use Rattle.ac_base.specs.declared.spans.Span.{Span}
use Rattle.ac_base.specs.Shape.{full_of, IsSpan}
use Rattle.ac_base.specs.Spans.{IsIn}
use Rattle.ac_base.proofs.SpanBounds.{span_end}
use Rattle.ac_alloc.specs.declared.params.Params.{Params}
use Rattle.ac_alloc.specs.Integration.{AreExponents}
use Rattle.ac_alloc.specs.Pointers.{pointer, Agree}
use Rattle.ac_alloc.proofs.Reading.{pointers_by_span}
use Rattle.ac_expo.specs.Spelling.{Spelling}
use Rattle.ac_rows.specs.Blocks.{Block}
use Rattle.ac_rows.specs.declared.head.Head.{Head}
use Rattle.ac_rows.specs.Filled.{holds, number, entry, latest, span_in, spans_of, filled_of}
use Rattle.ac_rows.proofs.Later.{latest_more}
use Rattle.ac_record.specs.Channels.{coded_in, is_in}
use Rattle.ac_record.specs.Held.{with_kind, sent_exponents, exponent_by, exponent_in, held_exponents, is_silent, gain_of, params_in, offset_of}
use Rattle.ac_record.specs.Readings.{cell}
use Rattle.ac_reading.specs.Cells.{IsRow, StaysBut}
use Rattle.ac_reading.specs.Kept.{row_in, RowsIn, pointer_by, KeepsExponents, KeepsPointers, IsSame, HasSent, HaveSameCurves, HaveSameLeaks}
use Rattle.ac_reading.specs.Mantissas.{span_at}
use Rattle.ac_reading.specs.Spells.{Spells}
use Rattle.ac_reading.specs.declared.kept.Kept.{Kept}
use Rattle.ac_reading.proofs.Rooms.{at_span, exponent_same, pointer_same}
use Rattle.ac_reading.proofs.Rows.{in_from, row_inside, row_same}

-- ---- exponents

-- those of groups are small
pub exponents_small : (span : Span) (o : Option (ℕ × Spelling)) (row : List ℕ) → ForSome o (λ p. Spells p.0 span p.1) → IsRow span (exponent_by span o) row → AreExponents span.start span.end row
exponents_small span None row h r k low high = omega (arith, row_inside span (exponent_by span None) row r k (low, high))
exponents_small span (Some p) row h r k low high =
    let s = h p refl in omega (arith, row_inside span (exponent_by span (Some p)) row r k (low, high), s.most k (low, high))

-- what a block sends of a coded channel, by whether coupling is in use
sent_with : Head → Bool → ℕ → Block → Option (ℕ × Spelling)
sent_with h u c b =
    if nat_lt c (full_of h.acmod) then with_kind (slice_index b.chexpstr c) (entry b.exps c)
    else if u && c == full_of h.acmod then with_kind (number b.cplexpstr) b.cplabsexp
    else with_kind 1 b.lfeexps

same_latest : (h : Head) (c : ℕ) (f g : Block) (e : List Block) → holds g.cplinu ≡ holds f.cplinu → latest (sent_exponents h g c) e ≡ latest (sent_exponents h f c) e
unfolding sent_with
same_latest h c f g e is = ap (λ (u : Bool). latest (sent_with h u c) e) is

latest_holds : (o p : Option (ℕ × Spelling)) → o ≡ None → option_or o p ≡ p
latest_holds None p e = refl
latest_holds (Some x) p e = absurd cc

-- where a block sends none, those that hold are the latest
held_stays : (h : Head) (e : List Block) (x f : Block) (s : Span) (kept : Kept) (c : ℕ) → f ≡ filled_of h e x → HasSent h x f s kept c → held_exponents h e x c ≡ latest (sent_exponents h kept.block c) e
held_stays h e x f s kept c is has =
    subst (λ (w : Block). option_or (sent_exponents h w c x) (latest (sent_exponents h w c) e) ≡ latest (sent_exponents h kept.block c) e) is
    (latest_holds (sent_exponents h f c x) (latest (sent_exponents h f c) e) has.none ∙ sym (same_latest h c f kept.block e has.use_of))

-- and their row stays
pub row_stays : (h : Head) (e : List Block) (x f : Block) (s : Span) (kept : Kept) (c : ℕ) (row : List ℕ) → f ≡ filled_of h e x → s ≡ span_in h f c → HasSent h x f s kept c
    → IsRow (span_at kept.spans c) (exponent_by (span_at kept.spans c) (latest (sent_exponents h kept.block c) e)) row → IsRow s (exponent_by s (held_exponents h e x c)) row
row_stays h e x f s kept c row is at has before =
    subst (λ (o : Option (ℕ × Spelling)). IsRow s (exponent_by s o) row) (sym (held_stays h e x f s kept c is has))
    (subst (λ (r : Span). IsRow r (exponent_by r (latest (sent_exponents h kept.block c) e)) row) has.span before)

-- there is no block before the first
not_first : (b : ℕ) (n c : ℕ) → (b ≡ 0 → n ≡ 0) → c < n → b - 1 ≡ b → ⊥
not_first b n c first lt e = let z : b ≡ 0 = omega arith in let none = first z in omega (arith, none, lt)

pub row_before : (h : Head) (b m : ℕ) (kept : Kept) (e : List Block) (old new : List (List (List ℕ))) (c : ℕ) → m ≡ b - 1 → KeepsExponents h b kept e old → StaysBut b old new → c < kept.count → IsRow (span_at kept.spans c) (exponent_by (span_at kept.spans c) (latest (sent_exponents h kept.block c) e)) (row_in new c m)
row_before h b m kept e old new c is keeps stays lt =
    subst (λ (n : ℕ). IsRow (span_at kept.spans c) (exponent_by (span_at kept.spans c) (latest (sent_exponents h kept.block c) e)) (row_in new c n)) (sym is)
    (subst (λ (x : Span). IsRow x (exponent_by x (latest (sent_exponents h kept.block c) e)) (row_in new c (b - 1))) (sym (keeps.spans c lt))
    (λ k. stays c (b - 1) k (not_first b kept.count c keeps.first lt) ∙ keeps.rows c k lt))

-- ---- pointers

-- those made from the same are the same
pub pointers_same : (h : Head) (f : Block) (s : Span) (kept : Kept) (c : ℕ) (old exps row : List ℕ) → IsSame h f s kept c old exps → is_silent h kept.block ≡ is_silent h f → IsSpan s
    → IsRow (span_at kept.spans c) (λ k. pointer (is_silent h kept.block) (params_in h kept.block c) (span_at kept.spans c) old k (offset_of h kept.block c)) row
    → IsRow s (λ k. pointer (is_silent h f) (params_in h f c) s exps k (offset_of h f c)) row
pointers_same h f s kept c old exps row same silent is has =
    row_same s (λ k. pointer (is_silent h f) (params_in h f c) s old k (offset_of h f c)) (λ k. pointer (is_silent h f) (params_in h f c) s exps k (offset_of h f c)) row
    (λ k i. pointers_by_span (is_silent h f) (params_in h f c) s old exps k (offset_of h f c) is (λ j inside. same.exps j (omega (arith, inside.1, span_end s is))) i)
    (pointer_same (is_silent h kept.block) (is_silent h f) (params_in h kept.block c) (params_in h f c) (span_at kept.spans c) s old row (offset_of h kept.block c) (offset_of h f c) silent same.params same.span same.offset has)

pub pointers_before : (h : Head) (b m : ℕ) (kept : Kept) (exps old new : List (List (List ℕ))) (c : ℕ) → m ≡ b - 1 → (b ≡ 0 → kept.count ≡ 0) → ((d : ℕ) → d < kept.count → span_at kept.spans d ≡ span_in h kept.block d) → KeepsPointers h b kept exps old → StaysBut b old new → c < kept.count
    → IsRow (span_at kept.spans c) (λ k. pointer (is_silent h kept.block) (params_in h kept.block c) (span_at kept.spans c) (row_in exps c m) k (offset_of h kept.block c)) (row_in new c m)
pointers_before h b m kept exps old new c e first spans keeps stays lt =
    subst (λ (n : ℕ). IsRow (span_at kept.spans c) (λ k. pointer (is_silent h kept.block) (params_in h kept.block c) (span_at kept.spans c) (row_in exps c n) k (offset_of h kept.block c)) (row_in new c n)) (sym e)
    (subst (λ (x : Span). IsRow x (λ k. pointer (is_silent h kept.block) (params_in h kept.block c) x (row_in exps c (b - 1)) k (offset_of h kept.block c)) (row_in new c (b - 1))) (sym (spans c lt))
    (λ k. stays c (b - 1) k (not_first b kept.count c first lt) ∙ keeps c k lt))

if_same : (t : Bool) (m n : ℕ) → (t ≡ true → m ≡ n) → (if t then m else 0) ≡ (if t then n else 0)
if_same true m n h = h refl
if_same false m n h = refl

-- by exponents that stayed
pub pointers_stay : (h : Head) (b : ℕ) (kept : Kept) (exps others baps : List (List (List ℕ))) → (b ≡ 0 → kept.count ≡ 0) → ((d : ℕ) → d < kept.count → IsSpan (span_in h kept.block d)) → StaysBut b exps others → KeepsPointers h b kept exps baps → KeepsPointers h b kept others baps
pointers_stay h b kept exps others baps first are stays keeps c k lt =
    keeps c k lt ∙ if_same (is_in (span_in h kept.block c) k) _ _ (λ t.
    pointers_by_span (is_silent h kept.block) (params_in h kept.block c) (span_in h kept.block c) (row_in exps c (b - 1)) (row_in others c (b - 1)) k (offset_of h kept.block c) (are c lt)
    (λ j inside. sym (stays c (b - 1) j (not_first b kept.count c first lt))) (in_from (span_in h kept.block c) k t))

-- ---- from block to block

past_none : (n c : ℕ) → n ≡ 0 → c < n → ⊥
past_none n c e lt = absurd (omega (arith, e, lt))

pub exponents_none : (h : Head) (kept : Kept) (e : List Block) (exps : List (List (List ℕ))) → kept.count ≡ 0 → KeepsExponents h 0 kept e exps
exponents_none h kept e exps none = record {
  first = λ z. none;
  spans = λ c lt. absurd (past_none kept.count c none lt);
  are_spans = λ c lt. absurd (past_none kept.count c none lt);
  rows = λ c k lt. absurd (past_none kept.count c none lt);
}

pub pointers_none : (h : Head) (kept : Kept) (exps baps : List (List (List ℕ))) → kept.count ≡ 0 → KeepsPointers h 0 kept exps baps
pointers_none h kept exps baps none c k lt = absurd (past_none kept.count c none lt)

rows_at : (h : Head) (f : Block) (b m n : ℕ) (a : List (List (List ℕ))) (g : ℕ → ℕ → ℕ) → n ≡ m → RowsIn h f b a g m → RowsIn h f b a g n
rows_at h f b m n a g e has c k lt = has c k (omega (arith, e, lt))

-- those that hold are the latest for the next block
held_latest : (h : Head) (e : List Block) (x f : Block) (c : ℕ) → f ≡ filled_of h e x → held_exponents h e x c ≡ latest (sent_exponents h f c) (e ++ x ∷ [])
held_latest h e x f c is =
    subst (λ (w : Block). held_exponents h e x c ≡ latest (sent_exponents h w c) (e ++ x ∷ [])) (sym is)
    (sym (latest_more (λ _. sent_exponents h (filled_of h e x) c) [] e x))

pub exponents_kept : (h : Head) (e later : List Block) (x f : Block) (b n : ℕ) (spans : List Span) (exps : List (List (List ℕ))) → f ≡ filled_of h e x → later ≡ e ++ x ∷ [] → spans ≡ spans_of h f → n ≡ coded_in h f → n ≤ 7
    → ((c : ℕ) → c < coded_in h f → IsSpan (span_in h f c)) → RowsIn h f b exps (exponent_in h e x) (coded_in h f) → KeepsExponents h (b + 1) (record { count = n; block = f; spans = spans }) later exps
exponents_kept h e later x f b n spans exps filled more are count few is has =
    let g = λ (c : ℕ). exponent_by (span_in h f c) (latest (sent_exponents h f c) later) in
    let back : b ≡ b + 1 - 1 = omega arith in
    let list = λ (c : ℕ). held_latest h e x f c filled ∙ ap (λ (l : List Block). latest (sent_exponents h f c) l) (sym more) in
    let rows : RowsIn h f b exps g (coded_in h f) =
    λ c k lt. has c k lt ∙ ap (λ (v : ℕ). if is_in (span_in h f c) k then v else 0) (sym (exponent_same h e x f c (span_in h f c) (latest (sent_exponents h f c) later) filled refl (sym (list c)) k)) in
    record {
      first = λ z. absurd (omega (arith, z));
      spans = λ c lt. at_span h f spans c are (omega (arith, lt, few));
      are_spans = λ c lt. is c (omega (arith, lt, count));
      rows = subst (λ (m : ℕ). RowsIn h f m exps g n) back (rows_at h f b (coded_in h f) n exps g count rows);
    }

pub pointers_kept : (h : Head) (f : Block) (b n : ℕ) (spans : List Span) (exps baps : List (List (List ℕ))) → n ≡ coded_in h f → RowsIn h f b baps (pointer_by h f b exps) (coded_in h f)
    → KeepsPointers h (b + 1) (record { count = n; block = f; spans = spans }) exps baps
pointers_kept h f b n spans exps baps count has =
    let back : b ≡ b + 1 - 1 = omega arith in
    subst (λ (m : ℕ). RowsIn h f m baps (pointer_by h f m exps) n) back (rows_at h f b (coded_in h f) n baps (pointer_by h f b exps) count has)

-- ---- tests

pub eq_from : (a b : ℕ) → (a == b) ≡ true → a ≡ b
eq_from a b e = grind (arith, nat_tests)

-- all of so many, and one more
pub all_more : (P : ℕ → Type 0) (n : ℕ) (all here : Bool) → (all ≡ true → (k : ℕ) → k < n → P k) → (here ≡ true → P n) → (all && here) ≡ true → (k : ℕ) → k < n + 1 → P k
all_more P n true true before now e k lt = elim (cases_eq k n) [
  | inl eq ↦ subst P (sym eq) (now refl)
  | inr ne ↦ before refl k (omega arith)
]
all_more P n true false before now e k lt = absurd cc
all_more P n false here before now e k lt = absurd cc

-- ---- parameters

params_of : ℕ → ℕ → ℕ → ℕ → ℕ → ℕ → ℕ → ℕ → ℕ → Params
params_of rate slow fast gain knee floor quick first second = record {
  fscod = min rate 2;
  sdcycod = min slow 3;
  fdcycod = min fast 3;
  sgaincod = min gain 3;
  dbpbcod = min knee 3;
  floorcod = min floor 7;
  fgaincod = min quick 7;
  cplfleak = min first 7;
  cplsleak = min second 7;
  sampling = min-le_right rate 2;
  slow_code = min-le_right slow 3;
  fast_code = min-le_right fast 3;
  gain_code = min-le_right gain 3;
  knee_code = min-le_right knee 3;
  floor_code = min-le_right floor 7;
  fast_gain_code = min-le_right quick 7;
  fast_leak_code = min-le_right first 7;
  slow_leak_code = min-le_right second 7;
}

pub params_same : (h : Head) (f g : Block) (c : ℕ) → HaveSameCurves f g → HaveSameLeaks f g → gain_of h f c ≡ gain_of h g c → params_in h f c ≡ params_in h g c
unfolding params_of
params_same h f g c s l q =
    ap (λ n. params_of h.fscod n (number f.fdcycod) (number f.sgaincod) (number f.dbpbcod) (number f.floorcod) (gain_of h f c) (number f.cplfleak) (number f.cplsleak)) s.slow
    ∙ (ap (λ n. params_of h.fscod (number g.sdcycod) n (number f.sgaincod) (number f.dbpbcod) (number f.floorcod) (gain_of h f c) (number f.cplfleak) (number f.cplsleak)) s.fast
    ∙ (ap (λ n. params_of h.fscod (number g.sdcycod) (number g.fdcycod) n (number f.dbpbcod) (number f.floorcod) (gain_of h f c) (number f.cplfleak) (number f.cplsleak)) s.gain
    ∙ (ap (λ n. params_of h.fscod (number g.sdcycod) (number g.fdcycod) (number g.sgaincod) n (number f.floorcod) (gain_of h f c) (number f.cplfleak) (number f.cplsleak)) s.knee
    ∙ (ap (λ n. params_of h.fscod (number g.sdcycod) (number g.fdcycod) (number g.sgaincod) (number g.dbpbcod) n (gain_of h f c) (number f.cplfleak) (number f.cplsleak)) s.floor
    ∙ (ap (λ n. params_of h.fscod (number g.sdcycod) (number g.fdcycod) (number g.sgaincod) (number g.dbpbcod) (number g.floorcod) n (number f.cplfleak) (number f.cplsleak)) q
    ∙ (ap (λ n. params_of h.fscod (number g.sdcycod) (number g.fdcycod) (number g.sgaincod) (number g.dbpbcod) (number g.floorcod) (gain_of h g c) n (number f.cplsleak)) l.fast
    ∙ ap (λ n. params_of h.fscod (number g.sdcycod) (number g.fdcycod) (number g.sgaincod) (number g.dbpbcod) (number g.floorcod) (gain_of h g c) (number g.cplfleak) n) l.slow))))))
