-- What the code writes, row by row.
use Rattle.std.proofs.Common.{◌≡◌, ℕ, zero, suc, ◌+◌, ◌-◌, ◌<◌, ◌≤◌, ℤ, pos, Bool, List, [], ◌∷◌, length, slice_index, slice_index_or, slice_set, replicate, refl, ap, sym, subst, ◌∙◌, inl, inr, arith}
use Rattle.std.specs.Prelude.{◌==◌}
use Rattle.std.proofs.lemmas.Bool.{cases_eq}
use Rattle.std.proofs.lemmas.List.{get_or-set_same, get_or-set_other, length-set, length-replicate, get_or-replicate}
use Rattle.ac_base.specs.declared.runs.Run.{Run}
use Rattle.ac_base.specs.declared.shapes.Shape.{Shape}
use Rattle.ac_base.specs.declared.spans.Span.{Span}
use Rattle.ac_base.specs.Spans.{IsIn, IsKind}
use Rattle.ac_base.specs.Words.{word_of}
use Rattle.ac_alloc.specs.declared.params.Params.{Params}
use Rattle.ac_alloc.specs.Codes.{encoder_params}
use Rattle.ac_alloc.specs.Pointers as allocation
use Rattle.ac_alloc.specs.Pointers.{pointer}
use Rattle.ac_expo.specs.Greatest.{exponent_of}
use Rattle.ac_expo.specs.Raw.{channel_span, channels}
use Rattle.ac_mant.specs.Quantiser.{code_of}
use Rattle.ac_record.specs.Readings.{cell}
use Rattle.ac_cost.specs.Runs.{IsAssignmentOf}
use Rattle.ac_coding.specs.Rows.{row_in, exponent_by, code_by, ArePointersIn, IsPut}
use Rattle.ac_energy.specs.Coefficients.{entry}
use Rattle.ac_coding.specs.Values.{row_at, run_at}
use Rattle.ac_coding.proofs.CodesOfPointers.{pointer_small}
use Rattle.ac_coding.proofs.Entries.{row_here, row_same, row_listed}
use Rattle.ac_coding.proofs.GreatestRows.{run_row_kept}
use Rattle.ac_coding.proofs.RunsOfBlocks.{run_is}

-- ---- the code of a block
word_there : (l : List (List ℕ)) (i : ℕ) (x : List ℕ) → length (slice_index_or l i []) ≡ 6 → slice_index_or l i x ≡ slice_index_or l i []
word_there [] i x e = absurd cc
word_there (w ∷ l) zero x e = refl
word_there (w ∷ l) (suc i) x e = word_there l i x e

pub code_read : (shape : Shape) (assign : List (List ℕ)) → IsAssignmentOf shape assign → (c at b code : ℕ) (x : List ℕ) → c < channels shape → at ≡ c → code ≡ slice_index (slice_index_or assign at x) b → code ≡ slice_index (word_of assign c) b
code_read shape assign is c at b code x lt e here =
    let same : slice_index_or assign at x ≡ word_of assign c = ap (λ (i : ℕ). slice_index_or assign i x) e ∙ word_there assign c x (is.words c lt).long in
    here ∙ ap (λ (l : List ℕ). slice_index l b) same

-- ---- the run of a block
pub run_kind : (shape : Shape) (assign : List (List ℕ)) → IsAssignmentOf shape assign → (c b : ℕ) (run : Run) (span : Span) → c < channels shape → b < 6 → run ≡ run_at assign c b → span ≡ channel_span shape c → IsKind run.kind span
run_kind shape assign is c b run span lt in_frame e same =
    let there = run_is shape assign c b is lt in_frame in
    subst (λ (r : Run). IsKind r.kind span) (sym e) (subst (IsKind (run_at assign c b).kind) (sym same) (there.is_run.some, there.taken))

pub run_order : (shape : Shape) (assign : List (List ℕ)) → IsAssignmentOf shape assign → (c b : ℕ) (run : Run) → c < channels shape → b < 6 → run ≡ run_at assign c b → run.from < run.to
run_order shape assign is c b run lt in_frame e =
    subst (λ (r : Run). r.from < r.to) (sym e) (run_is shape assign c b is lt in_frame).is_run.order

pub run_blocks : (shape : Shape) (assign : List (List ℕ)) → IsAssignmentOf shape assign → (c b : ℕ) (run : Run) → c < channels shape → b < 6 → run ≡ run_at assign c b → run.to ≤ 6
run_blocks shape assign is c b run lt in_frame e =
    subst (λ (r : Run). r.to ≤ 6) (sym e) (run_is shape assign c b is lt in_frame).is_run.blocks

-- ---- exponents
pub row_written : (shape : Shape) (raw : List (List (List ℕ))) (assign : List (List ℕ)) (c b at : ℕ) (run : Run) (span : Span) (row : List ℕ) → c < channels shape → at ≡ c → run ≡ run_at assign c b → span ≡ channel_span shape c
    → row ≡ row_in span (exponent_of run.kind span (slice_index_or raw at []) run.from run.to) → row ≡ row_at shape (exponent_by shape raw assign) c b
row_written shape raw assign c b at run span row lt place e same here =
    here
    ∙ (ap (λ (s : Span). row_in s (exponent_of run.kind s (slice_index_or raw at []) run.from run.to)) same
    ∙ (ap (λ (r : Run). row_in (channel_span shape c) (exponent_of r.kind (channel_span shape c) (slice_index_or raw at []) r.from r.to)) e
    ∙ (ap (λ (i : ℕ). row_in (channel_span shape c) (exponent_of (run_at assign c b).kind (channel_span shape c) (slice_index_or raw i []) (run_at assign c b).from (run_at assign c b).to)) place
    ∙ row_here shape (exponent_by shape raw assign) c b lt)))

pub row_copied : (shape : Shape) (raw : List (List (List ℕ))) (assign : List (List ℕ)) → IsAssignmentOf shape assign → (c at b : ℕ) (rows : List (List ℕ)) → c < channels shape → at ≡ b → b < 6 → slice_index (word_of assign c) b ≡ 0
    → ((a : ℕ) → a < b → slice_index_or rows a [] ≡ row_at shape (exponent_by shape raw assign) c a) → slice_index_or rows (at - 1) [] ≡ row_at shape (exponent_by shape raw assign) c b
row_copied shape raw assign is c at zero rows lt e in_frame code before = absurd (omega (arith, code, (is.words c lt).sends))
row_copied shape raw assign is c at (suc b) rows lt e in_frame code before =
    let next : suc b ≡ b + 1 = omega arith in
    let here : slice_index (word_of assign c) (b + 1) ≡ 0 = ap (slice_index (word_of assign c)) (sym next) ∙ code in
    let last : at - 1 ≡ b = omega (arith, e) in
    ap (λ (i : ℕ). slice_index_or rows i []) last
    ∙ (before b (omega arith)
    ∙ (sym (run_row_kept shape (slice_index_or raw c []) assign is c b lt (omega (arith, in_frame)) here) ∙ ap (row_at shape (exponent_by shape raw assign) c) (sym next)))

-- ---- pointers
pub pointed : (shape : Shape) (c t : ℕ) (s : Span) (p : Params) (silent : Bool) (exps row : List ℕ) → s ≡ channel_span shape c → p ≡ encoder_params shape.fscod shape.sampling → silent ≡ (t == 0)
    → allocation.ArePointers silent p s exps t row → (k : ℕ) → IsIn (channel_span shape c) k → slice_index row k ≡ pointer (t == 0) (encoder_params shape.fscod shape.sampling) (channel_span shape c) exps k t
pointed shape c t s p silent exps row same params quiet are =
    let P : Span → Params → Bool → Type 0 = λ z r y. allocation.ArePointers y r z exps t row in
    subst (λ z. P z (encoder_params shape.fscod shape.sampling) (t == 0)) same (subst (λ r. P s r (t == 0)) params (subst (λ y. P s p y) quiet are))

-- where a block reuses exponents, they stay
pub pointers_kept : (shape : Shape) (exps : List (List (List ℕ))) (assign : List (List ℕ)) → IsAssignmentOf shape assign → (t c b : ℕ) (row : List ℕ) → c < channels shape → b < 6 → slice_index (word_of assign c) b ≡ 0
    → ((a : ℕ) → a < 5 → slice_index (word_of assign c) (a + 1) ≡ 0 → slice_index_or (slice_index_or exps c []) (a + 1) [] ≡ slice_index_or (slice_index_or exps c []) a [])
    → (0 < b → ArePointersIn shape exps t c (b - 1) row) → ArePointersIn shape exps t c b row
pointers_kept shape exps assign is t c zero row lt in_frame code kept before = absurd (omega (arith, code, (is.words c lt).sends))
pointers_kept shape exps assign is t c (suc b) row lt in_frame code kept before =
    let next : b + 1 ≡ suc b = omega arith in
    let last : suc b - 1 ≡ b = omega arith in
    let here : slice_index (word_of assign c) (b + 1) ≡ 0 = ap (slice_index (word_of assign c)) next ∙ code in
    let P : ℕ → List ℕ → ℕ = λ k l. pointer (t == 0) (encoder_params shape.fscod shape.sampling) (channel_span shape c) l k t in
    λ k inside. before (omega arith) k inside
    ∙ (ap (λ (i : ℕ). P k (slice_index_or (slice_index_or exps c []) i [])) last
    ∙ (sym (ap (P k) (kept b (omega (arith, in_frame)) here)) ∙ ap (λ (i : ℕ). P k (slice_index_or (slice_index_or exps c []) i [])) next))

pub pointers_small : (shape : Shape) (exps : List (List (List ℕ))) (t c b : ℕ) (span : Span) (row : List ℕ) → span ≡ channel_span shape c → ArePointersIn shape exps t c b row → (k : ℕ) → IsIn span k → slice_index row k ≤ 15
pointers_small shape exps t c b span row same are k inside =
    omega (arith, are k (subst (λ (s : Span). IsIn s k) same inside), pointer_small (t == 0) (encoder_params shape.fscod shape.sampling) (channel_span shape c) (slice_index_or (slice_index_or exps c []) b []) k t)

-- ---- codes
pub codes_written : (shape : Shape) (coefs : List (List (List ℤ))) (exps : List (List (List ℕ))) (t c b at block : ℕ) (span : Span) (pointers row : List ℕ) → c < channels shape → at ≡ c → block ≡ b → span ≡ channel_span shape c → ArePointersIn shape exps t c b pointers
    → row ≡ row_in span (λ k. code_of (slice_index_or (slice_index_or (slice_index_or coefs at []) block []) k (pos 0)) (cell exps at block k) (slice_index pointers k)) → row ≡ row_at shape (code_by shape (entry coefs) exps t) c b
codes_written shape coefs exps t c b at block span pointers row lt e f same are here =
    let F : ℕ → ℕ → ℕ → ℕ = λ i j k. code_of (slice_index_or (slice_index_or (slice_index_or coefs i []) j []) k (pos 0)) (cell exps i j k) (slice_index pointers k) in
    here
    ∙ (ap (λ (s : Span). row_in s (F at block)) same
    ∙ (ap (λ (i : ℕ). row_in (channel_span shape c) (F i block)) e
    ∙ (ap (λ (j : ℕ). row_in (channel_span shape c) (F c j)) f
    ∙ (row_same (channel_span shape c) (F c b) (code_by shape (entry coefs) exps t c b) (λ k inside. ap (code_of (entry coefs c b k) (cell exps c b k)) (are k inside))
    ∙ row_here shape (code_by shape (entry coefs) exps t) c b lt))))

-- one bin more of a row
pub put_none : (span : Span) (f : ℕ → ℕ) (k : ℕ) → k ≡ span.start → IsPut span f (replicate {A = ℕ} 256 0) k
put_none span f k e = record {
  before = λ j l m. absurd (omega (arith, e, l, m));
  outside = λ j lt not. get_or-replicate {A = ℕ} 256 j 0 0 lt;
  long = length-replicate {A = ℕ} 256 0;
}

pub put_more : (span : Span) (f : ℕ → ℕ) (out : List ℕ) (k v : ℕ) → IsIn span k → k < 256 → v ≡ f k → IsPut span f out k → IsPut span f (slice_set out k v) (k + 1)
put_more span f out k v inside small value so = record {
  before = λ j l m. elim (cases_eq j k) [
    | inl e ↦ subst (λ (i : ℕ). slice_index (slice_set out k v) i ≡ f i) (sym e) (get_or-set_same out k v 0 (omega (arith, so.long, small)) ∙ value)
    | inr ne ↦ get_or-set_other out k j v 0 ne ∙ so.before j l (omega (arith, m, ne))
  ];
  outside = λ j lt not. elim (cases_eq j k) [
    | inl e ↦ absurd (not (subst (IsIn span) (sym e) inside))
    | inr ne ↦ get_or-set_other out k j v 0 ne ∙ so.outside j lt not
  ];
  long = length-set out k v ∙ so.long;
}

pub put_all : (span : Span) (f : ℕ → ℕ) (out : List ℕ) (k : ℕ) → span.end ≤ k → IsPut span f out k → out ≡ row_in span f
put_all span f out k all so = row_listed span f out so.long (λ j inside. so.before j inside.0 (omega (arith, inside.1, all))) so.outside
