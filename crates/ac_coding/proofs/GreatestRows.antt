-- The exponents of coefficients: by their raw exponents in a list, by runs, and that coefficients can be coded with them.
use Rattle.std.proofs.Common.{◌≡◌, ℕ, ◌+◌, ◌*◌, ◌^◌, ◌<◌, ◌≤◌, ◌&&◌, unsigned_abs, List, [], slice_index, slice_index_or, nat_lt, refl, ap, sym, subst, ◌∙◌, arith}
use Rattle.std.specs.Prelude.{◌==◌, if◌then◌else◌}
use Rattle.ac_base.specs.declared.runs.Run.{Run}
use Rattle.ac_base.specs.declared.shapes.Shape.{Shape}
use Rattle.ac_base.specs.Spans.{IsIn}
use Rattle.ac_base.specs.Words.{word_of}
use Rattle.ac_base.proofs.SpanBounds.{span_end}
use Rattle.ac_alloc.specs.Codes.{encoder_params}
use Rattle.ac_alloc.specs.Pointers.{pointer}
use Rattle.ac_alloc.proofs.Reading.{pointers_by_span}
use Rattle.ac_expo.specs.Greatest.{exponent_of, IsByFormula, IsGreatest}
use Rattle.ac_expo.specs.Raw.{channel_span, channels, raw_of}
use Rattle.ac_expo.proofs.Agreeing.{RawsAgree, same_exps}
use Rattle.ac_expo.proofs.Formula.{formula}
use Rattle.ac_expo.proofs.Zeros.{raw_greatest}
use Rattle.ac_rows.specs.Filled.{listed}
use Rattle.ac_record.specs.Channels.{is_in}
use Rattle.ac_record.specs.Readings.{cell}
use Rattle.ac_cost.specs.Pointers.{run_bap, run_exps, pointers}
use Rattle.ac_cost.specs.Runs.{IsAssignmentOf, IsRunOf}
use Rattle.ac_cost.proofs.Exponents.{span_of_shape, run_exps_are}
use Rattle.ac_sent.proofs.Listed.{entry_at}
use Rattle.ac_coding.specs.Asked.{AreRawOf}
use Rattle.ac_coding.specs.Rows.{exponent_by, AreHeld}
use Rattle.ac_energy.specs.Coefficients.{Coefficients}
use Rattle.ac_coding.specs.Values.{row_at, in_spans, raw_rows, run_at, exponent_at, exponents, pointer_by}
use Rattle.ac_coding.proofs.CodesOfPointers.{below_fits}
use Rattle.ac_coding.proofs.Entries.{row_entry, row_of_spans, cell_of_spans, spans_same}
use Rattle.ac_coding.proofs.RunsOfBlocks.{run_is, run_has, run_kept}

-- ---- raw exponents
bin_small : (shape : Shape) (c k : ℕ) → IsIn (channel_span shape c) k → k < 256
bin_small shape c k inside = omega (arith, inside.1, span_end (channel_span shape c) (span_of_shape shape c))

pub raw_entry : (x : Coefficients) (c b k : ℕ) → b < 6 → k < 256 → slice_index (slice_index_or (raw_rows x c) b []) k ≡ raw_of (x c b k)
raw_entry x c b k in_frame lt =
    ap (λ (l : List ℕ). slice_index l k) (entry_at 6 (λ a. listed 256 0 (λ j. raw_of (x c a j))) b [] in_frame) ∙ entry_at 256 (λ j. raw_of (x c b j)) k 0 lt

raws_agree : (shape : Shape) (x : Coefficients) (raw : List (List (List ℕ))) → AreRawOf shape x raw → (c from to : ℕ) → c < channels shape → to ≤ 6 → RawsAgree (channel_span shape c) (raw_rows x c) (slice_index_or raw c []) from to
raws_agree shape x raw are c from to lt blocks b k low high inside =
    raw_entry x c b k (omega (arith, high, blocks)) (bin_small shape c k inside) ∙ sym (are c b k lt (omega (arith, high, blocks)) inside)

-- ---- the exponents of a run are those of each list that has its raw exponents
by_formula : (shape : Shape) (c kind : ℕ) (rows : List (List ℕ)) (from to : ℕ) → IsByFormula kind (channel_span shape c) rows from to (listed 256 0 (exponent_of kind (channel_span shape c) rows from to))
by_formula shape c kind rows from to k inside = entry_at 256 (exponent_of kind (channel_span shape c) rows from to) k 0 (bin_small shape c k inside)

run_agrees : (shape : Shape) (c k : ℕ) (run : Run) (rows others : List (List ℕ)) → IsRunOf shape c run → RawsAgree (channel_span shape c) rows others run.from run.to → IsIn (channel_span shape c) k
    → exponent_of run.kind (channel_span shape c) rows run.from run.to k ≡ exponent_of run.kind (channel_span shape c) others run.from run.to k
run_agrees shape c k run rows others is same inside =
    let span = channel_span shape c in
    let p = by_formula shape c run.kind rows run.from run.to in
    let q = by_formula shape c run.kind others run.from run.to in
    sym (p k inside)
    ∙ (same_exps run.kind span rows others run.from run.to (listed 256 0 (exponent_of run.kind span rows run.from run.to)) (listed 256 0 (exponent_of run.kind span others run.from run.to)) (span_of_shape shape c) (is.is_run.some, is.taken) same p q k inside
    ∙ q k inside)

pub exponent_agrees : (shape : Shape) (x : Coefficients) (raw : List (List (List ℕ))) (assign : List (List ℕ)) → AreRawOf shape x raw → IsAssignmentOf shape assign → (c b k : ℕ) → c < channels shape → b < 6 → IsIn (channel_span shape c) k
    → exponent_at shape x assign c b k ≡ exponent_by shape raw assign c b k
exponent_agrees shape x raw assign are is c b k lt in_frame inside =
    let run = run_is shape assign c b is lt in_frame in
    run_agrees shape c k (run_at assign c b) (raw_rows x c) (slice_index_or raw c []) run (raws_agree shape x raw are c (run_at assign c b).from (run_at assign c b).to lt run.is_run.blocks) inside

pub exponents_are : (shape : Shape) (x : Coefficients) (raw : List (List (List ℕ))) (assign : List (List ℕ)) → AreRawOf shape x raw → IsAssignmentOf shape assign → in_spans shape (exponent_by shape raw assign) ≡ exponents shape x assign
unfolding exponents
exponents_are shape x raw assign are is =
    spans_same shape (exponent_by shape raw assign) (exponent_at shape x assign) (λ c b k lt in_frame inside. sym (exponent_agrees shape x raw assign are is c b k lt in_frame inside))

-- ---- rows of all exponents
pub exponents_row : (shape : Shape) (x : Coefficients) (assign : List (List ℕ)) (c b : ℕ) → c < channels shape → b < 6 → slice_index_or (slice_index_or (exponents shape x assign) c []) b [] ≡ row_at shape (exponent_at shape x assign) c b
unfolding exponents
exponents_row shape x assign c b lt in_frame = row_of_spans shape (exponent_at shape x assign) c b lt in_frame

pub exponents_cell : (shape : Shape) (x : Coefficients) (assign : List (List ℕ)) (c b k : ℕ) → c < channels shape → b < 6 → IsIn (channel_span shape c) k → cell (exponents shape x assign) c b k ≡ exponent_at shape x assign c b k
unfolding exponents
exponents_cell shape x assign c b k lt in_frame inside = cell_of_spans shape (exponent_at shape x assign) c b k lt in_frame inside

-- each is the greatest list of its run
pub row_greatest : (shape : Shape) (x : Coefficients) (assign : List (List ℕ)) → IsAssignmentOf shape assign → (c b : ℕ) → c < channels shape → b < 6
    → IsGreatest (run_at assign c b).kind (channel_span shape c) (raw_rows x c) (run_at assign c b).from (run_at assign c b).to (row_at shape (exponent_at shape x assign) c b)
row_greatest shape x assign is c b lt in_frame =
    let run = run_is shape assign c b is lt in_frame in
    formula (run_at assign c b).kind (channel_span shape c) (raw_rows x c) (run_at assign c b).from (run_at assign c b).to (row_at shape (exponent_at shape x assign) c b) (span_of_shape shape c) (run.is_run.some, run.taken)
    (λ k inside. row_entry shape (exponent_at shape x assign) c b k lt inside)

-- at most the raw exponent of the block's own coefficient
under_raw : (shape : Shape) (x : Coefficients) (assign : List (List ℕ)) → IsAssignmentOf shape assign → (c b k : ℕ) → c < channels shape → b < 6 → IsIn (channel_span shape c) k → exponent_at shape x assign c b k ≤ raw_of (x c b k)
under_raw shape x assign is c b k lt in_frame inside =
    let has = run_has shape assign c b is lt in_frame in
    let under = (row_greatest shape x assign is c b lt in_frame).under b k has.0 has.1 inside in
    omega (arith, under, row_entry shape (exponent_at shape x assign) c b k lt inside, raw_entry x c b k in_frame (bin_small shape c k inside))

pub coded_below : (shape : Shape) (x : Coefficients) (assign : List (List ℕ)) → IsAssignmentOf shape assign → (c b k : ℕ) → c < channels shape → b < 6 → IsIn (channel_span shape c) k → unsigned_abs (x c b k) < 2 ^ 24
    → unsigned_abs (x c b k) * 2 ^ exponent_at shape x assign c b k < 2 ^ 24
coded_below shape x assign is c b k lt in_frame inside small =
    below_fits (unsigned_abs (x c b k)) (exponent_at shape x assign c b k) (raw_of (x c b k)) (under_raw shape x assign is c b k lt in_frame inside) (raw_greatest (x c b k) small).fits

-- rows of one run are one
pub run_row_kept : (shape : Shape) (rows : List (List ℕ)) (assign : List (List ℕ)) → IsAssignmentOf shape assign → (c b : ℕ) → c < channels shape → b < 5 → slice_index (word_of assign c) (b + 1) ≡ 0
    → row_at shape (λ d a k. exponent_of (run_at assign d a).kind (channel_span shape d) rows (run_at assign d a).from (run_at assign d a).to k) c (b + 1)
    ≡ row_at shape (λ d a k. exponent_of (run_at assign d a).kind (channel_span shape d) rows (run_at assign d a).from (run_at assign d a).to k) c b
run_row_kept shape rows assign is c b lt in_frame code =
    ap (λ (run : Run). listed 256 0 (λ k. if nat_lt c (channels shape) && is_in (channel_span shape c) k then exponent_of run.kind (channel_span shape c) rows run.from run.to k else 0)) (run_kept shape assign c b is lt in_frame code)

pub row_kept : (shape : Shape) (x : Coefficients) (assign : List (List ℕ)) → IsAssignmentOf shape assign → (c b : ℕ) → c < channels shape → b < 5 → slice_index (word_of assign c) (b + 1) ≡ 0
    → row_at shape (exponent_at shape x assign) c (b + 1) ≡ row_at shape (exponent_at shape x assign) c b
row_kept shape x assign is c b lt in_frame code = run_row_kept shape (raw_rows x c) assign is c b lt in_frame code

pub rows_kept : (shape : Shape) (x : Coefficients) (assign : List (List ℕ)) → IsAssignmentOf shape assign → (c b : ℕ) → c < channels shape → b < 5 → slice_index (word_of assign c) (b + 1) ≡ 0
    → slice_index_or (slice_index_or (exponents shape x assign) c []) (b + 1) [] ≡ slice_index_or (slice_index_or (exponents shape x assign) c []) b []
rows_kept shape x assign is c b lt in_frame code =
    exponents_row shape x assign c (b + 1) lt (omega (arith, in_frame)) ∙ (row_kept shape x assign is c b lt in_frame code ∙ sym (exponents_row shape x assign c b lt (omega (arith, in_frame))))

pub are_held : (shape : Shape) (x : Coefficients) (assign : List (List ℕ)) → IsAssignmentOf shape assign → ((c b k : ℕ) → c < channels shape → b < 6 → IsIn (channel_span shape c) k → unsigned_abs (x c b k) < 2 ^ 24) → AreHeld shape x assign (exponents shape x assign)
are_held shape x assign is small = record {
  small = λ c b k lt in_frame inside.
      omega (arith, exponents_cell shape x assign c b k lt in_frame inside, row_entry shape (exponent_at shape x assign) c b k lt inside, (row_greatest shape x assign is c b lt in_frame).spellable.small k inside);
  below = λ c b k lt in_frame inside.
      subst (λ (e : ℕ). unsigned_abs (x c b k) * 2 ^ e < 2 ^ 24) (sym (exponents_cell shape x assign c b k lt in_frame inside)) (coded_below shape x assign is c b k lt in_frame inside (small c b k lt in_frame inside));
  kept = λ c b lt in_frame code. rows_kept shape x assign is c b lt in_frame code;
}

-- ---- the pointers of these exponents are those by which the assignment fits
bap_is : (shape : Shape) (raw : List (List (List ℕ))) (t c : ℕ) (run : Run) (k : ℕ) → run_bap shape raw t c run k ≡ pointer (t == 0) (encoder_params shape.fscod shape.sampling) (channel_span shape c) (run_exps shape raw c run) k t
unfolding run_bap
bap_is shape raw t c run k = refl

pub pointers_are : (shape : Shape) (x : Coefficients) (raw : List (List (List ℕ))) (t : ℕ) (assign : List (List ℕ)) → AreRawOf shape x raw → IsAssignmentOf shape assign → (c b k : ℕ) → c < channels shape → b < 6 → IsIn (channel_span shape c) k
    → pointers shape raw t assign c b k ≡ pointer_by shape (exponents shape x assign) t c b k
pointers_are shape x raw t assign are is c b k lt in_frame inside =
    let run = run_at assign c b in
    let row = slice_index_or (slice_index_or (exponents shape x assign) c []) b [] in
    bap_is shape raw t c run k
    ∙ pointers_by_span (t == 0) (encoder_params shape.fscod shape.sampling) (channel_span shape c) (run_exps shape raw c run) row k t (span_of_shape shape c)
    (λ j there. run_exps_are shape raw c run j there ∙ (sym (exponent_agrees shape x raw assign are is c b j lt in_frame there) ∙ sym (exponents_cell shape x assign c b j lt in_frame there)))
    inside
