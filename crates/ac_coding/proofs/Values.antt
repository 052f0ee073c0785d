-- The values that are handed in are what a frame is asked to have.
use Rattle.std.proofs.Common.{◌≡◌, ℕ, ◌*◌, ◌^◌, ◌<◌, ◌≤◌, ℤ, unsigned_abs, Bool, List, [], slice_index, slice_index_or, ap, ap₂, sym, subst, ◌∙◌}
use Rattle.std.specs.Prelude.{◌==◌}
use Rattle.ac_base.specs.declared.shapes.Shape.{Shape}
use Rattle.ac_base.specs.Fit.{FitIn, parts_of}
use Rattle.ac_base.specs.Shape.{full_of, subbands}
use Rattle.ac_base.specs.Spans.{IsIn}
use Rattle.ac_base.specs.Words.{word_of}
use Rattle.ac_alloc.specs.Codes.{encoder_params}
use Rattle.ac_expo.specs.declared.word.Assign.{Assign}
use Rattle.ac_expo.specs.Greatest.{IsSpellable}
use Rattle.ac_expo.specs.Raw.{channel_span, channels, AreRaw, AreSmall}
use Rattle.ac_coordinates.specs.declared.Coordinates.{Coordinates}
use Rattle.ac_mant.specs.Quantiser.{IsCode}
use Rattle.ac_record.specs.Readings.{cell}
use Rattle.ac_cost.specs.Parts.{FitsAt}
use Rattle.ac_cost.specs.Pointers.{pointers}
use Rattle.ac_cost.specs.Runs.{IsAssignmentOf}
use Rattle.ac_sent.specs.Asked.{IsSizeCode}
use Rattle.ac_sent.specs.Fields.{coordinate_at}
use Rattle.ac_sent.specs.Values.{Quantised}
use Rattle.ac_coding.specs.Asked.{AreRawOf, IsAsked}
use Rattle.ac_coding.specs.Laws.{ValuesAreQuantised}
use Rattle.ac_coding.specs.Rows.{code_by, exponent_by}
use Rattle.ac_energy.specs.Coefficients.{Coefficients, entry}
use Rattle.ac_coding.specs.Values.{in_spans, run_at, exponent_at, exponents, pointer_by, codes, values_of}
use Rattle.ac_coding.proofs.CodesOfPointers.{pointer_small, code_is}
use Rattle.ac_coding.proofs.Entries.{cell_of_spans}
use Rattle.ac_coding.proofs.GreatestRows.{exponents_are, exponents_row, exponents_cell, row_greatest, coded_below, rows_kept, pointers_are}
use Rattle.ac_coding.proofs.Parts.{fits_same}
use Rattle.ac_coding.proofs.RunsOfBlocks.{run_sends}

-- ---- each part of what is asked, by exponents alone
fits_by : (shape : Shape) (x : Coefficients) (raw : List (List (List ℕ))) (t : ℕ) (assign : List (List ℕ)) → AreRawOf shape x raw → IsAssignmentOf shape assign → FitsAt shape raw t assign
    → FitIn shape.words (parts_of shape.acmod shape.lfe shape.bw shape.couple assign (pointer_by shape (exponents shape x assign) t))
fits_by shape x raw t assign are is fits =
    fits_same shape.acmod shape.lfe shape.bw shape.couple shape.words assign (pointers shape raw t assign) (pointer_by shape (exponents shape x assign) t)
    (λ c b k lt in_frame inside. pointers_are shape x raw t assign are is c b k lt in_frame inside) fits

spelled_by : (shape : Shape) (x : Coefficients) (assign : List (List ℕ)) → IsAssignmentOf shape assign → (c b : ℕ) → c < channels shape → b < 6 → 0 < slice_index (word_of assign c) b
    → IsSpellable (slice_index (word_of assign c) b) (channel_span shape c) (slice_index_or (slice_index_or (exponents shape x assign) c []) b [])
spelled_by shape x assign is c b lt in_frame sends =
    subst (λ (kind : ℕ). IsSpellable kind (channel_span shape c) (slice_index_or (slice_index_or (exponents shape x assign) c []) b [])) (run_sends shape assign c b is lt in_frame sends)
    (subst (IsSpellable (run_at assign c b).kind (channel_span shape c)) (sym (exponents_row shape x assign c b lt in_frame)) (row_greatest shape x assign is c b lt in_frame).spellable)

codes_cell : (shape : Shape) (x : Coefficients) (exps : List (List (List ℕ))) (t c b k : ℕ) → c < channels shape → b < 6 → IsIn (channel_span shape c) k → cell (codes shape x exps t) c b k ≡ code_by shape x exps t c b k
unfolding codes
codes_cell shape x exps t c b k lt in_frame inside = cell_of_spans shape (code_by shape x exps t) c b k lt in_frame inside

coded_by : (shape : Shape) (x : Coefficients) (t : ℕ) (assign : List (List ℕ)) → IsAssignmentOf shape assign → (c b k : ℕ) → c < channels shape → b < 6 → IsIn (channel_span shape c) k → unsigned_abs (x c b k) < 2 ^ 24
    → IsCode (pointer_by shape (exponents shape x assign) t c b k) (cell (codes shape x (exponents shape x assign) t) c b k)
coded_by shape x t assign is c b k lt in_frame inside small =
    let exps = exponents shape x assign in
    let p = pointer_by shape exps t c b k in
    let e : cell exps c b k ≡ exponent_at shape x assign c b k = exponents_cell shape x assign c b k lt in_frame inside in
    let below : unsigned_abs (x c b k) * 2 ^ cell exps c b k < 2 ^ 24 = subst (λ (i : ℕ). unsigned_abs (x c b k) * 2 ^ i < 2 ^ 24) (sym e) (coded_below shape x assign is c b k lt in_frame inside small) in
    let most = pointer_small (t == 0) (encoder_params shape.fscod shape.sampling) (channel_span shape c) (slice_index_or (slice_index_or exps c []) b []) k t in
    subst (IsCode p) (sym (codes_cell shape x exps t c b k lt in_frame inside)) (code_is (x c b k) (cell exps c b k) p most below)

-- ---- all of it
pub are_quantised : ValuesAreQuantised
unfolding values_of
are_quantised shape x t assign remat coords asked =
    let is = asked.assigned in
    record {
      sized = asked.sized;
      offset = asked.offset;
      assigned = is;
      coordinates = asked.coordinates;
      fits = fits_by shape x asked.raw t assign.w asked.are_raw is asked.fits;
      spellable = spelled_by shape x assign.w is;
      reused = λ c b k lt in_frame code inside. ap (λ (l : List ℕ). slice_index l k) (rows_kept shape x assign.w is c b lt in_frame code);
      codes = λ c b k lt in_frame inside. coded_by shape x t assign.w is c b k lt in_frame inside (asked.small c b k lt in_frame inside);
    }

-- ---- what was written is these values
pub values_are : (shape : Shape) (x : Coefficients) (raw : List (List (List ℕ))) (t : ℕ) (assign : Assign) (remat : List Bool) (coords : Coordinates) (exps others : List (List (List ℕ))) → AreRawOf shape x raw → IsAssignmentOf shape assign.w
    → exps ≡ in_spans shape (exponent_by shape raw assign.w) → others ≡ in_spans shape (code_by shape x exps t)
    → record { shape = shape; t = t; assign = assign; exps = exps; codes = others; remat = remat; coords = coords } ≡ values_of shape x t assign remat coords
unfolding values_of codes
values_are shape x raw t assign remat coords exps others are is e f =
    let here : exps ≡ exponents shape x assign.w = e ∙ exponents_are shape x raw assign.w are is in
    let P : List (List (List ℕ)) → List (List (List ℕ)) → Quantised = λ a b. record { shape = shape; t = t; assign = assign; exps = a; codes = b; remat = remat; coords = coords } in
    ap₂ P here (f ∙ ap (λ (a : List (List (List ℕ))). in_spans shape (code_by shape x a t)) here)

-- ---- what is asked, by lists of rows
pub raw_by_rows : (shape : Shape) (coefs : List (List (List ℤ))) (raw : List (List (List ℕ))) → AreRaw shape coefs raw → AreRawOf shape (entry coefs) raw
raw_by_rows shape coefs raw are c b k lt in_frame inside = are c lt b in_frame k inside

pub small_by_rows : (shape : Shape) (coefs : List (List (List ℤ))) → AreSmall shape coefs → (c b k : ℕ) → c < channels shape → b < 6 → IsIn (channel_span shape c) k → unsigned_abs (entry coefs c b k) < 2 ^ 24
small_by_rows shape coefs small c b k lt in_frame inside = small c lt b in_frame k inside

pub asked_by_rows : (q : Quantised) (coefs : List (List (List ℤ))) (raw : List (List (List ℕ))) (t : ℕ) (assign : Assign) → AreSmall q.shape coefs → AreRaw q.shape coefs raw → t ≤ 1023 → IsAssignmentOf q.shape assign.w
    → FitsAt q.shape raw t assign.w → ((code : ℕ) × IsSizeCode q.shape.fscod q.shape.words code)
    → ((i k : ℕ) → i < full_of q.shape.acmod → k < subbands q.shape.couple → ((coordinate_at q i k).exp ≤ 15) × ((coordinate_at q i k).mant ≤ 15))
    → IsAsked q.shape (entry coefs) t assign q.coords
asked_by_rows q coefs raw t assign small are offset is fits sized coordinates = record {
  small = small_by_rows q.shape coefs small;
  raw = raw;
  are_raw = raw_by_rows q.shape coefs raw are;
  offset = offset;
  assigned = is;
  fits = fits;
  sized = sized;
  coordinates = coordinates;
}
