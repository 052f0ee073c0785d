-- What uniform assignments cost, run by run.
use Rattle.std.proofs.Common.{◌≡◌, ℕ, zero, suc, ◌+◌, ◌*◌, ◌^◌, ◌<◌, ◌≤◌, Bool, true, false, Option, List, [], ◌∷◌, map, slice_index, refl, ap, ap₂, ◌∙◌, arith}
use Rattle.std.specs.Prelude.{if◌then◌else◌}
use Rattle.ac_base.specs.declared.runs.Run.{Run}
use Rattle.ac_base.specs.declared.shapes.Shape.{Shape}
use Rattle.ac_base.specs.Fit.{side_of}
use Rattle.ac_base.specs.Shape.{coded_of}
use Rattle.ac_base.specs.Sigma.{sum_below}
use Rattle.ac_base.specs.Spans.{greatest_kind}
use Rattle.ac_base.specs.Words.{IsWord, IsRun, zeros, runs_at, runs_of, low_word, word_of}
use Rattle.ac_base.proofs.ByRuns.{sum_more, sum_both, sum_zero}
use Rattle.ac_cost.specs.Parts.{FitsAt}
use Rattle.ac_cost.specs.Records.{AtOffset}
use Rattle.ac_cost.specs.Rows.{run_of, row_of}
use Rattle.ac_cost.specs.Runs.{IsRunOf}
use Rattle.ac_cost.specs.Sixths.{part_of, run_sixths, runs_sixths, assign_sixths}
use Rattle.ac_cost.proofs.Assigning.{full-kind, low-lead}
use Rattle.ac_cost.proofs.Covering.{sum_same-below}
use Rattle.ac_cost.proofs.Listing.{row_below}
use Rattle.ac_bound.specs.Bounds.{IsOver}
use Rattle.ac_bound.proofs.Completing.{full-some}
use Rattle.ac_plan.specs.Totals.{others_of, low_run, beside_sixths, runs_beside, AreSides}
use Rattle.ac_plan.specs.Uniform.{IsUniformBy}
use Rattle.ac_plan.proofs.Passing.{over_unfit}
use Rattle.ac_plan.proofs.Uniforms.{some_code, uniform_by, assignment}

-- ---- LFE's runs are those of the word, in its one kind
zeros_low : (ks : List ℕ) → zeros (low_word ks) ≡ zeros ks
zeros_low [] = refl
zeros_low (zero ∷ ks) = ap (λ n. n + 1) (zeros_low ks)
zeros_low (suc k ∷ ks) = rw (some_code k) refl

runs_low : (b : ℕ) (ks : List ℕ) → runs_at b (low_word ks) ≡ map low_run (runs_at b ks)
runs_low b [] = refl
runs_low b (zero ∷ ks) = runs_low (b + 1) ks
runs_low b (suc k ∷ ks) =
    let step : record { from = b; to = b + 1 + zeros (low_word ks); kind = 1 } ∷ runs_at (b + 1) (low_word ks) ≡ record { from = b; to = b + 1 + zeros ks; kind = 1 } ∷ map low_run (runs_at (b + 1) ks) =
    ap₂ (λ (z : ℕ) (rest : List Run). record { from = b; to = b + 1 + z; kind = 1 } ∷ rest) (zeros_low ks) (runs_low (b + 1) ks) in
    rw (some_code k) step

-- ---- sums by channels and by runs
none_either : (b : Bool) → ◌≡◌ {A = ℕ} (if b then 0 else 0) 0
none_either true = refl
none_either false = refl

both_either : (b : Bool) (x y : ℕ) → (if b then x + y else 0) ≡ (if b then x else 0) + (if b then y else 0)
both_either true x y = refl
both_either false x y = refl

same_either : (b : Bool) (x y : ℕ) → (b ≡ true → x ≡ y) → (if b then x else 0) ≡ (if b then y else 0)
same_either true x y e = e refl
same_either false x y e = refl

by_runs : (v : AtOffset) (part : ℕ) (runs : List Run) → sum_below (others_of v.shape) (λ c. runs_sixths v.shape v.raw v.t part c runs) + (if v.shape.lfe then runs_sixths v.shape v.raw v.t part (others_of v.shape) (map low_run runs) else 0) ≡ runs_beside v part runs
by_runs v part [] = let z = sum_zero (others_of v.shape) in let n = none_either v.shape.lfe in omega (arith, z, n)
by_runs v part (run ∷ runs) =
    let n = others_of v.shape in
    let sum = sum_both n (λ c. run_sixths v.shape v.raw v.t part c run) (λ c. runs_sixths v.shape v.raw v.t part c runs) in
    let low = both_either v.shape.lfe (run_sixths v.shape v.raw v.t part n (low_run run)) (runs_sixths v.shape v.raw v.t part n (map low_run runs)) in
    let rest = by_runs v part runs in
    omega (arith, sum, low, rest)

-- all coded channels, LFE last
with_low : (acmod : ℕ) (lfe : Bool) (couple : Option (ℕ × ℕ)) (f : ℕ → ℕ) → sum_below (coded_of acmod lfe couple) f ≡ sum_below (coded_of acmod false couple) f + (if lfe then f (coded_of acmod false couple) else 0)
with_low acmod false couple f = omega arith
with_low acmod true couple f =
    let e : coded_of acmod true couple ≡ suc (coded_of acmod false couple) = omega arith in
    ap (λ n. sum_below n f) e ∙ sum_more (coded_of acmod false couple) f

pub uniform_sixths : (v : AtOffset) (part : ℕ) (word : List ℕ) (assign : List (List ℕ)) → IsUniformBy v.shape word assign → assign_sixths v.shape v.raw v.t part assign ≡ 6 * part_of (side_of v.shape.acmod v.shape.lfe v.shape.couple) part + runs_beside v part (runs_of word)
uniform_sixths v part word assign by =
    let n = others_of v.shape in
    let f : ℕ → List Run → ℕ = λ c runs. runs_sixths v.shape v.raw v.t part c runs in
    let whole = with_low v.shape.acmod v.shape.lfe v.shape.couple (λ c. f c (runs_of (word_of assign c))) in
    let same = sum_same-below n (λ c. f c (runs_of (word_of assign c))) (λ c. f c (runs_of word)) (λ c l. ap (λ w. f c (runs_of w)) (by.others c l)) in
    let low = same_either v.shape.lfe (f n (runs_of (word_of assign n))) (f n (map low_run (runs_of word))) (λ there. ap (λ w. f n (runs_of w)) (by.low there) ∙ ap (f n) (runs_low 0 word)) in
    let all = by_runs v part (runs_of word) in
    omega (arith, whole, same, low, all)

-- where the sixths of a word are over the room, its assignments don't fit
pub uniform_unfit : (v : AtOffset) (word sides sixths : List ℕ) (assign : List (List ℕ)) → IsWord word → AreSides v.shape sides → ((part : ℕ) → part < 3 → slice_index sixths part ≡ slice_index sides part + runs_beside v part (runs_of word)) → IsOver v.shape (slice_index sixths) → IsUniformBy v.shape word assign → FitsAt v.shape v.raw v.t assign → ⊥
uniform_unfit v word sides sixths assign is side are over by =
    let part = over.part in
    let o = over.over in
    let sum = uniform_sixths v part word assign by in
    over_unfit v.shape v.raw v.t assign (assignment v.shape assign (uniform_by v.shape word assign is by))
    (record { part = part; is_part = over.is_part; over = omega (arith, o, sum, are part over.is_part, side.value part over.is_part) })

-- ---- the runs that channels take
below_coded : (acmod : ℕ) (lfe : Bool) (couple : Option (ℕ × ℕ)) (c : ℕ) → c < coded_of acmod false couple → c < coded_of acmod lfe couple
below_coded acmod true couple c l = omega (arith, l)
below_coded acmod false couple c l = l

pub run_of_other : (shape : Shape) (c : ℕ) (run : Run) → c < others_of shape → IsRun run → IsRunOf shape c run
run_of_other shape c run l is = record {
  channel = below_coded shape.acmod shape.lfe shape.couple c l;
  is_run = is;
  taken = omega (arith, is.kind, full-kind shape.acmod shape.bw shape.couple c l);
}

pub run_of_low : (shape : Shape) (run : Run) → shape.lfe ≡ true → IsRun run → IsRunOf shape (others_of shape) (low_run run)
run_of_low shape run there is =
    let lead = ap greatest_kind (low-lead shape.acmod shape.bw shape.couple) in
    let count = ap (λ (b : Bool). coded_of shape.acmod b shape.couple) there in
    record {
      channel = omega (arith, count);
      is_run = record { order = is.order; blocks = is.blocks; some = omega arith; kind = omega arith };
      taken = omega (arith, lead);
    }

-- ---- by rows
abbrev pub HasTotal : AtOffset → ℕ → List ℕ → Type 0
HasTotal v row x = (part : ℕ) → part < 3 → (slice_index x part ≡ beside_sixths v part (run_of row)) × (slice_index x part ≤ 2 ^ 22)

first_other : (shape : Shape) → 0 < others_of shape
first_other shape = omega (arith, full-some shape.acmod shape.channels shape.some_channel)

pub row_few : (shape : Shape) (run : Run) → IsRun run → row_of run < 63
row_few shape run is =
    let below = row_below shape 0 run (run_of_other shape 0 run (first_other shape) is) in
    let kind = full-kind shape.acmod shape.bw shape.couple 0 (first_other shape) in
    omega (arith, below, kind)

pub other_total : (v : AtOffset) (part x : ℕ) (run : Run) → v.shape.lfe ≡ false → x ≡ sum_below (others_of v.shape) (λ c. run_sixths v.shape v.raw v.t part c run) → x ≡ beside_sixths v part run
other_total v part x run none e =
    let low = run_sixths v.shape v.raw v.t part (others_of v.shape) (low_run run) in
    let z = ap (λ (b : Bool). if b then low else 0) none in
    omega (arith, e, z)

pub low_total : (v : AtOffset) (part x y z : ℕ) (run : Run) → v.shape.lfe ≡ true → x ≡ sum_below (others_of v.shape) (λ c. run_sixths v.shape v.raw v.t part c run) → y ≡ run_sixths v.shape v.raw v.t part (others_of v.shape) (low_run run) → z ≡ x + y → z ≡ beside_sixths v part run
low_total v part x y z run there ex ey ez =
    let low = run_sixths v.shape v.raw v.t part (others_of v.shape) (low_run run) in
    let e = ap (λ (b : Bool). if b then low else 0) there in
    omega (arith, ex, ey, ez, e)
