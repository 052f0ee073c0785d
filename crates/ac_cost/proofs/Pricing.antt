-- Laws of what runs and assignments cost.
use Rattle.std.proofs.Common.{◌≡◌, ℕ, zero, suc, ◌-◌, ◌<◌, ◌≤◌, Bool, true, false, List, slice_index, refl, arith}
use Rattle.std.specs.Prelude.{if◌then◌else◌, ◌==◌}
use Rattle.std.proofs.lemmas.Bool.{ne_eqb}
use Rattle.ac_base.specs.declared.runs.Run.{Run}
use Rattle.ac_base.specs.declared.shapes.Shape.{Shape}
use Rattle.ac_base.specs.Allocation.{masktab_list}
use Rattle.ac_base.specs.Counts.{sixths_of}
use Rattle.ac_base.specs.Sigma.{sum_below}
use Rattle.ac_base.specs.Spans.{IsIn}
use Rattle.ac_base.proofs.AllocationTables.{baps_small}
use Rattle.ac_base.proofs.ByRuns.{sum_more, sum_none}
use Rattle.ac_base.proofs.SpanBounds.{span_some}
use Rattle.ac_expo.specs.Raw.{channel_span}
use Rattle.ac_alloc.specs.Codes.{encoder_params, floor_of}
use Rattle.ac_alloc.specs.Integration.{psd}
use Rattle.ac_alloc.specs.Masking.{mask}
use Rattle.ac_alloc.specs.Pointers.{address, level, bap_at}
use Rattle.ac_alloc.proofs.Rising.{bap_rises}
use Rattle.ac_cost.specs.Runs.{has}
use Rattle.ac_cost.specs.Pointers.{run_exps, run_bap, run_tally}
use Rattle.ac_cost.specs.Sixths.{in_blocks, in_part}
use Rattle.ac_cost.specs.Laws.{SixthsRise}
use Rattle.ac_cost.proofs.Exponents.{span_of_shape}
use Rattle.ac_cost.proofs.Tallying.{bins_rise}

-- ---- pointers by offset
chosen : (b : Bool) (x y u v : ℕ) → x ≤ u → y ≤ v → (if b then x else y) ≤ (if b then u else v)
chosen true x y u v p q = p
chosen false x y u v p q = q

bounded : (b : Bool) (x y m : ℕ) → x ≤ m → y ≤ m → (if b then x else y) ≤ m
bounded true x y m p q = p
bounded false x y m p q = q

pub run_bap-silent : (shape : Shape) (raw : List (List (List ℕ))) (c : ℕ) (run : Run) (k : ℕ) → run_bap shape raw 0 c run k ≡ 0
unfolding run_bap
run_bap-silent shape raw c run k = refl

pub run_bap-heard : (shape : Shape) (raw : List (List (List ℕ))) (t c : ℕ) (run : Run) (k : ℕ) → 0 < t → run_bap shape raw t c run k ≡ bap_at (encoder_params shape.fscod shape.sampling) (channel_span shape c) (run_exps shape raw c run) k t
unfolding run_bap
run_bap-heard shape raw t c run k l = let e : (t == 0) ≡ false = ne_eqb t 0 (omega arith) in rw e refl

pub run_bap-small : (shape : Shape) (raw : List (List (List ℕ))) (t c : ℕ) (run : Run) (k : ℕ) → run_bap shape raw t c run k ≤ 15
unfolding run_bap
run_bap-small shape raw t c run k =
    bounded (t == 0) 0 (bap_at (encoder_params shape.fscod shape.sampling) (channel_span shape c) (run_exps shape raw c run) k t) 15 (omega arith)
    (let p = encoder_params shape.fscod shape.sampling in
    let exps = run_exps shape raw c run in
    let m = mask p (channel_span shape c) exps (slice_index masktab_list k) in
    baps_small (address (level m (floor_of p) t) (psd exps k)) (omega arith))

run_bap-rises : (shape : Shape) (raw : List (List (List ℕ))) (c : ℕ) (run : Run) (k t u : ℕ) → IsIn (channel_span shape c) k → t ≤ u → run_bap shape raw t c run k ≤ run_bap shape raw u c run k
run_bap-rises shape raw c run k zero u is l = omega (arith, run_bap-silent shape raw c run k)
run_bap-rises shape raw c run k (suc t) u is l =
    let x = run_bap-heard shape raw (suc t) c run k (omega arith) in
    let y = run_bap-heard shape raw u c run k (omega arith) in
    let r = bap_rises (encoder_params shape.fscod shape.sampling) (channel_span shape c) (run_exps shape raw c run) k (suc t) u (span_of_shape shape c) is.0 is.1 l in
    omega (arith, x, y, r)

tally-rises : (shape : Shape) (raw : List (List (List ℕ))) (c : ℕ) (run : Run) (t u : ℕ) → t ≤ u → sixths_of (run_tally shape raw t c run) ≤ sixths_of (run_tally shape raw u c run)
tally-rises shape raw c run t u l =
    let span = channel_span shape c in
    let some = span_some span (span_of_shape shape c) in
    bins_rise (run_bap shape raw t c run) (run_bap shape raw u c run) span.start (span.end - span.start)
    (λ k p q. (run_bap-rises shape raw c run k t u (p, omega arith) l, run_bap-small shape raw u c run k))

sum_rises : (n : ℕ) (f g : ℕ → ℕ) → ((b : ℕ) → f b ≤ g b) → sum_below n f ≤ sum_below n g
sum_rises zero f g h = omega (arith, sum_none f, sum_none g)
sum_rises (suc n) f g h = omega (arith, sum_more n f, sum_more n g, sum_rises n f g h, h n)

blocks-rise : (n : ℕ) (run : Run) (x y : ℕ) → x ≤ y → in_blocks n run x ≤ in_blocks n run y
blocks-rise n run x y l =
    sum_rises n (λ b. if has run b then x else 0) (λ b. if has run b then y else 0) (λ b. chosen (has run b) x 0 y 0 l (omega arith))

part-rises : (part : ℕ) (run : Run) (x y : ℕ) → x ≤ y → in_part part run x ≤ in_part part run y
part-rises part run x y l =
    chosen (part == 0) (in_blocks 2 run x) (if part == 1 then in_blocks 6 run x else if has run 5 then x else 0) (in_blocks 2 run y) (if part == 1 then in_blocks 6 run y else if has run 5 then y else 0) (blocks-rise 2 run x y l)
    (chosen (part == 1) (in_blocks 6 run x) (if has run 5 then x else 0) (in_blocks 6 run y) (if has run 5 then y else 0) (blocks-rise 6 run x y l) (chosen (has run 5) x 0 y 0 l (omega arith)))

pub sixths-rise : SixthsRise
sixths-rise shape raw part c run t u is l =
    let s = part-rises part run (sixths_of (run_tally shape raw t c run)) (sixths_of (run_tally shape raw u c run)) (tally-rises shape raw c run t u l) in
    omega (arith, s)
