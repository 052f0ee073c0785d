-- What a run costs in a part, by what the code adds up.
use Rattle.std.proofs.Common.{◌≡◌, ℕ, ◌+◌, ◌*◌, ◌<◌, ◌≤◌, false, List, slice_index, refl, ap, ◌∙◌, arith}
use Rattle.std.specs.Prelude.{nat_lt}
use Rattle.std.proofs.lemmas.Bool.{le-ltb}
use Rattle.ac_base.specs.declared.runs.Run.{Run}
use Rattle.ac_base.specs.Counts.{sixths_of}
use Rattle.ac_expo.specs.Raw.{channel_span}
use Rattle.ac_cost.specs.Records.{AtOffset}
use Rattle.ac_cost.specs.Rows.{row_of}
use Rattle.ac_cost.specs.Runs.{IsRunOf}
use Rattle.ac_cost.specs.Pointers.{run_tally}
use Rattle.ac_cost.specs.Sixths.{sent_in, in_part, run_bits, run_sixths}
use Rattle.ac_bound.specs.Steps.{kinds_of, between, IsLeastBetween}
use Rattle.ac_bound.proofs.Leasts.{kinds-least}
use Rattle.ac_bound.proofs.Threes.{of_three}
use Rattle.ac_ways.specs.declared.kinds.Kinds.{Kinds}
use Rattle.ac_ways.specs.Columns.{entry_of, AreCosts}
use Rattle.ac_ways.proofs.Counted.{counted}

pub run_cost : (v : AtOffset) (c part j : ℕ) (kinds : Kinds) (rows : List (List ℕ)) (run : Run) (sent blocks x : ℕ) → AreCosts v c kinds rows j → IsRunOf v.shape c run → sent_in part run (slice_index kinds.bits run.kind) ≡ sent → ((cost : ℕ) → in_part part run cost ≡ blocks * cost) → x ≡ 6 * sent + blocks * entry_of rows (row_of run) j → x ≡ run_sixths v.shape v.raw v.t part c run
run_cost v c part j kinds rows run sent blocks x are is sends counts e =
    let mantissas = sixths_of (run_tally v.shape v.raw v.t c run) in
    let bits = ap (sent_in part run) (are.bits run.kind is.is_run.some (omega (arith, is.taken, are.count))) in
    let six = ap (λ k. blocks * k) (are.six run is) in
    let all = counts mantissas in
    omega (arith, e, sends, bits, six, all)

-- a part that counts no block of some runs counts nothing that they send
unsent : (part from to : ℕ) → part < 3 → from < to → to ≤ 6 → in_part part (between from to 1) 1 ≡ 0 → (kind bits : ℕ) → sent_in part (between from to kind) bits ≡ 0
unsent part from to is order end =
    of_three (λ p. in_part p (between from to 1) 1 ≡ 0 → (kind bits : ℕ) → sent_in p (between from to kind) bits ≡ 0)
    (λ none kind bits.
    let e = counted 2 (between from to 1) 1 order in
    let late : 2 ≤ from = omega (arith, e, none) in
    let f : nat_lt from 2 ≡ false = le-ltb from 2 late in
    rw f refl)
    (λ none kind bits. let e = counted 6 (between from to 1) 1 order in absurd (omega (arith, e, none)))
    (λ none kind bits. refl)
    part is

pub nothing_counted : (v : AtOffset) (c part from to blocks : ℕ) → part < 3 → from < to → to ≤ 6 → ((kind cost : ℕ) → in_part part (between from to kind) cost ≡ blocks * cost) → blocks ≡ 0 → IsLeastBetween v c part from to (kinds_of v.shape c + 1) 0
nothing_counted v c part from to blocks is order end counts none =
    let cost : ℕ → ℕ = λ kind. run_sixths v.shape v.raw v.t part c (between from to kind) in
    let one : in_part part (between from to 1) 1 ≡ 0 = omega (arith, counts 1 1, none) in
    let free : (kind : ℕ) → cost kind ≡ 0 =
    λ kind.
    let mantissas = sixths_of (run_tally v.shape v.raw v.t c (between from to kind)) in
    let all = counts kind mantissas ∙ ap (λ k. k * mantissas) none in
    let sends = unsent part from to is order end one kind (run_bits v.shape c (between from to kind)) in
    omega (arith, all, sends) in
    record {
      one = 1;
      is_one = (omega arith, omega (arith, kinds-least (channel_span v.shape c).lead));
      met = free 1;
      least = λ kind k. omega arith;
    }
