-- What a log-addition adds.
use Rattle.std.proofs.Common.{◌≡◌, ℕ, ◌+◌, ◌*◌, ◌-◌, ◌/◌, ◌<◌, ◌≤◌, min, List, slice_index, ap, ◌∙◌, arith}
use Rattle.std.specs.Int.{abs_diff}
use Rattle.ac_base.specs.Allocation.{latab_list}
use Rattle.ac_alloc.specs.Integration.{logadd}
use Rattle.ac_masks.specs.Adding.{most_sum, IsAddTable}

far : (d : ℕ) → 510 ≤ d → slice_index latab_list (min (d / 2) 255) ≡ 0
far d l = let e : min (d / 2) 255 ≡ 255 = omega arith in ap (slice_index latab_list) e

-- levels far below add nothing
pub rise_below : (x : ℕ) → x < 5042 → logadd most_sum x - most_sum ≡ 0
unfolding logadd
rise_below x l = omega (arith, far (abs_diff 5552 x) (omega arith))

-- of levels far above nothing is left
pub rise_above : (x : ℕ) → 6063 ≤ x → x - 5552 ≡ logadd most_sum x - most_sum
unfolding logadd
rise_above x l = omega (arith, far (abs_diff 5552 x) (omega arith))

-- what is added depends on the distance alone
added_is : (a x : ℕ) → a ≤ 5552 → a + (logadd most_sum (5552 + x - a) - most_sum) ≡ logadd a x
unfolding logadd
added_is a x l =
    let e : abs_diff 5552 (5552 + x - a) ≡ abs_diff a x = omega arith in
    let same : slice_index latab_list (min (abs_diff 5552 (5552 + x - a) / 2) 255) ≡ slice_index latab_list (min (abs_diff a x / 2) 255) = ap (λ d. slice_index latab_list (min (d / 2) 255)) e in
    omega (arith, same)

pub added_by : (rises : List ℕ) (a level v r : ℕ) → IsAddTable rises → a ≤ 5552 → level < 256 → v ≡ level → r ≡ slice_index rises (5552 + 16 * v - a) → a + r ≡ logadd a (16 * level)
added_by rises a level v r table l m same e =
    ap (λ x. a + x) (e ∙ ap (λ x. slice_index rises (5552 + 16 * x - a)) same ∙ table (5552 + 16 * level - a) (omega arith)) ∙ added_is a (16 * level) l
