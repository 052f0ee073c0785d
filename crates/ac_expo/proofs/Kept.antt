-- One group more keeps the cells behind it 0.
use Rattle.std.proofs.Common.{◌≡◌, ℕ, suc, ◌+◌, ◌-◌, ◌<◌, List, length, drop, arith, ap, sym, ◌∙◌}
use Rattle.std.specs.Prelude.{replicate}
use Rattle.std.proofs.Math.ListN.{set}
use Rattle.std.proofs.lemmas.List.{drop-set-lt, drop-drop, length-take-le}
use Rattle.std.proofs.Math.ListN.{length-set}
use Rattle.ac_expo.specs.Spelling.{IsKept, spelling_of}
use Rattle.ac_expo.specs.declared.spelled.Spelled.TheInside.{Inside}

rest_of_zeros : (n m : ℕ) → n ≡ suc m → drop 1 (replicate {A = ℕ} n 0) ≡ replicate m 0
rest_of_zeros n m e = ap (λ k. drop 1 (replicate {A = ℕ} k 0)) e

pub zeros_more : (cells : List ℕ) (n group : ℕ) → n < 84 → drop n cells ≡ replicate (84 - n) 0 → drop (n + 1) (set cells n group) ≡ replicate (84 - (n + 1)) 0
zeros_more cells n group room zeros =
    drop-set-lt (n + 1) cells n group (omega arith)
    ∙ sym (drop-drop 1 n cells)
    ∙ ap (λ (xs : List ℕ). drop 1 xs) zeros
    ∙ rest_of_zeros (84 - n) (84 - (n + 1)) (omega arith)

pub kept_push : (a : Inside) (group : ℕ) → IsKept a → length (spelling_of a).groups < 84 → IsKept (record { first = a.first; cells = set a.cells a.count group; count = a.count + 1 })
kept_push a group h room =
    let count = length-take-le a.count a.cells (omega arith) in
    record {
      within = omega arith;
      long = length-set a.cells a.count group ∙ h.long;
      zeros = zeros_more a.cells a.count group (omega arith) h.zeros;
    }
