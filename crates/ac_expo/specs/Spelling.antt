-- What contracts see of exponents in groups: the first one (4 bits) and the list of groups (7 bits each), as A/52 5.4.3.25 to
-- 5.4.3.27 and 5.4.3.29 have them. How the code keeps them is this project's own.
use Rattle.std.specs.Prelude.{◌≡◌, ℕ, ◌-◌, ◌≤◌, List, ◌++◌, length, take, drop, replicate}
use Rattle.std.proofs.Common.{arith, ap, ap₂, sym, ◌∙◌}
use Rattle.std.proofs.lemmas.List.{take-append-drop, length-take-le}
use Rattle.ac_expo.specs.declared.spelled.Spelled.TheInside.{Inside}

-- the first exponent and the groups
pub record Spelling : Type 0 where
  pub first : ℕ
  pub groups : List ℕ

-- those that the code keeps
abbrev pub spelling_of : Inside → Spelling
spelling_of a = record { first = a.first; groups = take a.count a.cells }

-- cells behind the last group are 0
pub record IsKept (a : Inside) : Type 0 where
  pub within : a.count ≤ 84
  pub long : length a.cells ≡ 84
  pub zeros : drop a.count a.cells ≡ replicate (84 - a.count) 0

-- the cells that keep them
abbrev pub fields_of : Spelling → Inside
fields_of v = record { first = v.first; cells = v.groups ++ replicate (84 - length v.groups) 0; count = length v.groups }

-- and back
pub fields_back : (a : Inside) → IsKept a → fields_of (spelling_of a) ≡ a
fields_back a h =
    let count : length (take a.count a.cells) ≡ a.count = length-take-le a.count a.cells (omega arith) in
    let zeros : replicate (84 - length (take a.count a.cells)) 0 ≡ drop a.count a.cells =
    ap (λ n. replicate (84 - n) 0) count ∙ sym h.zeros in
    let cells : take a.count a.cells ++ replicate (84 - length (take a.count a.cells)) 0 ≡ a.cells =
    ap (λ r. take a.count a.cells ++ r) zeros ∙ take-append-drop a.count a.cells in
    let P : List ℕ → ℕ → Inside = λ cs n. record { first = a.first; cells = cs; count = n } in
    ap₂ P cells count
