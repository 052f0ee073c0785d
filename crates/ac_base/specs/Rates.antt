-- The nominal bit rates (A/52 5.4.1.4, Table 5.18).
use Rattle.std.specs.Prelude.{◌≡◌, ◌≤◌, ◌==◌, ℕ, Bool, IsTrue, List, [], ◌∷◌, slice_index}
use Rattle.std.specs.List.{list_any}

-- the code of the greatest rate
abbrev pub last_rate_code : ℕ
last_rate_code = 18

-- in kbit/s, by frmsizecod / 2 (A/52 Table 5.18)
abbrev pub rates : List ℕ
rates = 32 ∷ 40 ∷ 48 ∷ 56 ∷ 64 ∷ 80 ∷ 96 ∷ 112 ∷ 128 ∷ 160 ∷ 192 ∷ 224 ∷ 256 ∷ 320 ∷ 384 ∷ 448 ∷ 512 ∷ 576 ∷ 640 ∷ []

-- this is one of them
unfoldable pub is_rate : ℕ → Bool
is_rate rate = list_any (λ r. r == rate) rates

abbrev pub IsRate : ℕ → Type 0
IsRate rate = IsTrue (is_rate rate)

-- the code of a rate, which is frmsizecod / 2 (A/52 5.4.1.4)
pub record HasCode (rate code : ℕ) : Type 0 where
  pub small : code ≤ last_rate_code
  pub entry : slice_index rates code ≡ rate
