-- The sums of the widths of the groups, and those of the side bits.
use Rattle.std.proofs.Common.{◌≡◌, ℕ, ◌+◌, ◌-◌, ◌*◌, ◌&&◌, Bool, true, false, List, [], ◌∷◌, Option, Some, None, refl, ap, sym, ◌∙◌, arith}
use Rattle.std.specs.Prelude.{is_some, if◌then◌else◌, sum}
use Rattle.ac_base.specs.Shape.{full_of, is_stereo, subbands, rematrix_bands}
use Rattle.ac_base.specs.SideBits.{when, first_block_rows, later_block_rows}
use Rattle.ac_syntax.proofs.Widths.{eight_a_band}

-- the rows of block 0, for channels that are counted and a test of two
unfoldable pub first_rows : ℕ → Bool → Bool → Bool → ℕ → ℕ → List ℕ
first_rows full stereo lfe coupled bands rematrix =
    full * 1 ∷ full * 1 ∷ 1 ∷ 1 ∷ 1 ∷ when coupled (full * 1) ∷ when (coupled && stereo) 1 ∷ when coupled 4 ∷ when coupled 4 ∷ when coupled
    ((bands - 1) * 1)
    ∷ when coupled (full * 1) ∷ when coupled (full * 2) ∷ when coupled (full * bands * 4) ∷ when coupled (full * bands * 4) ∷ when stereo
    1 ∷ when stereo (rematrix * 1)
    ∷ when coupled 2 ∷ full * 2 ∷ when lfe 1 ∷ 1 ∷ 2 ∷ 2 ∷ 2 ∷ 2 ∷ 3 ∷ 1 ∷ 6 ∷ when coupled 4 ∷ when coupled 3 ∷ full * 4 ∷ full * 3 ∷ when
    lfe 4 ∷ when lfe 3
    ∷ when coupled 1 ∷ when coupled 3 ∷ when coupled 3 ∷ 1 ∷ 1 ∷ []

unfoldable pub later_rows : ℕ → Bool → Bool → Bool → List ℕ
later_rows full stereo lfe coupled =
    full * 1 ∷ full * 1 ∷ 1 ∷ 1 ∷ when coupled (full * 1) ∷ when stereo 1 ∷ when coupled 2 ∷ full * 2 ∷ when lfe 1 ∷ 1 ∷ 1 ∷ when coupled
    1 ∷ 1 ∷ 1 ∷ []

first_is : (acmod : ℕ) (lfe : Bool) (couple : Option (ℕ × ℕ))
    → first_block_rows acmod lfe couple ≡ first_rows (full_of acmod) (is_stereo acmod) lfe (is_some couple) (subbands couple)
    (rematrix_bands couple)
unfolding first_rows
first_is acmod lfe couple = refl

later_is : (acmod : ℕ) (lfe : Bool) (couple : Option (ℕ × ℕ))
    → later_block_rows acmod lfe couple ≡ later_rows (full_of acmod) (is_stereo acmod) lfe (is_some couple)
unfolding later_rows
later_is acmod lfe couple = refl

unfoldable pub first_numbers : ℕ → Bool → Bool → Bool → ℕ → ℕ → ℕ
first_numbers full stereo lfe used bands rematrix =
    (full * 1 + full * 1 + 1) + (1 + 1 + when used (full * 1) + when (used && stereo) 1 + when used 4 + when used 4 + (bands - 1))
    + when used (full * (3 + bands * 8))
    + (when stereo 1 + (if stereo then rematrix else 0) + when used 2 + full * 2 + when lfe 1)
    + ((1 + 2 + 2 + 2 + 2 + 3) + (1 + 6 + when used 4 + when used 3 + full * 7 + when lfe 4 + when lfe 3)
    + (when used 1 + when used 3 + when used 3)) + 2

unfoldable pub later_numbers : ℕ → Bool → Bool → Bool → ℕ
later_numbers full stereo lfe used =
    (full * 1 + full * 1 + 1) + 1 + when used (full * 1) + (when stereo 1 + when used 2 + full * 2 + when lfe 1) + (1 + 1 + when used 1) + 2

first_same : (full : ℕ) (stereo lfe used : Bool) (bands rematrix : ℕ) → (used ≡ false → bands ≡ 0)
    → first_numbers full stereo lfe used bands rematrix ≡ sum (first_rows full stereo lfe used bands rematrix)
unfolding first_numbers first_rows
first_same full true true true bands rematrix h = omega (arith, eight_a_band full bands)
first_same full true false true bands rematrix h = omega (arith, eight_a_band full bands)
first_same full false true true bands rematrix h = omega (arith, eight_a_band full bands)
first_same full false false true bands rematrix h = omega (arith, eight_a_band full bands)
first_same full true true false bands rematrix h = omega (arith, h refl)
first_same full true false false bands rematrix h = omega (arith, h refl)
first_same full false true false bands rematrix h = omega (arith, h refl)
first_same full false false false bands rematrix h = omega (arith, h refl)

later_same : (full : ℕ) (stereo lfe used : Bool) → later_numbers full stereo lfe used ≡ sum (later_rows full stereo lfe used)
unfolding later_numbers later_rows
later_same full true true true = omega arith
later_same full true false true = omega arith
later_same full false true true = omega arith
later_same full false false true = omega arith
later_same full true true false = omega arith
later_same full true false false = omega arith
later_same full false true false = omega arith
later_same full false false false = omega arith

none_bands : (couple : Option (ℕ × ℕ)) → is_some couple ≡ false → subbands couple ≡ 0
none_bands None e = refl
none_bands (Some p) e = absurd cc

pub first_sum : (acmod : ℕ) (lfe : Bool) (couple : Option (ℕ × ℕ))
    → first_numbers (full_of acmod) (is_stereo acmod) lfe (is_some couple) (subbands couple) (rematrix_bands couple)
    ≡ sum (first_block_rows acmod lfe couple)
first_sum acmod lfe couple =
    first_same (full_of acmod) (is_stereo acmod) lfe (is_some couple) (subbands couple) (rematrix_bands couple) (none_bands couple)
    ∙ ap sum (sym (first_is acmod lfe couple))

pub later_sum : (acmod : ℕ) (lfe : Bool) (couple : Option (ℕ × ℕ))
    → later_numbers (full_of acmod) (is_stereo acmod) lfe (is_some couple) ≡ sum (later_block_rows acmod lfe couple)
later_sum acmod lfe couple = later_same (full_of acmod) (is_stereo acmod) lfe (is_some couple) ∙ ap sum (sym (later_is acmod lfe couple))
