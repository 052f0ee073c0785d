-- Band after band: the flags so far are those of the coefficients as they were, and the bins are rematrixed by them.
use Rattle.std.proofs.Common.{◌≡◌, ℕ, zero, suc, ◌+◌, ◌-◌, ◌*◌, ◌^◌, ◌<◌, ◌≤◌, min, ℤ, ◌+ℤ◌, neg_ℤ, Bool, true, false, List, [], ◌∷◌, length, slice_index_or, set, get_or-set_same, get_or-set_other, arith, inl, inr, ⊎_elim, subst, sym, ap, ap₂, ◌∙◌, refl, length-set}
use Rattle.std.specs.Prelude.{◌⊎◌, ◌&&◌, if◌then◌else◌, nat_lt, nat_le, nat_eq, unsigned_abs}
use Rattle.std.proofs.lemmas.Bool.{cases_Bool, eq-eqb, cases_eq, cases_lt, lt-ltb, le-ltb, le-leb, lt-leb}
use Rattle.std.proofs.lemmas.Bool.Decides.{nat_tests}
use Rattle.std.proofs.lemmas.List.{ext_get_or}
use Rattle.ac_base.specs.declared.shapes.Shape.{Shape}
use Rattle.ac_base.specs.Shape.{is_stereo, rematrix_bands}
use Rattle.ac_base.specs.Sigma.{sum_below}
use Rattle.ac_energy.specs.Coefficients.{Coefficients, Channel, entry, cell_of}
use Rattle.ac_energy.specs.Energy.{energy_of, square, AreSmallIn}
use Rattle.ac_rematrix.specs.Halves.{IsBandDone}
use Rattle.ac_rematrix.specs.Rematrix.{band_start, cut_of, band_end, plus, less, is_weaker, flag_of, flags_of, band_at, is_rematrixed, half_of, rematrixed_of, AreSmallPair}
use Rattle.ac_rematrix.proofs.Halved.{after_set}

-- ---- the bins of a band

pub bins_of : (cut band k : ℕ) → band < 4 → band_start band ≤ k → k < min (band_start (band + 1)) cut → (13 ≤ k) × (k < cut) × (band_at k ≡ band)
bins_of cut zero k few above below = (omega arith, omega arith, grind (arith, nat_tests))
bins_of cut (suc zero) k few above below = (omega arith, omega arith, grind (arith, nat_tests))
bins_of cut (suc (suc zero)) k few above below = (omega arith, omega arith, grind (arith, nat_tests))
bins_of cut (suc (suc (suc zero))) k few above below = (omega arith, omega arith, grind (arith, nat_tests))
bins_of cut (suc (suc (suc (suc band)))) k few above below = absurd (omega arith)

pub band_has : (cut band k : ℕ) → cut ≤ 253 → band < 4 → 13 ≤ k → k < cut → band_at k ≡ band → (band_start band ≤ k) × (k < min (band_start (band + 1)) cut)
band_has cut zero k most few above below is = (grind (arith, nat_tests), grind (arith, nat_tests))
band_has cut (suc zero) k most few above below is = (grind (arith, nat_tests), grind (arith, nat_tests))
band_has cut (suc (suc zero)) k most few above below is = (grind (arith, nat_tests), grind (arith, nat_tests))
band_has cut (suc (suc (suc zero))) k most few above below is = (grind (arith, nat_tests), grind (arith, nat_tests))
band_has cut (suc (suc (suc (suc band)))) k most few above below is = absurd (omega arith)

-- ---- whether a bin is rematrixed

inside : (shape : Shape) (flags : List Bool) (k : ℕ) → 13 ≤ k → k < cut_of shape → is_rematrixed shape flags k ≡ slice_index_or flags (band_at k) false
inside shape flags k above below = ap₂ (λ (s t : Bool). s && t && slice_index_or flags (band_at k) false) (le-leb 13 k above) (lt-ltb k (cut_of shape) below)

under : (shape : Shape) (flags : List Bool) (k : ℕ) → k < 13 → is_rematrixed shape flags k ≡ false
under shape flags k low = ap (λ (s : Bool). s && nat_lt k (cut_of shape) && slice_index_or flags (band_at k) false) (lt-leb 13 k low)

beyond : (shape : Shape) (flags : List Bool) (k : ℕ) → cut_of shape ≤ k → is_rematrixed shape flags k ≡ false
beyond shape flags k high =
    let P : Bool → Type 0 = λ t. (nat_le 13 k && t && slice_index_or flags (band_at k) false) ≡ false in
    let left : (s : Bool) → (s && false && slice_index_or flags (band_at k) false) ≡ false = λ s. elim s as (λ s. (s && false && slice_index_or flags (band_at k) false) ≡ false) [ true ↦ refl | false ↦ refl ] in
    subst P (sym (le-ltb k (cut_of shape) high)) (left (nat_le 13 k))

-- what a bin becomes, by whether it is
abbrev pub by_test : Bool → Coefficients → ℕ → ℕ → ℕ → ℤ
by_test t x c b k = if t then (if nat_eq c 0 then half_of (plus (x 0) (x 1) b k) else if nat_eq c 1 then half_of (less (x 0) (x 1) b k) else x c b k) else x c b k

is_by_test : (shape : Shape) (flags : List Bool) (x : Coefficients) (c b k : ℕ) (t : Bool) → is_rematrixed shape flags k ≡ t → rematrixed_of shape flags x c b k ≡ by_test t x c b k
is_by_test shape flags x c b k t e = ap (λ (s : Bool). by_test s x c b k) e

-- ---- the energies are those of the coefficients as they were

sum_same : (n : ℕ) (f g : ℕ → ℕ) → ((i : ℕ) → i < n → f i ≡ g i) → sum_below n f ≡ sum_below n g
unfolding sum_below
sum_same zero f g same = refl
sum_same (suc n) f g same = omega (arith, sum_same n f g (λ i h. same i (omega arith)), same n (omega arith))

energy_same : (start end : ℕ) (f g : Channel) → ((b k : ℕ) → b < 6 → start ≤ k → k < end → f b k ≡ g b k) → energy_of f start end ≡ energy_of g start end
unfolding energy_of
energy_same start end f g same =
    sum_same 6 (λ b. sum_below (end - start) (λ i. square (f b (start + i)))) (λ b. sum_below (end - start) (λ i. square (g b (start + i))))
    (λ b in_frame. sum_same (end - start) (λ i. square (f b (start + i))) (λ i. square (g b (start + i))) (λ i below. ap square (same b (start + i) in_frame (omega arith) (omega arith))))

abbrev weaker_by : ℕ → ℕ → ℕ → ℕ → Bool
weaker_by l r p q = nat_lt (min p q) (4 * min l r)

weaker_same : (start end : ℕ) (l r m s : Channel) → ((b k : ℕ) → b < 6 → start ≤ k → k < end → l b k ≡ m b k) → ((b k : ℕ) → b < 6 → start ≤ k → k < end → r b k ≡ s b k) → is_weaker l r start end ≡ is_weaker m s start end
weaker_same start end l r m s same_l same_r =
    let e_l = energy_same start end l m same_l in
    let e_r = energy_same start end r s same_r in
    let e_p = energy_same start end (plus l r) (plus m s) (λ b k i j h. ap₂ ◌+ℤ◌ (same_l b k i j h) (same_r b k i j h)) in
    let e_q = energy_same start end (less l r) (less m s) (λ b k i j h. ap₂ (λ (x y : ℤ). x +ℤ neg_ℤ y) (same_l b k i j h) (same_r b k i j h)) in
    ap₂ (λ (x y : ℕ). weaker_by x y (energy_of (plus l r) start end) (energy_of (less l r) start end)) e_l e_r
    ∙ ap₂ (λ (x y : ℕ). weaker_by (energy_of m start end) (energy_of s start end) x y) e_p e_q

-- ---- so far

pub record AreSoFar (shape : Shape) (band : ℕ) (flags : List Bool) (old new : List (List (List ℤ))) : Type 0 where
  pub long : length flags ≡ 4
  pub done : (j : ℕ) → j < band → slice_index_or flags j false ≡ flag_of shape (entry old) j
  pub rest : (j : ℕ) → band ≤ j → slice_index_or flags j false ≡ false
  pub pair : (c b k : ℕ) → c < 2 → b < 6 → k < 256 → entry new c b k ≡ rematrixed_of shape flags (entry old) c b k
  pub others : (c : ℕ) → 2 ≤ c → slice_index_or new c [] ≡ slice_index_or old c []

abbrev pub none : List Bool
none = false ∷ false ∷ false ∷ false ∷ []

pub none_at : (j : ℕ) → slice_index_or none j false ≡ false
none_at zero = refl
none_at (suc zero) = refl
none_at (suc (suc zero)) = refl
none_at (suc (suc (suc zero))) = refl
none_at (suc (suc (suc (suc j)))) = refl

-- a bin whose band has no flag is not rematrixed
pub no_flag : (shape : Shape) (flags : List Bool) (k : ℕ) → slice_index_or flags (band_at k) false ≡ false → is_rematrixed shape flags k ≡ false
no_flag shape flags k e =
    elim (cases_lt k 13) [
      | inl low ↦ under shape flags k low
      | inr above ↦ elim (cases_lt k (cut_of shape)) [
        | inl below ↦ inside shape flags k above below ∙ e
        | inr high ↦ beyond shape flags k high
      ]
    ]

pub start : (shape : Shape) (old : List (List (List ℤ))) → AreSoFar shape 0 none old old
start shape old = record {
  long = refl;
  done = λ j below. absurd (omega arith);
  rest = λ j above. none_at j;
  pair = λ c b k two in_frame in_row. sym (is_by_test shape none (entry old) c b k false (no_flag shape none k (none_at (band_at k))));
  others = λ c above. refl;
}

-- ---- one band more
module _ (shape : Shape) (band : ℕ) (flags : List Bool) (old new : List (List (List ℤ))) (few : band < 4) (most : cut_of shape ≤ 253) (before : AreSoFar shape band flags old new) where
  -- its bins are as they were
  pub as_before : (c b k : ℕ) → c < 2 → b < 6 → band_start band ≤ k → k < band_end shape band → entry new c b k ≡ entry old c b k
  as_before c b k two in_frame above below =
      let in_band = bins_of (cut_of shape) band k few above below in
      before.pair c b k two in_frame (omega arith) ∙ is_by_test shape flags (entry old) c b k false (no_flag shape flags k (before.rest (band_at k) (omega (arith, in_band.2))))

  pub small_before : (c s e : ℕ) → c < 2 → s ≡ band_start band → e ≡ band_end shape band → AreSmallPair shape (entry old) → AreSmallIn (entry new c) s e
  small_before c s e two at_start at_end small b k in_frame above below =
      let from : band_start band ≤ k = omega (arith, at_start) in
      let to : k < band_end shape band = omega (arith, at_end) in
      let in_band = bins_of (cut_of shape) band k few from to in
      subst (λ (z : ℤ). unsigned_abs z < 2 ^ 24) (sym (as_before c b k two in_frame from to)) (small c two b k in_frame in_band.0 in_band.1)

  pub flag_before : is_weaker (entry new 0) (entry new 1) (band_start band) (band_end shape band) ≡ is_weaker (entry old 0) (entry old 1) (band_start band) (band_end shape band)
  flag_before =
      weaker_same (band_start band) (band_end shape band) (entry new 0) (entry new 1) (entry old 0) (entry old 1)
      (λ b k in_frame above below. as_before 0 b k (omega arith) in_frame above below)
      (λ b k in_frame above below. as_before 1 b k (omega arith) in_frame above below)

  module _ (v : Bool) (after : List (List (List ℤ))) (done : IsBandDone v (band_start band) (band_end shape band) new after) where
    abbrev flags_after : List Bool
    flags_after = set flags band v

    room : band < length flags
    room = omega (arith, before.long)

    -- the bins of the band
    set_there : (c b k : ℕ) → c < 2 → b < 6 → band_start band ≤ k → k < band_end shape band → v ≡ true → entry after c b k ≡ by_test true (entry old) c b k
    set_there zero b k two in_frame above below is =
        (done.set is b in_frame).sums k above below
        ∙ ap₂ (λ (x y : ℤ). half_of (x +ℤ y)) (as_before 0 b k (omega arith) in_frame above below) (as_before 1 b k (omega arith) in_frame above below)
    set_there (suc zero) b k two in_frame above below is =
        (done.set is b in_frame).differences k above below
        ∙ ap₂ (λ (x y : ℤ). half_of (x +ℤ neg_ℤ y)) (as_before 0 b k (omega arith) in_frame above below) (as_before 1 b k (omega arith) in_frame above below)
    set_there (suc (suc c)) b k two in_frame above below is = absurd (omega arith)

    kept : (c b k : ℕ) → v ≡ false → entry after c b k ≡ entry new c b k
    kept c b k is = ap (λ (rows : List (List ℤ)). cell_of rows b k) (done.clear is c)

    in_the_band : (c b k : ℕ) → c < 2 → b < 6 → band_start band ≤ k → k < band_end shape band → entry after c b k ≡ rematrixed_of shape flags_after (entry old) c b k
    in_the_band c b k two in_frame above below =
        let in_band = bins_of (cut_of shape) band k few above below in
        let is : is_rematrixed shape flags_after k ≡ v =
        inside shape flags_after k in_band.0 in_band.1 ∙ ap (λ (j : ℕ). slice_index_or flags_after j false) in_band.2 ∙ get_or-set_same flags band v false room in
        elim (cases_Bool v) [
          | inl weaker ↦ set_there c b k two in_frame above below weaker ∙ sym (is_by_test shape flags_after (entry old) c b k true (is ∙ weaker))
          | inr other ↦ kept c b k other ∙ as_before c b k two in_frame above below ∙ sym (is_by_test shape flags_after (entry old) c b k false (is ∙ other))
        ]

    -- and the others
    rest_there : (c b k : ℕ) → c < 2 → b < 6 → (k < band_start band) ⊎ (band_end shape band ≤ k) → v ≡ true → entry after c b k ≡ entry new c b k
    rest_there zero b k two in_frame out is = (done.set is b in_frame).left_rest k out
    rest_there (suc zero) b k two in_frame out is = (done.set is b in_frame).right_rest k out
    rest_there (suc (suc c)) b k two in_frame out is = absurd (omega arith)

    test_stays : (k : ℕ) → (k < band_start band) ⊎ (band_end shape band ≤ k) → is_rematrixed shape flags_after k ≡ is_rematrixed shape flags k
    test_stays k out =
        elim (cases_lt k 13) [
          | inl low ↦ under shape flags_after k low ∙ sym (under shape flags k low)
          | inr above ↦ elim (cases_lt k (cut_of shape)) [
            | inr high ↦ beyond shape flags_after k high ∙ sym (beyond shape flags k high)
            | inl below ↦ elim (cases_eq (band_at k) band) [
              | inl same ↦
                  let has = band_has (cut_of shape) band k most few above below same in
                  absurd (⊎_elim (λ (h : k < band_start band). omega (arith, has.0)) (λ (h : band_end shape band ≤ k). omega (arith, has.1)) out)
              | inr other ↦ inside shape flags_after k above below ∙ get_or-set_other flags band (band_at k) v false other ∙ sym (inside shape flags k above below)
            ]
          ]
        ]

    out_of_band : (c b k : ℕ) → c < 2 → b < 6 → k < 256 → (k < band_start band) ⊎ (band_end shape band ≤ k) → entry after c b k ≡ rematrixed_of shape flags_after (entry old) c b k
    out_of_band c b k two in_frame in_row out =
        let stays : entry after c b k ≡ entry new c b k = elim (cases_Bool v) [ inl weaker ↦ rest_there c b k two in_frame out weaker | inr other ↦ kept c b k other ] in
        stays ∙ before.pair c b k two in_frame in_row ∙ sym (is_by_test shape flags_after (entry old) c b k (is_rematrixed shape flags k) (test_stays k out))

    pub more : shape.acmod ≡ 2 → band < rematrix_bands shape.couple → v ≡ is_weaker (entry new 0) (entry new 1) (band_start band) (band_end shape band) → AreSoFar shape (band + 1) flags_after old after
    more stereo counted is =
        let flag : v ≡ flag_of shape (entry old) band =
        is ∙ flag_before ∙ sym (ap₂ (λ (s t : Bool). s && t && is_weaker (entry old 0) (entry old 1) (band_start band) (band_end shape band)) (eq-eqb shape.acmod 2 stereo) (lt-ltb band (rematrix_bands shape.couple) counted)) in
        record {
          long = length-set flags band v ∙ before.long;
          done = λ j below. after_set (λ i s. i < band + 1 → s ≡ flag_of shape (entry old) i) false flags band v room (λ here. flag) j (λ other here. before.done j (omega arith)) below;
          rest = λ j above. get_or-set_other flags band j v false (λ (e : j ≡ band). omega arith) ∙ before.rest j (omega arith);
          pair = λ c b k two in_frame in_row.
              elim (cases_lt k (band_start band)) [
                | inl low ↦ out_of_band c b k two in_frame in_row (inl low)
                | inr above ↦ elim (cases_lt k (band_end shape band)) [
                  | inl below ↦ in_the_band c b k two in_frame above below
                  | inr high ↦ out_of_band c b k two in_frame in_row (inr high)
                ]
              ];
          others = λ c above. done.others c above ∙ before.others c above;
        }

-- ---- all bands

listed : (shape : Shape) (x : Coefficients) (j : ℕ) → j < 4 → slice_index_or (flags_of shape x) j false ≡ flag_of shape x j
listed shape x zero few = refl
listed shape x (suc zero) few = refl
listed shape x (suc (suc zero)) few = refl
listed shape x (suc (suc (suc zero))) few = refl
listed shape x (suc (suc (suc (suc j)))) few = absurd (omega arith)

behind : (s w : Bool) → (s && false && w) ≡ false
behind true w = refl
behind false w = refl

-- a band that isn't there has no flag
pub no_band : (shape : Shape) (x : Coefficients) (j : ℕ) → rematrix_bands shape.couple ≤ j → flag_of shape x j ≡ false
no_band shape x j high =
    ap (λ (t : Bool). is_stereo shape.acmod && t && is_weaker (x 0) (x 1) (band_start j) (band_end shape j)) (le-ltb j (rematrix_bands shape.couple) high)
    ∙ behind (is_stereo shape.acmod) (is_weaker (x 0) (x 1) (band_start j) (band_end shape j))

pub all_flags : (shape : Shape) (band : ℕ) (flags : List Bool) (old new : List (List (List ℤ))) → rematrix_bands shape.couple ≤ band → AreSoFar shape band flags old new → flags ≡ flags_of shape (entry old)
all_flags shape band flags old new last so_far =
    ext_get_or false flags (flags_of shape (entry old)) so_far.long
    (λ j below.
    (elim (cases_lt j band) [
      | inl done ↦ so_far.done j done
      | inr rest ↦ so_far.rest j rest ∙ sym (no_band shape (entry old) j (omega arith))
    ]) ∙ sym (listed shape (entry old) j (omega (arith, so_far.long))))

pub all_pairs : (shape : Shape) (band : ℕ) (flags : List Bool) (old new : List (List (List ℤ))) → rematrix_bands shape.couple ≤ band → AreSoFar shape band flags old new
    → (c b k : ℕ) → c < 2 → b < 6 → k < 256 → entry new c b k ≡ rematrixed_of shape (flags_of shape (entry old)) (entry old) c b k
all_pairs shape band flags old new last so_far c b k two in_frame in_row =
    so_far.pair c b k two in_frame in_row ∙ ap (λ (f : List Bool). rematrixed_of shape f (entry old) c b k) (all_flags shape band flags old new last so_far)
