-- The flags are those of the coefficients before coupling, and what is coded is small.
use Rattle.std.proofs.Common.{◌≡◌, ℕ, ◌+◌, ◌-◌, ◌^◌, ◌<◌, ◌≤◌, Bool, true, false, ℤ, ◌+ℤ◌, neg_ℤ, List, [], ◌∷◌, slice_index_or, arith, refl, inl, inr, subst, sym, ap, ap₂, ◌∙◌}
use Rattle.std.specs.Prelude.{unsigned_abs, nat_lt, nat_eq, is_some, Option, Some, None, ◌&&◌, if◌then◌else◌}
use Rattle.std.proofs.lemmas.Bool.{cases_Bool, cases_lt, cases_eq, lt-ltb, le-ltb, eq-eqb, ne_eqb}
use Rattle.ac_base.specs.declared.shapes.Shape.{Shape}
use Rattle.ac_base.specs.declared.spans.Span.{Span}
use Rattle.ac_base.specs.Shape.{full_of, is_stereo, rematrix_bands, count_of, next_span}
use Rattle.ac_base.specs.Spans.{IsIn}
use Rattle.ac_expo.specs.Raw.{AreSmall, channels, channel_span}
use Rattle.ac_energy.specs.Coefficients.{Coefficients, Channel, entry, cell_of}
use Rattle.ac_coupling.specs.Coupling.{coupled_of, mean_of, start_of, end_by}
use Rattle.ac_rematrix.specs.Rematrix.{band_start, band_end, band_at, is_weaker, flags_of, is_rematrixed, rematrixed_of, half_of}
use Rattle.ac_rematrix.proofs.Walk.{by_test, no_flag, none, none_at}
use Rattle.ac_joint.specs.Joint.{AreSmallAll, IsShared, shared_of, joint_of}
use Rattle.ac_joint.proofs.Bounds.{half_sum_small, half_difference_small, mean_small, full_some, span_end, span_next}

-- ---- flags

abbrev flag_by : Bool → Shape → Channel → Channel → ℕ → Bool
flag_by stereo shape l r band = stereo && nat_lt band (rematrix_bands shape.couple) && is_weaker l r (band_start band) (band_end shape band)

abbrev flags_by : Bool → Shape → Channel → Channel → List Bool
flags_by stereo shape l r = flag_by stereo shape l r 0 ∷ flag_by stereo shape l r 1 ∷ flag_by stereo shape l r 2 ∷ flag_by stereo shape l r 3 ∷ []

-- more or less than two channels have none
no_flags : (shape : Shape) (x : Coefficients) → (shape.acmod ≡ 2 → ⊥) → flags_of shape x ≡ none
no_flags shape x other = ap (λ (s : Bool). flags_by s shape (x 0) (x 1)) (ne_eqb shape.acmod 2 other)

-- ---- a bin, by whether it is rematrixed

by_test_same : (t : Bool) (x y : Coefficients) (c b k : ℕ) → x 0 b k ≡ y 0 b k → x 1 b k ≡ y 1 b k → x c b k ≡ y c b k → by_test t x c b k ≡ by_test t y c b k
by_test_same t x y c b k p q r =
    let F : ℤ → ℤ → ℤ → ℤ = λ l m z. if t then (if nat_eq c 0 then half_of (l +ℤ m) else if nat_eq c 1 then half_of (l +ℤ neg_ℤ m) else z) else z in
    ap₂ (λ (l m : ℤ). F l m (x c b k)) p q ∙ ap (λ (z : ℤ). F (y 0 b k) (y 1 b k) z) r

by_test_rest : (t : Bool) (x : Coefficients) (c b k : ℕ) → 2 ≤ c → by_test t x c b k ≡ x c b k
by_test_rest false x c b k rest = refl
by_test_rest true x c b k rest =
    ap (λ (s : Bool). if s then half_of (x 0 b k +ℤ x 1 b k) else if nat_eq c 1 then half_of (x 0 b k +ℤ neg_ℤ (x 1 b k)) else x c b k) (ne_eqb c 0 (λ e. omega arith))
    ∙ ap (λ (s : Bool). if s then half_of (x 0 b k +ℤ neg_ℤ (x 1 b k)) else x c b k) (ne_eqb c 1 (λ e. omega arith))

either_small : (s t : Bool) (l r z : ℤ) → unsigned_abs l < 2 ^ 24 → unsigned_abs r < 2 ^ 24 → unsigned_abs z < 2 ^ 24
    → unsigned_abs (if s then half_of (l +ℤ r) else if t then half_of (l +ℤ neg_ℤ r) else z) < 2 ^ 24
either_small true t l r z p q h = half_sum_small l r p q
either_small false true l r z p q h = half_difference_small l r p q
either_small false false l r z p q h = h

by_test_small : (t : Bool) (x : Coefficients) (c b k : ℕ) → unsigned_abs (x 0 b k) < 2 ^ 24 → unsigned_abs (x 1 b k) < 2 ^ 24 → unsigned_abs (x c b k) < 2 ^ 24 → unsigned_abs (by_test t x c b k) < 2 ^ 24
by_test_small false x c b k p q h = h
by_test_small true x c b k p q h = either_small (nat_eq c 0) (nat_eq c 1) (x 0 b k) (x 1 b k) (x c b k) p q h

-- ---- coupling

count_most : (there : Bool) → count_of there ≤ 1
count_most true = omega arith
count_most false = omega arith

shared_full : (shape : Shape) (x : Coefficients) (c b k : ℕ) → c < full_of shape.acmod → shared_of shape x c b k ≡ x c b k
shared_full shape x c b k below =
    let full = full_of shape.acmod in
    elim (cases_Bool (is_some shape.couple)) [
      | inl some ↦
          ap (λ (s : Bool). (if s then coupled_of full x else x) c b k) some
          ∙ ap (λ (s : Bool). if s then x c b k else if nat_eq c full then mean_of full x b k else x (c - 1) b k) (lt-ltb c full below)
      | inr absent ↦ ap (λ (s : Bool). (if s then coupled_of full x else x) c b k) absent
    ]

shared_behind : (shape : Shape) (x : Coefficients) (c b k : ℕ) → is_some shape.couple ≡ true → full_of shape.acmod ≤ c
    → shared_of shape x c b k ≡ (if nat_eq c (full_of shape.acmod) then mean_of (full_of shape.acmod) x b k else x (c - 1) b k)
shared_behind shape x c b k some above =
    let full = full_of shape.acmod in
    ap (λ (s : Bool). (if s then coupled_of full x else x) c b k) some
    ∙ ap (λ (s : Bool). if s then x c b k else if nat_eq c full then mean_of full x b k else x (c - 1) b k) (le-ltb c full above)

shared_mean : (shape : Shape) (x : Coefficients) (c b k : ℕ) → is_some shape.couple ≡ true → c ≡ full_of shape.acmod → shared_of shape x c b k ≡ mean_of (full_of shape.acmod) x b k
shared_mean shape x c b k some is =
    shared_behind shape x c b k some (omega arith) ∙ ap (λ (s : Bool). if s then mean_of (full_of shape.acmod) x b k else x (c - 1) b k) (eq-eqb c (full_of shape.acmod) is)

shared_low : (shape : Shape) (x : Coefficients) (c b k : ℕ) → is_some shape.couple ≡ true → full_of shape.acmod < c → shared_of shape x c b k ≡ x (c - 1) b k
shared_low shape x c b k some above =
    shared_behind shape x c b k some (omega arith)
    ∙ ap (λ (s : Bool). if s then mean_of (full_of shape.acmod) x b k else x (c - 1) b k) (ne_eqb c (full_of shape.acmod) (λ e. omega arith))

shared_small : (shape : Shape) (x : Coefficients) (c b k : ℕ) → AreSmallAll shape x → c < channels shape → b < 6 → k < 256 → unsigned_abs (shared_of shape x c b k) < 2 ^ 24
shared_small shape x c b k small coded in_frame in_row =
    let full = full_of shape.acmod in
    let P : ℤ → Type 0 = λ z. unsigned_abs z < 2 ^ 24 in
    elim (cases_lt c full) [
      | inl below ↦ subst P (sym (shared_full shape x c b k below)) (small c b k (omega arith) in_frame in_row)
      | inr above ↦ elim (cases_Bool (is_some shape.couple)) [
        | inr absent ↦
            subst P (sym (ap (λ (s : Bool). (if s then coupled_of full x else x) c b k) absent)) (small c b k (omega (arith, ap count_of absent)) in_frame in_row)
        | inl some ↦ elim (cases_eq c full) [
          | inl is ↦
              subst P (sym (shared_mean shape x c b k some is))
              (mean_small full x b k (full_some shape.acmod shape.some_channel shape.channels) (λ d below. small d b k (omega arith) in_frame in_row))
          | inr other ↦ subst P (sym (shared_low shape x c b k some (omega arith))) (small (c - 1) b k (omega (arith, ap count_of some)) in_frame in_row)
        ]
      ]
    ]

-- the bins of the coupling channel
coupling_bins : (couple : Option (ℕ × ℕ)) (k : ℕ) → is_some couple ≡ true → IsIn (next_span couple) k → (start_of couple ≤ k) × (k < end_by couple)
coupling_bins None k some is = cc
coupling_bins (Some p) k some is = is

-- the coefficients after coupling are these
pub coupled_is : (shape : Shape) (old new : List (List (List ℤ))) → is_some shape.couple ≡ true
    → ((c : ℕ) → c < full_of shape.acmod → slice_index_or new c [] ≡ slice_index_or old c [])
    → ((b k : ℕ) → b < 6 → start_of shape.couple ≤ k → k < end_by shape.couple → entry new (full_of shape.acmod) b k ≡ mean_of (full_of shape.acmod) (entry old) b k)
    → slice_index_or new (full_of shape.acmod + 1) [] ≡ slice_index_or old (full_of shape.acmod) []
    → IsShared shape old new
coupled_is shape old new some full_rows mean low =
    let full = full_of shape.acmod in
    record {
      full = full_rows;
      coded = λ c b k coded in_frame in_span.
          elim (cases_lt c full) [
            | inl below ↦ ap (λ (rows : List (List ℤ)). cell_of rows b k) (full_rows c below) ∙ sym (shared_full shape (entry old) c b k below)
            | inr above ↦ elim (cases_eq c full) [
              | inl is ↦
                  let bins = coupling_bins shape.couple k some (subst (λ (s : Span). IsIn s k) (span_next shape.acmod shape.bw shape.couple c is) in_span) in
                  ap (λ (d : ℕ). entry new d b k) is ∙ mean b k in_frame bins.0 bins.1 ∙ sym (shared_mean shape (entry old) c b k some is)
              | inr other ↦
                  let next : c ≡ full + 1 = omega (arith, ap count_of some, count_most shape.lfe) in
                  let before : full ≡ c - 1 = omega arith in
                  ap (λ (d : ℕ). entry new d b k) next
                  ∙ ap (λ (rows : List (List ℤ)). cell_of rows b k) low
                  ∙ ap (λ (d : ℕ). entry old d b k) before
                  ∙ sym (shared_low shape (entry old) c b k some (omega arith))
            ]
          ];
    }

-- ---- the whole
module _ (shape : Shape) (old mid : List (List (List ℤ))) (shared : IsShared shape old mid) where
  stereo_row : shape.acmod ≡ 2 → (c : ℕ) → c < 2 → slice_index_or mid c [] ≡ slice_index_or old c []
  stereo_row stereo c two = shared.full c (omega (arith, ap full_of stereo))

  stereo_bin : shape.acmod ≡ 2 → (c b k : ℕ) → c < 2 → entry mid c b k ≡ shared_of shape (entry old) c b k
  stereo_bin stereo c b k two =
      ap (λ (rows : List (List ℤ)). cell_of rows b k) (stereo_row stereo c two) ∙ sym (shared_full shape (entry old) c b k (omega (arith, ap full_of stereo)))

  pub flags_same : flags_of shape (entry mid) ≡ flags_of shape (entry old)
  flags_same =
      elim (cases_eq shape.acmod 2) [
        | inl stereo ↦ ap₂ (λ (l r : List (List ℤ)). flags_by (is_stereo shape.acmod) shape (cell_of l) (cell_of r)) (stereo_row stereo 0 (omega arith)) (stereo_row stereo 1 (omega arith))
        | inr other ↦ no_flags shape (entry mid) other ∙ sym (no_flags shape (entry old) other)
      ]

  unmarked : (k : ℕ) → (shape.acmod ≡ 2 → ⊥) → is_rematrixed shape (flags_of shape (entry old)) k ≡ false
  unmarked k other =
      subst (λ (f : List Bool). is_rematrixed shape f k ≡ false) (sym (no_flags shape (entry old) other)) (no_flag shape none k (none_at (band_at k)))

  module _ (new : List (List (List ℤ)))
      (pair : (c b k : ℕ) → c < 2 → b < 6 → k < 256 → entry new c b k ≡ rematrixed_of shape (flags_of shape (entry mid)) (entry mid) c b k)
      (others : (c : ℕ) → 2 ≤ c → slice_index_or new c [] ≡ slice_index_or mid c []) where
    pub joint_is : (c b k : ℕ) → c < channels shape → b < 6 → IsIn (channel_span shape c) k → entry new c b k ≡ joint_of shape (entry old) c b k
    unfolding joint_of
    joint_is c b k coded in_frame in_span =
        let x = shared_of shape (entry old) in
        let test = is_rematrixed shape (flags_of shape (entry old)) k in
        let in_row : k < 256 = omega (arith, span_end shape c) in
        elim (cases_lt c 2) [
          | inl two ↦
              pair c b k two in_frame in_row
              ∙ ap (λ (f : List Bool). rematrixed_of shape f (entry mid) c b k) flags_same
              ∙ (elim (cases_eq shape.acmod 2) [
                | inl stereo ↦ by_test_same test (entry mid) x c b k (stereo_bin stereo 0 b k (omega arith)) (stereo_bin stereo 1 b k (omega arith)) (stereo_bin stereo c b k two)
                | inr other ↦
                    ap (λ (s : Bool). by_test s (entry mid) c b k) (unmarked k other) ∙ shared.coded c b k coded in_frame in_span ∙ sym (ap (λ (s : Bool). by_test s x c b k) (unmarked k other))
              ])
          | inr rest ↦
              ap (λ (rows : List (List ℤ)). cell_of rows b k) (others c rest) ∙ shared.coded c b k coded in_frame in_span ∙ sym (by_test_rest test x c b k rest)
        ]

    joint_small : (c b k : ℕ) → AreSmallAll shape (entry old) → c < channels shape → b < 6 → k < 256 → unsigned_abs (joint_of shape (entry old) c b k) < 2 ^ 24
    unfolding joint_of
    joint_small c b k small coded in_frame in_row =
        let x = shared_of shape (entry old) in
        let test = is_rematrixed shape (flags_of shape (entry old)) k in
        let P : ℤ → Type 0 = λ z. unsigned_abs z < 2 ^ 24 in
        let here = shared_small shape (entry old) c b k small coded in_frame in_row in
        let full : shape.acmod ≡ 2 → (d : ℕ) → d < 2 → P (x d b k) =
        λ stereo d two. subst P (sym (shared_full shape (entry old) d b k (omega (arith, ap full_of stereo)))) (small d b k (omega (arith, ap full_of stereo)) in_frame in_row) in
        elim (cases_lt c 2) [
          | inl two ↦ elim (cases_eq shape.acmod 2) [
            | inl stereo ↦ by_test_small test x c b k (full stereo 0 (omega arith)) (full stereo 1 (omega arith)) here
            | inr other ↦ subst P (sym (ap (λ (s : Bool). by_test s x c b k) (unmarked k other))) here
          ]
          | inr rest ↦ subst P (sym (by_test_rest test x c b k rest)) here
        ]

    pub all_small : AreSmallAll shape (entry old) → AreSmall shape new
    all_small small = λ c coded b in_frame k in_span.
        let P : ℤ → Type 0 = λ z. unsigned_abs z < 2 ^ 24 in
        subst P (sym (joint_is c b k coded in_frame in_span)) (joint_small c b k small coded in_frame (omega (arith, span_end shape c)))
