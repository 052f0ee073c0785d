-- One bin more halved.
use Rattle.std.proofs.Common.{◌≡◌, ◌≢◌, ℕ, ◌+◌, ◌<◌, ◌≤◌, ℤ, pos, ◌+ℤ◌, neg_ℤ, List, [], length, slice_index_or, set, get_or-set_same, get_or-set_other, length-set, arith, inl, inr, ⊎_elim, subst, sym, ap₂, ◌∙◌, refl}
use Rattle.std.specs.Prelude.{◌⊎◌}
use Rattle.std.proofs.lemmas.Bool.{cases_eq}
use Rattle.ac_energy.specs.Coefficients.{cell_of}
use Rattle.ac_rematrix.specs.Halves.{AreHalved, AreHalvedIn}
use Rattle.ac_rematrix.specs.Rematrix.{half_of}

abbrev pub at : List ℤ → ℕ → ℤ
at xs k = slice_index_or xs k (pos 0)

-- what holds of the item that is written, and of the others, holds of each afterwards
pub after_set : {A : Type 0} (P : ℕ → A → Type 0) (d : A) (xs : List A) (k : ℕ) (z : A) → k < length xs → P k z → (j : ℕ) → (j ≢ k → P j (slice_index_or xs j d)) → P j (slice_index_or (set xs k z) j d)
after_set P d xs k z room here j else =
    elim (cases_eq j k) [
      | inl same ↦
          let Q : ℕ → Type 0 = λ i. P i (slice_index_or (set xs k z) i d) in
          subst Q (sym same) (subst (P k) (sym (get_or-set_same xs k z d room)) here)
      | inr other ↦ subst (P j) (sym (get_or-set_other xs k j z d other)) (else other)
    ]

pub halved_more : (start k : ℕ) (l r left right : List ℤ) (a b : ℤ) → start ≤ k → k < length left → k < length right
    → AreHalved start k (at l) (at r) (at left) (at right)
    → a ≡ half_of (at left k +ℤ at right k) → b ≡ half_of (at left k +ℤ neg_ℤ (at right k))
    → AreHalved start (k + 1) (at l) (at r) (at (set left k a)) (at (set right k b))
halved_more start k l r left right a b from room_l room_r before p q =
    let old_l : at left k ≡ at l k = before.left_rest k (inr (omega arith)) in
    let old_r : at right k ≡ at r k = before.right_rest k (inr (omega arith)) in
    let rest : (j : ℕ) → (j < start) ⊎ (k + 1 ≤ j) → (j < start) ⊎ (k ≤ j) = λ j out. ⊎_elim (λ (h : j < start). inl h) (λ (h : k + 1 ≤ j). inr (omega arith)) out in
    let apart : (k < start) ⊎ (k + 1 ≤ k) → ⊥ = λ out. ⊎_elim (λ (h : k < start). omega arith) (λ (h : k + 1 ≤ k). omega arith) out in
    record {
      sums = λ j above below. after_set (λ i v. v ≡ half_of (at l i +ℤ at r i)) (pos 0) left k a room_l (p ∙ ap₂ (λ (x y : ℤ). half_of (x +ℤ y)) old_l old_r) j (λ other. before.sums j above (omega arith));
      differences = λ j above below. after_set (λ i v. v ≡ half_of (at l i +ℤ neg_ℤ (at r i))) (pos 0) right k b room_r (q ∙ ap₂ (λ (x y : ℤ). half_of (x +ℤ neg_ℤ y)) old_l old_r) j (λ other. before.differences j above (omega arith));
      left_rest = λ j out. after_set (λ i v. (i < start) ⊎ (k + 1 ≤ i) → v ≡ at l i) (pos 0) left k a room_l (λ o. absurd (apart o)) j (λ other o. before.left_rest j (rest j o)) out;
      right_rest = λ j out. after_set (λ i v. (i < start) ⊎ (k + 1 ≤ i) → v ≡ at r i) (pos 0) right k b room_r (λ o. absurd (apart o)) j (λ other o. before.right_rest j (rest j o)) out;
    }

-- one block more
pub record AreHalvedSoFar (b start end : ℕ) (l r left right : List (List ℤ)) : Type 0 where
  pub long_left : length left ≡ 6
  pub long_right : length right ≡ 6
  pub done : AreHalvedIn b start end (cell_of l) (cell_of r) (cell_of left) (cell_of right)
  pub left_rest : (a : ℕ) → b ≤ a → slice_index_or left a [] ≡ slice_index_or l a []
  pub right_rest : (a : ℕ) → b ≤ a → slice_index_or right a [] ≡ slice_index_or r a []

pub blocks_more : (b start end : ℕ) (l r left right : List (List ℤ)) (row_l row_r : List ℤ) → b < 6 → AreHalvedSoFar b start end l r left right
    → AreHalved start end (at (slice_index_or left b [])) (at (slice_index_or right b [])) (at row_l) (at row_r)
    → AreHalvedSoFar (b + 1) start end l r (set left b row_l) (set right b row_r)
blocks_more b start end l r left right row_l row_r in_frame before now =
    let room_l : b < length left = omega (arith, before.long_left) in
    let room_r : b < length right = omega (arith, before.long_right) in
    let halves : List ℤ → List ℤ → List ℤ → List ℤ → Type 0 = λ x y z w. AreHalved start end (at x) (at y) (at z) (at w) in
    let old_l = before.left_rest b (omega arith) in
    let old_r = before.right_rest b (omega arith) in
    let here : halves (slice_index_or l b []) (slice_index_or r b []) row_l row_r =
    subst (λ x. halves x (slice_index_or r b []) row_l row_r) old_l (subst (λ y. halves (slice_index_or left b []) y row_l row_r) old_r now) in
    record {
      long_left = length-set left b row_l ∙ before.long_left;
      long_right = length-set right b row_r ∙ before.long_right;
      done = λ a below.
          after_set (λ i z. halves (slice_index_or l i []) (slice_index_or r i []) z (slice_index_or (set right b row_r) i [])) [] left b row_l room_l
          (subst (λ w. halves (slice_index_or l b []) (slice_index_or r b []) row_l w) (sym (get_or-set_same right b row_r [] room_r)) here)
          a
          (λ other. subst (λ w. halves (slice_index_or l a []) (slice_index_or r a []) (slice_index_or left a []) w) (sym (get_or-set_other right b a row_r [] other)) (before.done a (omega arith)));
      left_rest = λ a above. get_or-set_other left b a row_l [] (λ (e : a ≡ b). omega arith) ∙ before.left_rest a (omega arith);
      right_rest = λ a above. get_or-set_other right b a row_r [] (λ (e : a ≡ b). omega arith) ∙ before.right_rest a (omega arith);
    }

pub blocks_start : (start end : ℕ) (l r : List (List ℤ)) → length l ≡ 6 → length r ≡ 6 → AreHalvedSoFar 0 start end l r l r
blocks_start start end l r p q = record { long_left = p; long_right = q; done = λ a below. absurd (omega arith); left_rest = λ a above. refl; right_rest = λ a above. refl }
