-- The potentials of one of the offsets, picked channel by channel.
use Rattle.std.proofs.Common.{◌≡◌, ℕ, ◌+◌, ◌<◌, ◌≤◌, List, [], length, slice_index, slice_index_or, set, refl, sym, ◌∙◌, inl, inr, subst, arith}
use Rattle.std.specs.Prelude.{nat_le, Bool, true, false}
use Rattle.std.proofs.lemmas.Bool.{cases_eq, cases_lt, leb-true}
use Rattle.ac_base.specs.declared.shapes.Shape.{Shape}
use Rattle.ac_base.specs.Shape.{full_of, count_of}
use Rattle.ac_base.proofs.Tests.{all_below-at}
use Rattle.ac_expo.specs.Raw.{channels}
use Rattle.ac_cost.specs.Records.{AtOffset}
use Rattle.ac_bound.specs.Ways.{IsLeastFrom, ArePots, potential}
use Rattle.ac_bound.proofs.Filling.{potential-here, potential-there, potential-outside}
use Rattle.ac_bound.proofs.Onward.{at_end}
use Rattle.ac_ways.specs.Sixteen.{ways_at}

one : (b : Bool) → count_of b ≤ 1
one true = omega arith
one false = omega arith

full-few : (acmod : ℕ) → acmod ≤ 7 → full_of acmod ≤ 5
full-few acmod l = leb-true _ _ (all_below-at 8 (λ k. nat_le (full_of k) 5) refl acmod (omega arith))

pub channels-few : (shape : Shape) → channels shape ≤ 7
channels-few shape = omega (arith, full-few shape.acmod shape.channels, one)

module _ (p : List (List (List ℕ))) (q : List (List (List (List ℕ)))) (j : ℕ) where
  pub pick_more : (new : List (List ℕ)) (c : ℕ) → c < length p → ((part at : ℕ) → part < 3 → at < 6 → slice_index (slice_index_or new part []) at ≡ ways_at q j c part at) → ((d part at : ℕ) → d < c → part < 3 → at < 6 → potential p d part at ≡ ways_at q j d part at) → (d part at : ℕ) → d < c + 1 → part < 3 → at < 6 → potential (set p c new) d part at ≡ ways_at q j d part at
  pick_more new c inside same so d part at l m low =
      elim (cases_eq d c) [
        | inl e ↦
            subst (λ k. potential (set p c new) k part at ≡ ways_at q j k part at) (sym e) (potential-here p new c part at inside low ∙ same part at m low)
        | inr other ↦ potential-there p new c d part at other ∙ so d part at (omega arith) m low
      ]

  pub picked : ((d part at : ℕ) → d < 7 → part < 3 → at < 6 → potential p d part at ≡ ways_at q j d part at) → (v : AtOffset) → ArePots v (ways_at q j) → ArePots v (potential p)
  picked same v are d part at l m h =
      elim (cases_lt at 6) [
        | inl low ↦ subst (IsLeastFrom v d part at) (sym (same d part at (omega (arith, l, channels-few v.shape)) m low)) (are d part at l m h)
        | inr high ↦
            let e : at ≡ 6 = omega arith in
            let z = potential-outside p d part at high in
            subst (IsLeastFrom v d part at) (sym z) (subst (λ k. IsLeastFrom v d part k 0) (sym e) (at_end v d part))
      ]
