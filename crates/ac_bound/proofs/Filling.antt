-- Tables of potentials, filled channel by channel.
use Rattle.std.proofs.Common.{◌≡◌, ℕ, ◌+◌, ◌<◌, ◌≤◌, true, false, List, [], slice_index, slice_index_or, length, set, replicate, get_or-set_same, get_or-set_other, refl, sym, ap, ◌∙◌, inl, inr, subst, arith}
use Rattle.std.specs.Prelude.{nat_lt, if◌then◌else◌}
use Rattle.std.proofs.lemmas.Bool.{cases_eq, cases_lt, lt-ltb, le-ltb}
use Rattle.std.proofs.lemmas.List.{get_or-replicate}
use Rattle.ac_cost.specs.Records.{AtOffset}
use Rattle.ac_bound.specs.Ways.{IsLeastFrom, potential}
use Rattle.ac_bound.specs.Steps.{after_of}
use Rattle.ac_bound.proofs.Onward.{at_end}

pub potential-inside : (p : List (List (List ℕ))) (c part at : ℕ) → at < 6 → potential p c part at ≡ slice_index (slice_index_or (slice_index_or p c []) part []) at
potential-inside p c part at l = let t : nat_lt at 6 ≡ true = lt-ltb at 6 l in rw t refl

pub potential-outside : (p : List (List (List ℕ))) (c part at : ℕ) → 6 ≤ at → potential p c part at ≡ 0
potential-outside p c part at l = let f : nat_lt at 6 ≡ false = le-ltb at 6 l in rw f refl

-- ---- zeros
pub potential-zero : (c part at : ℕ) → c < 7 → part < 3 → potential (replicate 7 (replicate 3 (replicate 6 0))) c part at ≡ 0
potential-zero c part at l m =
    elim (cases_lt at 6) [
      | inl low ↦
          let rows : List (List ℕ) = replicate 3 (replicate 6 0) in
          let x = get_or-replicate 7 c rows [] l in
          let y = get_or-replicate 3 part (replicate 6 0) [] m in
          let z = get_or-replicate 6 at 0 0 low in
          potential-inside (replicate 7 rows) c part at low
          ∙ (ap (λ (r : List (List ℕ)). slice_index (slice_index_or r part []) at) x ∙ (ap (λ (r : List ℕ). slice_index r at) y ∙ z))
      | inr high ↦ potential-outside (replicate 7 (replicate 3 (replicate 6 0))) c part at high
    ]

-- ---- one channel more
potential-same : (p q : List (List (List ℕ))) (c d part at : ℕ) → slice_index_or p c [] ≡ slice_index_or q d [] → potential p c part at ≡ potential q d part at
potential-same p q c d part at e =
    ap (λ (r : List (List ℕ)). if nat_lt at 6 then slice_index (slice_index_or r part []) at else 0) e

pub potential-there : (p : List (List (List ℕ))) (new : List (List ℕ)) (c d part at : ℕ) → (d ≡ c → ⊥) → potential (set p c new) d part at ≡ potential p d part at
potential-there p new c d part at other = potential-same (set p c new) p d d part at (get_or-set_other p c d new [] other)

pub potential-here : (p : List (List (List ℕ))) (new : List (List ℕ)) (c part at : ℕ) → c < length p → at < 6 → potential (set p c new) c part at ≡ slice_index (slice_index_or new part []) at
potential-here p new c part at l low =
    potential-inside (set p c new) c part at low
    ∙ ap (λ (r : List (List ℕ)). slice_index (slice_index_or r part []) at) (get_or-set_same p c new [] l)

module _ (v : AtOffset) (p : List (List (List ℕ))) (new rows : List (List ℕ)) (c : ℕ) (inside : c < length p) (is : (part at : ℕ) → part < 3 → at ≤ 6 → IsLeastFrom v c part at (after_of rows at part)) (same : (part at : ℕ) → part < 3 → at < 6 → slice_index (slice_index_or new part []) at ≡ after_of rows at part) where
  new_is : (part at : ℕ) → part < 3 → at ≤ 6 → IsLeastFrom v c part at (potential (set p c new) c part at)
  new_is part at m h =
      elim (cases_lt at 6) [
        | inl low ↦ subst (IsLeastFrom v c part at) (sym (potential-here p new c part at inside low ∙ same part at m low)) (is part at m h)
        | inr high ↦
            let e : at ≡ 6 = omega arith in
            let z = potential-outside (set p c new) c part at high in
            subst (IsLeastFrom v c part at) (sym z) (subst (λ k. IsLeastFrom v c part k 0) (sym e) (at_end v c part))
      ]

  pub fill_more : ((d part at : ℕ) → d < c → part < 3 → at ≤ 6 → IsLeastFrom v d part at (potential p d part at)) → (d part at : ℕ) → d < c + 1 → part < 3 → at ≤ 6 → IsLeastFrom v d part at (potential (set p c new) d part at)
  fill_more so d part at l m h =
      elim (cases_eq d c) [
        | inl e ↦ subst (λ k. IsLeastFrom v k part at (potential (set p c new) k part at)) (sym e) (new_is part at m h)
        | inr other ↦ subst (IsLeastFrom v d part at) (sym (potential-there p new c d part at other)) (so d part at (omega arith) m h)
      ]

pub rest_more : (p : List (List (List ℕ))) (new : List (List ℕ)) (c : ℕ) → ((d part at : ℕ) → c ≤ d → d < 7 → part < 3 → potential p d part at ≡ 0) → (d part at : ℕ) → c + 1 ≤ d → d < 7 → part < 3 → potential (set p c new) d part at ≡ 0
rest_more p new c so d part at l m k =
    let other : d ≡ c → ⊥ = λ e. absurd (omega (arith, e, l)) in
    potential-there p new c d part at other ∙ so d part at (omega arith) m k
