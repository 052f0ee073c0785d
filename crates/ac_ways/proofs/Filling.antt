-- The potentials of a window, filled channel by channel.
use Rattle.std.proofs.Common.{◌≡◌, ℕ, ◌+◌, ◌-◌, ◌*◌, ◌^◌, ◌<◌, ◌≤◌, List, [], length, slice_index, slice_index_or, set, get_or-set_same, get_or-set_other, sym, ap, inl, inr, subst, arith}
use Rattle.std.proofs.lemmas.Bool.{cases_eq}
use Rattle.ac_base.specs.declared.shapes.Shape.{Shape}
use Rattle.ac_base.specs.Fit.{exponent_bits}
use Rattle.ac_expo.specs.Raw.{channels, channel_span}
use Rattle.ac_cost.specs.Records.{AtOffset, at_offset}
use Rattle.ac_bound.specs.Ways.{IsLeastFrom}
use Rattle.ac_bound.specs.Steps.{kinds_of}
use Rattle.ac_windows.specs.Windows.{IsWindow}
use Rattle.ac_ways.specs.declared.kinds.Kinds.{Kinds}
use Rattle.ac_ways.specs.Columns.{entry_of, AreCosts, AreFewFrom}
use Rattle.ac_ways.specs.Sixteen.{ways_at}

here : (p : List (List (List (List ℕ)))) (new : List (List (List ℕ))) (c part at j : ℕ) → c < length p → ways_at (set p c new) j c part at ≡ entry_of (slice_index_or new part []) at j
here p new c part at j l =
    ap (λ (r : List (List (List ℕ))). entry_of (slice_index_or r part []) at j) (get_or-set_same p c new [] l)

there : (p : List (List (List (List ℕ)))) (new : List (List (List ℕ))) (c d part at j : ℕ) → (d ≡ c → ⊥) → ways_at (set p c new) j d part at ≡ ways_at p j d part at
there p new c d part at j other =
    ap (λ (r : List (List (List ℕ))). entry_of (slice_index_or r part []) at j) (get_or-set_other p c d new [] other)

module _ (p : List (List (List (List ℕ)))) (new : List (List (List ℕ))) (c : ℕ) (inside : c < length p) where
  pub few_more : ((part : ℕ) → part < 3 → AreFewFrom 0 (slice_index_or new part [])) → ((d part at j : ℕ) → d < c → part < 3 → at ≤ 6 → j < 16 → ways_at p j d part at ≤ (6 - at) * 2 ^ 19) → (d part at j : ℕ) → d < c + 1 → part < 3 → at ≤ 6 → j < 16 → ways_at (set p c new) j d part at ≤ (6 - at) * 2 ^ 19
  few_more few so d part at j l m h k =
      elim (cases_eq d c) [
        | inl e ↦
            subst (λ x. ways_at (set p c new) j x part at ≤ (6 - at) * 2 ^ 19) (sym e) (omega (arith, here p new c part at j inside, few part m at j (omega arith) h k))
        | inr other ↦ omega (arith, there p new c d part at j other, so d part at j (omega arith) m h k)
      ]

  pub ways_more : (shape : Shape) (raw : List (List (List ℕ))) (t0 : ℕ) (six : List (List (List ℕ))) (kinds : Kinds) → c < channels shape → kinds.count ≡ kinds_of shape c → ((kind : ℕ) → 1 ≤ kind → kind ≤ kinds.count → slice_index kinds.bits kind ≡ exponent_bits kind (channel_span shape c)) → ((v : AtOffset) (d part at j : ℕ) → AreCosts v d kinds (slice_index_or six c []) j → part < 3 → at ≤ 6 → IsLeastFrom v d part at (entry_of (slice_index_or new part []) at j)) → IsWindow shape raw t0 six → ((d part at j : ℕ) → d < c → part < 3 → at ≤ 6 → j < 16 → IsLeastFrom (at_offset shape raw (t0 + j)) d part at (ways_at p j d part at)) → (d part at j : ℕ) → d < c + 1 → part < 3 → at ≤ 6 → j < 16 → IsLeastFrom (at_offset shape raw (t0 + j)) d part at (ways_at (set p c new) j d part at)
  ways_more shape raw t0 six kinds coded count bits value window so d part at j l m h k =
      let v = at_offset shape raw (t0 + j) in
      elim (cases_eq d c) [
        | inl e ↦
            let are : AreCosts v c kinds (slice_index_or six c []) j = record { channel = coded; column = k; count = count; bits = bits; six = λ run is. window c run j is k } in
            let least = value v c part at j are m h in
            subst (λ x. IsLeastFrom v x part at (ways_at (set p c new) j x part at)) (sym e) (subst (IsLeastFrom v c part at) (sym (here p new c part at j inside)) least)
        | inr other ↦ subst (IsLeastFrom v d part at) (sym (there p new c d part at j other)) (so d part at j (omega arith) m h k)
      ]
