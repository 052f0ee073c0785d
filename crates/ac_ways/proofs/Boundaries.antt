-- What is known from a boundary on, at all offsets side by side.
use Rattle.std.proofs.Common.{◌≡◌, ℕ, ◌+◌, ◌-◌, ◌*◌, ◌^◌, ◌<◌, ◌≤◌, List, [], length, slice_index, set, get_or-set_same, get_or-set_other, length-set, replicate, sym, ap, ◌∙◌, inl, inr, subst, arith}
use Rattle.std.proofs.lemmas.Bool.{cases_eq}
use Rattle.std.proofs.lemmas.List.{get_or-replicate}
use Rattle.ac_cost.specs.Records.{AtOffset}
use Rattle.ac_bound.specs.Ways.{IsLeastFrom}
use Rattle.ac_bound.specs.Steps.{IsLeastOn}
use Rattle.ac_bound.proofs.Onward.{at_end, way_step}
use Rattle.ac_ways.specs.declared.kinds.Kinds.{Kinds}
use Rattle.ac_ways.specs.Columns.{entry_of, AreCosts, AreFewFrom}

pub record IsKnownFrom (kinds : Kinds) (rows : List (List ℕ)) (part at : ℕ) (out : List (List ℕ)) : Type 0 where
  pub long : length out ≡ 7
  pub leasts : (v : AtOffset) (c k j : ℕ) → AreCosts v c kinds rows j → at ≤ k → k ≤ 6 → IsLeastFrom v c part k (entry_of out k j)
  pub few : AreFewFrom at out

here : (rows : List (List ℕ)) (at j : ℕ) (new : List ℕ) → at < length rows → entry_of (set rows at new) at j ≡ slice_index new j
here rows at j new l = ap (λ row. slice_index row j) (get_or-set_same rows at new [] l)

there : (rows : List (List ℕ)) (at k j : ℕ) (new : List ℕ) → (k ≡ at → ⊥) → entry_of (set rows at new) k j ≡ entry_of rows k j
there rows at k j new other = ap (λ row. slice_index row j) (get_or-set_other rows at k new [] other)

pub known-none : (kinds : Kinds) (rows : List (List ℕ)) (part : ℕ) (out : List (List ℕ)) → length out ≡ 7 → IsKnownFrom kinds rows part 6 (set out 6 (replicate 16 0))
known-none kinds rows part out long =
    let inside : 6 < length out = omega (arith, long) in
    let zero : (j : ℕ) → j < 16 → entry_of (set out 6 (replicate 16 0)) 6 j ≡ 0 =
    λ j l. here out 6 j (replicate 16 0) inside ∙ get_or-replicate 16 j 0 0 l in
    record {
      long = length-set out 6 (replicate 16 0) ∙ long;
      leasts = λ v c k j are l m.
          let e : k ≡ 6 = omega arith in
          subst (λ x. IsLeastFrom v c part x (entry_of (set out 6 (replicate 16 0)) x j)) (sym e) (subst (IsLeastFrom v c part 6) (sym (zero j are.column)) (at_end v c part));
      few = λ k j l m p.
          let e : k ≡ 6 = omega arith in
          subst (λ x. entry_of (set out 6 (replicate 16 0)) x j ≤ (6 - x) * 2 ^ 19) (sym e) (omega (arith, zero j p));
    }

pub known-more : (kinds : Kinds) (rows : List (List ℕ)) (part at : ℕ) (out : List (List ℕ)) (new : List ℕ) → at < 6 → IsKnownFrom kinds rows part (at + 1) out → ((v : AtOffset) (c j : ℕ) → AreCosts v c kinds rows j → IsLeastOn v c part at 7 (λ k. entry_of out k j) (slice_index new j)) → ((j : ℕ) → j < 16 → slice_index new j ≤ (6 - at) * 2 ^ 19) → IsKnownFrom kinds rows part at (set out at new)
known-more kinds rows part at out new low so first few =
    let inside : at < length out = omega (arith, so.long) in
    record {
      long = length-set out at new ∙ so.long;
      leasts = λ v c k j are l m. elim (cases_eq k at) [
        | inl e ↦
            let step = way_step v c part at (λ i. entry_of out i j) (slice_index new j) low (λ i lo hi. so.leasts v c i j are (omega arith) hi) (first v c j are) in
            subst (λ x. IsLeastFrom v c part x (entry_of (set out at new) x j)) (sym e) (subst (IsLeastFrom v c part at) (sym (here out at j new inside)) step)
        | inr other ↦ subst (IsLeastFrom v c part k) (sym (there out at k j new other)) (so.leasts v c k j are (omega arith) m)
      ];
      few = λ k j l m p. elim (cases_eq k at) [
        | inl e ↦ subst (λ x. entry_of (set out at new) x j ≤ (6 - x) * 2 ^ 19) (sym e) (omega (arith, here out at j new inside, few j p))
        | inr other ↦ omega (arith, there out at k j new other, so.few k j (omega arith) m p)
      ];
    }
