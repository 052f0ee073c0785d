-- What an offset that is closed, or open, leaves of a bracket.
use Rattle.std.proofs.Common.{◌≡◌, ℕ, ◌+◌, ◌-◌, ◌<◌, ◌≤◌, min, max, List, inl, inr, subst, arith}
use Rattle.std.proofs.lemmas.Bool.{cases_lt}
use Rattle.ac_base.specs.declared.shapes.Shape.{Shape}
use Rattle.ac_cost.specs.Records.{at_offset}
use Rattle.ac_bound.specs.Ways.{ArePots}
use Rattle.ac_bound.specs.Bounds.{lower_of, nothing, IsOver}
use Rattle.ac_bound.specs.Roots.{IsClosed, IsRoot}
use Rattle.ac_bound.proofs.Offsets.{closed_stays, over_rises}
use Rattle.ac_ways.specs.declared.bracket.Bracket.{Bracket}
use Rattle.ac_ways.specs.Sixteen.{IsBracket, IsOutside}

module _ (shape : Shape) (raw : List (List (List ℕ))) where
  pub closed_over : (t : ℕ) (pot : ℕ → ℕ → ℕ → ℕ) → ArePots (at_offset shape raw t) pot → IsOver shape (lower_of shape pot nothing) → IsClosed shape raw t
  closed_over t pot are over = record { pot = pot; are = are; over = over }

  pub open_under : (t : ℕ) (pot : ℕ → ℕ → ℕ → ℕ) → ArePots (at_offset shape raw t) pot → (IsOver shape (lower_of shape pot nothing) → ⊥) → IsClosed shape raw t → ⊥
  open_under t pot are under closed = under (over_rises shape raw t t closed.pot pot (omega arith) closed.are are closed.over)

  pub lower_high : (b : Bracket) (t high : ℕ) → high ≡ min b.high t → IsClosed shape raw t → IsBracket shape raw b → IsBracket shape raw (record { low = b.low; high = high })
  lower_high b t high e closed so = record {
    order = elim (cases_lt b.low t) [
      | inl l ↦ let o = so.order in omega (arith, o, l, e)
      | inr below ↦ absurd (so.is_open (closed_stays shape raw t b.low below closed))
    ];
    within = let w = so.within in omega (arith, w, e);
    is_open = so.is_open;
    above = λ s l m. elim (cases_lt s t) [
      | inl before ↦ so.above s (omega (arith, l, e, before)) m
      | inr behind ↦ closed_stays shape raw t s behind closed
    ];
  }

  pub raise_low : (b : Bracket) (t low : ℕ) → low ≡ max b.low t → t ≤ 1023 → (IsClosed shape raw t → ⊥) → IsBracket shape raw b → IsBracket shape raw (record { low = low; high = b.high })
  raise_low b t low e top is_open so = record {
    order = elim (cases_lt t b.high) [
      | inl l ↦ let o = so.order in omega (arith, o, l, e)
      | inr above ↦ absurd (is_open (so.above t above top))
    ];
    within = so.within;
    is_open = elim (cases_lt b.low t) [
      | inl l ↦ let same : low ≡ t = omega (arith, e, l) in λ c. is_open (subst (IsClosed shape raw) same c)
      | inr l ↦ let same : low ≡ b.low = omega (arith, e, l) in λ c. so.is_open (subst (IsClosed shape raw) same c)
    ];
    above = so.above;
  }

  pub bracket_root : (b : Bracket) → IsBracket shape raw b → b.high - b.low ≤ 1 → IsRoot shape raw b.low
  bracket_root b so small = record {
    within = let o = so.order in let w = so.within in omega (arith, o, w);
    is_open = so.is_open;
    above = λ t l m. let o = so.order in so.above t (omega (arith, o, small)) m;
  }

-- what isn't inside isn't inside a smaller one
pub outside : (a b : Bracket) (t : ℕ) → a.low ≤ b.low → b.high ≤ a.high → IsOutside a t → IsOutside b t
outside a b t low high is = elim is [ inl l ↦ inl (omega arith) | inr l ↦ inr (omega arith) ]

-- a window with some offset inside a bracket makes it smaller
tried_inside : (a b : Bracket) (t : ℕ) → a.low < t → t < a.high → a.low ≤ b.low → b.high ≤ a.high → IsOutside b t → b.high - b.low < a.high - a.low
tried_inside a b t after before low high is = elim is [ inl l ↦ omega (arith, l) | inr l ↦ omega (arith, l) ]

pub smaller : (a b : Bracket) (t0 : ℕ) → 1 < a.high - a.low → t0 < a.high → a.low + 1 < t0 + 16 → a.low ≤ b.low → b.high ≤ a.high → ((j : ℕ) → j < 16 → IsOutside b (t0 + j)) → b.high - b.low < a.high - a.low
smaller a b t0 wide below above low high tried =
    elim (cases_lt a.low t0) [
      | inl inside ↦
          let e : t0 + 0 ≡ t0 = omega arith in
          tried_inside a b t0 inside below low high (subst (IsOutside b) e (tried 0 (omega arith)))
      | inr early ↦
          let e : t0 + (a.low + 1 - t0) ≡ a.low + 1 = omega (arith, early) in
          tried_inside a b (a.low + 1) (omega arith) (omega (arith, wide)) low high (subst (IsOutside b) e (tried (a.low + 1 - t0) (omega (arith, above, early))))
    ]
