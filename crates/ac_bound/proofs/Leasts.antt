-- Least costs of things, of kinds and of runs.
use Rattle.std.proofs.Common.{◌≡◌, ◌⊎◌, ℕ, ◌+◌, ◌<◌, ◌≤◌, min, refl, ap, inl, inr, arith}
use Rattle.std.proofs.lemmas.Bool.{cases_eq, cases_lt}
use Rattle.ac_base.specs.declared.runs.Run.{Run}
use Rattle.ac_base.specs.declared.shapes.Shape.{Shape}
use Rattle.ac_base.specs.declared.spans.Lead.{Lead}
use Rattle.ac_base.specs.declared.spans.Lead.TheVariants.{Free, Coupled, Coupling, Low}
use Rattle.ac_base.specs.Spans.{greatest_kind}
use Rattle.ac_expo.specs.Raw.{channels, channel_span}
use Rattle.ac_cost.specs.Records.{AtOffset}
use Rattle.ac_cost.specs.Runs.{IsRunOf}
use Rattle.ac_cost.specs.Sixths.{run_sixths}
use Rattle.ac_bound.specs.Least.{IsLeast}
use Rattle.ac_bound.specs.Steps.{kinds_of, between, IsKindBelow, IsLeastBetween, IsRunBelow, IsLeastOn}

-- of two sorts of things
pub of_either : {X : Type 0} (P Q R : X → Type 0) (f : X → ℕ) (m n : ℕ) → IsLeast P f m → IsLeast Q f n → ((x : X) → P x → R x) → ((x : X) → Q x → R x) → ((x : X) → R x → P x ⊎ Q x) → IsLeast R f (min m n)
of_either P Q R f m n a b from_p from_q split =
    elim (cases_lt m n) [
      | inl l ↦ record {
        one = a.one;
        is_one = from_p a.one a.is_one;
        met = omega (arith, a.met);
        least = λ x r. elim (split x r) [ inl p ↦ omega (arith, a.least x p) | inr q ↦ omega (arith, b.least x q) ];
      }
      | inr l ↦ record {
        one = b.one;
        is_one = from_q b.one b.is_one;
        met = omega (arith, b.met);
        least = λ x r. elim (split x r) [ inl p ↦ omega (arith, a.least x p) | inr q ↦ omega (arith, b.least x q) ];
      }
    ]

-- ---- kinds
pub kinds_first : (f : ℕ → ℕ) → IsLeast (IsKindBelow 2) f (f 1)
kinds_first f = record {
  one = 1;
  is_one = (omega arith, omega arith);
  met = refl;
  least = λ k is. let e : k ≡ 1 = omega (arith, is.0, is.1) in let x = ap f e in omega (arith, x);
}

pub kinds_more : (f : ℕ → ℕ) (n m : ℕ) → 1 ≤ n → IsLeast (IsKindBelow n) f m → IsLeast (IsKindBelow (n + 1)) f (min m (f n))
kinds_more f n m some is =
    of_either (IsKindBelow n) (λ k. k ≡ n) (IsKindBelow (n + 1)) f m (f n) is
    (record { one = n; is_one = refl; met = refl; least = λ k e. let x = ap f e in omega (arith, x) })
    (λ k p. (p.0, omega (arith, p.1)))
    (λ k e. (omega (arith, e, some), omega (arith, e)))
    (λ k r. elim (cases_eq k n) [ inl e ↦ inr e | inr other ↦ inl (r.0, omega (arith, r.1)) ])

pub kinds-least : (lead : Lead) → 1 ≤ greatest_kind lead
kinds-least Free = omega arith
kinds-least Coupled = omega arith
kinds-least Coupling = omega arith
kinds-least Low = omega arith

pub kinds-most : (lead : Lead) → greatest_kind lead ≤ 3
kinds-most Free = omega arith
kinds-most Coupled = omega arith
kinds-most Coupling = omega arith
kinds-most Low = omega arith

-- ---- runs
pub between-is : (shape : Shape) (c from to kind : ℕ) → c < channels shape → from < to → to ≤ 6 → 1 ≤ kind → kind ≤ kinds_of shape c → IsRunOf shape c (between from to kind)
between-is shape c from to kind l order end some taken = record {
  channel = l;
  is_run = record { order = order; blocks = end; some = some; kind = omega (arith, taken, kinds-most (channel_span shape c).lead) };
  taken = taken;
}

record IsRunTo (shape : Shape) (c at to : ℕ) (run : Run) : Type 0 where
  pub is_run : IsRunOf shape c run
  pub starts : run.from ≡ at
  pub ends : run.to ≡ to

module _ (v : AtOffset) (c part at : ℕ) (l : c < channels v.shape) (after : ℕ → ℕ) where
  abbrev cost : Run → ℕ
  cost run = run_sixths v.shape v.raw v.t part c run + after run.to

  -- of one range of blocks
  one_range : (to n : ℕ) → at < to → to ≤ 6 → IsLeastBetween v c part at to (kinds_of v.shape c + 1) n → IsLeast (IsRunTo v.shape c at to) cost (n + after to)
  one_range to n order end is = record {
    one = between at to is.one;
    is_one = record { is_run = between-is v.shape c at to is.one l order end is.is_one.0 (omega (arith, is.is_one.1)); starts = refl; ends = refl };
    met = omega (arith, is.met);
    least = λ run r.
        let e : run ≡ between at to run.kind = λ i. record { from = r.starts i; to = r.ends i; kind = run.kind } in
        let x : cost run ≡ cost (between at to run.kind) = ap cost e in
        omega (arith, x, is.least run.kind (r.is_run.is_run.some, omega (arith, r.is_run.taken)));
  }

  pub range_first : (n : ℕ) → at < 6 → IsLeastBetween v c part at (at + 1) (kinds_of v.shape c + 1) n → IsLeastOn v c part at (at + 2) after (n + after (at + 1))
  range_first n low is =
      let one = one_range (at + 1) n (omega arith) (omega arith) is in
      record {
        one = one.one;
        is_one = record { is_run = one.is_one.is_run; starts = one.is_one.starts; ends = omega (arith, one.is_one.ends) };
        met = one.met;
        least = λ run r. one.least run (record { is_run = r.is_run; starts = r.starts; ends = omega (arith, r.ends, r.starts, r.is_run.is_run.order) });
      }

  pub range_more : (to m n : ℕ) → at < to → to ≤ 6 → IsLeastOn v c part at to after m → IsLeastBetween v c part at to (kinds_of v.shape c + 1) n → IsLeastOn v c part at (to + 1) after (min m (n + after to))
  range_more to m n order end so is =
      of_either (IsRunBelow v.shape c at to) (IsRunTo v.shape c at to) (IsRunBelow v.shape c at (to + 1)) cost m (n + after to) so (one_range to n order end is)
      (λ run p. record { is_run = p.is_run; starts = p.starts; ends = omega (arith, p.ends) })
      (λ run q. record { is_run = q.is_run; starts = q.starts; ends = omega (arith, q.ends) })
      (λ run r. elim (cases_eq run.to to) [
        | inl e ↦ inr (record { is_run = r.is_run; starts = r.starts; ends = e })
        | inr other ↦ inl (record { is_run = r.is_run; starts = r.starts; ends = omega (arith, r.ends) })
      ])
