use Rattle.std.proofs.Common.{◌≡◌, ◌++◌, ◌-◌, ◌+◌, ◌≤◌, ◌&&◌, ◌∷◌, [], Bool, List, ℕ, take, arith, ◌∙◌, ap, sym, subst}
use Rattle.std.specs.Prelude.{not, if◌then◌else◌}
use Rattle.std.proofs.lemmas.List.{append-nil}
use Rattle.ac_base.specs.Shape.{full_of, count_of}
use Rattle.ac_rows.specs.Groups.{strategy_of}
use Rattle.ac_rows.specs.Filled.{holds, is_coupled}
use Rattle.ac_record.specs.Order.{with_coupling}
use Rattle.ac_reading.proofs.Steps.{full_more, no_more, few_more}
use Rattle.ac_reading.proofs.order.full_order.Goals as goal

pub loop-i-preserved : goal.loop-i-preserved
loop-i-preserved c =
    let l = c.loop-i in
    let full = full_of c.args.head.now.acmod in
    let coupled = is_coupled (strategy_of c.args.block.now) in
    let t = c.coupled-coupled.result in
    let now = c.both.result in
    let is : coupled l.i ≡ t = sym (c.coupled-coupled.ensures ∙ ap coupled c.from.ensures) in
    let test : now ≡ (t && not l.came) = c.both.ensures ∙ ap (λ (x : Bool). t && x) c.negated.ensures in
    let lt = c.loop-i-test.true in
    let second : take c.push_where-count.result c.push_where-count.new.out ≡ take c.push-count.result c.push-count.new.out ++ (if now then full ∷ [] else []) =
    subst (λ (x : ℕ). take c.push_where-count.result c.push_where-count.new.out ≡ take c.push-count.result c.push-count.new.out ++ (if now then x ∷ [] else [])) c.full_channels-full.ensures.value c.push_where-count.ensures.value in
    let whole = full_more coupled full full l.i l.count c.push-count.result c.push_where-count.result l.came t now l.out c.push-count.new.out c.push_where-count.new.out _ (omega (arith, lt, c.full_channels-full.ensures.value)) is test c.push-count.ensures.value second l.invariant.whole in
    let few = few_more l.came t l.count l.i l.invariant.few in
    let last : count_of now ≡ count_of (t && not l.came) = ap count_of test in
    let came = c.either-came.ensures in
    record {
      whole = subst (λ (x : Bool). take c.push_where-count.result c.push_where-count.new.out ++ with_coupling coupled full x (l.i + 1) (full - (l.i + 1)) ≡ with_coupling coupled full (not (holds c.args.block.now.cplinu)) 0 full) (sym came) whole;
      few = subst (λ (x : Bool). c.push_where-count.result ≤ l.i + 1 + count_of x) (sym came) (omega (arith, few, last, c.push_where-count.ensures.count, c.push-count.ensures.count));
    }

pub returns-clause-value : goal.returns-clause-value
returns-clause-value c =
    let l = c.loop-i in
    let none = no_more (is_coupled (strategy_of c.args.block.now)) (full_of c.args.head.now.acmod) l.came l.i (full_of c.args.head.now.acmod) (omega (arith, c.loop-i-test.false, c.full_channels-full.ensures.value)) in
    sym (append-nil (take l.count l.out)) ∙ (ap (λ (x : List ℕ). take l.count l.out ++ x) (sym none) ∙ l.invariant.whole)
