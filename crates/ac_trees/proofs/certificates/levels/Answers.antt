use Rattle.std.proofs.Common.{◌≡◌, ◌+◌, ◌-◌, ◌≤◌, ◌∷◌, ◌++◌, [], List, length, length-append, rules, arith, ap, sym, subst}
use Rattle.ac_cost.specs.Records.{at_offset}
use Rattle.ac_claim.specs.declared.certs.Level.{Level}
use Rattle.ac_trees.specs.Made.{IsLevel, AreLevels}
use Rattle.ac_trees.proofs.Passing.{AreLevels-push}
use Rattle.ac_trees.proofs.certificates.levels.Goals as goal

pub loop-t-preserved : goal.loop-t-preserved
loop-t-preserved c =
    let shape = c.args.shape.now in
    let raw = c.args.lists.now.raw in
    let t = c.loop-t.t in
    let items = c.loop-t.made.items in
    let next = c.in_ok-next.next in
    let inv = c.loop-t.invariant in
    let here : IsLevel (at_offset shape raw t) next = c.in_ok-next.ensures in
    let more : c.push.new.self.items ≡ items ++ next ∷ [] = search rules in
    let long = ap (λ (ls : List Level). length ls) more in
    record {
      low = omega (arith, c.loop-t-test.true);
      high = omega (arith, inv.high);
      each = subst (AreLevels shape raw c.args.top) (sym more) (AreLevels-push shape raw c.args.top t items next inv.each inv.count here);
      count = omega (arith, long, length-append items (next ∷ []), inv.count, c.loop-t-test.true);
    }
