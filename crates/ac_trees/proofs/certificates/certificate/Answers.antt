use Rattle.std.proofs.Common.{◌≡◌, ◌<◌, ◌≤◌, ℕ, List, arith, ap, subst}
use Rattle.ac_cost.specs.Parts.{IsFeasible}
use Rattle.ac_cost.specs.Records.{Exponents}
use Rattle.ac_bound.specs.Roots.{IsRoot}
use Rattle.ac_trees.specs.Made.{AreLevels, AreAbove}
use Rattle.ac_trees.proofs.Certifying.{plan-reached, plan-none, certified}
use Rattle.ac_trees.proofs.certificates.certificate.Goals as goal

pub levels-requires-clause-order : goal.levels-requires-clause-order
levels-requires-clause-order c =
    let shape = c.args.shape.now in
    let raw = c.args.raw.now.e in
    let top = c.root-top.result in
    let same : c.of-lists.result.raw ≡ raw = ap (λ (x : Exponents). x.raw) c.of-lists.ensures.value in
    let root = subst (λ (r : List (List (List ℕ))). IsRoot shape r top) same c.root-top.ensures.value in
    omega (arith, plan-reached shape raw c.args.nodes c.plan-made.result c.plan-made.ensures.lawful top root, c.upper_of-upper.ensures)

pub levels-requires-clause-none : goal.levels-requires-clause-none
levels-requires-clause-none c = λ t l m f.
    let shape = c.args.shape.now in
    let raw = c.args.raw.now.e in
    let same : c.of-lists.result.raw ≡ raw = ap (λ (x : Exponents). x.raw) c.of-lists.ensures.value in
    plan-none shape raw c.args.nodes c.plan-made.result c.plan-made.ensures.lawful t (omega (arith, l, c.upper_of-upper.ensures)) m (subst (λ (r : List (List (List ℕ))). IsFeasible shape r t) same f)

pub returns : goal.returns
returns c =
    let shape = c.args.shape.now in
    let raw = c.args.raw.now.e in
    let top = c.root-top.result in
    let same : c.of-lists.result.raw ≡ raw = ap (λ (x : Exponents). x.raw) c.of-lists.ensures.value in
    let root = subst (λ (r : List (List (List ℕ))). IsRoot shape r top) same c.root-top.ensures.value in
    let above = subst (λ (r : List (List (List ℕ))). AreAbove shape r top c.over.result) same c.over.ensures in
    let levels = subst (λ (r : List (List (List ℕ))). AreLevels shape r top c.in_ok-trees.trees) same c.in_ok-trees.ensures.each in
    certified shape c.args.raw.now c.args.nodes c.plan-made.result top c.upper_of-upper.result c.over.result c.in_ok-trees.trees c.plan-made.ensures.lawful c.requires.range c.upper_of-upper.ensures root above levels c.in_ok-trees.ensures.count
