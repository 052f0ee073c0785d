use Rattle.std.proofs.Common.{◌≡◌, ◌<◌, ◌+◌, ℕ, slice_index, sym, ap, ◌∙◌, arith}
use Rattle.ac_base.specs.declared.shapes.Shape.{Shape}
use Rattle.ac_base.specs.declared.sizes.Parts.{Parts}
use Rattle.ac_base.specs.Fit.{side_of}
use Rattle.ac_cost.specs.Blocks.{exponents_at}
use Rattle.ac_cost.specs.Parts.{parts_at}
use Rattle.ac_cost.proofs.Assigning.{assign-is, assign-same, coded-few}
use Rattle.ac_cost.proofs.Summing.{blocks-are, exponents-same, parts-are}
use Rattle.ac_cost.proofs.parts.assign_parts.Goals as goal

pub mantissas-mantissas-requires : goal.mantissas-mantissas-requires
mantissas-mantissas-requires g c =
    record { same = c.requires.same; assign = assign-is c.args.shape.now c.args.a.now.w (coded-few c.args.shape.now) c.codes.ensures.words c.requires.low }

pub exponents-exponents-requires : goal.exponents-exponents-requires
exponents-exponents-requires g c =
    let few = coded-few c.args.shape.now in
    record { assign = assign-same c.args.shape.now c.args.a.now.w c.codes.result few c.codes.ensures.value (assign-is c.args.shape.now c.args.a.now.w few c.codes.ensures.words c.requires.low) }

pub returns : goal.returns
returns g c =
    let v = g.C.RunCosts.offset c.args.costs.now in
    let few = coded-few v.shape in
    let assign = c.args.a.now.w in
    let side : c.side-side.result ≡ side_of v.shape.acmod v.shape.lfe v.shape.couple =
    c.side-side.ensures.value ∙ ap (λ (s : Shape). side_of s.acmod s.lfe s.couple) (sym c.requires.same) in
    let exps : (b : ℕ) → b < 6 → slice_index c.exponents-exponents.result b ≡ exponents_at v.shape assign b =
    λ b l. c.exponents-exponents.ensures.value b l ∙ ap (λ (s : Shape). exponents_at s c.codes.result b) (sym c.requires.same) ∙ exponents-same v.shape c.codes.result assign b few c.codes.ensures.value in
    let front = blocks-are v assign 2 c.exponents-exponents.result c.mantissas-mantissas.result (omega arith) exps c.mantissas-mantissas.ensures.value in
    let whole = blocks-are v assign 6 c.exponents-exponents.result c.mantissas-mantissas.result (omega arith) exps c.mantissas-mantissas.ensures.value in
    let all : record { front = c.side-side.result.front + c.first.result + c.first-2.result; total = c.side-side.result.total + c.first-3.result + c.first-4.result; last = slice_index c.mantissas-mantissas.result 5 } ≡ parts_at v.shape v.raw v.t assign =
    parts-are v assign c.side-side.result c.first.result c.first-2.result c.first-3.result c.first-4.result (slice_index c.mantissas-mantissas.result 5) side
    (omega (arith, c.first.ensures.value, c.first-2.ensures.value, front)) (omega (arith, c.first-3.ensures.value, c.first-4.ensures.value, whole)) (c.mantissas-mantissas.ensures.value 5 (omega arith)) in
    record { value = all ∙ ap (λ (s : Shape). parts_at s v.raw v.t assign) c.requires.same }
