use Rattle.std.proofs.Common.{◌≡◌, ◌≤◌, ◌<◌, ℕ, ◌^◌, length, length-set, ◌∙◌, arith}
use Rattle.ac_cost.specs.Blocks.{exponents_at}
use Rattle.ac_cost.proofs.Listing.{set_each, set_more}
use Rattle.ac_cost.proofs.parts.exponents.Goals as goal

pub loop-block-preserved : goal.loop-block-preserved
loop-block-preserved c =
    let i = c.loop-block in
    let v = c.block_exponents.result in
    let P : ℕ → ℕ → Type 0 = λ b x. x ≡ exponents_at c.args.shape.now c.args.codes.now b in
    let Q : ℕ → ℕ → Type 0 = λ b x. x ≤ 2 ^ 16 in
    let in_range : i.block < length i.bits = omega (arith, i.invariant.long, c.loop-block-test.true) in
    record {
      value = set_more P i.bits i.block v 0 in_range i.invariant.value c.block_exponents.ensures.value;
      bound = set_each Q i.bits i.block v 0 in_range (λ j ne. i.invariant.bound j) (omega (arith, c.block_exponents.ensures.bound));
      long = length-set i.bits i.block v ∙ i.invariant.long;
    }
