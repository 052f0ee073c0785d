use Rattle.std.proofs.Common.{◌≡◌, ◌≤◌, ◌<◌, ℕ, ◌^◌, length, length-set, ap, ◌∙◌, arith}
use Rattle.ac_base.specs.Counts.{exact_of}
use Rattle.ac_cost.specs.Blocks.{mantissas_at}
use Rattle.ac_cost.proofs.Listing.{set_each, set_more}
use Rattle.ac_cost.proofs.parts.mantissas.Goals as goal

pub loop-block-preserved : goal.loop-block-preserved
loop-block-preserved g c =
    let i = c.loop-block in
    let v = c.mantissa_bits.result in
    let P : ℕ → ℕ → Type 0 = λ b x. x ≡ mantissas_at (g.C.RunCosts.offset c.args.costs.now) c.args.a.now.w b in
    let Q : ℕ → ℕ → Type 0 = λ b x. x ≤ 2 ^ 16 in
    let in_range : i.block < length i.bits = omega (arith, i.invariant.long, c.loop-block-test.true) in
    record {
      value = set_more P i.bits i.block v 0 in_range i.invariant.value (c.mantissa_bits.ensures.value ∙ ap exact_of c.block_counts.ensures.value);
      bound = set_each Q i.bits i.block v 0 in_range (λ j ne. i.invariant.bound j) c.mantissa_bits.ensures.bound;
      long = length-set i.bits i.block v ∙ i.invariant.long;
    }
