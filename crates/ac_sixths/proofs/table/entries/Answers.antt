use Rattle.std.proofs.Common.{◌≡◌, ◌<◌, ℕ, pos, ◌-ℤ◌, length, length-set, sym, ◌∙◌, arith}
use Rattle.ac_alloc.proofs.Lists.{written_next}
use Rattle.ac_sixths.specs.Keys.{sixths}
use Rattle.ac_sixths.proofs.Keyed.{high_sixths}
use Rattle.ac_sixths.proofs.table.entries.Goals as goal

pub loop-i-preserved : goal.loop-i-preserved
loop-i-preserved c =
    let f = c.loop-i.f in
    let i = c.loop-i.i in
    let inside : i < length f = omega (arith, c.loop-i.invariant.long) in
    record {
      long = length-set f i 96 ∙ c.loop-i.invariant.long;
      done = written_next (λ (j x : ℕ). x ≡ sixths (pos 3000 -ℤ pos j)) 0 f i 96 inside c.loop-i.invariant.done (sym (high_sixths i (omega arith)));
    }
