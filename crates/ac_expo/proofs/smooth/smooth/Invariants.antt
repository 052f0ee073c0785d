use Rattle.ac_expo.proofs.Spread.{Upward, Downward}
use Rattle.ac_expo.proofs.smooth.smooth.Given as goal

abbrev pub invariant-loop-k : goal.invariant-loop-k
invariant-loop-k l = Upward l.fn.steps l.steps l.k

abbrev pub invariant-loop-k-2 : goal.invariant-loop-k-2
invariant-loop-k-2 l = Downward l.fn.steps l.steps l.k
