use Rattle.std.proofs.Common.{◌≡◌, ◌-◌, slice_index}
use Rattle.ac_alloc.specs.Excitation.{first_rise}
use Rattle.ac_alloc.proofs.lowcomp.find_begin.Given as goal

abbrev pub invariant-loop-b : goal.invariant-loop-b
invariant-loop-b l =
    first_rise (λ j. slice_index l.bndpsd j) l.b (l.end - l.b) ≡ first_rise (λ j. slice_index l.bndpsd j) 2 (l.end - 2)
