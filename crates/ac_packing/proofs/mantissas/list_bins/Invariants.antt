use Rattle.std.proofs.Common.{◌≡◌, ◌+◌, ◌-◌, ◌++◌, length, take, map, slice_index}
use Rattle.std.specs.List.{range_with_len}
use Rattle.ac_mant.specs.Groups.{coded}
use Rattle.ac_packing.proofs.mantissas.list_bins.Given as goal

abbrev pub invariant-loop-k : goal.invariant-loop-k
invariant-loop-k l =
    (length l.list ≡ 1792)
    × (take (l.at + (l.k - l.start)) l.list ≡ take l.at l.fn.list ++ map (λ k. coded (slice_index l.baps k) (slice_index l.codes k)) (range_with_len l.start (l.k - l.start)))
