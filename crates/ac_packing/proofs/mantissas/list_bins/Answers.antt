use Rattle.std.proofs.Common.{◌+◌, ◌-◌, ◌<◌, ◌≡◌, length, take, slice_index, refl, arith}
use Rattle.std.proofs.lemmas.List.{length-set}
use Rattle.ac_mant.specs.Groups.{coded}
use Rattle.ac_packing.proofs.Listing.{bins_more}
use Rattle.ac_packing.proofs.mantissas.list_bins.Goals as goal

pub loop-k-preserved : goal.loop-k-preserved
loop-k-preserved c =
    let s = c.from-start.result in
    let k = c.loop-k.k in
    let n = k - s in
    let x = coded (slice_index c.args.baps.now k) (slice_index c.args.codes.now k) in
    let list = c.loop-k.list in
    let step : s + n ≡ k = omega (arith, c.loop-k.auto.k) in
    let next : k + 1 - s ≡ n + 1 = omega (arith, c.loop-k.auto.k) in
    let inside : c.args.at + n < length list = omega (arith, c.loop-k-test.true, c.requires.room, c.requires.end, c.from-k-end.ensures, c.from-start.ensures, c.loop-k.invariant.0) in (
      omega (arith, c.loop-k.invariant.0, length-set list (c.args.at + n) x),
      bins_more (λ j. coded (slice_index c.args.baps.now j) (slice_index c.args.codes.now j)) list (take c.args.at c.args.list.now) c.args.at s k n (k + 1 - s) (c.args.at + n) x refl step next inside refl c.loop-k.invariant.1,
    )
