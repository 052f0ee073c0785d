use Rattle.std.proofs.Common.{◌≡◌, ◌<◌, pos, ◌+ℤ◌, slice_index_or, length, length-set, arith, ◌∙◌, SFits, w32, rules}
use Rattle.std.proofs.lemmas.Int.{to_z-of_z}
use Rattle.ac_alloc.specs.Pointers.{level, kept}
use Rattle.ac_alloc.proofs.Lists.{written_next}
use Rattle.ac_alloc.proofs.pointers.raised_levels.Goals as goal

pub loop-b-preserved : goal.loop-b-preserved
loop-b-preserved c =
    let mask = c.args.mask.now in
    let b = c.loop-b.b in
    let m = slice_index_or mask.m b (pos 0) in
    let fm : SFits w32 m = search rules in
    let ff : SFits w32 mask.floor = search rules in
    let v : pos c.raised_level.result ≡ kept (level m mask.floor c.args.t) +ℤ pos 2048 = simp to_z-of_z at c.raised_level.ensures.value in
    let inside : b < length c.loop-b.out = omega (arith, c.loop-b.invariant.1) in (
      written_next (λ k x. pos x ≡ kept (level (slice_index_or mask.m k (pos 0)) mask.floor c.args.t) +ℤ pos 2048) 0 c.loop-b.out b c.raised_level.result inside c.loop-b.invariant.0 v,
      length-set c.loop-b.out b c.raised_level.result ∙ c.loop-b.invariant.1,
    )
