use Rattle.std.proofs.Common.{◌≡◌, ◌<◌, ◌++◌, ◌^◌, length, SFits, w32, rules, ap, ap₂, ◌∙◌, arith}
use Rattle.std.proofs.lemmas.Int.{to_z-of_z}
use Rattle.ac_base.specs.Window.{window_of}
use Rattle.ac_mdct.specs.Forward.{rounded, windowed}
use Rattle.ac_mdct.proofs.More.{lists_more, within_more}
use Rattle.ac_mdct.proofs.windowing.windowed.Goals as goal

pub loop-n-preserved : goal.loop-n-preserved
loop-n-preserved c =
    let fits : SFits w32 c.weigh.result = search rules in
    let fits_x : SFits w32 c.early.result = search rules in
    let fits_w : SFits w32 c.window.result = search rules in
    let place : c.window.result ≡ window_of c.loop-n.n = c.window.ensures.value ∙ ap window_of (omega arith) in
    let is = simp to_z-of_z at c.weigh.ensures.value in
    let value : c.weigh.result ≡ windowed (c.args.prev.now ++ c.args.now.now) c.loop-n.n = is ∙ ap₂ rounded c.early.ensures place in
    let room : c.loop-n.n < length c.loop-n.out = omega arith in (
      search rules,
      simp to_z-of_z (lists_more (windowed (c.args.prev.now ++ c.args.now.now)) c.loop-n.n c.loop-n.out c.weigh.result room c.loop-n.invariant.1 value),
      simp to_z-of_z (within_more (2 ^ 23) c.loop-n.n c.loop-n.out c.weigh.result room c.loop-n.invariant.2 c.weigh.ensures.bound),
    )

pub loop-m-preserved : goal.loop-m-preserved
loop-m-preserved c =
    let fits : SFits w32 c.weigh-in-loop-m.result = search rules in
    let fits_x : SFits w32 c.late.result = search rules in
    let fits_w : SFits w32 c.window-in-loop-m.result = search rules in
    let place : c.window-in-loop-m.result ≡ window_of c.loop-m.m = c.window-in-loop-m.ensures.value ∙ ap window_of (omega arith) in
    let is = simp to_z-of_z at c.weigh-in-loop-m.ensures.value in
    let value : c.weigh-in-loop-m.result ≡ windowed (c.args.prev.now ++ c.args.now.now) c.loop-m.m = is ∙ ap₂ rounded c.late.ensures place in
    let room : c.loop-m.m < length c.loop-m.out = omega arith in (
      search rules,
      simp to_z-of_z (lists_more (windowed (c.args.prev.now ++ c.args.now.now)) c.loop-m.m c.loop-m.out c.weigh-in-loop-m.result room c.loop-m.invariant.1 value),
      simp to_z-of_z (within_more (2 ^ 23) c.loop-m.m c.loop-m.out c.weigh-in-loop-m.result room c.loop-m.invariant.2 c.weigh-in-loop-m.ensures.bound),
    )
