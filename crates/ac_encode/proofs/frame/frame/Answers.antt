use Rattle.std.proofs.Common.{◌+◌, ℕ, take, sym, subst}
use Rattle.ac_encode.specs.Frames.{AreLast, AreOwn, StandsAt}
use Rattle.ac_encode.proofs.Places.{frame_leaves, stands_now}
use Rattle.ac_encode.proofs.frame.frame.Goals as goal

pub encode-done-requires-clause-stands : goal.encode-done-requires-clause-stands
encode-done-requires-clause-stands g c = stands_now _ _ _ _ c.requires.stands

pub returns-clause-told : goal.returns-clause-told
returns-clause-told g c = λ s same before own.
    let e = c.args.encoder.now in
    let at = c.requires.stands.number in
    let here = subst (λ (n : ℕ). AreLast s n e.last) (sym at) before in
    let rows = subst (λ (n : ℕ). AreOwn s n c.args.work.now.rows) (sym at) own in
    let made = c.encode-done.ensures.value s same here rows in (
      frame_leaves e.options e.layout s e.frames c.args.i c.encode-done.result.plan c.emit.result _ _ (take c.encode-done.result.size c.encode-done.new.out) at same made.0 c.emit.ensures.told,
      subst (λ (n : ℕ). AreLast s (n + 1) c.encode-done.new.encoder.last) at made.1,
    )

pub returns-clause-next : goal.returns-clause-next
returns-clause-next g c =
    subst (λ (n : ℕ). StandsAt c.args.encoder.now.options c.args.encoder.now.layout (n + 1) c.encode-done.new.encoder) c.requires.stands.number c.encode-done.ensures.next
