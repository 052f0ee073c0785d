use Rattle.std.proofs.Common.{◌≡◌, ℕ, ◌+◌, ◌-◌, ◌<◌, ◌++◌, take, drop, length, arith, subst, length-take, length-drop}
use borrow.Rule.Slice.PartMut.{post_of, same_len_mid}
use Rattle.ac_io.specs.Outside.{ReadsFront}
use Rattle.ac_io.proofs.Pieces.{reads_more, at_end}
use Rattle.ac_io.proofs.outside.fill.Goals as goal

pub returns-then-n-eq0-clause-front : goal.returns-then-n-eq0-clause-front
returns-then-n-eq0-clause-front g c =
    let l = c.loop-done in
    let n = c.in_ok-n.n in
    let rest = post_of l.done (length l.into - l.done) l.into in
    let more = reads_more (g.S.Source.left c.args.input.now) (g.S.Source.left l.input) (g.S.Source.left c.read.new.self) l.into c.read.new.into rest l.done n l.invariant.within (omega arith) l.invariant.front c.in_ok-n.ensures.front in
    let e : l.done + n ≡ l.done = omega arith in
    subst (λ (k : ℕ). ReadsFront (g.S.Source.left c.args.input.now) (g.S.Source.left c.read.new.self) (take l.done l.into ++ (c.read.new.into ++ rest)) k) e more

pub returns-then-n-eq0-clause-end : goal.returns-then-n-eq0-clause-end
returns-then-n-eq0-clause-end g c = λ h.
    let l = c.loop-done in
    let room : 0 < length (take (length l.into - l.done) (drop l.done l.into)) = omega (arith, length-take (length l.into - l.done) (drop l.done l.into), length-drop l.done l.into) in
    at_end (g.S.Source.left c.args.input.now) (g.S.Source.left l.input) l.into l.done l.invariant.front (c.in_ok-n.ensures.end c.if-n-eq0.true room)

pub loop-done-preserved : goal.loop-done-preserved
loop-done-preserved g c =
    let l = c.loop-done in
    let e = c.in_ok-n.ensures in
    let len = same_len_mid l.done (length l.into - l.done) l.into c.read.new.into c.read.auto.into in
    record {
      within = omega (arith, len, e.count, length-take (length l.into - l.done) (drop l.done l.into), length-drop l.done l.into);
      front = reads_more (g.S.Source.left c.args.input.now) (g.S.Source.left l.input) (g.S.Source.left c.read.new.self) l.into c.read.new.into (post_of l.done (length l.into - l.done) l.into) l.done c.in_ok-n.n l.invariant.within (omega (arith, e.count, c.read.auto.into)) l.invariant.front e.front;
      faults = omega (arith, e.never_falls, l.invariant.faults);
    }
