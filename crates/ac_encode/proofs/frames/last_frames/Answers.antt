use Rattle.std.proofs.Common.{◌≡◌, ◌+◌, ◌*◌, ◌≤◌, arith, sym, ap, ◌∙◌}
use Rattle.std.proofs.lemmas.Result.{err_from_is_err_and}
use Rattle.ac_encode.specs.Sound.{frame_count}
use Rattle.ac_encode.proofs.Places.{enough, all_behind, six_by, zeros_fit, stands_own, rows_by, one_more, so_many, stopped, stands_by, leaves_by}
use Rattle.ac_encode.proofs.Faults.{sink_behind}
use Rattle.ac_encode.proofs.frames.last_frames.Goals as goal

pub loop-i-init : goal.loop-i-init
loop-i-init g c = record {
  told = λ s start ends frames. (frames, ends.last, ends.rows);
  next = c.requires.stands;
  rows = c.requires.rows;
  never_falls = (omega arith, omega arith);
}

pub returns-in_err-frame-clause-told : goal.returns-in_err-frame-clause-told
returns-in_err-frame-clause-told g c = λ s start ends frames.
    let i = c.loop-i.invariant.told s start ends frames in
    let next = c.loop-i.invariant.next in
    let here = c.in_err-frame.ensures.told s (ends.layout_is ∙ sym next.layout_is) i.1 i.2 in
    let leaves = leaves_by _ _ _ _ _ _ _ next.options here.0 in
    let count : c.frames_for-count.result ≡ frame_count s.count = c.frames_for-count.ensures ∙ ap frame_count (sym (ends.count ∙ ap (λ n. 1536 * n + c.args.read.rest) (sym c.from.ensures))) in
    let p = err_from_is_err_and c.from_residual.result c.from_residual.ensures.1 in
    rw (p.1, p.2) (stopped c.args.encoder.now.options s c.args.read.frames (frame_count s.count) c.loop-i.i _ _ _ _ c.loop-i.auto.i (omega (arith, c.loop-i-test.true, count)) i.0 leaves)

pub returns-in_err-frame-clause-rose : goal.returns-in_err-frame-clause-rose
returns-in_err-frame-clause-rose g c =
    let p = err_from_is_err_and c.from_residual.result c.from_residual.ensures.1 in
    rw (p.1, p.2) (sink_behind c.in_err-frame.field-0.0 _ _ _ c.loop-i.invariant.never_falls c.in_err-frame.ensures.rose)

pub returns-in_err-frame-clause-never_falls : goal.returns-in_err-frame-clause-never_falls
returns-in_err-frame-clause-never_falls g c = let a = c.loop-i.invariant.never_falls in
    let b = c.in_err-frame.ensures.never_falls in
    (omega (arith, a.0, b.0), omega (arith, a.1, b.1))

pub loop-i-preserved : goal.loop-i-preserved
loop-i-preserved g c = record {
  told = λ s start ends frames.
      let i = c.loop-i.invariant.told s start ends frames in
      let next = c.loop-i.invariant.next in
      let here = c.in_ok-frame.ensures.told s (ends.layout_is ∙ sym next.layout_is) i.1 i.2 in
      let least = c.loop-i.auto.i in
      let fewer = c.requires.rest in
      let all = ends.count in (
        one_more c.args.encoder.now.options s c.loop-i.i _ _ _ _ i.0 (leaves_by _ _ _ _ _ _ _ next.options here.0),
        here.1,
        all_behind s (c.loop-i.i + 1) c.clear.new.work.rows (six_by s c.args.encoder.now.layout ends.layout_is next.six) ends.silent (omega (arith, least, fewer, all)) c.clear.ensures,
      );
  next = stands_by _ _ _ _ _ _ c.loop-i.invariant.next.options c.loop-i.invariant.next.layout_is c.in_ok-frame.ensures.next;
  rows = zeros_fit c.args.encoder.now.layout c.clear.new.work.rows c.loop-i.invariant.next.six c.clear.ensures;
  never_falls = (omega (arith, c.loop-i.invariant.never_falls.0, c.in_ok-frame.ensures.never_falls.0), omega (arith, c.loop-i.invariant.never_falls.1, c.in_ok-frame.ensures.never_falls.1));
}

pub returns-clause-told : goal.returns-clause-told
returns-clause-told g c = λ s start ends frames.
    let i = c.loop-i.invariant.told s start ends frames in
    let count : c.frames_for-count.result ≡ frame_count s.count = c.frames_for-count.ensures ∙ ap frame_count (sym (ends.count ∙ ap (λ n. 1536 * n + c.args.read.rest) (sym c.from.ensures))) in
    let some : c.args.read.frames ≤ frame_count s.count = enough c.args.read.frames c.args.read.rest s.count ends.count in
    let most = c.loop-i.auto.i-end in
    let past = c.loop-i-test.false in
    let all : c.loop-i.i ≡ frame_count s.count = omega (arith, count, some, most (omega (arith, count, some)), past) in
    so_many c.args.encoder.now.options s c.loop-i.i (frame_count s.count) _ _ all i.0

pub frame-requires-clause-stands : goal.frame-requires-clause-stands
frame-requires-clause-stands g c = stands_own _ _ _ _ c.loop-i.invariant.next

pub frame-requires-clause-rows : goal.frame-requires-clause-rows
frame-requires-clause-rows g c = rows_by _ _ _ (sym c.loop-i.invariant.next.layout_is) c.loop-i.invariant.rows
