use Rattle.std.proofs.Common.{refl, ◌∙◌, arith}
use Rattle.std.proofs.lemmas.Result.{err_from_is_err_and}
use Rattle.ac_synth.proofs.Steps.{first_kind, first_behind}
use Rattle.ac_synth.proofs.Ends.{none_done, one_done, marks_most, all_done, fewer_done, fewer_by, all_by}
use Rattle.ac_synth.proofs.frames.all_frames.Goals as goal

pub loop-i-init : goal.loop-i-init
loop-i-init g c = record {
  seed = refl;
  frames = refl;
  given = c.requires.first;
  stands = c.requires.stands;
  kind = first_kind c.args.decoder.now c.requires.silent;
  done = none_done c.args.noise.now.seed c.args.noise.now.frames _ c.args.decoder.now _ refl refl refl (first_behind c.sound_law.ensures.first c.args.decoder.now c.requires.silent);
  small = omega arith;
  never_falls = omega arith;
}

pub returns-in_err-passed-clause-told : goal.returns-in_err-passed-clause-told
returns-in_err-passed-clause-told g c =
    let i = c.loop-i.invariant in
    let less = c.loop-i-test.true in
    let frames = c.requires.frames in
    let cut = fewer_done c.args.noise.now.seed c.args.noise.now.frames c.loop-i.i c.loop-i.noise c.loop-i.tally c.loop-i.decoder _ _ _ i.seed i.frames i.given (omega (arith, less, frames)) i.done c.in_err-passed.ensures.told in
    let p = err_from_is_err_and c.from_residual.result c.from_residual.ensures.1 in
    rw p.1 (fewer_by c.args.noise.now.seed c.args.noise.now.seed c.args.noise.now.frames c.args.count _ _ refl frames cut)

pub counted-tally-requires-clause-few : goal.counted-tally-requires-clause-few
counted-tally-requires-clause-few g c =
    let i = c.loop-i.invariant in
    let marks = marks_most _ _ _ _ _ _ _ i.done in
    let less = c.loop-i-test.true in
    let most = c.requires.most in
    omega (arith, marks, less, most)

pub loop-i-preserved : goal.loop-i-preserved
loop-i-preserved g c =
    let i = c.loop-i.invariant in
    let now = c.in_ok-passed.ensures in
    let counted = c.counted-tally.ensures in
    let given = i.given in
    let more = now.given in
    let small = i.small in
    let bound = now.bound in
    let sum = counted.sum in
    let up = i.never_falls in
    let on = now.never_falls in
    record {
      seed = now.seed ∙ i.seed;
      frames = now.frames ∙ i.frames;
      given = omega (arith, given, more);
      stands = now.next;
      kind = now.told.heard.kind;
      done = one_done c.args.noise.now.seed c.args.noise.now.frames c.loop-i.i c.loop-i.noise c.loop-i.tally c.counted-tally.result c.in_ok-passed.passed c.loop-i.decoder _ _ _ _ i.seed i.frames i.given
          (record { best = counted.best; bounded = counted.bounded; sum = counted.sum }) i.done now.told;
      small = omega (arith, small, bound, sum);
      never_falls = omega (arith, up, on);
    }

pub returns-clause-told : goal.returns-clause-told
returns-clause-told g c =
    let i = c.loop-i.invariant in
    let past = c.loop-i-test.false in
    let most = c.loop-i.auto.i-end in
    let frames = c.requires.frames in
    let all = all_done c.args.noise.now.seed c.args.noise.now.frames c.loop-i.i c.loop-i.tally c.loop-i.decoder _ _ (omega (arith, past, most, frames)) i.done in
    all_by c.args.noise.now.seed c.args.noise.now.seed c.args.noise.now.frames c.args.count c.loop-i.tally _ _ refl frames all
