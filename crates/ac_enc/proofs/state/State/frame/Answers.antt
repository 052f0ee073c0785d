use Rattle.std.proofs.Common.{take, arith}
use Rattle.ac_energy.specs.Coefficients.{entry}
use Rattle.ac_joint.specs.Joint.{joint_of}
use Rattle.ac_enc.specs.Frame.{coefficients, joined_by}
use Rattle.ac_enc.specs.Sounds.{layout_in}
use Rattle.ac_enc.proofs.Coordinates.{coordinates_small}
use Rattle.ac_enc.proofs.Last.{few_channels, lasts_bound}
use Rattle.ac_enc.proofs.Made.{frame_made, raw_agrees, shape_at, shape_sized}
use Rattle.ac_enc.proofs.state.State.frame.Goals as goal

pub code_frame-size-requires-clause-sized : goal.code_frame-size-requires-clause-sized
code_frame-size-requires-clause-sized c =
    let self = c.args.self.now in
    let l = layout_in self.sound in
    let x = coefficients (joined_by self.last c.args.pcm.now) in
    shape_sized self.options l self.frames x c.prepare-made.result.shape c.requires.state.options.rate
    (shape_at self.options l self.frames x c.words-words.result c.prepare-made.result.shape c.words-words.ensures.value c.prepare-made.ensures.shape)

pub code_frame-size-requires-clause-coordinates : goal.code_frame-size-requires-clause-coordinates
code_frame-size-requires-clause-coordinates c =
    coordinates_small c.prepare-made.result.shape (coefficients (joined_by c.args.self.now.last c.args.pcm.now)) c.prepare-made.result.joint.coords c.prepare-made.ensures.coordinates

pub returns-clause-frame : goal.returns-clause-frame
returns-clause-frame c =
    let self = c.args.self.now in
    let l = layout_in self.sound in
    let x = joined_by self.last c.args.pcm.now in
    let made = c.prepare-made in
    let shape = made.result.shape in
    let z = entry made.new.coefs.c in
    let is = shape_at self.options l self.frames (coefficients x) c.words-words.result shape c.words-words.ensures.value made.ensures.shape in
    let raw_is = raw_agrees shape (joint_of shape (coefficients x)) made.new.coefs.c made.result.raw.e made.ensures.joint made.ensures.raw in
    frame_made self.options l self.frames x c.plan_in-plan.result (take c.code_frame-size.result c.code_frame-size.new.out) shape z made.result.raw.e made.result.joint.remat made.result.joint.coords
    is made.ensures.flags made.ensures.coordinates made.ensures.joint raw_is c.plan_in-plan.ensures.lawful c.code_frame-size.ensures.frame c.code_frame-size.ensures.back

pub returns-clause-last : goal.returns-clause-last
returns-clause-last c = λ channel below. let few = few_channels (layout_in c.args.self.now.sound) c.args.self.now.sound.modes in c.keep.ensures channel (omega (arith, below, few))

pub returns-clause-state : goal.returns-clause-state
returns-clause-state c = record {
  options = c.requires.state.options;
  enough = c.requires.state.enough;
  last = lasts_bound (layout_in c.args.self.now.sound) c.args.self.now.sound.modes c.args.pcm.now c.keep.new.last c.keep.ensures c.requires.pcm;
}
