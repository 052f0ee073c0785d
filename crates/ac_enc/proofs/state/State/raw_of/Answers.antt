use Rattle.ac_joint.specs.Joint.{joint_of}
use Rattle.ac_enc.specs.Frame.{coefficients, joined_by}
use Rattle.ac_enc.specs.Sounds.{layout_in}
use Rattle.ac_enc.proofs.Made.{raw_agrees, shape_at}
use Rattle.ac_enc.proofs.state.State.raw_of.Goals as goal

pub returns-clause-shape : goal.returns-clause-shape
returns-clause-shape c =
    let self = c.args.self.now in
    let x = coefficients (joined_by self.last c.args.pcm.now) in
    shape_at self.options (layout_in self.sound) self.frames x c.words-words.result c.prepare-made.result.shape c.words-words.ensures.value c.prepare-made.ensures.shape

pub returns-clause-raw : goal.returns-clause-raw
returns-clause-raw c =
    let made = c.prepare-made in
    let x = coefficients (joined_by c.args.self.now.last c.args.pcm.now) in
    raw_agrees made.result.shape (joint_of made.result.shape x) made.new.coefs.c made.result.raw.e made.ensures.joint made.ensures.raw
