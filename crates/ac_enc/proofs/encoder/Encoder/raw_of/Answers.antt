use Rattle.std.proofs.Common.{subst}
use Rattle.ac_enc.specs.Encoding.{Encoding}
use Rattle.ac_enc.specs.Frame.{IsShapeOf, coefficients, joined_by}
use Rattle.ac_enc.specs.Sounds.{layout_in}
use Rattle.ac_enc.specs.declared.state.State.{State}
use Rattle.ac_enc.proofs.encoder.Encoder.raw_of.Goals as goal

pub returns-clause-shape : goal.returns-clause-shape
returns-clause-shape c =
    subst (λ (v : Encoding). IsShapeOf v.options v.layout v.frames (coefficients (joined_by v.last c.args.pcm.now)) c.raw_of.result.0) c.self.view_is
    (subst (λ (a : State). IsShapeOf a.options (layout_in a.sound) a.frames (coefficients (joined_by a.last c.args.pcm.now)) c.raw_of.result.0) c.deref.ensures c.raw_of.ensures.shape)
