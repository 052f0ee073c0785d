use Rattle.std.proofs.Common.{arith}
use Rattle.ac_enc.specs.Sounds.{layout_in}
use Rattle.ac_enc.proofs.Last.{few_channels, lasts_bound}
use Rattle.ac_enc.proofs.state.State.pass.Goals as goal

pub returns-clause-last : goal.returns-clause-last
returns-clause-last c = λ channel below. let few = few_channels (layout_in c.args.self.now.sound) c.args.self.now.sound.modes in c.keep.ensures channel (omega (arith, below, few))

pub returns-clause-state : goal.returns-clause-state
returns-clause-state c = record {
  options = c.requires.state.options;
  enough = c.requires.state.enough;
  last = lasts_bound (layout_in c.args.self.now.sound) c.args.self.now.sound.modes c.args.pcm.now c.keep.new.last c.keep.ensures c.requires.pcm;
}
