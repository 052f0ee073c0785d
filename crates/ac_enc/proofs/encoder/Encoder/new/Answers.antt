use Rattle.std.proofs.Common.{arith}
use Rattle.ac_base.proofs.RateTable.{rate_least, rate_most}
use Rattle.ac_enc.specs.Layout.{layout_of}
use Rattle.ac_enc.proofs.First.{first_state}
use Rattle.ac_enc.proofs.Last.{few_channels}
use Rattle.ac_enc.proofs.Silence.{silent_rows}
use Rattle.ac_enc.proofs.encoder.Encoder.new.Goals as goal

pub frame_words-words-requires-clause-rate : goal.frame_words-words-requires-clause-rate
frame_words-words-requires-clause-rate c = rate_most c.args.options.rate c.requires.options.rate

pub plain_shape-shape-requires-clause-least : goal.plain_shape-shape-requires-clause-least
plain_shape-shape-requires-clause-least c = c.frame_words-words.ensures.least (rate_least c.args.options.rate c.requires.options.rate)

pub invariant_of-result : goal.invariant_of-result
invariant_of-result c = first_state c.in-Ok.state.value _ c.in-Ok.ensures.ok (record {
  options = c.requires.options;
  enough = c.in_default.ensures.enough;
  last = λ channel below. let few = few_channels (layout_of c.args.head.now) c.requires.profile.acmod_most in silent_rows 6 256 channel (omega (arith, below, few));
})
