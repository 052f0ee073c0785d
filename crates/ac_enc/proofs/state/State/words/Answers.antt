use Rattle.ac_base.specs.Sizes.{table_words}
use Rattle.ac_base.proofs.RateTable.{rate_least, rate_most}
use Rattle.ac_enc.proofs.Made.{listed_size}
use Rattle.ac_enc.proofs.state.State.words.Goals as goal

pub frame_words-requires-clause-rate : goal.frame_words-requires-clause-rate
frame_words-requires-clause-rate c = rate_most c.args.self.now.options.rate c.requires.state.options.rate

pub returns-clause-size : goal.returns-clause-size
returns-clause-size c = listed_size c.frame_words.result (table_words c.args.self.now.options.rate c.args.self.now.sound.fscod) _ c.frame_words.ensures.listed

pub returns-clause-least : goal.returns-clause-least
returns-clause-least c = c.frame_words.ensures.least (rate_least c.args.self.now.options.rate c.requires.state.options.rate)
