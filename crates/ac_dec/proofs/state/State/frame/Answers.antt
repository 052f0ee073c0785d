use Rattle.std.proofs.Common.{ℕ, ◌<◌, ◌≤◌, [], slice_index_or, subst}
use Rattle.ac_dec.specs.Heard.{channels_of, heard_of}
use Rattle.ac_dec.specs.Sound.{block_list}
use Rattle.ac_dec.proofs.Blocks.{modes, readable, has_spans}
use Rattle.ac_dec.proofs.Heads.{codes_small}
use Rattle.ac_dec.proofs.Whole.{heard_channels, samples_within, err_again}
use Rattle.ac_dec.proofs.state.State.frame.Goals as goal

pub decode-requires-clause-modes : goal.decode-requires-clause-modes
decode-requires-clause-modes c = modes c.args.bytes.now c.accept.new.self.codes c.in-Ok.ensures.value.reading

pub decode-requires-clause-spans : goal.decode-requires-clause-spans
decode-requires-clause-spans c = λ b lt. has_spans c.args.bytes.now c.accept.new.self.codes b c.in-Ok.ensures.value.reading lt

pub decode-requires-clause-readable : goal.decode-requires-clause-readable
decode-requires-clause-readable c = readable c.args.bytes.now c.accept.new.self.codes c.in-Ok.ensures.value.reading

pub heard-requires-clause-sampling : goal.heard-requires-clause-sampling
heard-requires-clause-sampling c = (codes_small c.args.bytes.now c.accept.new.self.codes c.in-Ok.ensures.value.reading).0

pub heard-requires-clause-code : goal.heard-requires-clause-code
heard-requires-clause-code c = (codes_small c.args.bytes.now c.accept.new.self.codes c.in-Ok.ensures.value.reading).1

pub returns-in-Ok-clause-refused : goal.returns-in-Ok-clause-refused
returns-in-Ok-clause-refused c = λ fault is. let e = c.in-Ok.ensures.refused fault is in absurd cc

pub returns-in-Err-clause-refused : goal.returns-in-Err-clause-refused
returns-in-Err-clause-refused c = λ fault is. err_again c.in-Err.fault fault (c.in-Err.ensures.refused fault is)

pub returns-in-Ok-clause-bound : goal.returns-in-Ok-clause-bound
returns-in-Ok-clause-bound c = λ channel there.
    let g = c.accept.new.self.codes in
    let here : channel < channels_of g = subst (λ (n : ℕ). channel < n) (heard_channels g c.heard.result c.heard.ensures) there in
    samples_within (slice_index_or c.accept.new.self.delays channel []) (slice_index_or c.decode.new.out.s channel []) (block_list (heard_of g channel)) (λ b t block below. c.decode.ensures.samples channel b t here block below)

pub returns-in-Ok-clause-rest : goal.returns-in-Ok-clause-rest
returns-in-Ok-clause-rest c = λ channel behind.
    let g = c.accept.new.self.codes in
    c.decode.ensures.rest channel (subst (λ (n : ℕ). n ≤ channel) (heard_channels g c.heard.result c.heard.ensures) behind)
