use Rattle.std.proofs.Common.{◌+◌, ◌<◌, ℕ, [], slice_index_or, sym, subst, ◌∙◌}
use Rattle.ac_base.specs.Shape.{count_of}
use Rattle.ac_dec.proofs.Whole.{Stand, samples_are, rest_is}
use Rattle.ac_dec.proofs.state.decode.Goals as goal

pub returns-clause-samples : goal.returns-clause-samples
returns-clause-samples c = λ channel b t there block below.
    let g = c.args.codes.now in
    let full = c.from.ensures ∙ c.full_channels.ensures.value in
    let s : Stand g c.from.result c.separate-used.result c.separate-used.new.coefs.c = record { is_full = full; is_used = c.separate-used.ensures.used; are = c.separate-used.ensures.value } in
    let here : channel < c.from.result + count_of g.head.lfeon = subst (λ (n : ℕ). channel < n + count_of g.head.lfeon) (sym full) there in
    samples_are g c.from.result c.separate-used.result c.separate-used.new.coefs.c channel (slice_index_or c.args.delays.now channel []) (slice_index_or c.sound.new.out channel []) s (c.sound.ensures.sound channel here) b t block below

pub returns-clause-delays : goal.returns-clause-delays
returns-clause-delays c = λ channel t there below.
    let g = c.args.codes.now in
    let full = c.from.ensures ∙ c.full_channels.ensures.value in
    let s : Stand g c.from.result c.separate-used.result c.separate-used.new.coefs.c = record { is_full = full; is_used = c.separate-used.ensures.used; are = c.separate-used.ensures.value } in
    let here : channel < c.from.result + count_of g.head.lfeon = subst (λ (n : ℕ). channel < n + count_of g.head.lfeon) (sym full) there in
    rest_is g c.from.result c.separate-used.result c.separate-used.new.coefs.c channel (slice_index_or c.args.delays.now channel []) (slice_index_or c.sound.new.delays channel []) s (c.sound.ensures.delay channel here) t below
