use Rattle.std.proofs.Common.{None, inl, ◌∙◌}
use Rattle.ac_base.proofs.RateTable.{rate_least, rate_most}
use Rattle.ac_enc.specs.Sounds.{layout_in}
use Rattle.ac_enc.proofs.Cheapest.{at_table, first_words, with_coupling, not_enough, too_large, fault_made}
use Rattle.ac_enc.proofs.shapes.enough.Goals as goal

pub frame_words-words-requires-clause-rate : goal.frame_words-words-requires-clause-rate
frame_words-words-requires-clause-rate c = rate_most c.args.options.now.rate c.requires.options.rate

pub plain_shape-plain-requires-clause-least : goal.plain_shape-plain-requires-clause-least
plain_shape-plain-requires-clause-least c = c.frame_words-words.ensures.least (rate_least c.args.options.now.rate c.requires.options.rate)

pub returns-then-cheapest_fits-clause-enough : goal.returns-then-cheapest_fits-clause-enough
returns-then-cheapest_fits-clause-enough c =
    let o = c.args.options.now in
    let l = layout_in c.args.sound.now in
    let words = c.frame_words-words.result in
    let fits = c.cheapest_fits.ensures o l words None c.plain_shape-plain.ensures in
    inl (at_table o l words None (c.frame_words-words.ensures.value ∙ first_words o.rate l.fscod) (fits.0 c.if-cheapest_fits.true))

pub returns-then-coupled_fits-clause-enough : goal.returns-then-coupled_fits-clause-enough
returns-then-coupled_fits-clause-enough c =
    let o = c.args.options.now in
    let l = layout_in c.args.sound.now in
    let words = c.frame_words-words.result in
    with_coupling o l words (c.frame_words-words.ensures.value ∙ first_words o.rate l.fscod) (c.coupled_fits.ensures.0 c.if-coupled_fits.true)

pub too_low-requires : goal.too_low-requires
too_low-requires c =
    let o = c.args.options.now in
    let l = layout_in c.args.sound.now in
    let words = c.frame_words-words.result in
    record {
      over = too_large o l words c.plain_shape-plain.result c.cheapest.result c.rooms.result c.cheapest_fits.result c.plain_shape-plain.ensures
          (c.frame_words-words.ensures.least (rate_least o.rate c.requires.options.rate)) c.cheapest.ensures.value c.rooms.ensures.value
          (c.cheapest_fits.ensures o l words None c.plain_shape-plain.ensures) c.if-cheapest_fits.false;
    }

pub returns-clause-fault : goal.returns-clause-fault
returns-clause-fault c =
    let o = c.args.options.now in
    let l = layout_in c.args.sound.now in
    let words = c.frame_words-words.result in
    let plain = c.plain_shape-plain.ensures in
    let table = c.frame_words-words.ensures.value ∙ first_words o.rate l.fscod in
    let short = not_enough o l words c.cheapest_fits.result c.coupled_fits.result table (c.cheapest_fits.ensures o l words None plain) c.coupled_fits.ensures c.if-cheapest_fits.false c.if-coupled_fits.false in
    fault_made o l words c.plain_shape-plain.result c.cheapest.result c.rooms.result c.too_low.result plain table c.cheapest.ensures.value c.rooms.ensures.value short c.too_low.ensures
