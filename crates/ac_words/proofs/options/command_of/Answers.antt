use Rattle.std.proofs.Common.{◌≡◌, ap, Err, codes, length, map, rules, string_bytes}
use Rattle.ac_words.specs.declared.fault.WordsFault.{WordsFault}
use Rattle.ac_words.specs.declared.fault.WordsFault.TheVariants.{Usage}
use Rattle.ac_words.proofs.InPairs.{no_words}
use Rattle.ac_words.proofs.Split.{not_encode, not_synth}
use Rattle.ac_words.proofs.options.command_of.Goals as goal

pub returns-in-Err-clause-cause : goal.returns-in-Err-clause-cause
returns-in-Err-clause-cause c = λ u.
    let is : c.args.word.now ≡ codes "encode" = search rules in
    let fault : c.in-Err.fault ≡ Usage = cc u in
    not_encode c.args.word.now (map string_bytes c.args.pairs.now) is (c.in-Err.ensures.cause (ap (λ (e : WordsFault). Err e) fault))

pub returns-in-Err-synth_options-clause-cause : goal.returns-in-Err-synth_options-clause-cause
returns-in-Err-synth_options-clause-cause c = λ u.
    let is : c.args.word.now ≡ codes "synth" = search rules in
    let fault : c.in-Err-synth_options.fault ≡ Usage = cc u in
    not_synth c.args.word.now (map string_bytes c.args.pairs.now) is (c.in-Err-synth_options.ensures.cause (ap (λ (e : WordsFault). Err e) fault))

pub returns-then-is_empty-clause-value : goal.returns-then-is_empty-clause-value
returns-then-is_empty-clause-value c =
    let is : c.args.word.now ≡ codes "decode" = search rules in
    let none : length c.args.pairs.now ≡ 0 = search rules in
    (is, no_words string_bytes c.args.pairs.now none)
