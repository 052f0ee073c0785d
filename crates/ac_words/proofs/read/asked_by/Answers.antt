use Rattle.std.proofs.Common.{◌≡◌, ap, Err, rules, true, false, map, string_bytes, refl}
use Rattle.ac_words.specs.Grammar.{are_names, last_words}
use Rattle.ac_words.specs.Asked.{texts_of}
use Rattle.ac_words.specs.declared.fault.WordsFault.{WordsFault}
use Rattle.ac_words.specs.declared.fault.WordsFault.TheVariants.{Usage}
use Rattle.ac_words.proofs.Split.{bad_command, bad_names, means}
use Rattle.ac_words.proofs.read.asked_by.Goals as goal

pub returns-then-not-are_names-clause-cause : goal.returns-then-not-are_names-clause-cause
returns-then-not-are_names-clause-cause c = λ u.
    let parts = c.in-Some.parts in
    let refuted : are_names (texts_of parts.names) ≡ false = search rules in
    bad_names (map string_bytes c.args.words.now) parts.command.now (map string_bytes parts.pairs.now) (last_words (texts_of parts.names)) refl c.in-Some.ensures refuted

pub returns-in-Err-clause-cause : goal.returns-in-Err-clause-cause
returns-in-Err-clause-cause c = λ u.
    let parts = c.in-Some.parts in
    let fault : c.in-Err.fault ≡ Usage = cc u in
    bad_command (map string_bytes c.args.words.now) parts.command.now (map string_bytes parts.pairs.now) (last_words (texts_of parts.names)) refl c.in-Some.ensures
    (c.in-Err.ensures.cause (ap (λ (e : WordsFault). Err e) fault))

pub returns-in-Ok-clause-value : goal.returns-in-Ok-clause-value
returns-in-Ok-clause-value c =
    let parts = c.in-Some.parts in
    let named : are_names (texts_of parts.names) ≡ true = search rules in
    means (map string_bytes c.args.words.now) parts.command.now (map string_bytes parts.pairs.now) (texts_of parts.names) c.in-Ok.command
    c.in-Some.ensures named c.in-Ok.ensures.value
