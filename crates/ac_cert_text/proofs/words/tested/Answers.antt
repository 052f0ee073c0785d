use Rattle.std.proofs.Common.{refl, sym, true≢false}
use Rattle.ac_cert_text.specs.Codec.{each}
use Rattle.ac_cert_text.specs.Text.{is_word, code}
use Rattle.ac_cert_text.proofs.Reading.{tested-ok, tested-not}
use Rattle.ac_cert_text.proofs.Codes.{word-true, word-false}
use Rattle.ac_cert_text.proofs.words.tested.Goals as goal

pub returns-in-Some : goal.returns-in-Some
returns-in-Some c =
    tested-ok is_word (each 6 0 code) c.args.cursor.now.rest.now c.codes.new.cursor.rest.now c.in_ok-codes.codes c.in-Some.word c.in_ok-codes.ensures.value (word-true c.in_ok-codes.codes (c.in-Some.ensures.cause.0 refl)) c.in-Some.ensures.value

pub returns-in-None : goal.returns-in-None
returns-in-None c =
    tested-not is_word (each 6 0 code) c.args.cursor.now.rest.now c.codes.new.cursor.rest.now c.in_ok-codes.codes c.in_ok-codes.ensures.value (word-false c.in_ok-codes.codes c.in_ok-codes.ensures.long (λ h. true≢false (sym (c.in-None.ensures.cause.1 h))))
