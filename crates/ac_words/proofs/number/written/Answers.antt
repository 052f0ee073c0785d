use Rattle.std.proofs.Common.{◌≡◌, ◌∙◌, ap, false, true, sym, true≢false, rules}
use Rattle.std.specs.declared.num.ParseIntError.{ParseIntError}
use Rattle.ac_words.specs.Digits.{is_bare_number}
use Rattle.ac_words.proofs.Numbers.{bare_decimal, parsed_is, unparsed_is}
use Rattle.ac_words.proofs.number.written.Goals as goal

pub returns-then-not-is_bare : goal.returns-then-not-is_bare
returns-then-not-is_bare c = λ n small is.
    let bare : is_bare_number c.args.text.now ≡ true = ap is_bare_number is ∙ bare_decimal n small in
    let no : is_bare_number c.args.text.now ≡ false = search rules in
    true≢false (sym bare ∙ no)

pub returns-in-Ok : goal.returns-in-Ok
returns-in-Ok c =
    let bare : is_bare_number c.args.text.now ≡ true = search rules in
    parsed_is ParseIntError c.args.text.now c.in-Ok.n bare c.in-Ok.ensures.value.0

pub returns-in-Err : goal.returns-in-Err
returns-in-Err c = λ n small is. unparsed_is c.args.text.now n c.in-Err.field-0 c.in-Err.ensures.value.0 small is
