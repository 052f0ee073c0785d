use Rattle.std.proofs.Common.{ℕ, [], ◌∷◌, ◌++◌, ap, sym}
use Rattle.std.specs.Fmt.{decimal}
use Rattle.ac_cert_text.specs.Codec.{number}
use Rattle.ac_cert_text.specs.Text.{code}
use Rattle.ac_cert_print.proofs.Spelling.{same}
use Rattle.ac_cert_print.proofs.words.code.Goals as goal

pub returns : goal.returns
unfolding code number
returns g c = same (ap (λ (e : ℕ). decimal c.args.entry ++ e ∷ []) (sym c.end_at.ensures)) c.small.ensures
