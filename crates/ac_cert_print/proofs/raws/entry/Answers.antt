use Rattle.std.proofs.Common.{ℕ, [], ◌∷◌, ◌++◌, ap, sym, ◌∙◌}
use Rattle.std.specs.Fmt.{decimal}
use Rattle.ac_cert_text.specs.Codec.{number}
use Rattle.ac_cert_text.specs.Text.{end_at}
use Rattle.ac_cert_print.proofs.Spelling.{same}
use Rattle.ac_cert_print.proofs.raws.entry.Goals as goal

pub returns : goal.returns
unfolding number
returns g c =
    let e = c.end_at.ensures ∙ ap (λ (n : ℕ). end_at n c.args.k) c.from.ensures in
    same (ap (λ (e : ℕ). decimal c.args.entry ++ e ∷ []) (sym e)) c.small.ensures
