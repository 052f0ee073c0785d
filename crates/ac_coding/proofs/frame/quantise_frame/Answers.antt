use Rattle.std.proofs.Common.{◌∙◌, sym, subst}
use Rattle.ac_coding.specs.Rows.{AreHeld}
use Rattle.ac_energy.specs.Coefficients.{entry}
use Rattle.ac_coding.proofs.GreatestRows.{exponents_are, are_held}
use Rattle.ac_coding.proofs.Values.{raw_by_rows, small_by_rows, values_are}
use Rattle.ac_coding.proofs.frame.quantise_frame.Goals as goal

pub write_codes-requires-clause-held : goal.write_codes-requires-clause-held
write_codes-requires-clause-held c =
    let shape = c.args.q.now.shape in
    let x = entry c.args.coefs.now.c in
    let assign = c.args.assign.now.w in
    let raw = c.args.raw.now.e in
    let is = c.requires.assigned in
    let e = c.write_exponents.ensures ∙ exponents_are shape x raw assign (raw_by_rows shape c.args.coefs.now.c raw c.requires.raw) is in
    subst (AreHeld shape x assign) (sym e) (are_held shape x assign is (small_by_rows shape c.args.coefs.now.c c.requires.small))

pub returns : goal.returns
returns c =
    let q = c.args.q.now in
    let raw = c.args.raw.now.e in
    values_are q.shape (entry c.args.coefs.now.c) raw c.args.t c.args.assign.now q.remat q.coords c.write_exponents.new.out c.write_codes.new.out (raw_by_rows q.shape c.args.coefs.now.c raw c.requires.raw) c.requires.assigned c.write_exponents.ensures c.write_codes.ensures
