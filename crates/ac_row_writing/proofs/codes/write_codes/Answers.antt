use Rattle.std.proofs.Common.{arith}
use Rattle.ac_rows.specs.Groups.{codes_of}
use Rattle.ac_rows.proofs.Bounds.{codes_fit, some_from}
use Rattle.ac_row_writing.proofs.codes.write_codes.Goals as goal

pub put_optional-requires-clause-fits : goal.put_optional-requires-clause-fits
put_optional-requires-clause-fits c =
    let h = c.requires.lawful in
    some_from c.args.b.now.cplexpstr 3 4 (omega arith) (codes_fit c.args.full h.0 h.1 h.2 h.3 (codes_of c.args.b.now) h.4).shared

pub write_widths-requires-clause-fits : goal.write_widths-requires-clause-fits
write_widths-requires-clause-fits c =
    let h = c.requires.lawful in
    λ i lt. some_from _ 60 64 (omega arith) ((codes_fit c.args.full h.0 h.1 h.2 h.3 (codes_of c.args.b.now) h.4).widths i lt)
