-- What contracts see of answers that hold references or vectors.
use Rattle.std.specs.Prelude.{ℕ, List, Option, option_map}
use Rattle.std.specs.Borrow.{Bor}
use Rattle.std.specs.Global.{Vec}
use Rattle.ac_bound.specs.declared.pots.Pots.{Pots}
use Rattle.ac_claim.specs.declared.certs.Level.{Level}
use Rattle.ac_cert_text.specs.Text.{Offset, Over, offsets_of, pots_of}

abbrev pub value_and_rest : ℕ × Bor (List ℕ) → ℕ × List ℕ
value_and_rest x = (x.0, x.1.now)

abbrev pub offsets_in : Vec Level → List Offset
offsets_in levels = offsets_of levels.items

abbrev pub over_in : Option Pots × Vec Level → Over
over_in x = (option_map pots_of x.0, offsets_of x.1.items)
