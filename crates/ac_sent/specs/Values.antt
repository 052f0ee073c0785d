-- What contracts see of the values that are handed in for a frame.
use Rattle.std.specs.Prelude.{ℕ, List}
use Rattle.ac_sent.specs.declared.quantised.Quantised as quantised

abbrev pub Quantised : Type 0
Quantised = quantised.Quantised (List (List ℕ)) (List (List ℕ))
