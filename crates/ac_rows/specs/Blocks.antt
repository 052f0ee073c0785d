-- What contracts see of a block: the coordinates of a block that is read or written are numbers, where they are there.
use Rattle.std.specs.Prelude.{ℕ, Option}
use Rattle.ac_rows.specs.declared.block.Block as rows

abbrev pub Block : Type 0
Block = rows.Block (Option ℕ)

-- the same, for clauses beside the code's own Block
abbrev pub Rows : Type 0
Rows = Block
