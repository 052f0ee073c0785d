-- What contracts see of the lists and of the table of runs, and what the code keeps of them.
use Rattle.std.specs.Prelude.{ℕ, ◌<◌, [], slice_index_or}
use Rattle.ac_expo.specs.Raw.{channels}
use Rattle.ac_cost.specs.Records.{Exponents, AtOffset}
use Rattle.ac_cost.specs.Lists.{AreListed}
use Rattle.ac_cost.specs.Prices.{ArePriced}
use Rattle.ac_cost.specs.declared.lists.RunLists.TheInside as lists
use Rattle.ac_cost.specs.declared.table.RunTable.TheInside as table

abbrev pub exponents_of : lists.Inside → Exponents
exponents_of a = record { shape = a.shape; raw = a.raw.e }

abbrev pub AreLists : lists.Inside → Type 0
AreLists a = (c : ℕ) → c < channels a.shape → AreListed a.shape a.raw.e c (slice_index_or a.of c [])

abbrev pub offset_of : table.Inside → AtOffset
offset_of a = record { shape = a.shape; raw = a.raw.e; t = a.t }

abbrev pub AreCounts : table.Inside → Type 0
AreCounts a = (c : ℕ) → c < channels a.shape → ArePriced a.shape a.raw.e a.t c (slice_index_or a.of c [])
