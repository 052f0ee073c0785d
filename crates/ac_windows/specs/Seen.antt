-- What contracts see of the runs of a frame, and what the code keeps of them.
use Rattle.std.specs.Prelude.{ℕ, ◌<◌, [], slice_index_or}
use Rattle.ac_expo.specs.Raw.{channels}
use Rattle.ac_cost.specs.Records.{Exponents}
use Rattle.ac_masks.specs.Adding.{IsAddTable}
use Rattle.ac_sixths.specs.Runs.{IsSixthTable}
use Rattle.ac_windows.specs.Held.{IsHeld}
use Rattle.ac_windows.specs.declared.channel.ChannelRows.{ChannelRows}
use Rattle.ac_windows.specs.declared.held.RunRows.TheInside as rows

abbrev pub exponents_of : rows.Inside → Exponents
exponents_of a = record { shape = a.shape; raw = a.raw.e }

-- no rows
abbrev pub no_rows : ChannelRows
no_rows = record { levels = []; bases = [] }

pub record AreRunRows (a : rows.Inside) : Type 0 where
  pub adds : IsAddTable a.adds.rises
  pub table : IsSixthTable a.table.f
  pub held : (c : ℕ) → c < channels a.shape
      → IsHeld a.shape a.raw.e c (slice_index_or a.of c no_rows).levels (slice_index_or a.of c no_rows).bases
