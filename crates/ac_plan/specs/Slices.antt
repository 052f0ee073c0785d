-- What contracts see of a window at one of its offsets.
use Rattle.std.specs.Prelude.{◌≡◌, ◌+◌, ◌<◌, ◌≤◌}
use Rattle.ac_cost.specs.Records.{AtOffset}
use Rattle.ac_windows.specs.Windows.{IsWindow}
use Rattle.ac_plan.specs.declared.slice.Slice.TheInside as slice

abbrev pub offset_of : slice.Inside → AtOffset
offset_of a = record { shape = a.shape.now; raw = a.rows.now.raw; t = a.first + a.place }

pub record IsSlice (a : slice.Inside) : Type 0 where
  pub same : a.rows.now.shape ≡ a.shape.now
  pub window : IsWindow a.shape.now a.rows.now.raw a.first a.window.now.six
  pub first : a.first ≤ 1008
  pub place : a.place < 16
