-- The joint coding of a frame: its coefficients by coded channel, from those by channel in coding order, LFE last. The full channels
-- are coupled where the shape has a coupling (A/52 7.4), and then two of them are rematrixed (A/52 7.5).
use Rattle.std.specs.Prelude.{◌≡◌, ℕ, ◌+◌, ◌<◌, ◌^◌, is_some, if◌then◌else◌, List, [], Bool, ℤ, slice_index_or, unsigned_abs}
use Rattle.ac_base.specs.declared.shapes.Shape.{Shape}
use Rattle.ac_base.specs.Shape.{full_of, count_of}
use Rattle.ac_base.specs.Spans.{IsIn}
use Rattle.ac_expo.specs.Raw.{channel_span, channels}
use Rattle.ac_energy.specs.Coefficients.{Coefficients, entry}
use Rattle.ac_coupling.specs.Coupling.{coupled_of}
use Rattle.ac_rematrix.specs.Rematrix.{flags_of, rematrixed_of}

-- coupled where the shape says so
abbrev pub shared_of : Shape → Coefficients → Coefficients
shared_of shape x = if is_some shape.couple then coupled_of (full_of shape.acmod) x else x

-- the coefficients after coupling, as far as they are coded: the full channels as they were, and the channels behind them
pub record IsShared (shape : Shape) (old new : List (List (List ℤ))) : Type 0 where
  pub full : (c : ℕ) → c < full_of shape.acmod → slice_index_or new c [] ≡ slice_index_or old c []
  pub coded : (c b k : ℕ) → c < channels shape → b < 6 → IsIn (channel_span shape c) k → entry new c b k ≡ shared_of shape (entry old) c b k

-- the flags of the rematrixing bands; coupling leaves the bins below it as they are
abbrev pub joint_flags : Shape → Coefficients → List Bool
joint_flags shape x = flags_of shape x

-- the coefficients that are coded
unfoldable pub joint_of : Shape → Coefficients → Coefficients
joint_of shape x = rematrixed_of shape (joint_flags shape x) (shared_of shape x)

-- the coefficients of all channels are below 2 ^ 24 in magnitude
abbrev pub AreSmallAll : Shape → Coefficients → Type 0
AreSmallAll shape x = (c b k : ℕ) → c < full_of shape.acmod + count_of shape.lfe → b < 6 → k < 256 → unsigned_abs (x c b k) < 2 ^ 24
