-- What decode has seen of its input when it answers. A source tells numbers; those that were read are bytes.
use Rattle.std.specs.Prelude.{ℕ, ◌+◌, ◌≤◌, List, take, Result, Ok, Err}
use Rattle.ac_io.specs.declared.within.Unread.TheVariants.{Failed, TooLong}
use Rattle.ac_record.specs.Laws.{AreBytes}
use Rattle.ac_record.specs.declared.codes.FrameFault.{FrameFault}
use Rattle.ac_reading.specs.Framed.{Reading}
use Rattle.ac_decode.specs.declared.halt.Halt.{Halt}
use Rattle.ac_decode.specs.declared.halt.Halt.TheVariants as halts
use Rattle.ac_decode.specs.Stream.{size_of_all, looked_at, IsEnd, IsBadStream, IsTooLong}
use Rattle.ac_world.specs.Limit.{limit}

-- the frames end, and all that was read are bytes
pub record SeesEnd (bytes : List ℕ) : Type 0 where
  pub frames : List Reading
  pub is_end : IsEnd bytes frames
  pub known : AreBytes bytes

-- a frame is refused, and what was looked at are bytes
pub record SeesBad (bytes : List ℕ) (i : ℕ) (fault : FrameFault) : Type 0 where
  pub bad : IsBadStream bytes i fault
  pub known : AreBytes (take (size_of_all bad.before + looked_at bad.rest) bytes)

-- the input goes on past the limit, and what was looked at are bytes
pub record SeesMore (bytes : List ℕ) : Type 0 where
  pub long : IsTooLong bytes
  pub known : AreBytes (take (size_of_all long.before) bytes)
  pub six : size_of_all long.before + 6 ≤ limit → AreBytes (take (size_of_all long.before + 6) bytes)

-- by the answer
abbrev pub Sees : List ℕ → Result (Unit {0}) Halt → Type 0
Sees bytes (Ok u) = SeesEnd bytes
Sees bytes (Err (halts.Stream i fault)) = SeesBad bytes i fault
Sees bytes (Err (halts.Input Failed)) = Unit {0}
Sees bytes (Err (halts.Input TooLong)) = SeesMore bytes
Sees bytes (Err (halts.Sink broken)) = Unit {0}
