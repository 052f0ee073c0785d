-- What is read of the next frame: this project's own rules.
use Rattle.std.specs.Prelude.{◌≡◌, ℕ, ◌+◌, ◌<◌, ◌≤◌, List, length, take, drop, Option, Some, None}
use Rattle.ac_io.specs.declared.within.Unread.{Unread}
use Rattle.ac_io.specs.declared.within.Unread.TheVariants.{Failed, TooLong}
use Rattle.ac_io.specs.Within.{IsAt}
use Rattle.ac_record.specs.Laws.{AreBytes}
use Rattle.ac_decode.specs.Stream.{needed, looked_at}
use Rattle.ac_world.specs.Limit.{limit}

-- behind the first `taken` bytes, n of `most` were read into the front of a piece; fewer only at the end of the input
pub record ReadsSome (bytes : List ℕ) (taken n most : ℕ) (piece : List ℕ) (left : Option (List ℕ)) : Type 0 where
  pub at : IsAt bytes (taken + n) left
  pub front : take n piece ≡ take n (drop taken bytes)
  pub end : n < most → taken + n ≡ length bytes

-- behind the first `taken` bytes, all that is looked at of the next frame was read into the front of a piece
pub record ReadsNext (bytes : List ℕ) (taken n : ℕ) (piece : List ℕ) (left : Option (List ℕ)) : Type 0 where
  pub at : IsAt bytes (taken + n) left
  pub front : take n piece ≡ take n (drop taken bytes)
  pub count : n ≡ looked_at (drop taken bytes)

-- the first n bytes behind `taken` are bytes
abbrev pub AreKnown : List ℕ → ℕ → ℕ → Type 0
AreKnown bytes taken n = AreBytes (take n (drop taken bytes))

-- the first `most` bytes hold no more of the next frame than a part: fewer than six bytes, or fewer than the size that these say
pub record HoldsPart (bytes : List ℕ) (taken most : ℕ) : Type 0 where
  pub part : most < taken + needed (drop taken bytes)
  pub known : taken + 6 ≤ most → AreKnown bytes taken 6

-- where the source still tells what is left, a part of the next frame was taken, and nothing past the limit
abbrev pub TakesPart : List ℕ → ℕ → Option (List ℕ) → Type 0
TakesPart bytes taken None = Unit {0}
TakesPart bytes taken (Some left) = (k : ℕ) × (taken ≤ k) × (k ≤ limit) × IsAt bytes k (Some left) × HoldsPart bytes taken k

-- why it wasn't read, and what is left then
abbrev pub StopsNext : List ℕ → ℕ → Unread → Option (List ℕ) → Type 0
StopsNext bytes taken Failed left = TakesPart bytes taken left
StopsNext bytes taken TooLong left = HoldsPart bytes taken limit × IsAt bytes (limit + 1) left
