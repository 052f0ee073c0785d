-- Where a source stands in the whole list of its bytes, and what is read of it within a limit. The limit is this project's own.
use Rattle.std.specs.Prelude.{◌≡◌, ℕ, ◌+◌, ◌<◌, ◌≤◌, min, List, length, take, drop, Option, Some, None}
use Rattle.ac_io.specs.declared.within.Unread.{Unread}
use Rattle.ac_io.specs.declared.within.Unread.TheVariants.{Failed, TooLong}

-- the source stands at this place of the list: the bytes before it were taken, and no others
pub record IsAt (bytes : List ℕ) (place : ℕ) (left : Option (List ℕ)) : Type 0 where
  pub within : place ≤ length bytes
  pub left_is : left ≡ Some (drop place bytes)

-- where the source still tells what is left, it stands at a place from the one on and before the other
abbrev pub StandsIn : List ℕ → ℕ → ℕ → Option (List ℕ) → Type 0
StandsIn bytes least before None = Unit {0}
StandsIn bytes least before (Some rest) = (k : ℕ) × (least ≤ k) × (k < before) × IsAt bytes k (Some rest)

-- at most this many of the first bytes were taken, where the source still tells what is left
abbrev pub TakesAtMost : List ℕ → ℕ → Option (List ℕ) → Type 0
TakesAtMost bytes most None = Unit {0}
TakesAtMost bytes most (Some rest) = (k : ℕ) × (k ≤ most) × (k ≤ length bytes) × (rest ≡ drop k bytes)

-- n bytes behind the first `taken` were read into the front of a piece; fewer than it holds only at the end
pub record ReadsOn (bytes : List ℕ) (taken n : ℕ) (piece : List ℕ) (left : Option (List ℕ)) : Type 0 where
  pub at : IsAt bytes (taken + n) left
  pub front : take n piece ≡ take n (drop taken bytes)
  pub end : n < length piece → taken + n ≡ length bytes

-- why up to n bytes behind the first `taken` weren't read, and what is left then: byte number limit + 1 was needed, and it
-- is the last that was taken; or a read failed, and fewer than n bytes behind `taken` were lost, and none past the limit
abbrev pub StopsAt : List ℕ → ℕ → ℕ → ℕ → Unread → Option (List ℕ) → Type 0
StopsAt bytes taken n limit Failed left = StandsIn bytes taken (min (taken + n) (limit + 1)) left
StopsAt bytes taken n limit TooLong left = (limit < taken + n) × IsAt bytes (limit + 1) left

-- all bytes that were there were read into the front of a piece
pub record ReadsAll (bytes : List ℕ) (n : ℕ) (piece : List ℕ) (left : Option (List ℕ)) : Type 0 where
  pub all : n ≡ length bytes
  pub fits : n ≤ length piece
  pub front : take n piece ≡ take n bytes
  pub left_is : left ≡ Some (drop n bytes)

-- why not all bytes were read into a piece of this length, and what is left then
abbrev pub IsLonger : List ℕ → ℕ → Unread → Option (List ℕ) → Type 0
IsLonger bytes room Failed left = StandsIn bytes 0 (room + 1) left
IsLonger bytes room TooLong left = IsAt bytes (room + 1) left
