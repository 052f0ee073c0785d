-- Sources and sinks in memory, this project's own. Their calls are numbered from 0, and fail by their numbers.
use Rattle.std.specs.Prelude.{◌≡◌, ℕ, ◌+◌, ◌<◌, ◌≤◌, Bool, ◌==◌, List, ◌++◌, length, drop}
use Rattle.std.specs.List.{list_any}
use Rattle.ac_io.specs.Outside.{next}

-- the call with this number fails
abbrev pub is_named : List ℕ → ℕ → Bool
is_named failing call = list_any (λ n. n == call) failing

-- ---- a source

-- the bytes to come, the number of the next call, the numbers of the calls that fail, how many calls failed
pub record Incoming : Type 0 where
  pub rest : List ℕ
  pub call : ℕ
  pub failing : List ℕ
  pub faults : ℕ

-- all bytes to come, and no call so far
abbrev pub new_incoming : List ℕ → List ℕ → Incoming
new_incoming bytes failing = record { rest = bytes; call = 0; failing = failing; faults = 0 }

-- a call took n bytes
abbrev pub after_read : Incoming → ℕ → Incoming
after_read s n = record s { rest = drop n s.rest; call = next s.call }

-- a call failed, and took nothing
abbrev pub after_failed_read : Incoming → Incoming
after_failed_read s = record s { call = next s.call; faults = next s.faults }

-- ---- a sink

-- the bytes taken, the bytes that there is room for without more memory, the number of the next call,
-- the numbers of the calls that fail, how many calls failed, and how many of these found no memory
pub record Outgoing : Type 0 where
  pub held : List ℕ
  pub room : ℕ
  pub call : ℕ
  pub failing : List ℕ
  pub faults : ℕ
  pub starved : ℕ

-- these bytes taken, and no call so far
abbrev pub new_outgoing : List ℕ → ℕ → List ℕ → Outgoing
new_outgoing bytes room failing =
    record { held = bytes; room = room; call = 0; failing = failing; faults = 0; starved = 0 }

-- a call took the piece; the room may have grown
pub record TookPiece (old new : Outgoing) (piece : List ℕ) : Type 0 where
  pub grows : old.room ≤ new.room
  pub rest : new ≡ record old { held = old.held ++ piece; room = new.room; call = next old.call }

-- a call failed by its number, and took nothing
abbrev pub after_failed_write : Outgoing → Outgoing
after_failed_write s = record s { call = next s.call; faults = next s.faults }

-- a call found no memory for a piece of this length, and took nothing
pub record IsStarved (old new : Outgoing) (long : ℕ) : Type 0 where
  pub full : old.room < length old.held + long
  pub grows : old.room ≤ new.room
  pub rest : new ≡ record (after_failed_write old) { room = new.room; starved = next old.starved }
