-- A text that is written through a buffer: this project's own.
use Rattle.std.specs.Prelude.{◌≡◌, ℕ, ◌≤◌, Bool, true, false, List, ◌++◌, length, take, drop, Option}
use Rattle.ac_io.specs.Outside.{Rose, Adds, AddsFront}
use Rattle.ac_cert_print.specs.declared.pen.Pen.{Pen}

-- what a sink tells, the bytes that a pen still keeps for it, and whether a write of them failed
pub record Page : Type 0 where
  pub bytes : Option (List ℕ)
  pub faults : ℕ
  pub kept : List ℕ
  pub failed : Bool

abbrev pub page : {O : Type 0} → (O → Option (List ℕ)) → (O → ℕ) → Pen → O → Page
page held faults pen out = record { bytes = held out; faults = faults out; kept = pen.buffer.items; failed = pen.failed }

-- a front of the text was written, and the rest is kept
pub record Goes (text : List ℕ) (old new : Page) : Type 0 where
  pub count : ℕ
  pub within : count ≤ length text
  pub added : Adds old.bytes new.bytes (take count text)
  pub kept : new.kept ≡ drop count text

-- a write failed: the sink took a front of the text
pub record Stops (text : List ℕ) (old new : Page) : Type 0 where
  pub rose : Rose old.faults new.faults
  pub front : AddsFront old.bytes new.bytes text

-- the text behind what is kept, by whether a write failed before and afterwards: after a failed one nothing is written
abbrev pub Moves : Bool → Bool → List ℕ → Page → Page → Type 0
Moves true after text old new = new ≡ old
Moves false true text old new = Stops text old new
Moves false false text old new = Goes text old new

-- the piece was written or kept, unless a write failed
pub record Wrote (piece : List ℕ) (old new : Page) : Type 0 where
  pub moves : Moves old.failed new.failed (old.kept ++ piece) old new
  pub never_falls : old.faults ≤ new.faults
