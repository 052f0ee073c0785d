-- Arrays by coded channel, block and bin.
use Rattle.std.specs.Prelude.{◌≡◌, ◌⊎◌, ℕ, if◌then◌else◌, List, [], slice_index, slice_index_or}
use Rattle.ac_base.specs.declared.spans.Span.{Span}
use Rattle.ac_record.specs.Channels.{is_in}
use Rattle.ac_record.specs.Readings.{cell}

-- a block of a channel has this row, and the others stay
pub record IsPutIn (old new : List (List ℕ)) (b : ℕ) (row : List ℕ) : Type 0 where
  pub here : slice_index_or new b [] ≡ row
  pub rest : (e : ℕ) → (e ≡ b → ⊥) → slice_index_or new e [] ≡ slice_index_or old e []

-- likewise of a channel
pub record IsPut (old new : List (List (List ℕ))) (c b : ℕ) (row : List ℕ) : Type 0 where
  pub here : (k : ℕ) → cell new c b k ≡ slice_index row k
  pub rest : (d e k : ℕ) → (d ≡ c → ⊥) ⊎ (e ≡ b → ⊥) → cell new d e k ≡ cell old d e k

-- a row has g at the bins of a span, and 0 elsewhere
abbrev pub IsRow : Span → (ℕ → ℕ) → List ℕ → Type 0
IsRow span g row = (k : ℕ) → slice_index row k ≡ (if is_in span k then g k else 0)

-- block b is 0
abbrev pub IsBlank : ℕ → List (List (List ℕ)) → Type 0
IsBlank b a = (c k : ℕ) → cell a c b k ≡ 0

-- all blocks but block b stay
abbrev pub StaysBut : ℕ → List (List (List ℕ)) → List (List (List ℕ)) → Type 0
StaysBut b old new = (c e k : ℕ) → (e ≡ b → ⊥) → cell new c e k ≡ cell old c e k
