-- What the blocks of a frame cost, by what the table is of.
use Rattle.std.specs.Prelude.{ℕ, List}
use Rattle.ac_base.specs.declared.shapes.Shape.{Shape}
use Rattle.ac_base.specs.Counts.{Tally}
use Rattle.ac_base.specs.Fit.{tally_channels, exponents_in, mantissas_in}
use Rattle.ac_expo.specs.Raw.{channels, channel_span}
use Rattle.ac_cost.specs.Pointers.{pointers}
use Rattle.ac_cost.specs.Records.{AtOffset}

-- the mantissas of block b
abbrev pub counts_at : AtOffset → List (List ℕ) → ℕ → Tally
counts_at v assign b = tally_channels (channel_span v.shape) (channels v.shape) (λ c. pointers v.shape v.raw v.t assign c b)

-- their bits
abbrev pub mantissas_at : AtOffset → List (List ℕ) → ℕ → ℕ
mantissas_at v assign b = mantissas_in (channel_span v.shape) (channels v.shape) (pointers v.shape v.raw v.t assign) b

-- the bits of its exponents
abbrev pub exponents_at : Shape → List (List ℕ) → ℕ → ℕ
exponents_at shape assign b = exponents_in (channel_span shape) (channels shape) assign b
