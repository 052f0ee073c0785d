-- What the loops of the tests look at, one by one.
use Rattle.std.proofs.Common.{ℕ, ◌+◌, List, [], slice_index_or, Option}
use Rattle.ac_base.specs.declared.shapes.Shape.{Shape}
use Rattle.ac_base.specs.declared.sizes.Part.{Part}
use Rattle.ac_base.specs.declared.spans.Span.{Span}
use Rattle.ac_expo.specs.Raw.{channel_span}
use Rattle.ac_cost.specs.Records.{AtOffset}
use Rattle.ac_bound.specs.Steps.{between}
use Rattle.ac_claim.specs.declared.no.No.{No}
use Rattle.ac_claim.specs.Potentials.{run_no, kinds_no, starts_no, first_part}
use Rattle.ac_claim.specs.Tests.{bin_no, row_no, blocks_no}

abbrev pub kind_at : AtOffset → (ℕ → ℕ → ℕ → ℕ) → ℕ → Part → ℕ → ℕ → ℕ → Option No
kind_at v pot c part from to i = run_no v pot c part (between from to (i + 1))

abbrev pub end_at : AtOffset → (ℕ → ℕ → ℕ → ℕ) → ℕ → Part → ℕ → ℕ → Option No
end_at v pot c part from i = kinds_no v pot c part from (from + 1 + i)

abbrev pub channel_at : AtOffset → (ℕ → ℕ → ℕ → ℕ) → ℕ → Option No
channel_at v pot c = first_part (starts_no v pot c)

abbrev pub bin_at : Span → List ℕ → ℕ → ℕ → ℕ → Option No
bin_at span row c b i = bin_no row c b (span.start + i)

abbrev pub block_at : Span → List (List ℕ) → ℕ → ℕ → Option No
block_at span rows c b = row_no span (slice_index_or rows b []) c b

abbrev pub raw_at : Shape → List (List (List ℕ)) → ℕ → Option No
raw_at shape raw c = blocks_no (channel_span shape c) (slice_index_or raw c []) c
