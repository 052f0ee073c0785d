-- The mantissas of a block in arrays by coded channel, block and bin.
use Rattle.std.specs.Prelude.{◌≡◌, ℕ, ◌<◌, false, Bool, List, ◌++◌, length, slice_index, slice_index_or}
use Rattle.ac_base.specs.declared.spans.Span.{Span}
use Rattle.ac_codec.specs.declared.refused.Refused.{Refused}
use Rattle.ac_mant.specs.declared.coded.MantFault.{MantFault}
use Rattle.ac_mant.specs.Groups.{closed, coded, AreCoded, Fill, IsFill, spelled, Refuses}
use Rattle.ac_rows.specs.Blocks.{Block}
use Rattle.ac_rows.specs.declared.head.Head.{Head}
use Rattle.ac_rows.specs.Filled.{blank_span, span_in}
use Rattle.ac_record.specs.Channels.{is_in}
use Rattle.ac_record.specs.Faults.{refused_as}
use Rattle.ac_record.specs.Order.{in_order}
use Rattle.ac_record.specs.Readings.{cell}

-- the span of a coded channel
abbrev pub span_at : List Span → ℕ → Span
span_at spans c = slice_index_or spans c blank_span

-- no two are the same
abbrev pub AreApart : List ℕ → Type 0
AreApart order = (i j : ℕ) → i < j → j < length order → slice_index order i ≡ slice_index order j → ⊥

-- the bits began with mantissas of these pointers and codes
pub record AreUnpacked (h : Head) (f : Block) (b : ℕ) (baps codes : List (List (List ℕ))) (old new : List Bool) : Type 0 where
  pub fill : Fill
  pub is_fill : IsFill fill
  pub are_coded : AreCoded (in_order h f (λ c k. coded (cell baps c b k) (cell codes c b k)))
  pub whole : old ≡ spelled fill closed (in_order h f (λ c k. coded (cell baps c b k) (cell codes c b k))) ++ new
  pub elsewhere : (c k : ℕ) → is_in (span_in h f c) k ≡ false → cell codes c b k ≡ 0

-- they don't begin with mantissas of these pointers
pub record AreRefused (h : Head) (f : Block) (b : ℕ) (baps : List (List (List ℕ))) (old : List Bool) (e : Refused) : Type 0 where
  pub fault : MantFault
  pub refuses : Refuses closed 0 (in_order h f (λ c k. cell baps c b k)) old fault
  pub same : e ≡ refused_as fault
