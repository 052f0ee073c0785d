-- What is kept of the block before.
use Rattle.std.specs.Prelude.{◌≡◌, ℕ, ◌+◌, ◌-◌, ◌<◌, ◌≤◌, if◌then◌else◌, List, [], None, slice_index, slice_index_or}
use Rattle.ac_base.specs.declared.spans.Span.{Span}
use Rattle.ac_base.specs.Shape.{IsSpan}
use Rattle.ac_alloc.specs.Pointers.{pointer}
use Rattle.ac_rows.specs.Blocks.{Block}
use Rattle.ac_rows.specs.declared.head.Head.{Head}
use Rattle.ac_rows.specs.Filled.{holds, number, latest, span_in}
use Rattle.ac_record.specs.Channels.{is_in}
use Rattle.ac_record.specs.Held.{sent_exponents, exponent_by, is_silent, params_in, offset_of}
use Rattle.ac_record.specs.Readings.{cell}
use Rattle.ac_reading.specs.Mantissas.{span_at}
use Rattle.ac_reading.specs.declared.kept.Kept.{Kept}

-- the row of a coded channel in a block
abbrev pub row_in : List (List (List ℕ)) → ℕ → ℕ → List ℕ
row_in a c b = slice_index_or (slice_index_or a c []) b []

-- the first n coded channels have g in block b at the bins of their spans, and 0 elsewhere
abbrev pub RowsIn : Head → Block → ℕ → List (List (List ℕ)) → (ℕ → ℕ → ℕ) → ℕ → Type 0
RowsIn h f b a g n = (c k : ℕ) → c < n → cell a c b k ≡ (if is_in (span_in h f c) k then g c k else 0)

-- the pointer of a bin by the exponents of a row
abbrev pub pointer_by : Head → Block → ℕ → List (List (List ℕ)) → ℕ → ℕ → ℕ
pointer_by h f b exps c k = pointer (is_silent h f) (params_in h f c) (span_in h f c) (row_in exps c b) k (offset_of h f c)

-- block b stands behind these, and the exponents of the one before it are the latest that were sent
pub record KeepsExponents (h : Head) (b : ℕ) (kept : Kept) (earlier : List Block) (exps : List (List (List ℕ))) : Type 0 where
  pub first : b ≡ 0 → kept.count ≡ 0
  pub spans : (c : ℕ) → c < kept.count → span_at kept.spans c ≡ span_in h kept.block c
  pub are_spans : (c : ℕ) → c < kept.count → IsSpan (span_in h kept.block c)
  pub rows : RowsIn h kept.block (b - 1) exps (λ c. exponent_by (span_in h kept.block c) (latest (sent_exponents h kept.block c) earlier)) kept.count

-- its pointers are those of its exponents
abbrev pub KeepsPointers : Head → ℕ → Kept → List (List (List ℕ)) → List (List (List ℕ)) → Type 0
KeepsPointers h b kept exps baps = RowsIn h kept.block (b - 1) baps (pointer_by h kept.block (b - 1) exps) kept.count

-- the pointers of coded channel c of the kept block, which had the first exponents, were made from the same as those of block f, with
-- the second ones
pub record IsSame (h : Head) (f : Block) (s : Span) (kept : Kept) (c : ℕ) (old now : List ℕ) : Type 0 where
  pub there : c < kept.count
  pub span : span_at kept.spans c ≡ s
  pub params : params_in h kept.block c ≡ params_in h f c
  pub offset : offset_of h kept.block c ≡ offset_of h f c
  pub exps : (k : ℕ) → k < 256 → slice_index old k ≡ slice_index now k

-- the exponents of coded channel c of block x, which is f when it is filled, were sent before the kept block or in it
pub record HasSent (h : Head) (x f : Block) (s : Span) (kept : Kept) (c : ℕ) : Type 0 where
  pub there : c < kept.count
  pub span : span_at kept.spans c ≡ s
  pub use_of : holds kept.block.cplinu ≡ holds f.cplinu
  pub none : sent_exponents h f c x ≡ None

-- two blocks have the same parameters for all channels
pub record HaveSameCurves (f g : Block) : Type 0 where
  pub slow : number f.sdcycod ≡ number g.sdcycod
  pub fast : number f.fdcycod ≡ number g.fdcycod
  pub gain : number f.sgaincod ≡ number g.sgaincod
  pub knee : number f.dbpbcod ≡ number g.dbpbcod
  pub floor : number f.floorcod ≡ number g.floorcod

-- and for the coupling channel
pub record HaveSameLeaks (f g : Block) : Type 0 where
  pub fast : number f.cplfleak ≡ number g.cplfleak
  pub slow : number f.cplsleak ≡ number g.cplsleak
