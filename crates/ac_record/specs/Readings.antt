-- What a reader gives of a frame.
use Rattle.std.specs.Prelude.{◌≡◌, ℕ, suc, ◌*◌, ◌<◌, false, if◌then◌else◌, List, [], ◌∷◌, ◌++◌, take, slice_index, slice_index_or}
use Rattle.ac_bits.specs.Bits.{bits_of}
use Rattle.ac_mant.specs.Groups.{coded}
use Rattle.ac_rows.specs.Blocks.{Block}
use Rattle.ac_rows.specs.declared.head.Head.{Head}
use Rattle.ac_rows.specs.Filled.{filled_of, span_in}
use Rattle.ac_record.specs.Frames.{FrameCodes}
use Rattle.ac_record.specs.Channels.{is_in}
use Rattle.ac_record.specs.Held.{exponent_in, pointer_in}
use Rattle.ac_record.specs.Order.{in_order}
use Rattle.ac_record.specs.Records.{BlockRecord, Record, fields_of, words_of, StandsFor}

-- the entry of coded channel c, block b and bin k
abbrev pub cell : List (List (List ℕ)) → ℕ → ℕ → ℕ → ℕ
cell a c b k = slice_index (slice_index_or (slice_index_or a c []) b []) k

-- block b of an array has g at the bins of the spans of a filled block, and 0 elsewhere
abbrev pub HoldsIn : Head → Block → ℕ → List (List (List ℕ)) → (ℕ → ℕ → ℕ) → Type 0
HoldsIn h f b a g = (c k : ℕ) → c < 7 → k < 256 → cell a c b k ≡ (if is_in (span_in h f c) k then g c k else 0)

-- block b, which stands behind these: its exponents, its pointers and its codes, and 0 at bins that have none
pub record IsBlockReading (h : Head) (earlier : List Block) (b : ℕ) (x : BlockRecord) (f : FrameCodes) : Type 0 where
  pub exps : HoldsIn h (filled_of h earlier x.fields) b f.exps (exponent_in h earlier x.fields)
  pub baps : HoldsIn h (filled_of h earlier x.fields) b f.baps (pointer_in h earlier x.fields)
  pub codes : x.mantissas ≡ in_order h (filled_of h earlier x.fields) (λ c k. coded (cell f.baps c b k) (cell f.codes c b k))
  pub elsewhere : (c k : ℕ) → c < 7 → k < 256 → is_in (span_in h (filled_of h earlier x.fields) c) k ≡ false
      → cell f.codes c b k ≡ 0

-- blocks from b on
unfoldable pub AreBlockReadings : Head → List Block → ℕ → List BlockRecord → FrameCodes → Type 0
AreBlockReadings h earlier b [] f = Unit {0}
AreBlockReadings h earlier b (x ∷ xs) f = IsBlockReading h earlier b x f × AreBlockReadings h (earlier ++ x.fields ∷ []) (suc b) xs f

-- the reading of a record
pub record IsReadingOf (r : Record) (f : FrameCodes) : Type 0 where
  pub head : f.head ≡ r.head
  pub fields : f.block ≡ fields_of r.blocks
  pub blocks : AreBlockReadings r.head [] 0 r.blocks f

-- the first bytes are a frame, and this is its reading
pub record IsReading (bytes : List ℕ) (f : FrameCodes) : Type 0 where
  pub of : Record
  pub stands : StandsFor (bits_of (take (2 * words_of of.head) bytes)) of
  pub reading : IsReadingOf of f
