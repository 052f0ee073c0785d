-- The pointers of a frame in an array, by coded channel, block and bin.
use Rattle.std.specs.Prelude.{◌≡◌, ℕ, ◌-◌, ◌<◌, ◌≤◌, is_some}
use Rattle.std.specs.Prelude.{if◌then◌else◌, List, [], ◌∷◌, take, slice_index, slice_index_or}
use Rattle.std.specs.List.{range_with_len}
use Rattle.ac_base.specs.declared.shapes.Shape.{Shape}
use Rattle.ac_base.specs.Fit.{exponent_bits, mantissas_in}
use Rattle.ac_base.specs.Shape.{full_of}
use Rattle.ac_base.specs.Spans.{IsIn}
use Rattle.ac_expo.specs.Raw.{channel_span, channels}
use Rattle.ac_sent.specs.Values.{Quantised}
use Rattle.ac_mant.specs.declared.coded.Coded.{Coded}
use Rattle.ac_mant.specs.Groups.{coded}
use Rattle.ac_record.specs.Readings.{cell}
use Rattle.ac_sent.specs.Fields.{pointer_at, code_at, low_number}
use Rattle.ac_sent.specs.Packed.{sent_mantissas}

-- a row has the pointers of coded channel c in block b
abbrev pub ArePointersIn : Quantised → ℕ → ℕ → List ℕ → Type 0
ArePointersIn q c b row = (k : ℕ) → IsIn (channel_span q.shape c) k → slice_index row k ≡ pointer_at q c b k

-- rows have those of the six blocks
abbrev pub ArePointersOf : Quantised → ℕ → List (List ℕ) → Type 0
ArePointersOf q c rows = (b : ℕ) → b < 6 → ArePointersIn q c b (slice_index_or rows b [])

-- and those of all coded channels
abbrev pub ArePointers : Quantised → List (List (List ℕ)) → Type 0
ArePointers q baps = (c : ℕ) → c < channels q.shape → ArePointersOf q c (slice_index_or baps c [])

-- a mantissa: its pointer and its code
abbrev pub mantissa_at : Quantised → ℕ → ℕ → ℕ → Coded
mantissa_at q b c k = coded (pointer_at q c b k) (cell q.codes c b k)

-- lists begin with the mantissas of the first n blocks, which are so many
abbrev pub AreListed : Quantised → ℕ → List (List Coded) → List ℕ → Type 0
AreListed q n lists counts =
    (b : ℕ) → b < n → (take (slice_index counts b) (slice_index_or lists b []) ≡ sent_mantissas q b) × (slice_index counts b ≤ 1792)

-- ---- the coded channels in the order of their mantissas (A/52 5.3.3): the first full channel, and behind it
-- the coupling channel, where there is one
abbrev pub coupling_of : Shape → List ℕ
coupling_of shape = if is_some shape.couple then full_of shape.acmod ∷ [] else []

-- the other full channels
abbrev pub later_of : Shape → List ℕ
later_of shape = range_with_len 1 (full_of shape.acmod - 1)

-- LFE, where there is one
abbrev pub low_of : Shape → List ℕ
low_of shape = if shape.lfe then low_number shape ∷ [] else []

-- ---- bits of a block: the exponents of channel c, and all mantissas
abbrev pub exponents_of : Quantised → ℕ → ℕ → ℕ
exponents_of q b c = exponent_bits (code_at q c b) (channel_span q.shape c)

abbrev pub mantissas_of : Quantised → ℕ → ℕ
mantissas_of q b = mantissas_in (channel_span q.shape) (channels q.shape) (pointer_at q) b
