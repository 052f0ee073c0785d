-- What is asked of the values that are handed in for a frame.
use Rattle.std.specs.Prelude.{◌≡◌, ◌⊎◌, ℕ, ◌+◌, ◌%◌, ◌<◌, ◌≤◌, slice_index}
use Rattle.ac_base.specs.Fit.{FitIn}
use Rattle.ac_base.specs.Shape.{full_of, subbands}
use Rattle.ac_base.specs.Sizes.{code_words}
use Rattle.ac_base.specs.Spans.{IsIn}
use Rattle.ac_base.specs.Words.{IsAssignment}
use Rattle.ac_expo.specs.Greatest.{IsSpellable}
use Rattle.ac_expo.specs.Raw.{channel_span, channels}
use Rattle.ac_mant.specs.Quantiser.{IsCode}
use Rattle.ac_record.specs.Readings.{cell}
use Rattle.ac_sent.specs.Values.{Quantised}
use Rattle.ac_sent.specs.Fields.{code_at, exponents_at, pointer_at, parts_at, coordinate_at}

-- frmsizecod of a frame of so many words: at 48 and 32 kHz the even one of the two (A/52 Table 5.18; the choice is this project's own)
pub record IsSizeCode (fscod words code : ℕ) : Type 0 where
  pub known : code < 38
  pub even : (fscod ≡ 1) ⊎ (code % 2 ≡ 0)
  pub size : code_words fscod code ≡ words

pub record IsQuantised (q : Quantised) : Type 0 where
  pub sized : (code : ℕ) × IsSizeCode q.shape.fscod q.shape.words code
  pub offset : q.t ≤ 1023
  -- each coded channel has a word of kinds that it takes, so that LFE has the codes 0 and 1 alone
  pub assigned : IsAssignment q.shape.acmod q.shape.lfe q.shape.bw q.shape.couple q.assign.w
  -- coordinates that are sent have 4 bits each
  pub coordinates : (i k : ℕ) → i < full_of q.shape.acmod → k < subbands q.shape.couple
      → ((coordinate_at q i k).exp ≤ 15) × ((coordinate_at q i k).mant ≤ 15)
  pub fits : FitIn q.shape.words (parts_at q)
  -- the exponents of each run are one list that its kind can spell
  pub spellable : (c b : ℕ) → c < channels q.shape → b < 6 → 0 < code_at q c b
      → IsSpellable (code_at q c b) (channel_span q.shape c) (exponents_at q c b)
  pub reused : (c b k : ℕ) → c < channels q.shape → b < 5 → code_at q c (b + 1) ≡ 0 → IsIn (channel_span q.shape c) k
      → slice_index (exponents_at q c (b + 1)) k ≡ slice_index (exponents_at q c b) k
  -- each code is one of its pointer
  pub codes : (c b k : ℕ) → c < channels q.shape → b < 6 → IsIn (channel_span q.shape c) k
      → IsCode (pointer_at q c b k) (cell q.codes c b k)
