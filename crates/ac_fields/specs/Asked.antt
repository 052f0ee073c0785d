-- What the blocks ask of the values that are handed in.
use Rattle.std.specs.Prelude.{ℕ, ◌<◌, ◌≤◌}
use Rattle.ac_base.specs.Spans.{IsKind}
use Rattle.ac_expo.specs.Greatest.{IsSpellable}
use Rattle.ac_expo.specs.Raw.{channel_span, channels}
use Rattle.ac_sent.specs.Values.{Quantised}
use Rattle.ac_sent.specs.Asked.{IsQuantised}
use Rattle.ac_sent.specs.Fields.{code_at, exponents_at}

-- the offset is one, and where a coded channel sends exponents in block b, its code is a kind that it takes, which can spell them
-- (A/52 5.4.3.21 to 5.4.3.23, 7.1.3)
pub record HasFields (q : Quantised) (b : ℕ) : Type 0 where
  pub offset : q.t ≤ 1023
  pub kinds : (c : ℕ) → c < channels q.shape → 0 < code_at q c b → IsKind (code_at q c b) (channel_span q.shape c)
  pub spellable : (c : ℕ) → c < channels q.shape → 0 < code_at q c b
      → IsSpellable (code_at q c b) (channel_span q.shape c) (exponents_at q c b)

-- values that may be handed in for a frame have the fields of each block: a law of these definitions
abbrev pub QuantisedHasFields : Type 0
QuantisedHasFields = (q : Quantised) (b : ℕ) → IsQuantised q → b < 6 → HasFields q b
