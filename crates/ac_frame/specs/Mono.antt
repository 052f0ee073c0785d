-- The values for which the frame that is packed is the plain frame.
use Rattle.std.specs.Prelude.{◌≡◌, false, [], ◌∷◌, None}
use Rattle.ac_base.specs.Words.{word_of}
use Rattle.ac_expo.specs.Groups.{spelled_of}
use Rattle.ac_expo.specs.Raw.{channel_span}
use Rattle.ac_expo.specs.Spelling.{Spelling}
use Rattle.ac_sent.specs.Values.{Quantised}
use Rattle.ac_sent.specs.Fields.{exponents_at}

-- one channel, no LFE, no coupling, SNR offset 0, and D45 in block 0 with reuse behind it
pub record IsSilentMono (q : Quantised) : Type 0 where
  pub mono : q.shape.acmod ≡ 1
  pub no_lfe : q.shape.lfe ≡ false
  pub uncoupled : q.shape.couple ≡ None
  pub offset : q.t ≡ 0
  pub word : word_of q.assign.w 0 ≡ 3 ∷ 0 ∷ 0 ∷ 0 ∷ 0 ∷ 0 ∷ []

-- the exponents of block 0 as D45 spells them (A/52 7.1.3)
abbrev pub spelling : Quantised → Spelling
spelling q = spelled_of 3 (channel_span q.shape 0) (exponents_at q 0 0)
