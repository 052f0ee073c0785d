-- What a decoder keeps.
use Rattle.std.specs.Option.{ForSome}
use Rattle.std.specs.Prelude.{◌≡◌, ℕ, ◌^◌, ◌<◌, List, [], Option, slice_index_or}
use Rattle.ac_base.specs.Sigma.{Within}
use Rattle.ac_record.specs.Frames.{FrameCodes}
use Rattle.ac_record.specs.Readings.{IsReading}
use Rattle.ac_rows.specs.declared.head.Head.{Head}
use Rattle.ac_dec.specs.Decoding.{Decoding, kind_of}
use Rattle.ac_dec.specs.declared.kind.Kind.{Kind}
use Rattle.ac_dec.specs.declared.state.State.{State}
use Rattle.ac_dec.specs.declared.decoder.Decoder.TheInside.{Inside}

-- what contracts see of it
abbrev pub decoding_in : State → Decoding
decoding_in a = record { kind = a.first; delays = a.delays }

-- what the blocks left is within the bounds that the transform asks
abbrev pub IsState : State → Type 0
IsState a = (c : ℕ) → c < 6 → Within (2 ^ 55) 256 (slice_index_or a.delays c [])

abbrev pub decoding_of : Inside → Decoding
decoding_of a = decoding_in a.state.value

abbrev pub IsDecoder : Inside → Type 0
IsDecoder a = IsState a.state.value

-- the kind of a head
abbrev pub IsKindOf : Head → Kind → Type 0
IsKindOf h kind = kind ≡ record { fscod = h.fscod; acmod = h.acmod; lfe = h.lfeon }

-- the bytes are a frame of the same kind as the first
pub record IsAccepted (bytes : List ℕ) (first : Option Kind) (g : FrameCodes) (kind : Kind) : Type 0 where
  pub reading : IsReading bytes g
  pub same : ForSome first (λ k. k ≡ kind_of g)
  pub is_kind : kind ≡ kind_of g
