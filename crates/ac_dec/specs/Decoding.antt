-- What contracts see of a decoder, and what it gives of a frame and refuses. That the first frame fixes fscod, acmod and lfeon of those
-- behind it is this project's own.
use Rattle.std.specs.Option.{ForSome}
use Rattle.std.specs.Prelude.{◌≡◌, ◌≢◌, ◌⊎◌, ℕ, ◌+◌, ◌*◌, ◌<◌, List, [], replicate, Option, Some, None, ℤ, pos, slice_index_or}
use Rattle.ac_codec.specs.declared.refused.Row.{Row}
use Rattle.ac_codec.specs.declared.refused.Row.TheVariants.{Fscod, Acmod, Lfeon}
use Rattle.ac_record.specs.declared.codes.FrameFault.{FrameFault}
use Rattle.ac_record.specs.declared.codes.FrameFault.TheVariants.{Changed}
use Rattle.ac_record.specs.Faults.{IsFault}
use Rattle.ac_record.specs.Frames.{FrameCodes}
use Rattle.ac_record.specs.Readings.{IsReading}
use Rattle.ac_record.specs.Records.{words_of}
use Rattle.ac_wav.specs.declared.written.Pcm.{Pcm}
use Rattle.ac_dec.specs.declared.kind.Heard.{Heard}
use Rattle.ac_dec.specs.declared.kind.Kind.{Kind}
use Rattle.ac_dec.specs.Heard.{channels_of, heard_of}
use Rattle.ac_dec.specs.Sound.{block_list, delay_at, sample_at}

-- the fields that are the same in all frames of a stream, once the first is accepted, and what each channel's last block left:
-- 256 places of each of 6 channels
pub record Decoding : Type 0 where
  pub kind : Option Kind
  pub delays : List (List ℤ)

-- one that has accepted no frame: before the first block there is silence (A/52 7.9.4)
abbrev pub at_first : Decoding
at_first = record { kind = None; delays = replicate 6 (replicate 256 (pos 0)) }

-- fscod (A/52 5.4.1.3), acmod (5.4.2.3) and lfeon (5.4.2.7) of a frame
abbrev pub kind_of : FrameCodes → Kind
kind_of g = record { fscod = g.head.fscod; acmod = g.head.acmod; lfe = g.head.lfeon }

-- ---- what is given

-- what is told of a frame: its size in bytes beside its kind
pub record IsHeard (g : FrameCodes) (heard : Heard) : Type 0 where
  pub fscod : heard.fscod ≡ g.head.fscod
  pub acmod : heard.acmod ≡ g.head.acmod
  pub lfe : heard.lfe ≡ g.head.lfeon
  pub size : heard.size ≡ 2 * words_of g.head

-- the first bytes are a frame, and its samples go on from what stood before (A/52 7.9.4)
pub record Decodes (bytes : List ℕ) (old : Decoding) (g : FrameCodes) (heard : Heard) (out : Pcm) (new : Decoding) : Type 0 where
  pub reading : IsReading bytes g
  pub same : ForSome old.kind (λ k. k ≡ kind_of g)
  pub is_heard : IsHeard g heard
  pub kind : new.kind ≡ Some (kind_of g)
  pub samples : (c b t : ℕ) → c < channels_of g → b < 6 → t < 256
      → slice_index_or (slice_index_or out.s c []) (256 * b + t) (pos 0)
      ≡ sample_at (slice_index_or old.delays c []) (block_list (heard_of g c)) b t
  pub delays : (c t : ℕ) → c < channels_of g → t < 256
      → slice_index_or (slice_index_or new.delays c []) t (pos 0)
      ≡ delay_at (slice_index_or old.delays c []) (block_list (heard_of g c)) 6 t

-- ---- what is refused

-- the first of the three fields that differs between the first frame's and this one's
abbrev pub IsFirstChange : Kind → Kind → Row → Type 0
IsFirstChange k n row =
    ((k.fscod ≢ n.fscod) × (row ≡ Fscod))
    ⊎ ((k.fscod ≡ n.fscod) × (k.acmod ≢ n.acmod) × (row ≡ Acmod))
    ⊎ ((k.fscod ≡ n.fscod) × (k.acmod ≡ n.acmod) × (k.lfe ≢ n.lfe) × (row ≡ Lfeon))

-- it is this field; before the first frame none differs
abbrev pub IsChange : Option Kind → FrameCodes → Row → Type 0
IsChange None g row = ⊥
IsChange (Some k) g row = IsFirstChange k (kind_of g) row

-- a frame of another kind, which has no fault of its own
pub record IsOther (old : Decoding) (bytes : List ℕ) (fault : FrameFault) : Type 0 where
  pub other : FrameCodes
  pub row : Row
  pub reading : IsReading bytes other
  pub is_change : IsChange old.kind other row
  pub same : fault ≡ Changed row

-- why bytes are refused: the first fault of theirs, or else the first change
abbrev pub IsRefusal : Decoding → List ℕ → FrameFault → Type 0
IsRefusal old bytes fault = IsFault bytes fault ⊎ IsOther old bytes fault
