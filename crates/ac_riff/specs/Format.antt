-- The fields of a `fmt ` chunk (RIFF WAVE, and its extensible form for tag 0xFFFE), the tests in their order, and what
-- the head says. Numbers are little endian.
use Rattle.std.specs.Prelude.{◌≡◌, ◌≤◌, ◌⊎◌, ℕ, ◌*◌, ◌/◌, ◌%◌, ◌^◌, Bool, not, ◌==◌, ◌||◌, ◌&&◌, leb, if◌then◌else◌, List, [], ◌∷◌, length, drop, Option, Some, None}
use Rattle.byteorder.specs.Endian.{little_number}
use Rattle.ac_riff.specs.declared.fault.WavKind.{WavKind}
use Rattle.ac_riff.specs.declared.fault.WavKind.TheVariants.{Short, NotRiff, NoFmt, NoData, BadFmt, Unsupported}
use Rattle.ac_riff.specs.declared.fault.Field.TheVariants as fields
use Rattle.ac_riff.specs.declared.format.Format.{Format}
use Rattle.ac_riff.specs.declared.format.Fault.{Fault}
use Rattle.ac_riff.specs.Layout.{has_lfe, acmod_of, channel_count, default_mask}

-- ---- the fields (RIFF WAVE, `fmt ` chunk)

-- the number in the n bytes from this place on, the least byte first
abbrev pub number_at : ℕ → ℕ → List ℕ → ℕ
number_at place n bytes = little_number n (drop place bytes)

-- the fields of a `fmt ` chunk of this size in its bytes. Bytes per second at 8, and valid bits at 18, are ignored.
abbrev pub fields_of : ℕ → List ℕ → Format
fields_of size body = record {
  size = size;
  tag = number_at 0 2 body;
  channels = number_at 2 2 body;
  rate = number_at 4 4 body;
  align = number_at 12 2 body;
  bits = number_at 14 2 body;
  extra = number_at 16 2 body;
  mask = number_at 20 4 body;
  subformat = number_at 24 16 body;
}

-- the fields of a `fmt ` chunk with these bytes
abbrev pub format_of : List ℕ → Format
format_of body = fields_of (length body) body

-- the subformat of PCM in the extensible form: 01 00 00 00 00 00 10 00 80 00 00 AA 00 38 9B 71
abbrev pub pcm_subformat : ℕ
pcm_subformat = 0x719B3800AA0000800010000000000001

-- the extensible form, by its tag
abbrev pub is_extensible : Format → Bool
is_extensible f = f.tag == 0xFFFE

-- ---- the tests: their order, their places and the values that they accept are this project's profile

-- a test of a field: where it fails the chunk is refused so, at this place behind the chunk's first byte
pub record Test : Type 0 where
  pub holds : Bool
  pub kind : WavKind
  pub place : ℕ

-- the first test that fails
abbrev pub first_failing : List Test → Option Fault
first_failing [] = None
first_failing (t ∷ ts) = if t.holds then first_failing ts else Some (record { kind = t.kind; place = t.place })

-- the tests of every format
abbrev pub common_tests : Format → List Test
common_tests f =
    record { holds = leb 16 f.size; kind = BadFmt fields.Size; place = 4 }
    ∷ record { holds = f.tag == 1 || is_extensible f; kind = Unsupported fields.Tag f.tag; place = 8 }
    ∷ record { holds = not (is_extensible f) || leb 40 f.size; kind = BadFmt fields.Size; place = 4 }
    ∷ record { holds = leb 1 f.channels && leb f.channels 6; kind = Unsupported fields.Channels f.channels; place = 10 }
    ∷ record { holds = f.rate == 48000 || f.rate == 44100 || f.rate == 32000; kind = Unsupported fields.Rate f.rate; place = 12 }
    ∷ record { holds = f.bits == 16 || f.bits == 24; kind = Unsupported fields.Bits f.bits; place = 22 }
    ∷ record { holds = f.align == f.channels * (f.bits / 8); kind = BadFmt fields.Align; place = 20 }
    ∷ []

-- the tests of the extension
abbrev pub extension_tests : Format → List Test
extension_tests f =
    record { holds = leb 22 f.extra; kind = BadFmt fields.Extra; place = 24 }
    ∷ record { holds = f.mask == 0 || not (acmod_of f.mask == 0); kind = Unsupported fields.Mask f.mask; place = 28 }
    ∷ record {
      holds = f.mask == 0 || channel_count (acmod_of f.mask) (has_lfe f.mask) == f.channels;
      kind = BadFmt fields.Mask;
      place = 28;
    }
    ∷ record { holds = f.subformat == pcm_subformat; kind = Unsupported fields.Subformat (f.subformat % 2 ^ 32); place = 32 }
    ∷ []

-- a fault, or else the other
abbrev pub first_fault : Option Fault → Option Fault → Option Fault
first_fault (Some fault) other = Some fault
first_fault None other = other

-- the first test that a format fails
abbrev pub fault_of : Format → Option Fault
fault_of f = first_fault (first_failing (common_tests f)) (if is_extensible f then first_failing (extension_tests f) else None)

-- a refusal of a field
abbrev pub IsOfField : WavKind → Type 0
IsOfField Short = ⊥
IsOfField NotRiff = ⊥
IsOfField NoFmt = ⊥
IsOfField NoData = ⊥
IsOfField (BadFmt field) = Unit {0}
IsOfField (Unsupported field value) = Unit {0}

-- ---- what an accepted format says

-- the mask that the channels have; what a missing mask means is this project's profile
abbrev pub layout_of : Format → ℕ
layout_of f = if is_extensible f && not (f.mask == 0) then f.mask else default_mask f.channels

-- fscod of a rate (A/52 5.4.1.3, Table 5.6)
abbrev pub fscod_of : ℕ → ℕ
fscod_of rate = if rate == 48000 then 0 else (if rate == 44100 then 1 else 2)

-- what an accepted format has, in this project's profile
pub record IsFine (f : Format) : Type 0 where
  pub least : 1 ≤ f.channels
  pub most : f.channels ≤ 6
  pub bits_are : (f.bits ≡ 16) ⊎ (f.bits ≡ 24)
  pub mode : 1 ≤ acmod_of (layout_of f)
  pub count : channel_count (acmod_of (layout_of f)) (has_lfe (layout_of f)) ≡ f.channels
