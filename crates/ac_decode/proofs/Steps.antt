-- One frame behind others.
use Rattle.std.proofs.Common.{◌≡◌, ℕ, zero, suc, ◌+◌, ◌*◌, ◌^◌, ◌<◌, ◌≤◌, Bool, true, false, List, [], ◌∷◌, ◌++◌, length, None, Result, Ok, refl, ap, ap₂, sym, subst, ◌∙◌, arith, lit≤, ℤ, pos, slice_index_or}
use Rattle.std.specs.Option.{ForSome}
use Rattle.ac_base.specs.Shape.{full_of, count_of}
use Rattle.ac_codec.specs.Codec.{field, pair, shaped, free}
use Rattle.ac_codec.specs.declared.refused.Row.TheVariants.{Fscod}
use Rattle.ac_rows.specs.declared.head.Head.{Head}
use Rattle.ac_rows.specs.HeadRows.{whole_head, head_fields, layout, layout_rows, no_dual}
use Rattle.ac_record.proofs.Leading.{head_is}
use Rattle.ac_record.specs.Readings.{IsReading}
use Rattle.ac_record.specs.declared.codes.FrameFault.{FrameFault}
use Rattle.ac_wav.specs.Written.{head_bytes, frame_samples}
use Rattle.ac_wav.specs.declared.written.Pcm.{Pcm}
use Rattle.ac_world.specs.Emits.{Emits}
use Rattle.ac_world.specs.World.{Sinks}
use Rattle.ac_world.specs.declared.writing.Broken.{Broken}
use Rattle.ac_reading.specs.Framed.{Reading}
use Rattle.ac_dec.specs.declared.kind.Heard.{Heard}
use Rattle.ac_dec.specs.declared.kind.Kind.{Kind}
use Rattle.ac_dec.specs.Decoding.{Decoding, at_first, kind_of, IsHeard, Decodes, IsRefusal}
use Rattle.ac_dec.specs.Heard.{channels_of}
use Rattle.ac_dec.specs.Sound.{sound_of, IsBehind}
use Rattle.ac_decode.specs.Stream.{kind_behind, IsRefusedBehind}
use Rattle.ac_decode.specs.Sound.{AreSamples, at_start}
use Rattle.ac_decode.specs.Lines.{frame_line}
use Rattle.ac_decode.specs.Leaves.{FrameLeaves}
use Rattle.ac_decode.specs.Loop.{channels_behind, StandsBehind, IsNext, Goes}
use Rattle.ac_decode.proofs.Needs.{below_is}
use Rattle.ac_decode.proofs.Readings.{begun}
use Rattle.ac_decode.proofs.Refusals.{refusal_by}
use Rattle.ac_decode.proofs.Streams.{kind_more}

-- ---- the channels of a frame

acmod_least : (v : ℕ) → no_dual v ≡ None → 1 ≤ v
acmod_least zero e = absurd cc
acmod_least (suc v) e = omega arith

head_acmod : (h : Head) (addbsi : List Bool) → whole_head.Lawful (h, addbsi) → (h.acmod < 2 ^ 3) × (no_dual h.acmod ≡ None)
unfolding whole_head head_fields layout layout_rows pair shaped field free
head_acmod h addbsi lawful = lawful.0.0.1.1.1.1.1.1.0

-- what the WAV needs
pub record Fits (h : Head) : Type 0 where
  pub acmod_least : 1 ≤ h.acmod
  pub acmod_most : h.acmod ≤ 7
  pub fscod : h.fscod ≤ 2

pub fits : (bytes : List ℕ) (g : Reading) → IsReading bytes g → Fits g.head
fits bytes g r =
    let b = begun bytes g r in
    let a = head_acmod g.head b.addbsi b.lawful in
    let small = a.0 in
    let rate = below_is 3 Fscod g.head.fscod (head_is g.head b.addbsi b.lawful).fscod in
    record { acmod_least = acmod_least g.head.acmod a.1; acmod_most = omega (arith, small); fscod = omega (arith, rate) }

count_most : (b : Bool) → count_of b ≤ 1
count_most true = lit≤ tt
count_most false = lit≤ tt

full_most : (acmod : ℕ) → acmod ≤ 7 → full_of acmod ≤ 5
full_most zero most = lit≤ tt
full_most (suc zero) most = lit≤ tt
full_most (suc (suc zero)) most = lit≤ tt
full_most (suc (suc (suc zero))) most = lit≤ tt
full_most (suc (suc (suc (suc zero)))) most = lit≤ tt
full_most (suc (suc (suc (suc (suc zero))))) most = lit≤ tt
full_most (suc (suc (suc (suc (suc (suc zero)))))) most = lit≤ tt
full_most (suc (suc (suc (suc (suc (suc (suc zero))))))) most = lit≤ tt
full_most (suc (suc (suc (suc (suc (suc (suc (suc n)))))))) most = absurd (omega (arith, most))

channels_most : (bytes : List ℕ) (g : Reading) → IsReading bytes g → channels_of g ≤ 6
channels_most bytes g r =
    let full = full_most g.head.acmod (fits bytes g r).acmod_most in
    let low = count_most g.head.lfeon in
    omega (arith, full, low)

abbrev channels_by : Kind → ℕ
channels_by k = full_of k.acmod + count_of k.lfe

-- a channel of the next frame is one of those before
channel_before : (gs : List Reading) (g : Reading) (c : ℕ) → channels_of g ≤ 6 → ForSome (kind_behind gs) (λ k. k ≡ kind_of g) → c < channels_of g → c < channels_behind gs
channel_before [] g c six same inside = omega (arith, six, inside)
channel_before (h ∷ gs) g c six same inside = let e = ap channels_by (same (kind_of h) refl) in omega (arith, e, inside)

channel_behind : (gs : List Reading) (g : Reading) (c : ℕ) → ForSome (kind_behind gs) (λ k. k ≡ kind_of g) → c < channels_behind (gs ++ g ∷ []) → c < channels_of g
channel_behind [] g c same inside = inside
channel_behind (h ∷ gs) g c same inside = let e = ap channels_by (same (kind_of h) refl) in omega (arith, e, inside)

-- ---- the decoder

-- before the first frame there is silence
abbrev pub BeginsSilent : Type 0
BeginsSilent = (c : ℕ) → c < 6 → IsBehind [] c (slice_index_or at_first.delays c [])

-- the samples of the next frame are those of the sound with it
abbrev pub SoundGoesOn : Type 0
SoundGoesOn = (gs : List Reading) (bytes : List ℕ) (old new : Decoding) (g : Reading) (heard : Heard) (out : Pcm) (c b t : ℕ)
    → Decodes bytes old g heard out new → IsBehind gs c (slice_index_or old.delays c []) → c < channels_of g → b < 6 → t < 256
    → slice_index_or (slice_index_or out.s c []) (256 * b + t) (pos 0) ≡ sound_of (gs ++ g ∷ []) c (6 * length gs + b) t

-- and then the decoder stands behind it
abbrev pub DelayGoesOn : Type 0
DelayGoesOn = (gs : List Reading) (bytes : List ℕ) (old new : Decoding) (g : Reading) (heard : Heard) (out : Pcm) (c : ℕ)
    → Decodes bytes old g heard out new → IsBehind gs c (slice_index_or old.delays c []) → c < channels_of g → IsBehind (gs ++ g ∷ []) c (slice_index_or new.delays c [])

pub stands_first : BeginsSilent → (d : Decoding) → d ≡ at_first → StandsBehind [] d
stands_first silent d e = record {
  kind = ap (λ (x : Decoding). x.kind) e;
  delays = λ c channel. subst (λ (x : Decoding). IsBehind [] c (slice_index_or x.delays c [])) (sym e) (silent c channel);
}

same_behind : (gs : List Reading) (bytes : List ℕ) (g : Reading) (heard : Heard) (out : Pcm) (old new : Decoding) → StandsBehind gs old → Decodes bytes old g heard out new → ForSome (kind_behind gs) (λ k. k ≡ kind_of g)
same_behind gs bytes g heard out old new s d = λ k e. d.same k (s.kind ∙ e)

pub next_behind : (gs : List Reading) (bytes : List ℕ) (g : Reading) (heard : Heard) (out : Pcm) (old new : Decoding) → StandsBehind gs old → Decodes bytes old g heard out new → IsNext gs bytes g
next_behind gs bytes g heard out old new s d = record { reading = d.reading; same = same_behind gs bytes g heard out old new s d }

pub stands_more : DelayGoesOn → (gs : List Reading) (bytes : List ℕ) (g : Reading) (heard : Heard) (out : Pcm) (old new : Decoding) → StandsBehind gs old → Decodes bytes old g heard out new → StandsBehind (gs ++ g ∷ []) new
stands_more goes gs bytes g heard out old new s d =
    let same = same_behind gs bytes g heard out old new s d in
    record {
      kind = d.kind ∙ sym (kind_more gs g same);
      delays = λ c inside.
          let channel = channel_behind gs g c same inside in
          goes gs bytes old new g heard out c d (s.delays c (channel_before gs g c (channels_most bytes g d.reading) same channel)) channel;
    }

samples_more : SoundGoesOn → (gs : List Reading) (bytes : List ℕ) (g : Reading) (heard : Heard) (out : Pcm) (old new : Decoding) → StandsBehind gs old → Decodes bytes old g heard out new → AreSamples (gs ++ g ∷ []) (length gs) g out.s
samples_more goes gs bytes g heard out old new s d c b t channel block place =
    goes gs bytes old new g heard out c b t d (s.delays c (channel_before gs g c (channels_most bytes g d.reading) (same_behind gs bytes g heard out old new s d) channel)) channel block place

-- ---- what it adds

-- as told by what was heard
abbrev pub piece_by : ℕ → ℕ → Bool → ℕ → List (List ℤ) → List ℕ
piece_by i acmod lfe fscod rows = at_start i (head_bytes acmod lfe fscod) ++ frame_samples acmod lfe rows

piece_same : (i : ℕ) (g : Reading) (heard : Heard) (rows : List (List ℤ)) → IsHeard g heard → piece_by i heard.acmod heard.lfe heard.fscod rows ≡ piece_by i g.head.acmod g.head.lfeon g.head.fscod rows
piece_same i g heard rows h =
    ap₂ (λ (a : ℕ) (l : Bool). piece_by i a l heard.fscod rows) h.acmod h.lfe ∙ ap (λ f. piece_by i g.head.acmod g.head.lfeon f rows) h.fscod

pub frame_leaves : SoundGoesOn → (i : ℕ) (gs : List Reading) (bytes : List ℕ) (g : Reading) (heard : Heard) (out : Pcm) (before behind : Decoding) (result : Result (Unit {0}) Broken) (old new : Sinks) → i ≡ length gs → StandsBehind gs before
    → Decodes bytes before g heard out behind → Emits (piece_by i heard.acmod heard.lfe heard.fscod out.s) (frame_line i heard.size) result old new → FrameLeaves gs g result old new
frame_leaves goes i gs bytes g heard out before behind result old new at s d e =
    let piece = piece_by (length gs) g.head.acmod g.head.lfeon g.head.fscod out.s in
    let is = ap (λ n. piece_by n heard.acmod heard.lfe heard.fscod out.s) at ∙ piece_same (length gs) g heard out.s d.is_heard in
    let line = ap₂ frame_line at d.is_heard.size in
    record {
      piece = piece;
      is_piece = (out.s, samples_more goes gs bytes g heard out before behind s d, refl);
      emits = subst (λ (l : List ℕ). Emits piece l result old new) line (subst (λ (p : List ℕ). Emits p (frame_line i heard.size) result old new) is e);
    }

pub goes_on : SoundGoesOn → DelayGoesOn → (i : ℕ) (gs : List Reading) (bytes : List ℕ) (g : Reading) (heard : Heard) (out : Pcm) (before behind : Decoding) (old new : Sinks) → i ≡ length gs → StandsBehind gs before
    → Decodes bytes before g heard out behind → Emits (piece_by i heard.acmod heard.lfe heard.fscod out.s) (frame_line i heard.size) (Ok tt) old new → Goes gs bytes behind old new
goes_on sound delay i gs bytes g heard out before behind old new at s d e = record {
  next = g;
  is_next = next_behind gs bytes g heard out before behind s d;
  stands = stands_more delay gs bytes g heard out before behind s d;
  leaves = frame_leaves sound i gs bytes g heard out before behind (Ok tt) old new at s d e;
}

-- a refusal by what the decoder is seen as
pub refused_behind : (gs : List Reading) (bytes : List ℕ) (d : Decoding) (fault : FrameFault) → StandsBehind gs d → IsRefusal d bytes fault → IsRefusedBehind gs bytes fault
refused_behind gs bytes d fault s r = refusal_by d (record { kind = kind_behind gs; delays = [] }) bytes fault s.kind r

-- what the WAV needs of what was heard
pub heard_fits : (bytes : List ℕ) (g : Reading) (heard : Heard) (out : Pcm) (old new : Decoding) → Decodes bytes old g heard out new → (1 ≤ heard.acmod) × (heard.acmod ≤ 7) × (heard.fscod ≤ 2)
heard_fits bytes g heard out old new d =
    let f = fits bytes g d.reading in
    let least = f.acmod_least in
    let most = f.acmod_most in
    let rate = f.fscod in
    let a = d.is_heard.acmod in
    let s = d.is_heard.fscod in
    (omega (arith, least, a), omega (arith, most, a), omega (arith, rate, s))
