-- A stream of the encoder is none that decode refuses.
use Rattle.std.proofs.Common.{◌≡◌, inl, inr, ℕ, zero, suc, ◌+◌, ◌*◌, ◌^◌, ◌<◌, ◌≤◌, min, Bool, List, [], ◌∷◌, ◌++◌, append_assoc, length, take, drop, Some, refl, ap, sym, subst, ◌∙◌, arith}
use Rattle.std.specs.Option.{ForSome}
use Rattle.std.proofs.lemmas.Bool.{cases_lt}
use Rattle.std.proofs.lemmas.List.{length-drop, length-take, take-append-drop, drop-drop, get_or-take, get_or-drop}
use Rattle.ac_base.specs.Rates.{IsRate}
use Rattle.ac_bits.specs.Bits.{bits_of}
use Rattle.ac_bits.proofs.Laws.{bits_of-append, length-bits_of}
use Rattle.ac_codec.specs.declared.refused.Row.TheVariants.{Fscod, Frmsizecod}
use Rattle.ac_rows.specs.HeadRows.{whole_head}
use Rattle.ac_plan.specs.declared.answer.Plan.{Plan}
use Rattle.ac_record.specs.declared.codes.FrameFault.{FrameFault}
use Rattle.ac_record.specs.Faults.{IsFault}
use Rattle.ac_record.specs.Frames.{FrameCodes}
use Rattle.ac_record.specs.Laws.{AreBytes}
use Rattle.ac_record.specs.Readings.{IsReading}
use Rattle.ac_record.specs.Records.{Record, blocks_spelled, tail_spelled, record_spelled, words_of, StandsFor}
use Rattle.ac_record.proofs.Leading.{head_is}
use Rattle.ac_reading.specs.Framed.{Reading}
use Rattle.ac_sent.specs.Packed.{IsPacked}
use Rattle.ac_sent.specs.Values.{Quantised}
use Rattle.ac_enc.specs.Frame.{Places, IsFrame}
use Rattle.ac_enc.specs.Layout.{Layout}
use Rattle.ac_encode.specs.Sound.{Sound}
use Rattle.ac_encode.specs.Stream.{places, IsFrameAt, IsStream, frame_size, stream_size}
use Rattle.ac_dec.specs.declared.kind.Kind.{Kind}
use Rattle.ac_dec.specs.Decoding.{Decoding, kind_of, IsRefusal}
use Rattle.ac_decode.specs.Stream.{size_of, AreFrames, kind_behind, needed, looked_at, IsBadStream, IsTooLong}
use Rattle.ac_decode.proofs.Sizes.{SixFit, says_size}
use Rattle.ac_decode.proofs.Needs.{sizes_fit, below_is, needed_sized}
use Rattle.ac_decode.proofs.Readings.{begun, read_taken, reading_needs}
use Rattle.ac_decode.proofs.Faults.{same_looked}
use Rattle.ac_decode.proofs.Refusals.{never_refused}
use Rattle.ac_status.specs.declared.status.Status.{Status}
use Rattle.ac_status.specs.declared.status.Status.TheVariants as statuses
use Rattle.ac_words.specs.Grammar.{Text}
use Rattle.ac_words.specs.declared.meaning.Command.TheVariants.{Decode}
use Rattle.ac_words.specs.declared.meaning.Options.{Options}
use Rattle.ac_world.specs.Limit.{limit}
use Rattle.ac_app.specs.Decoded.{DecodeHasCause, ComesUnless}
use Rattle.ac_app.specs.Run.{AsksDecode, HasCause}
use Rattle.ac_app.proofs.Done.{StreamsAreSized}
use Rattle.ac_app.proofs.Jobs.{asked_cause}

-- ---- what is known of frames

-- a lawful frame has no fault
abbrev pub FramesAreWhole : Type 0
FramesAreWhole = (o : Options) (l : Layout) (i : ℕ) (x : Places) (plan : Plan) (frame : List ℕ) (fault : FrameFault) → AreBytes frame → IsFrame o l i x plan frame → IsFault frame fault → ⊥

-- what is read of it has the kind of its layout
abbrev pub FramesAreOfLayout : Type 0
FramesAreOfLayout = (o : Options) (l : Layout) (i : ℕ) (x : Places) (plan : Plan) (frame : List ℕ) (g : FrameCodes) → IsFrame o l i x plan frame → IsReading frame g
    → (g.head.fscod ≡ l.fscod) × (g.head.acmod ≡ l.acmod) × (g.head.lfeon ≡ l.lfe)

-- each stands at its own place
abbrev pub FramesStand : Type 0
FramesStand = (o : Options) (k i : ℕ) (x : Sound) (stream lines : List ℕ) → IsRate o.rate → x.layout.fscod ≤ 2 → IsStream o x k stream lines → i < k
    → (said line later : List ℕ) × (lines ≡ said ++ (line ++ later)) × IsFrameAt o x i (take (frame_size o x i) (drop (stream_size o x i) stream)) line

pub record FrameLaws : Type 0 where
  pub whole : FramesAreWhole
  pub kind : FramesAreOfLayout
  pub sized : StreamsAreSized
  pub stand : FramesStand

-- ---- bytes

bytes_drop : (n : ℕ) (xs : List ℕ) → AreBytes xs → AreBytes (drop n xs)
bytes_drop n xs are k below =
    let left = length-drop n xs in
    subst (λ (x : ℕ). x < 2 ^ 8) (sym (get_or-drop n xs k 0)) (are (n + k) (omega (arith, below, left)))

bytes_take : (n : ℕ) (xs : List ℕ) → AreBytes xs → AreBytes (take n xs)
bytes_take n xs are k below =
    let kept = length-take n xs in
    subst (λ (x : ℕ). x < 2 ^ 8) (sym (get_or-take n xs k 0 (omega (arith, below, kept)))) (are k (omega (arith, below, kept)))

six_of : (xs : List ℕ) → 6 ≤ length xs → AreBytes xs → SixFit xs
six_of xs long are k below = are k (omega (arith, long, below))

-- ---- the next frame

-- the bytes begin with a frame of this size
record Next (o : Options) (l : Layout) (i : ℕ) (x : Places) (n : ℕ) (rest : List ℕ) : Type 0 where
  plan : Plan
  is : IsFrame o l i x plan (take n rest)
  long : n ≤ length rest
  are : AreBytes rest

-- its own bytes are needed
record Needs (n : ℕ) (rest : List ℕ) : Type 0 where
  needs : needed rest ≡ n
  least : 128 ≤ n

stands_needs : (n : ℕ) (rest : List ℕ) (r : Record) → n ≤ length rest → AreBytes rest → StandsFor (bits_of (take n rest)) r → Needs n rest
unfolding record_spelled
stands_needs n rest r long are p =
    let front = take n rest in
    let behind = blocks_spelled r.head [] r.blocks ++ (r.aux ++ tail_spelled r) in
    let count : 8 * length front ≡ 16 * words_of r.head = sym (length-bits_of front) ∙ p.size in
    let kept : length front ≡ min n (length rest) = length-take n rest in
    let is = head_is r.head r.addbsi p.is_record.head in
    let fit = sizes_fit r.head.fscod r.head.frmsizecod (below_is 3 Fscod r.head.fscod is.fscod) (below_is 38 Frmsizecod r.head.frmsizecod is.frmsizecod) in
    let least = fit.0 in
    let size : n ≡ 2 * words_of r.head = omega (arith, count, kept, long) in
    let six : 6 ≤ length rest = omega (arith, size, least, long) in
    let whole : bits_of rest ≡ whole_head.spell (r.head, r.addbsi) ++ (behind ++ bits_of (drop n rest)) =
    ap bits_of (sym (take-append-drop n rest))
    ∙ (bits_of-append front (drop n rest)
    ∙ (ap (λ (l : List Bool). l ++ bits_of (drop n rest)) p.whole
    ∙ append_assoc (whole_head.spell (r.head, r.addbsi)) behind (bits_of (drop n rest)))) in
    let s = says_size rest r.head r.addbsi (behind ++ bits_of (drop n rest)) (six_of rest six are) six p.is_record.head whole in
    record {
      needs = needed_sized rest six s.none ∙ (ap (λ (w : ℕ). 2 * w) s.words ∙ sym size);
      least = omega (arith, size, least);
    }

packed_needs : (q : Quantised) (n : ℕ) (rest : List ℕ) → n ≤ length rest → AreBytes rest → IsPacked q (take n rest) → Needs n rest
packed_needs q n rest long are p = stands_needs n rest _ long are p.stands

next_needs : (o : Options) (l : Layout) (i : ℕ) (x : Places) (n : ℕ) (rest : List ℕ) → Next o l i x n rest → Needs n rest
next_needs o l i x n rest next = packed_needs _ n rest next.long next.are next.is.coded

-- a frame that begins there has its size, and the kind of the layout
abbrev layout_kind : Layout → Kind
layout_kind l = record { fscod = l.fscod; acmod = l.acmod; lfe = l.lfe }

next_size : (o : Options) (l : Layout) (i : ℕ) (x : Places) (n : ℕ) (rest : List ℕ) (g : Reading) → Next o l i x n rest → IsReading rest g → size_of g ≡ n
next_size o l i x n rest g next r =
    let w = next_needs o l i x n rest next in
    let least = w.least in
    let long = next.long in
    sym (reading_needs rest g (six_of rest (omega (arith, least, long)) next.are) r) ∙ w.needs

kind_by : (a b : ℕ) (c : Bool) (l : Layout) → (a ≡ l.fscod) × (b ≡ l.acmod) × (c ≡ l.lfe) → record { fscod = a; acmod = b; lfe = c } ≡ layout_kind l
kind_by a b c l (p, q, r) =
    ap (λ (f : ℕ). record { fscod = f; acmod = b; lfe = c }) p
    ∙ (ap (λ (m : ℕ). record { fscod = l.fscod; acmod = m; lfe = c }) q
    ∙ ap (λ (e : Bool). record { fscod = l.fscod; acmod = l.acmod; lfe = e }) r)

next_kind : FramesAreOfLayout → (o : Options) (l : Layout) (i : ℕ) (x : Places) (n : ℕ) (rest : List ℕ) (g : Reading) → Next o l i x n rest → IsReading rest g → kind_of g ≡ layout_kind l
next_kind kinds o l i x n rest g next r =
    let size = next_size o l i x n rest g next r in
    kind_by g.head.fscod g.head.acmod g.head.lfeon l (kinds o l i x next.plan (take n rest) g next.is (read_taken n rest g (omega (arith, size)) r))

-- it isn't refused, behind frames of the layout's kind
next_accepted : FramesAreWhole → FramesAreOfLayout → (o : Options) (l : Layout) (i : ℕ) (x : Places) (n : ℕ) (rest : List ℕ) (old : Decoding) (fault : FrameFault) → Next o l i x n rest
    → ForSome old.kind (λ k. k ≡ layout_kind l) → IsRefusal old rest fault → ⊥
next_accepted whole kinds o l i x n rest old fault next same (inl f) =
    let w = next_needs o l i x n rest next in
    let needs = w.needs in
    let long = next.long in
    let looked : looked_at rest ≡ n = omega (arith, needs, long) in
    whole o l i x next.plan (take n rest) fault (bytes_take n rest next.are) next.is (subst (λ (m : ℕ). IsFault (take m rest) fault) looked ((same_looked rest fault).back f))
next_accepted whole kinds o l i x n rest old fault next same (inr other) =
    let w = next_needs o l i x n rest next in
    let needs = w.needs in
    let least = w.least in
    let is = next_kind kinds o l i x n rest other.other next other.reading in
    never_refused old rest other.other fault (bytes_take (looked_at rest) rest next.are) (omega (arith, needs, least)) other.reading (λ k e. same k e ∙ sym is) (inr other)

-- ---- a stream

-- a frame of the sound begins at each place but the last, where there is nothing
record Known (o : Options) (k : ℕ) (x : Sound) (stream : List ℕ) : Type 0 where
  long : length stream ≡ stream_size o x k
  next : (i : ℕ) → i < k → Next o x.layout i (places x i) (frame_size o x i) (drop (stream_size o x i) stream)

size_until : (o : Options) (x : Sound) (i k : ℕ) → i < k → stream_size o x i + frame_size o x i ≤ stream_size o x k
unfolding stream_size
size_until o x i zero below = absurd (omega (arith, below))
size_until o x i (suc k) below =
    elim (cases_lt i k) [
      | inl h ↦ let e = size_until o x i k h in omega (arith, e)
      | inr h ↦ let same : i ≡ k = omega arith in subst (λ (j : ℕ). stream_size o x i + frame_size o x i ≤ stream_size o x j + frame_size o x j) same (omega arith)
    ]

known : FrameLaws → (o : Options) (k : ℕ) (x : Sound) (stream lines : List ℕ) → AreBytes stream → IsRate o.rate → x.layout.fscod ≤ 2 → IsStream o x k stream lines → Known o k x stream
known laws o k x stream lines are rate bound p =
    let long = laws.sized o k x stream lines rate bound p in
    record {
      long = long;
      next = λ i below.
          let at = laws.stand o k i x stream lines rate bound p below in
          let until = size_until o x i k below in
          let left = length-drop (stream_size o x i) stream in
          record { plan = at.4.plan; is = at.4.is_frame; long = omega (arith, long, until, left); are = bytes_drop (stream_size o x i) stream are };
    }

-- behind frames that were accepted stand so many of the sound's
record Behind (o : Options) (k : ℕ) (x : Sound) (stream : List ℕ) (from : ℕ) (gs : List Reading) (rest : List ℕ) : Type 0 where
  within : from + length gs ≤ k
  rests : rest ≡ drop (stream_size o x (from + length gs)) stream
  kinds : ForSome (kind_behind gs) (λ j. j ≡ layout_kind x.layout)

none_behind : (o : Options) (k : ℕ) (x : Sound) (stream : List ℕ) (from : ℕ) (rest : List ℕ) → from ≤ k → drop (stream_size o x from) stream ≡ rest → Behind o k x stream from [] rest
none_behind o k x stream from rest inside f =
    let same : from ≡ from + 0 = omega arith in
    record {
      within = omega (arith, inside);
      rests = sym f ∙ ap (λ (n : ℕ). drop (stream_size o x n) stream) same;
      kinds = λ j e. absurd cc;
    }

some_same : (a j : Kind) → Some a ≡ Some j → a ≡ j
some_same a j e = cc

more_behind : (o : Options) (k : ℕ) (x : Sound) (stream : List ℕ) (from : ℕ) (g : Reading) (gs : List Reading) (rest : List ℕ) → kind_of g ≡ layout_kind x.layout → Behind o k x stream (suc from) gs rest
    → Behind o k x stream from (g ∷ gs) rest
more_behind o k x stream from g gs rest is w =
    let same : suc from + length gs ≡ from + suc (length gs) = omega arith in
    let within = w.within in
    record {
      within = omega (arith, within);
      rests = w.rests ∙ ap (λ (n : ℕ). drop (stream_size o x n) stream) same;
      kinds = λ j e. subst (λ (m : Kind). m ≡ layout_kind x.layout) (some_same (kind_of g) j e) is;
    }

next_place : (o : Options) (x : Sound) (stream : List ℕ) (from : ℕ) (g : Reading) → size_of g ≡ frame_size o x from → drop (size_of g) (drop (stream_size o x from) stream) ≡ drop (stream_size o x (suc from)) stream
unfolding stream_size
next_place o x stream from g size =
    let sum : stream_size o x from + size_of g ≡ stream_size o x from + frame_size o x from = omega (arith, size) in
    drop-drop (size_of g) (stream_size o x from) stream ∙ ap (λ (n : ℕ). drop n stream) sum

no_frame : (o : Options) (k : ℕ) (x : Sound) (stream : List ℕ) (g : Reading) → length stream ≡ stream_size o x k → IsReading (drop (stream_size o x k) stream) g → ⊥
no_frame o k x stream g size r =
    let b = begun (drop (stream_size o x k) stream) g r in
    let long = b.long in
    let least = b.least in
    let left = length-drop (stream_size o x k) stream in
    omega (arith, long, least, left, size)

walk : FramesAreOfLayout → (o : Options) (k : ℕ) (x : Sound) (stream : List ℕ) → Known o k x stream → (from : ℕ) (gs : List Reading) (rest : List ℕ) → from ≤ k → AreFrames (drop (stream_size o x from) stream) gs rest
    → Behind o k x stream from gs rest
unfolding AreFrames
walk kinds o k x stream is from [] rest inside f = none_behind o k x stream from rest inside f
walk kinds o k x stream is from (g ∷ gs) rest inside f =
    let here = drop (stream_size o x from) stream in
    elim (cases_lt from k) [
      | inl below ↦
          let next = is.next from below in
          let size = next_size o x.layout from (places x from) (frame_size o x from) here g next f.0 in
          let kind = next_kind kinds o x.layout from (places x from) (frame_size o x from) here g next f.0 in
          let more = subst (λ (l : List ℕ). AreFrames l gs rest) (next_place o x stream from g size) f.1 in
          more_behind o k x stream from g gs rest kind (walk kinds o k x stream is (suc from) gs rest (omega (arith, below)) more)
      | inr over ↦
          let same : from ≡ k = omega (arith, inside, over) in
          absurd (no_frame o k x stream g is.long (subst (λ (j : ℕ). IsReading (drop (stream_size o x j) stream) g) same f.0))
    ]

-- ---- no refusal

from_start : (o : Options) (x : Sound) (stream rest : List ℕ) (gs : List Reading) → AreFrames stream gs rest → AreFrames (drop (stream_size o x 0) stream) gs rest
unfolding stream_size
from_start o x stream rest gs f = f

ends_there : (o : Options) (k i : ℕ) (x : Sound) (stream rest : List ℕ) → length stream ≡ stream_size o x k → i ≡ k → rest ≡ drop (stream_size o x i) stream → 0 < length rest → ⊥
ends_there o k i x stream rest size same e some =
    let long : length rest ≡ length (drop (stream_size o x k) stream) = ap length e ∙ ap (λ (j : ℕ). length (drop (stream_size o x j) stream)) same in
    let left = length-drop (stream_size o x k) stream in
    omega (arith, long, left, size, some)

refused_behind : FrameLaws → (o : Options) (k : ℕ) (x : Sound) (stream : List ℕ) (i : ℕ) (fault : FrameFault) → Known o k x stream → (b : IsBadStream stream i fault) → Behind o k x stream 0 b.before b.rest → ⊥
refused_behind laws o k x stream i fault is b w =
    let at = length b.before in
    let old : Decoding = record { kind = kind_behind b.before; delays = [] } in
    let within = w.within in
    let none : 0 + at ≡ at = omega arith in
    let rests : b.rest ≡ drop (stream_size o x at) stream = w.rests ∙ ap (λ (n : ℕ). drop (stream_size o x n) stream) none in
    elim (cases_lt at k) [
      | inl below ↦
          let refused = subst (λ (l : List ℕ). IsRefusal old l fault) rests b.refused in
          next_accepted laws.whole laws.kind o x.layout at (places x at) (frame_size o x at) (drop (stream_size o x at) stream) old fault (is.next at below) w.kinds refused
      | inr over ↦ ends_there o k at x stream b.rest is.long (omega (arith, within, over)) rests b.some
    ]

pub accepted : FrameLaws → (o : Options) (k : ℕ) (x : Sound) (stream lines : List ℕ) (i : ℕ) (fault : FrameFault) → AreBytes stream → IsRate o.rate → x.layout.fscod ≤ 2 → IsStream o x k stream lines
    → IsBadStream stream i fault → ⊥
accepted laws o k x stream lines i fault are rate bound p b =
    let is = known laws o k x stream lines are rate bound p in
    refused_behind laws o k x stream i fault is b (walk laws.kind o k x stream is 0 b.before b.rest (omega arith) (from_start o x stream b.rest b.before b.accepted.frames))

pub ends : (o : Options) (k : ℕ) (x : Sound) (stream lines : List ℕ) → IsStream o x k stream lines → length stream ≤ limit → IsTooLong stream → ⊥
ends o k x stream lines p within long = let there = long.there in omega (arith, within, there)

-- ---- the answer

status_is : FrameLaws → (o : Options) (k : ℕ) (x : Sound) (stream lines : List ℕ) (status : Status) → AreBytes stream → IsRate o.rate → x.layout.fscod ≤ 2 → IsStream o x k stream lines → length stream ≤ limit
    → DecodeHasCause status stream → ComesUnless statuses.Ok status
status_is laws o k x stream lines statuses.Ok are rate bound p within cause a b c = refl
status_is laws o k x stream lines statuses.Usage are rate bound p within cause a b c = absurd cause
status_is laws o k x stream lines (statuses.BadWav kind place) are rate bound p within cause a b c = absurd cause
status_is laws o k x stream lines (statuses.RateTooLow part asked room) are rate bound p within cause a b c = absurd cause
status_is laws o k x stream lines (statuses.BadStream i fault) are rate bound p within cause a b c = absurd (accepted laws o k x stream lines i fault are rate bound p cause)
status_is laws o k x stream lines statuses.ReadFault are rate bound p within cause a b c = absurd (a refl)
status_is laws o k x stream lines statuses.WriteFault are rate bound p within cause a b c = absurd (b refl)
status_is laws o k x stream lines statuses.NoMemory are rate bound p within cause a b c = absurd (c refl)
status_is laws o k x stream lines (statuses.TooLong most) are rate bound p within cause a b c = absurd (ends o k x stream lines p within cause.1)

pub answers : FrameLaws → (ws : List Text) (o : Options) (k : ℕ) (x : Sound) (stream lines : List ℕ) (status : Status) → AreBytes stream → IsRate o.rate → x.layout.fscod ≤ 2 → IsStream o x k stream lines
    → length stream ≤ limit → AsksDecode ws → HasCause ws status stream → ComesUnless statuses.Ok status
answers laws ws o k x stream lines status are rate bound p within asks cause a b c =
    status_is laws o k x stream lines status are rate bound p within (asked_cause ws Decode status stream asks cause c) a b c
