-- The loop over the frames of an input.
use Rattle.std.proofs.Common.{◌≡◌, ℕ, zero, suc, ◌+◌, ◌*◌, ◌/◌, ◌<◌, ◌≤◌, Bool, true, false, List, drop, Option, Some, Err, refl, ap, sym, subst, ◌∙◌, arith, lit≤, ℤ, pos}
use Rattle.std.specs.Prelude.{nat_lt, ◌&&◌, if◌then◌else◌}
use Rattle.std.proofs.lemmas.Bool.{le-ltb, ne_eqb}
use Rattle.std.proofs.Math.Nat.{le-div_iff_mul-le, div-lt_iff_lt-mul, add-mul}
use Rattle.std.proofs.lemmas.Nat.{mul-le}
use Rattle.ac_enc.specs.Encoding.{Encoding}
use Rattle.ac_enc.specs.Layout.{channels_in, layout_of}
use Rattle.ac_io.specs.Within.{IsAt}
use Rattle.ac_wav.specs.declared.body.WavBody.{WavBody}
use Rattle.ac_riff.specs.declared.fault.WavFault.{WavFault}
use Rattle.ac_riff.specs.declared.fault.WavFault.TheVariants as wav
use Rattle.ac_riff.specs.declared.head.WavHead.{WavHead}
use Rattle.ac_riff.specs.Form.{IsHead, IsOfProfile}
use Rattle.ac_base.specs.Shape.{full_of, count_of}
use Rattle.ac_wav.specs.Body.{head_in, taken_by, IsBehind, StandsBehind}
use Rattle.ac_riff.specs.Refusal.{HeadRead}
use Rattle.ac_wav.specs.Samples.{align_of, value_of, offset_of, data_length, sample_count, sample_in, RowsWithin, SamplesRead, IsUnsampled, UnsampledLeaves, FramesTaken}
use Rattle.ac_wav.specs.Whole.{end_of, behind}
use Rattle.ac_wav.proofs.Whole.{read_at, read_within, read_left, unsampled_refused, unsampled_needs}
use Rattle.ac_words.specs.declared.meaning.Options.{Options}
use Rattle.ac_world.specs.declared.writing.Broken.{Broken}
use Rattle.ac_encode.specs.declared.frames.Read.{Read}
use Rattle.ac_encode.specs.declared.frames.Stop.TheVariants as stops
use Rattle.ac_encode.specs.declared.work.Work.{Work}
use Rattle.ac_encode.specs.Frames.{Frames, FrameLeaves, FramesLeave, AreLast, AreOwn, RowsFit}
use Rattle.ac_world.specs.Emits.{RoseAt}
use Rattle.ac_encode.specs.Input.{Suits, IsBegun, place_behind}
use Rattle.ac_world.specs.Limit.{limit}
use Rattle.ac_encode.specs.Loop.{AllRead, StopLeaves}
use Rattle.ac_encode.specs.Encodes.{Encodes, Breaks}
use Rattle.ac_encode.specs.Sound.{sound_of, frame_count, frames_of}
use Rattle.ac_encode.specs.Stream.{FramesDepend}
use Rattle.ac_world.specs.World.{Told, Sinks, World}
use Rattle.ac_encode.proofs.Inputs.{no_unsuited}
use Rattle.ac_encode.proofs.Laws.{of_each, frame_of_each}

-- ---- the state of the loop

-- the source and the body stand behind the samples of the first i frames, and these frames were added
pub record SoFar (o : Options) (bytes : List ℕ) (head : WavHead) (body : WavBody) (i : ℕ) (lasts : List (List ℤ)) (left : Option (List ℕ)) (old new : Sinks) : Type 0 where
  pub stands : StandsBehind bytes body (1536 * i) left
  pub some : 1536 * i ≤ sample_count head bytes
  pub before : AreLast (sound_of head bytes) i lasts
  pub frames : Frames o (sound_of head bytes) i old new

pub begun_by : (o : Options) (bytes : List ℕ) (head : WavHead) (left : Option (List ℕ)) → Suits o head → HeadRead bytes limit head left → IsBegun o bytes head
begun_by o bytes head left suits h = record { begins = h.is; within = h.within; suits = suits }

-- at the first byte of the data
pub at_first : (bytes : List ℕ) (head : WavHead) (body : WavBody) (left : Option (List ℕ)) → head_in body ≡ head → IsBehind body 0 → HeadRead bytes limit head left → StandsBehind bytes body (1536 * 0) left
at_first bytes head body left same first h =
    let start : taken_by body ≡ head.taken = omega (arith, first.taken_is, ap (λ (w : WavHead). w.taken) same) in
    record { at = subst (λ n. IsAt bytes n left) (sym start) (read_at bytes limit head left h); behind = subst (IsBehind body) (omega arith) first }

-- behind one frame more
pub one_further : (bytes : List ℕ) (body : WavBody) (i after : ℕ) (left : Option (List ℕ)) → IsBehind body (1536 * i + 1536) → IsAt bytes after left → after ≡ taken_by body → StandsBehind bytes body (1536 * (i + 1)) left
one_further bytes body i after left stands at e =
    record { at = subst (λ n. IsAt bytes n left) e at; behind = subst (IsBehind body) (omega arith) stands }

-- ---- channels

-- a head has at most six
count_most : (lfe : Bool) → count_of lfe ≤ 1
count_most true = lit≤ tt
count_most false = lit≤ tt

full_most : (acmod : ℕ) → acmod ≤ 7 → full_of acmod ≤ 5
full_most zero most = lit≤ tt
full_most (suc zero) most = lit≤ tt
full_most (suc (suc zero)) most = lit≤ tt
full_most (suc (suc (suc zero))) most = lit≤ tt
full_most (suc (suc (suc (suc zero)))) most = lit≤ tt
full_most (suc (suc (suc (suc (suc zero))))) most = lit≤ tt
full_most (suc (suc (suc (suc (suc (suc zero)))))) most = lit≤ tt
full_most (suc (suc (suc (suc (suc (suc (suc zero))))))) most = lit≤ tt
full_most (suc (suc (suc (suc (suc (suc (suc (suc n)))))))) most = absurd (omega (arith, most))

pub six_most : (head : WavHead) → IsOfProfile head → channels_in (layout_of head) ≤ 6
six_most head p = omega (arith, full_most head.acmod p.acmod_most, count_most head.lfe)

-- ---- samples

and_no : (b : Bool) (z : ℤ) → (if b && false then z else pos 0) ≡ pos 0
and_no true z = refl
and_no false z = refl

-- a sample behind the last
pub past_end : (head : WavHead) (count : ℕ) (bytes : List ℕ) (c j : ℕ) → count ≤ j → sample_in head count bytes c j ≡ pos 0
unfolding sample_in
past_end head count bytes c j late =
    ap (λ b. if nat_lt c head.channels && b then value_of head.bits (drop (offset_of head c j) bytes) else pos 0) (le-ltb j count late)
    ∙ and_no (nat_lt c head.channels) (value_of head.bits (drop (offset_of head c j) bytes))

-- the rows have the samples of frame i
pub own_rows : (bytes : List ℕ) (head : WavHead) (before i after n : ℕ) (rows : List (List ℤ)) (left : Option (List ℕ)) → SamplesRead bytes head before (1536 * i) after n rows left
    → channels_in (layout_of head) ≤ 6 → AreOwn (sound_of head bytes) i rows
own_rows bytes head before i after n rows left r six c inside = r.rows_are c (omega (arith, inside, six))

-- and have 24 bits
pub rows_fit : (head : WavHead) (rows : List (List ℤ)) → channels_in (layout_of head) ≤ 6 → RowsWithin rows → RowsFit (layout_of head) rows
rows_fit head rows six within c inside = within c (omega (arith, inside, six))

-- the data ended
pub all_read : (o : Options) (bytes : List ℕ) (head : WavHead) (before after i n : ℕ) (e : Encoding) (work : Work) (old new : World) → e.layout ≡ layout_of head → channels_in (layout_of head) ≤ 6 → IsHead bytes head → after ≤ limit → 1536 * i ≤ sample_count head bytes
    → AreLast (sound_of head bytes) i e.last → Frames o (sound_of head bytes) i old.sinks new.sinks
    → SamplesRead bytes head before (1536 * i) after n work.rows new.input.bytes → n < 1536 → AllRead o bytes head (record { frames = i; rest = n }) e work old new
all_read o bytes head before after i n e work old new known six h within some last frames r short =
    let count = r.count in
    record {
      wav = read_within bytes head before (1536 * i) after n limit work.rows new.input.bytes h r short within;
      left = read_left bytes head before (1536 * i) after n work.rows new.input.bytes r short;
      ends = record {
        layout_is = sym known;
        count = omega (arith, count, some, short);
        silent = λ c j late. past_end head (sample_count head bytes) (drop head.taken bytes) c j late;
        last = last;
        rows = own_rows bytes head before i after n work.rows new.input.bytes r six;
      };
      frames = frames;
    }

-- ---- why the samples weren't read

pub unread : FramesDepend → (o : Options) (bytes : List ℕ) (head : WavHead) (taken i : ℕ) (fault : WavFault) (old new : World) → IsBegun o bytes head → head.taken ≤ taken → taken ≤ limit
    → IsUnsampled bytes head taken limit fault → UnsampledLeaves bytes head taken limit fault new.input.bytes → FramesTaken bytes head limit i new.input.bytes
    → Frames o (sound_of head bytes) i old.sinks new.sinks → StopLeaves o (stops.Input fault) bytes old new
unread depends o bytes head taken i (wav.Bad kind place) old new b least room u l t f =
    ((unsampled_refused bytes head taken limit kind place b.begins u, no_unsuited o bytes head b.begins b.suits), l, record { head = head; begun = b; count = i; taken = t; added = of_each depends o (sound_of head bytes) i old.sinks new.sinks f })
unread depends o bytes head taken i wav.ReadFault old new b least room u l t f =
    record { head = head; begun = b; count = i; taken = t; added = of_each depends o (sound_of head bytes) i old.sinks new.sinks f }
unread depends o bytes head taken i wav.TooLong old new b least room u l t f =
    ((unsampled_needs bytes head taken limit b.begins least room u, no_unsuited o bytes head b.begins b.suits), l, record { head = head; begun = b; count = i; taken = t; added = of_each depends o (sound_of head bytes) i old.sinks new.sinks f })

-- ---- a write that failed

more_than : (i n : ℕ) → 1536 * (i + 1) ≤ n → i < frame_count n
more_than i n some =
    let any : n ≡ 0 → ⊥ = λ none. omega (arith, none, some) in
    subst (λ (b : Bool). i < (if b then 0 else (n + 256 + 1535) / 1536)) (sym (ne_eqb n 0 any)) (omega (arith, some))

pub broke : FramesDepend → (o : Options) (bytes : List ℕ) (head : WavHead) (k : ℕ) (broken : Broken) (old new : World) (mid : Sinks) → IsBegun o bytes head → RoseAt broken old.sinks new.sinks
    → k < frames_of (sound_of head bytes) → new.input.bytes ≡ Some (drop (place_behind head bytes (k + 1)) bytes)
    → Frames o (sound_of head bytes) k old.sinks mid → FrameLeaves o (sound_of head bytes) k (Err broken) mid new.sinks → Breaks o bytes old new
broke depends o bytes head k broken old new mid b rose fewer left f w =
    record {
      head = head;
      begun = b;
      broken = broken;
      rose = rose;
      added = record {
        count = k;
        between = mid;
        added = of_each depends o (sound_of head bytes) k old.sinks mid f;
        frame = w.frame;
        line = w.line;
        is_frame = λ s same. frame_of_each depends o k (sound_of head bytes) s w.frame w.line same w.is_frame;
        emits = w.emits;
      };
      fewer = fewer;
      left = left;
    }

-- a full frame's samples lie within the data
full_within : (head : WavHead) (bytes : List ℕ) (q : ℕ) → 0 < align_of head → q ≤ sample_count head bytes → q * align_of head ≤ data_length head bytes
full_within head bytes q some h = (le-div_iff_mul-le some).0 h

rest_past : (head : WavHead) (bytes : List ℕ) (q : ℕ) → 0 < align_of head → sample_count head bytes < q → data_length head bytes ≤ q * align_of head
rest_past head bytes q some h = omega (arith, (div-lt_iff_lt-mul some).0 h)

-- the source stands behind the samples of frame k
pub behind_full : (bytes : List ℕ) (head : WavHead) (k after : ℕ) (left : Option (List ℕ)) → 0 < align_of head → 1536 * (k + 1) ≤ sample_count head bytes
    → after ≡ head.taken + 1536 * (k + 1) * align_of head → IsAt bytes after left → left ≡ Some (drop (place_behind head bytes (k + 1)) bytes)
behind_full bytes head k after left some most e at =
    let fits = full_within head bytes (1536 * (k + 1)) some most in
    let same : after ≡ place_behind head bytes (k + 1) = omega (arith, e, fits) in
    at.left_is ∙ ap (λ n. Some (drop n bytes)) same

-- or behind the data
pub behind_rest : (bytes : List ℕ) (head : WavHead) (k : ℕ) (left : Option (List ℕ)) → 0 < align_of head → sample_count head bytes < 1536 * (k + 1) → left ≡ Some (behind head bytes)
    → left ≡ Some (drop (place_behind head bytes (k + 1)) bytes)
behind_rest bytes head k left some fewer e =
    let past = rest_past head bytes (1536 * (k + 1)) some fewer in
    let same : end_of head bytes ≡ place_behind head bytes (k + 1) = omega (arith, past) in
    e ∙ ap (λ n. Some (drop n bytes)) same

-- a full frame failed
pub full_broke : FramesDepend → (o : Options) (bytes : List ℕ) (head : WavHead) (k after : ℕ) (broken : Broken) (old new : World) (mid : Sinks) → IsBegun o bytes head → 0 < align_of head
    → RoseAt broken old.sinks new.sinks → 1536 * (k + 1) ≤ sample_count head bytes → after ≡ head.taken + 1536 * (k + 1) * align_of head → IsAt bytes after new.input.bytes
    → Frames o (sound_of head bytes) k old.sinks mid → FrameLeaves o (sound_of head bytes) k (Err broken) mid new.sinks → StopLeaves o (stops.Sink broken) bytes old new
full_broke depends o bytes head k after broken old new mid b align rose most e at f w =
    broke depends o bytes head k broken old new mid b rose (more_than k (sample_count head bytes) most) (behind_full bytes head k after new.input.bytes align most e at) f w

-- a frame behind the full ones failed
pub rest_broke : FramesDepend → (o : Options) (bytes : List ℕ) (head : WavHead) (read : Read) (e : Encoding) (work : Work) (broken : Broken) (old mid new : World) → IsBegun o bytes head → 0 < align_of head
    → RoseAt broken old.sinks new.sinks → read.rest < 1536 → new.input ≡ mid.input → AllRead o bytes head read e work old mid
    → FramesLeave o (sound_of head bytes) read.frames (frames_of (sound_of head bytes)) (Err broken) old.sinks new.sinks → StopLeaves o (stops.Sink broken) bytes old new
rest_broke depends o bytes head read e work broken old mid new b align rose few same a (k, least, below, (between, f, w)) =
    let count = a.ends.count in
    let left = ap (λ (t : Told). t.bytes) same ∙ a.left in
    broke depends o bytes head k broken old new between b rose below (behind_rest bytes head k new.input.bytes align (omega (arith, count, few, least)) left) f w

-- all frames were added
pub encodes : (o : Options) (bytes : List ℕ) (head : WavHead) (read : Read) (e : Encoding) (work : Work) (old mid new : World) → Suits o head → new.input ≡ mid.input → AllRead o bytes head read e work old mid
    → Frames o (sound_of head bytes) (frames_of (sound_of head bytes)) old.sinks new.sinks → Encodes o bytes old new
encodes o bytes head read e work old mid new suits same a f =
    record {
      head = head;
      input = record { wav = a.wav; suits = suits };
      left = ap (λ (t : Told). t.bytes) same ∙ a.left;
      frames = f;
    }

-- ---- how far the loop has come

-- two bytes a sample at least
pub few : (head : WavHead) (body : WavBody) (i : ℕ) → head_in body ≡ head → 0 < align_of head → taken_by body ≤ limit → IsBehind body (1536 * i) → 1536 * i ≤ limit
few head body i same some room stands =
    let a : align_of (head_in body) ≡ align_of head = ap (λ (w : WavHead). align_of w) same in
    let least : 1536 * i * 1 ≤ 1536 * i * align_of (head_in body) = mul-le (1536 * i) 1 (1536 * i) (align_of (head_in body)) (omega arith) (omega (arith, a, some)) in
    omega (arith, least, stands.taken_is, room)

-- a full frame takes some bytes
pub further : (old new : WavBody) (head : WavHead) (i : ℕ) → head_in old ≡ head → head_in new ≡ head_in old → 0 < align_of head → IsBehind old (1536 * i) → IsBehind new (1536 * i + 1536) → taken_by old < taken_by new
further old new head i same kept some before after =
    let a : align_of (head_in old) ≡ align_of head = ap (λ (w : WavHead). align_of w) same in
    let f : taken_by new ≡ (head_in old).taken + (1536 * i + 1536) * align_of (head_in old) = after.taken_is ∙ ap (λ (w : WavHead). w.taken + (1536 * i + 1536) * align_of w) kept in
    let d : (1536 * i + 1536) * align_of (head_in old) ≡ 1536 * i * align_of (head_in old) + 1536 * align_of (head_in old) = add-mul (1536 * i) 1536 (align_of (head_in old)) in
    omega (arith, before.taken_is, f, d, a, some)

-- where it stands then
pub taken_full : (old new : WavBody) (head : WavHead) (i : ℕ) → head_in old ≡ head → head_in new ≡ head_in old → IsBehind new (1536 * i + 1536) → taken_by new ≡ head.taken + 1536 * (i + 1) * align_of head
taken_full old new head i same kept after =
    let more : 1536 * i + 1536 ≡ 1536 * (i + 1) = omega arith in
    after.taken_is ∙ (ap (λ (w : WavHead). w.taken + (1536 * i + 1536) * align_of w) (kept ∙ same) ∙ ap (λ n. head.taken + n * align_of head) more)
