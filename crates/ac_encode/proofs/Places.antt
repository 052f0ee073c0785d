-- The places of a frame, and those of the next.
use Rattle.std.proofs.Common.{◌≡◌, ℕ, suc, ◌+◌, ◌-◌, ◌*◌, ◌/◌, ◌^◌, ◌≤◌, ◌<◌, Bool, List, [], ◌++◌, length, drop, Option, Some, None, Result, Ok, Err, refl, ap, sym, subst, ◌∙◌, arith, inl, inr, ℤ, pos, slice_index_or, unsigned_abs, replicate, lit≤}
use Rattle.std.specs.Prelude.{slice_range, if◌then◌else◌}
use Rattle.std.proofs.lemmas.Bool.{cases_eq, cases_lt, lt-ltb, le-ltb, ne_eqb}
use Rattle.std.proofs.lemmas.List.{append-nil, get_or_append_left, get_or-append-add, get_or-drop, get_or-take, get_or-replicate, length-drop, length-take-le, length-replicate}
use Rattle.ac_base.specs.Sigma.{Within}
use Rattle.ac_enc.specs.Encoding.{Encoding, at_first}
use Rattle.ac_enc.specs.Frame.{IsFrame, joined, joined_by}
use Rattle.ac_enc.specs.Layout.{Layout, channels_in}
use Rattle.ac_io.specs.Outside.{Adds}
use Rattle.ac_io.proofs.Written.{adds_both}
use Rattle.ac_plan.specs.declared.answer.Plan.{Plan}
use Rattle.ac_words.specs.declared.meaning.Options.{Options}
use Rattle.ac_encode.specs.Sound.{Sound, sound_at, frame_count}
use Rattle.ac_encode.specs.Lines.{frame_line}
use Rattle.ac_encode.specs.Stream.{places, IsStream, FramesDepend}
use Rattle.ac_encode.specs.Frames.{Frames, IsLast, IsOwn, AreLast, AreOwn, RowsFit, FrameLeaves, FramesLeave, StandsAt}
use Rattle.ac_world.specs.Emits.{Emits}
use Rattle.ac_world.specs.World.{Sinks}
use Rattle.ac_world.specs.declared.writing.Broken.{Broken}

before_sound : (s : Sound) (c p : ℕ) → p < 256 → sound_at s c p ≡ pos 0
unfolding sound_at
before_sound s c p h = ap (λ b. if b then pos 0 else s.sample c (p - 256)) (lt-ltb p 256 h)

in_sound : (s : Sound) (c p j : ℕ) → p ≡ 256 + j → sound_at s c p ≡ s.sample c j
unfolding sound_at
in_sound s c p j e =
    let late : 256 ≤ p = omega arith in
    let same : p - 256 ≡ j = omega arith in
    ap (λ b. if b then pos 0 else s.sample c (p - 256)) (le-ltb p 256 late) ∙ ap (s.sample c) same

zeros_at : (last : List ℤ) → last ≡ replicate 256 (pos 0) → (p : ℕ) → p < 256 → slice_index_or last p (pos 0) ≡ pos 0
zeros_at last zeros p below = ap (λ l. slice_index_or l p (pos 0)) zeros ∙ get_or-replicate 256 p (pos 0) (pos 0) below

pub silent : (s : Sound) (c : ℕ) (last : List ℤ) → last ≡ replicate 256 (pos 0) → IsLast s c 0 last
silent s c last zeros p below = zeros_at last zeros p below ∙ sym (before_sound s c (1536 * 0 + p) (omega arith))

own_place : (s : Sound) (c i p t : ℕ) (pcm : List ℤ) → p ≡ 256 + t → t < 1536 → IsOwn s c i pcm → slice_index_or pcm t (pos 0) ≡ places s i c p
own_place s c i p t pcm e below own =
    own t below ∙ sym (in_sound s c (1536 * i + p) (1536 * i + t) (omega arith))

joined_places : (s : Sound) (c i : ℕ) (last pcm : List ℤ) → length last ≡ 256 → IsLast s c i last → IsOwn s c i pcm
    → (p : ℕ) → p < 1792 → joined last pcm p ≡ places s i c p
joined_places s c i last pcm long before own p below =
    elim (cases_lt p 256) [
      | inl h ↦ get_or_append_left last pcm (pos 0) p (omega arith) ∙ before p h
      | inr h ↦
          let at : p ≡ length last + (p - 256) = omega arith in
          ap (λ n. slice_index_or (last ++ pcm) n (pos 0)) at
          ∙ (get_or-append-add last pcm (p - 256) (pos 0) ∙ own_place s c i p (p - 256) pcm (omega arith) (omega arith) own)
    ]

-- a channel of the encoder is one of the sound
in_layout : (s : Sound) (l : Layout) (c : ℕ) → s.layout ≡ l → c < channels_in l → c < channels_in s.layout
in_layout s l c same inside = subst (λ (m : Layout). c < channels_in m) (sym same) inside

of_layout : (s : Sound) (l : Layout) (c : ℕ) → s.layout ≡ l → c < channels_in s.layout → c < channels_in l
of_layout s l c same inside = subst (λ (m : Layout). c < channels_in m) same inside

pub frame_told : FramesDepend → (o : Options) (l : Layout) (s : Sound) (i : ℕ) (lasts rows : List (List ℤ)) (plan : Plan) (frame : List ℕ) → s.layout ≡ l
    → ((c : ℕ) → c < channels_in l → length (slice_index_or lasts c []) ≡ 256) → AreLast s i lasts → AreOwn s i rows
    → IsFrame o l i (joined_by lasts rows) plan frame → IsFrame o l i (places s i) plan frame
frame_told depends o l s i lasts rows plan frame same long before own is =
    depends o l i (joined_by lasts rows) (places s i) plan frame
    (λ c p inside below. joined_places s c i (slice_index_or lasts c []) (slice_index_or rows c []) (long c inside) (before c (in_layout s l c same inside)) (own c (in_layout s l c same inside)) p below) is

from_range : (pcm : List ℤ) (p : ℕ) → p < 256 → slice_index_or (slice_range pcm 1280 1536) p (pos 0) ≡ slice_index_or pcm (1280 + p) (pos 0)
from_range pcm p below = get_or-take 256 (drop 1280 pcm) p (pos 0) below ∙ get_or-drop 1280 pcm p (pos 0)

pub last_next : (s : Sound) (c i : ℕ) (pcm last : List ℤ) → last ≡ slice_range pcm 1280 1536 → IsOwn s c i pcm → IsLast s c (i + 1) last
last_next s c i pcm last same own p below =
    let at : 1536 * (i + 1) + p ≡ 1536 * i + (1536 + p) = omega arith in
    ap (λ l. slice_index_or l p (pos 0)) same
    ∙ (from_range pcm p below
    ∙ (own_place s c i (1536 + p) (1280 + p) pcm (omega arith) (omega arith) own ∙ sym (ap (sound_at s c) at)))

pub lasts_next : (s : Sound) (l : Layout) (i : ℕ) (rows lasts : List (List ℤ)) → s.layout ≡ l
    → ((c : ℕ) → c < channels_in l → slice_index_or lasts c [] ≡ slice_range (slice_index_or rows c []) 1280 1536) → AreOwn s i rows → AreLast s (i + 1) lasts
lasts_next s l i rows lasts same kept own c inside =
    last_next s c i (slice_index_or rows c []) (slice_index_or lasts c []) (kept c (of_layout s l c same inside)) (own c inside)

-- the last samples of a row are 256
last_long : (pcm last : List ℤ) → length pcm ≡ 1536 → last ≡ slice_range pcm 1280 1536 → length last ≡ 256
last_long pcm last long same =
    let behind = length-drop 1280 pcm in
    ap length same ∙ length-take-le 256 (drop 1280 pcm) (omega (arith, behind, long))

pub lasts_long : (l : Layout) (rows lasts : List (List ℤ)) → channels_in l ≤ 6 → ((c : ℕ) → c < 6 → length (slice_index_or rows c []) ≡ 1536)
    → ((c : ℕ) → c < channels_in l → slice_index_or lasts c [] ≡ slice_range (slice_index_or rows c []) 1280 1536) → (c : ℕ) → c < channels_in l → length (slice_index_or lasts c []) ≡ 256
lasts_long l rows lasts six long kept c inside =
    last_long (slice_index_or rows c []) (slice_index_or lasts c []) (long c (omega (arith, inside, six))) (kept c inside)

-- ---- the encoder

first_zeros : (o : Options) (l : Layout) (e : Encoding) (c : ℕ) → e ≡ at_first o l → c < 6 → slice_index_or e.last c [] ≡ replicate 256 (pos 0)
first_zeros o l e c is six = ap (λ (d : Encoding). slice_index_or d.last c []) is ∙ get_or-replicate 6 c (replicate 256 (pos 0)) [] six

pub silent_first : (s : Sound) (o : Options) (l : Layout) (e : Encoding) → e ≡ at_first o l → channels_in s.layout ≤ 6 → AreLast s 0 e.last
silent_first s o l e is six c inside = silent s c (slice_index_or e.last c []) (first_zeros o l e c is (omega (arith, inside, six)))

pub stands_first : (o : Options) (l : Layout) (e : Encoding) → e ≡ at_first o l → channels_in l ≤ 6 → StandsAt o l 0 e
stands_first o l e is six = record {
  options = ap (λ (d : Encoding). d.options) is;
  layout_is = ap (λ (d : Encoding). d.layout) is;
  number = ap (λ (d : Encoding). d.frames) is;
  six = six;
  long = λ c inside. ap length (first_zeros o l e c is (omega (arith, inside, six))) ∙ length-replicate 256 (pos 0);
}

pub stands_by : (o p : Options) (l m : Layout) (i : ℕ) (e : Encoding) → o ≡ p → l ≡ m → StandsAt o l i e → StandsAt p m i e
stands_by o p l m i e same known s =
    subst (λ (q : Options). StandsAt q m i e) same (subst (λ (k : Layout). StandsAt o k i e) known s)

-- by its own options and layout
pub stands_own : (o : Options) (l : Layout) (i : ℕ) (e : Encoding) → StandsAt o l i e → StandsAt e.options e.layout i e
stands_own o l i e s = stands_by o e.options l e.layout i e (sym s.options) (sym s.layout_is) s

pub stands_now : (o : Options) (l : Layout) (i : ℕ) (e : Encoding) → StandsAt o l i e → StandsAt e.options e.layout e.frames e
stands_now o l i e s = subst (λ (n : ℕ). StandsAt e.options e.layout n e) (sym s.number) (stands_own o l i e s)

pub rows_by : (l m : Layout) (rows : List (List ℤ)) → l ≡ m → RowsFit l rows → RowsFit m rows
rows_by l m rows same fit = subst (λ (k : Layout). RowsFit k rows) same fit

-- ---- one frame

pub frame_leaves : (o : Options) (l : Layout) (s : Sound) (n i : ℕ) (plan : Plan) (result : Result (Unit {0}) Broken) (old new : Sinks) (frame : List ℕ)
    → n ≡ i → s.layout ≡ l → IsFrame o l n (places s n) plan frame → Emits frame (frame_line i (length frame) plan) result old new → FrameLeaves o s i result old new
frame_leaves o l s n i plan result old new frame at same is emits =
    let here = subst (λ (m : ℕ). IsFrame o l m (places s m) plan frame) at is in
    record {
      frame = frame;
      line = frame_line i (length frame) plan;
      is_frame = record { plan = plan; is_frame = subst (λ (m : Layout). IsFrame o m i (places s i) plan frame) (sym same) here; is_line = refl };
      emits = emits;
    }

pub leaves_by : (o p : Options) (s : Sound) (i : ℕ) (result : Result (Unit {0}) Broken) (old new : Sinks) → o ≡ p → FrameLeaves o s i result old new → FrameLeaves p s i result old new
leaves_by o p s i result old new same w = subst (λ (q : Options). FrameLeaves q s i result old new) same w

-- ---- the frames

adds_nothing : (a : Option (List ℕ)) → Adds a a []
adds_nothing None = tt
adds_nothing (Some before) = ap (λ l. Some l) (sym (append-nil before))

pub no_frames : (o : Options) (s : Sound) (old : Sinks) → Frames o s 0 old old
unfolding IsStream
no_frames o s old = record {
  stream = [];
  lines = [];
  is_stream = (refl, refl);
  output = adds_nothing old.output.bytes;
  report = adds_nothing old.report.bytes;
}

pub so_many : (o : Options) (s : Sound) (k count : ℕ) (old new : Sinks) → k ≡ count → Frames o s k old new → Frames o s count old new
so_many o s k count old new e f = subst (λ (n : ℕ). Frames o s n old new) e f

pub one_more : (o : Options) (s : Sound) (k : ℕ) (u : Unit {0}) (old between new : Sinks) → Frames o s k old between → FrameLeaves o s k (Ok u) between new → Frames o s (k + 1) old new
unfolding IsStream
one_more o s k u old between new f w =
    let more : suc k ≡ k + 1 = omega arith in
    so_many o s (suc k) (k + 1) old new more (record {
      stream = f.stream ++ w.frame;
      lines = f.lines ++ w.line;
      is_stream = (f.stream, w.frame, f.lines, w.line, f.is_stream, w.is_frame, refl, refl);
      output = adds_both old.output.bytes between.output.bytes new.output.bytes f.stream w.frame f.output w.emits.0;
      report = adds_both old.report.bytes between.report.bytes new.report.bytes f.lines w.line f.report w.emits.1;
    })

pub stopped : (o : Options) (s : Sound) (full count i : ℕ) (broken : Broken) (old between new : Sinks) → full ≤ i → i < count → Frames o s i old between
    → FrameLeaves o s i (Err broken) between new → FramesLeave o s full count (Err broken) old new
stopped o s full count i broken old between new least below f w = (i, least, below, (between, f, w))

-- ---- the last frames

-- the frames of so many samples are no fewer than the full ones
pub enough : (f r n : ℕ) → n ≡ 1536 * f + r → f ≤ frame_count n
enough f r n e = elim (cases_eq n 0) [
  | inl none ↦ omega (arith, none, e)
  | inr some ↦ subst (λ (b : Bool). f ≤ (if b then 0 else (n + 256 + 1535) / 1536)) (sym (ne_eqb n 0 some)) (omega (arith, e))
]

-- behind the last sample there are zeros
behind_last : (s : Sound) (c i : ℕ) (row : List ℤ) → ((c' j : ℕ) → s.count ≤ j → s.sample c' j ≡ pos 0) → s.count ≤ 1536 * i → row ≡ replicate 1536 (pos 0) → IsOwn s c i row
behind_last s c i row silent past zeros t below =
    ap (λ l. slice_index_or l t (pos 0)) zeros ∙ (get_or-replicate 1536 t (pos 0) (pos 0) below ∙ sym (silent c (1536 * i + t) (omega arith)))

zeros_within : (row : List ℤ) (n : ℕ) → row ≡ replicate n (pos 0) → Within (2 ^ 23) n row
zeros_within row n zeros p below =
    subst (λ (z : ℤ). unsigned_abs z ≤ 2 ^ 23) (sym (ap (λ l. slice_index_or l p (pos 0)) zeros ∙ get_or-replicate n p (pos 0) (pos 0) below)) (lit≤ tt)

-- a row of those that were cleared
cleared : (rows : List (List ℤ)) (c : ℕ) → rows ≡ replicate 6 (replicate 1536 (pos 0)) → c < 6 → slice_index_or rows c [] ≡ replicate 1536 (pos 0)
cleared rows c zeros six = ap (λ l. slice_index_or l c []) zeros ∙ get_or-replicate 6 c (replicate 1536 (pos 0)) [] six

pub six_by : (s : Sound) (l : Layout) → s.layout ≡ l → channels_in l ≤ 6 → channels_in s.layout ≤ 6
six_by s l same six = subst (λ (m : Layout). channels_in m ≤ 6) (sym same) six

pub all_behind : (s : Sound) (i : ℕ) (rows : List (List ℤ)) → channels_in s.layout ≤ 6 → ((c' j : ℕ) → s.count ≤ j → s.sample c' j ≡ pos 0) → s.count ≤ 1536 * i
    → rows ≡ replicate 6 (replicate 1536 (pos 0)) → AreOwn s i rows
all_behind s i rows six silent past zeros c inside =
    behind_last s c i (slice_index_or rows c []) silent past (cleared rows c zeros (omega (arith, inside, six)))

pub zeros_fit : (l : Layout) (rows : List (List ℤ)) → channels_in l ≤ 6 → rows ≡ replicate 6 (replicate 1536 (pos 0)) → RowsFit l rows
zeros_fit l rows six zeros c inside = zeros_within (slice_index_or rows c []) 1536 (cleared rows c zeros (omega (arith, inside, six)))

-- ---- the frames of an encoder that was used before

-- what it adds by its own options it adds by those that it was made with
pub all_by : (o p : Options) (s : Sound) (k count : ℕ) (old mid new : Sinks) → p ≡ o → Frames o s k old mid → (Frames p s k old mid → Frames p s count old new) → Frames o s count old new
all_by o p s k count old mid new same f all = subst (λ (q : Options). Frames q s count old new) same (all (subst (λ (q : Options). Frames q s k old mid) (sym same) f))

pub front_by : (o p : Options) (s : Sound) (k count : ℕ) (broken : Broken) (old mid new : Sinks) → p ≡ o → Frames o s k old mid
    → (Frames p s k old mid → FramesLeave p s k count (Err broken) old new) → FramesLeave o s k count (Err broken) old new
front_by o p s k count broken old mid new same f front =
    subst (λ (q : Options). FramesLeave q s k count (Err broken) old new) same (front (subst (λ (q : Options). Frames q s k old mid) (sym same) f))
