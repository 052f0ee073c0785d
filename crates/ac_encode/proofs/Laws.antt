-- Streams by their definitions alone.
use Rattle.std.proofs.Common.{◌≡◌, ℕ, zero, suc, ◌+◌, ◌-◌, ◌*◌, ◌<◌, ◌≤◌, List, [], ◌++◌, length, take, drop, ap, ap₂, sym, subst, ◌∙◌, arith, inl, inr, length-append, append_assoc}
use Rattle.std.specs.Prelude.{ℤ, pos, nat_lt, if◌then◌else◌}
use Rattle.std.proofs.Math.Seq.{drop-append_seam}
use Rattle.std.proofs.lemmas.Bool.{cases_lt, lt-ltb}
use Rattle.std.proofs.lemmas.List.{append-nil, take-append-le, take_all}
use Rattle.ac_base.specs.Rates.{IsRate}
use Rattle.ac_plan.specs.declared.answer.Plan.{Plan}
use Rattle.ac_record.specs.Laws.{AreBytes}
use Rattle.ac_enc.specs.Frame.{IsFrame}
use Rattle.ac_enc.specs.Layout.{Layout}
use Rattle.ac_words.specs.declared.meaning.Options.{Options}
use Rattle.ac_encode.proofs.Heads.{heads as same_heads}
use Rattle.ac_encode.specs.Lines.{frame_line}
use Rattle.ac_encode.specs.Sound.{Sound, Continues, sound_at}
use Rattle.ac_encode.specs.Stream.{places, IsFrameAt, IsStream, frame_size, stream_size, FramesDepend, FramesAreSized, FramesAreOne}
use Rattle.ac_encode.specs.Frames.{Frames, Added}
use Rattle.ac_world.specs.World.{Sinks}

-- ---- sizes

pub size : FramesAreSized → (o : Options) (k : ℕ) (x : Sound) (s lines : List ℕ) → IsRate o.rate → x.layout.fscod ≤ 2 → IsStream o x k s lines → length s ≡ stream_size o x k
unfolding IsStream stream_size
size sized o zero x s lines is f e = ap length e.0
size sized o (suc k) x s lines is f (front, frame, said, line, p, w, e, g) =
    ap length e ∙ (length-append front frame ∙ ap₂ (λ (a b : ℕ). a + b) (size sized o k x front said is f p) (sized o x.layout k (places x k) w.plan frame is f w.is_frame))

-- ---- the first frames, and those behind them

-- the first k of them, their lines, and what comes behind
pub record Front (o : Options) (x : Sound) (k : ℕ) (s lines : List ℕ) : Type 0 where
  pub front : List ℕ
  pub said : List ℕ
  pub back : List ℕ
  pub later : List ℕ
  pub is : IsStream o x k front said
  pub stream : s ≡ front ++ back
  pub report : lines ≡ said ++ later

joins : (s front back mid end : List ℕ) → s ≡ front ++ end → front ≡ mid ++ back → s ≡ mid ++ (back ++ end)
joins s front back mid end e f = e ∙ (ap (λ l. l ++ end) f ∙ append_assoc mid back end)

pub split : (o : Options) (k more : ℕ) (x : Sound) (s lines : List ℕ) → IsStream o x (k + more) s lines → Front o x k s lines
unfolding IsStream
split o k zero x s lines p =
    let same : k + 0 ≡ k = omega arith in
    record {
      front = s;
      said = lines;
      back = [];
      later = [];
      is = subst (λ (n : ℕ). IsStream o x n s lines) same p;
      stream = sym (append-nil s);
      report = sym (append-nil lines);
    }
split o k (suc m) x s lines p =
    let same : k + suc m ≡ suc (k + m) = omega arith in
    let q = subst (λ (n : ℕ). IsStream o x n s lines) same p in
    let f = split o k m x q.0 q.2 q.4 in
    record {
      front = f.front;
      said = f.said;
      back = f.back ++ q.1;
      later = f.later ++ q.3;
      is = f.is;
      stream = joins s q.0 f.back f.front q.1 q.6 f.stream;
      report = joins lines q.2 f.later f.said q.3 q.7 f.report;
    }

-- ---- a frame at its place

-- frame i, its line, and what stands before and behind both
pub record At (o : Options) (x : Sound) (i : ℕ) (s lines : List ℕ) : Type 0 where
  pub frame : List ℕ
  pub said : List ℕ
  pub line : List ℕ
  pub later : List ℕ
  pub is : IsFrameAt o x i frame line
  pub place : take (frame_size o x i) (drop (stream_size o x i) s) ≡ frame
  pub report : lines ≡ said ++ (line ++ later)

in_middle : (front frame back s : List ℕ) (n m : ℕ) → length front ≡ n → length frame ≡ m → s ≡ (front ++ frame) ++ back → take m (drop n s) ≡ frame
in_middle front frame back s n m long size e =
    let behind : drop n s ≡ frame ++ back = ap₂ (λ (k : ℕ) (l : List ℕ). drop k l) (sym long) (e ∙ append_assoc front frame back) ∙ drop-append_seam front (frame ++ back) in
    ap (take m) behind ∙ (take-append-le m frame back (omega (arith, size)) ∙ take_all m frame (omega (arith, size)))

last_at : FramesAreSized → (o : Options) (i : ℕ) (x : Sound) (s lines mid said back later : List ℕ) → IsRate o.rate → x.layout.fscod ≤ 2 → IsStream o x (suc i) mid said → s ≡ mid ++ back → lines ≡ said ++ later → At o x i s lines
unfolding IsStream
last_at sized o i x s lines mid said back later is f p e g =
    record {
      frame = p.1;
      said = p.2;
      line = p.3;
      later = later;
      is = p.5;
      place = in_middle p.0 p.1 back s (stream_size o x i) (frame_size o x i) (size sized o i x p.0 p.2 is f p.4) (sized o x.layout i (places x i) p.5.plan p.1 is f p.5.is_frame) (e ∙ ap (λ l. l ++ back) p.6);
      report = joins lines said p.3 p.2 later g p.7;
    }

pub frame_at : FramesAreSized → (o : Options) (k i : ℕ) (x : Sound) (s lines : List ℕ) → IsRate o.rate → x.layout.fscod ≤ 2 → IsStream o x k s lines → i < k → At o x i s lines
frame_at sized o k i x s lines is f p below =
    let same : k ≡ suc i + (k - suc i) = omega arith in
    let q = split o (suc i) (k - suc i) x s lines (subst (λ (m : ℕ). IsStream o x m s lines) same p) in
    last_at sized o i x s lines q.front q.said q.back q.later is f q.is q.stream q.report

pub frame_in : FramesAreSized → (o : Options) (k i : ℕ) (x : Sound) (s lines : List ℕ) → IsRate o.rate → x.layout.fscod ≤ 2 → IsStream o x k s lines → i < k
    → (said line later : List ℕ) × (lines ≡ said ++ (line ++ later)) × IsFrameAt o x i (take (frame_size o x i) (drop (stream_size o x i) s)) line
frame_in sized o k i x s lines is f p below =
    let a = frame_at sized o k i x s lines is f p below in
    (a.said, a.line, a.later, a.report, subst (λ (l : List ℕ). IsFrameAt o x i l a.line) (sym a.place) a.is)

-- ---- the samples alone tell the stream

same_place : (x y : Sound) (n c p : ℕ) → Continues x n y → p < n + 256 → sound_at x c p ≡ sound_at y c p
unfolding sound_at
same_place x y n c p same below =
    elim (cases_lt p 256) [
      | inl h ↦ ap (λ b. if b then pos 0 else x.sample c (p - 256)) (lt-ltb p 256 h) ∙ sym (ap (λ b. if b then pos 0 else y.sample c (p - 256)) (lt-ltb p 256 h))
      | inr h ↦ ap (λ (z : ℤ). if nat_lt p 256 then pos 0 else z) (sym (same.samples c (p - 256) (omega arith)))
    ]

pub fewer : (x y : Sound) (n m : ℕ) → m ≤ n → Continues x n y → Continues x m y
fewer x y n m less same = record {
  layout = same.layout;
  samples = λ c j below. same.samples c j (omega arith);
}

pub turned : (x y : Sound) (n : ℕ) → Continues x n y → Continues y n x
turned x y n same = record {
  layout = sym same.layout;
  samples = λ c j below. sym (same.samples c j below);
}

pub frame_of_each : FramesDepend → (o : Options) (i : ℕ) (x y : Sound) (frame line : List ℕ) → Continues x (1536 * (i + 1)) y → IsFrameAt o x i frame line → IsFrameAt o y i frame line
frame_of_each depends o i x y frame line same w =
    let told = depends o x.layout i (places x i) (places y i) w.plan frame (λ c q inside below. same_place x y (1536 * (i + 1)) c (1536 * i + q) same (omega arith)) w.is_frame in
    record { plan = w.plan; is_frame = subst (λ (l : Layout). IsFrame o l i (places y i) w.plan frame) (sym same.layout) told; is_line = w.is_line }

pub told : FramesDepend → (o : Options) (k : ℕ) (x y : Sound) (s lines : List ℕ) → Continues x (1536 * k) y → IsStream o x k s lines → IsStream o y k s lines
unfolding IsStream
told depends o zero x y s lines same p = p
told depends o (suc k) x y s lines same p =
    let before = fewer x y (1536 * suc k) (1536 * k) (omega arith) same in
    let here = fewer x y (1536 * suc k) (1536 * (k + 1)) (omega arith) same in
    (p.0, p.1, p.2, p.3, told depends o k x y p.0 p.2 before p.4, frame_of_each depends o k x y p.1 p.3 here p.5, p.6, p.7)

pub of_each : FramesDepend → (o : Options) (x : Sound) (k : ℕ) (old new : Sinks) → Frames o x k old new → Added o x k old new
of_each depends o x k old new f = record {
  stream = f.stream;
  lines = f.lines;
  are = λ s same. told depends o k x s f.stream f.lines same f.is_stream;
  output = f.output;
  report = f.report;
}

-- ---- the heads of frames

pub heads : (o : Options) (i : ℕ) (x : Sound) (f line g another : List ℕ) → IsRate o.rate → x.layout.fscod ≤ 2 → AreBytes f → AreBytes g → IsFrameAt o x i f line → IsFrameAt o x i g another
    → take 4 (drop 4 f) ≡ take 4 (drop 4 g)
heads o i x f line g another is known bf bg p q = same_heads o x.layout i (places x i) p.plan q.plan f g bf bg p.is_frame q.is_frame

-- ---- one frame of a plan

pub one : FramesAreOne → (o : Options) (i : ℕ) (x : Sound) (f line g another : List ℕ) → IsRate o.rate → x.layout.fscod ≤ 2 → AreBytes f → AreBytes g → (p : IsFrameAt o x i f line) → (q : IsFrameAt o x i g another)
    → p.plan ≡ q.plan → (f ≡ g) × (line ≡ another)
one once o i x f line g another is known bf bg p q same =
    let frame = once o x.layout i (places x i) q.plan f g is known bf bg (subst (λ (a : Plan). IsFrame o x.layout i (places x i) a f) same p.is_frame) q.is_frame in
    (frame, p.is_line ∙ (ap₂ (λ (l : List ℕ) (a : Plan). frame_line i (length l) a) frame same ∙ sym q.is_line))
