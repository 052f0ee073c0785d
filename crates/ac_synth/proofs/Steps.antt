-- From frame to frame of a generated sound.
use Rattle.std.specs.Prelude.{slice_range}
use Rattle.std.proofs.Common.{◌≡◌, ℕ, ◌+◌, ◌*◌, ◌<◌, Bool, List, [], ◌∷◌, ◌++◌, length, Option, Some, None, false, refl, ap, ap₂, sym, subst, ◌∙◌, arith, inl, inr, ℤ, pos, slice_index_or}
use Rattle.ac_base.specs.Shape.{full_of, count_of}
use Rattle.ac_base.specs.Sigma.{Lists}
use Rattle.ac_codec.specs.declared.refused.Row.{Row}
use Rattle.ac_enc.specs.Encoding.{Encoding, at_first}
use Rattle.ac_enc.specs.Frame.{Places, IsFrame, joined_by}
use Rattle.ac_enc.specs.Layout.{Layout, channels_in}
use Rattle.ac_encode.specs.Frames.{StandsAt, AreLast, AreOwn}
use Rattle.ac_encode.specs.Stream.{places, FramesDepend}
use Rattle.ac_encode.proofs.Places.{frame_told, lasts_next, lasts_long, silent_first, stands_first}
use Rattle.ac_dec.specs.Decoding as decodings
use Rattle.ac_dec.specs.Decoding.{Decoding, Decodes, kind_of, IsFirstChange, IsChange, IsRefusal}
use Rattle.ac_dec.specs.Heard.{channels_of}
use Rattle.ac_dec.specs.Sound.{sound_of, IsBehind}
use Rattle.ac_dec.specs.declared.kind.Heard.{Heard}
use Rattle.ac_dec.specs.declared.kind.Kind.{Kind}
use Rattle.ac_noise.specs.Noise.{Noising, noise_at}
use Rattle.ac_plan.specs.declared.answer.Plan.{Plan}
use Rattle.ac_record.specs.declared.codes.FrameFault.{FrameFault}
use Rattle.ac_record.specs.Frames.{FrameCodes}
use Rattle.ac_record.specs.Laws.{AreBytes}
use Rattle.ac_record.specs.Readings.{IsReading}
use Rattle.ac_wav.specs.declared.written.Pcm.{Pcm}
use Rattle.ac_words.specs.declared.meaning.Options.{Options}
use Rattle.ac_synth.specs.Loop.{sound_in, StandsBefore, synth_kind, IsOfSynth, AreBehind, IsSomeFrame, IsHeardAs}
use Rattle.ac_synth.specs.Sums.{pcm_sum}
use Rattle.ac_synth.specs.Synth.{synth_options, synth_layout, generated, sum_of}
use Rattle.ac_synth.proofs.Lawful.{whole, kind}
use Rattle.ac_synth.proofs.Sums.{sum_of_more}

-- ---- a frame is made

by_names : (o p : Options) (l m : Layout) (i j : ℕ) (x : Places) (plan : Plan) (frame : List ℕ) → o ≡ p → l ≡ m → i ≡ j → IsFrame o l i x plan frame → IsFrame p m j x plan frame
by_names o p l m i j x plan frame a b c f =
    subst (λ (n : ℕ). IsFrame p m n x plan frame) c (subst (λ (k : Layout). IsFrame p k i x plan frame) b (subst (λ (q : Options). IsFrame q l i x plan frame) a f))

pub made_told : FramesDepend → (n : Noising) (e : Encoding) (rows : List (List ℤ)) (plan : Plan) (frame : List ℕ) → StandsBefore n e → AreOwn (sound_in n) n.given rows
    → IsFrame e.options e.layout e.frames (joined_by e.last rows) plan frame → IsFrame synth_options synth_layout n.given (places (sound_in n) n.given) plan frame
made_told depends n e rows plan frame s own f =
    let k = s.encoder in
    frame_told depends synth_options synth_layout (sound_in n) n.given e.last rows plan frame refl k.long s.last own
    (by_names e.options synth_options e.layout synth_layout e.frames n.given (joined_by e.last rows) plan frame k.options k.layout_is k.number f)

-- the encoder behind it
pub record IsNext (rows : List (List ℤ)) (e f : Encoding) : Type 0 where
  pub options : f.options ≡ e.options
  pub layout_is : f.layout ≡ e.layout
  pub number : f.frames ≡ e.frames + 1
  pub last : (c : ℕ) → c < channels_in e.layout → slice_index_or f.last c [] ≡ slice_range (slice_index_or rows c []) 1280 1536

last_by : (seed frames k seed' frames' k' : ℕ) (lasts : List (List ℤ)) → seed ≡ seed' → frames ≡ frames' → k ≡ k' → AreLast (generated seed frames) k lasts → AreLast (generated seed' frames') k' lasts
last_by seed frames k seed' frames' k' lasts a b c h =
    subst (λ (n : ℕ). AreLast (generated seed' frames') n lasts) c (subst (λ (n : ℕ). AreLast (generated seed' n) k lasts) b (subst (λ (n : ℕ). AreLast (generated n frames) k lasts) a h))

pub made_next : (n m : Noising) (e f : Encoding) (rows : List (List ℤ)) → StandsBefore n e → AreOwn (sound_in n) n.given rows → ((c : ℕ) → c < 6 → length (slice_index_or rows c []) ≡ 1536) → IsNext rows e f
    → m.seed ≡ n.seed → m.frames ≡ n.frames → m.given ≡ n.given + 1 → StandsBefore m f
made_next n m e f rows s own long is seed frames given =
    let k = s.encoder in
    let kept : (c : ℕ) → c < channels_in synth_layout → slice_index_or f.last c [] ≡ slice_range (slice_index_or rows c []) 1280 1536 = λ c inside. is.last c (subst (λ (l : Layout). c < channels_in l) (sym k.layout_is) inside) in
    let number = k.number in
    let more = is.number in
    record {
      encoder = record {
        options = is.options ∙ k.options;
        layout_is = is.layout_is ∙ k.layout_is;
        number = omega (arith, number, more, given);
        six = k.six;
        long = lasts_long synth_layout rows f.last k.six long kept;
      };
      last = last_by n.seed n.frames (n.given + 1) m.seed m.frames m.given f.last (sym seed) (sym frames) (sym given) (lasts_next (sound_in n) synth_layout n.given rows f.last refl kept own);
    }

-- before the first
pub first_stands : (n : Noising) (e : Encoding) → e ≡ at_first synth_options synth_layout → n.given ≡ 0 → StandsBefore n e
first_stands n e is none = record {
  encoder = subst (λ (k : ℕ). StandsAt synth_options synth_layout k e) (sym none) (stands_first synth_options synth_layout e is (omega arith));
  last = subst (λ (k : ℕ). AreLast (sound_in n) k e.last) (sym none) (silent_first (sound_in n) synth_options synth_layout e is (omega arith));
}

-- ---- a frame is decoded

same_kind : (g : FrameCodes) → (g.head.fscod ≡ 0) × (g.head.acmod ≡ 2) × (g.head.lfeon ≡ false) → kind_of g ≡ synth_kind
same_kind g (a, b, c) = λ i. record { fscod = a i; acmod = b i; lfe = c i }

pub kind_is : (frame : List ℕ) (g : FrameCodes) → IsSomeFrame frame → IsReading frame g → kind_of g ≡ synth_kind
kind_is frame g f r = same_kind g (kind synth_options synth_layout f.number f.from f.plan frame g f.is r)

never_changed : (k n : Kind) (row : Row) → k ≡ n → IsFirstChange k n row → ⊥
never_changed k n row same (inl (other, e)) = other (ap (λ (x : Kind). x.fscod) same)
never_changed k n row same (inr (inl (a, other, e))) = other (ap (λ (x : Kind). x.acmod) same)
never_changed k n row same (inr (inr (a, b, other, e))) = other (ap (λ (x : Kind). x.lfe) same)

never_other : (o : Option Kind) (g : FrameCodes) (row : Row) → IsOfSynth o → kind_of g ≡ synth_kind → IsChange o g row → ⊥
never_other None g row before now change = change
never_other (Some k) g row before now change = never_changed k (kind_of g) row (before k refl ∙ sym now) change

pub never_refused : (d : Decoding) (frame : List ℕ) (fault : FrameFault) → AreBytes frame → IsSomeFrame frame → IsOfSynth d.kind → IsRefusal d frame fault → ⊥
never_refused d frame fault are f of_synth (inl is) = whole synth_options synth_layout f.number f.from f.plan frame fault are f.is is
never_refused d frame fault are f of_synth (inr other) = never_other d.kind other.other other.row of_synth (kind_is frame other.other f other.reading) other.is_change

-- two channels
two_by : (acmod : ℕ) (lfe : Bool) → acmod ≡ 2 → lfe ≡ false → full_of acmod + count_of lfe ≡ 2
two_by acmod lfe a b = ap₂ (λ (m : ℕ) (t : Bool). full_of m + count_of t) a b

pub two_channels : (frame : List ℕ) (g : FrameCodes) → IsSomeFrame frame → IsReading frame g → channels_of g ≡ 2
two_channels frame g f r =
    let k = kind synth_options synth_layout f.number f.from f.plan frame g f.is r in
    two_by g.head.acmod g.head.lfeon k.1 k.2

pub two_heard : (frame : List ℕ) (g : FrameCodes) (old new : Decoding) (heard : Heard) (out : Pcm) → IsSomeFrame frame → Decodes frame old g heard out new → full_of heard.acmod + count_of heard.lfe ≡ 2
two_heard frame g old new heard out f d =
    let k = kind synth_options synth_layout f.number f.from f.plan frame g f.is d.reading in
    two_by heard.acmod heard.lfe (d.is_heard.acmod ∙ k.1) (d.is_heard.lfe ∙ k.2)

one_of : (k x : Kind) → Some k ≡ Some x → x ≡ k
one_of k x e = cc

some_kind : (o : Option Kind) (k : Kind) → o ≡ Some k → k ≡ synth_kind → IsOfSynth o
some_kind o k e same = λ x f. one_of k x (sym e ∙ f) ∙ same

-- the laws of the sound of frames
abbrev pub NextLaw : Type 0
NextLaw = (gs : List FrameCodes) (bytes : List ℕ) (old new : Decoding) (g : FrameCodes) (heard : Heard) (out : Pcm) (c b t : ℕ)
    → Decodes bytes old g heard out new → IsBehind gs c (slice_index_or old.delays c []) → c < channels_of g → b < 6 → t < 256
    → slice_index_or (slice_index_or out.s c []) (256 * b + t) (pos 0) ≡ sound_of (gs ++ g ∷ []) c (6 * length gs + b) t

abbrev pub BehindLaw : Type 0
BehindLaw = (gs : List FrameCodes) (bytes : List ℕ) (old new : Decoding) (g : FrameCodes) (heard : Heard) (out : Pcm) (c : ℕ)
    → Decodes bytes old g heard out new → IsBehind gs c (slice_index_or old.delays c []) → c < channels_of g
    → IsBehind (gs ++ g ∷ []) c (slice_index_or new.delays c [])

abbrev pub FrontLaw : Type 0
FrontLaw = (gs more : List FrameCodes) (c j t : ℕ) → j < 6 * length gs → sound_of (gs ++ more) c j t ≡ sound_of gs c j t

pub heard_as : NextLaw → BehindLaw → FrontLaw → (frame : List ℕ) (old new : Decoding) (g : FrameCodes) (heard : Heard) (out : Pcm) (sum : ℕ) → IsSomeFrame frame → Decodes frame old g heard out new → sum ≡ pcm_sum out
    → IsHeardAs g sum old new
heard_as next behind front frame old new g heard out sum f d is =
    let two = two_channels frame g f d.reading in
    record {
      kind = some_kind new.kind (kind_of g) d.kind (kind_is frame g f d.reading);
      behind = λ gs before c lt. behind gs frame old new g heard out c d (before c lt) (omega (arith, lt, two));
      adds = λ gs before.
          sum_of_more gs g out (record {
            front = λ c j t lt. front gs (g ∷ []) c j t lt;
            next = λ c b t lt six below. next gs frame old new g heard out c b t d (before c lt) (omega (arith, lt, two)) six below;
          })
          ∙ ap (λ (n : ℕ). sum_of gs + n) (sym is);
    }

-- ---- what is drawn

pub own : (n : Noising) (rows : List (List ℤ)) → ((c : ℕ) → c < 6 → Lists 1536 (λ t. noise_at n.seed n.frames c (1536 * n.given + t)) (slice_index_or rows c [])) → AreOwn (sound_in n) n.given rows
own n rows drawn c inside = drawn c (omega (arith, inside))

never_some : (k : Kind) → None ≡ Some k → ⊥
never_some k e = absurd cc

pub first_kind : (d : Decoding) → d ≡ decodings.at_first → IsOfSynth d.kind
first_kind d e = subst (λ (x : Decoding). IsOfSynth x.kind) (sym e) (λ k f. absurd (never_some k f))

pub first_behind : ((c : ℕ) → c < 6 → IsBehind [] c (slice_index_or decodings.at_first.delays c [])) → (d : Decoding) → d ≡ decodings.at_first → AreBehind [] d
first_behind first d e = subst (λ (x : Decoding). AreBehind [] x) (sym e) (λ c lt. first c (omega (arith, lt)))
