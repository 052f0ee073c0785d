-- What a run that did all leaves is told by the words, the input and what the sinks held.
use Rattle.std.proofs.Common.{◌≡◌, ℕ, ◌+◌, ◌≤◌, List, ◌++◌, length, Option, Some, ap, sym, subst, ◌∙◌, length-append}
use Rattle.ac_base.specs.Rates.{IsRate}
use Rattle.ac_io.specs.Outside.{Adds}
use Rattle.ac_riff.specs.declared.head.WavHead.{WavHead}
use Rattle.ac_wav.specs.Whole.{behind}
use Rattle.ac_words.specs.Grammar.{Text}
use Rattle.ac_words.specs.declared.meaning.Command.TheVariants.{Encode}
use Rattle.ac_words.specs.declared.meaning.Options.{Options}
use Rattle.ac_encode.specs.Input.{IsInput}
use Rattle.ac_encode.specs.Sound.{Sound, sound_of, frames_of}
use Rattle.ac_encode.specs.Stream.{IsStream, stream_size}
use Rattle.ac_world.specs.World.{World}
use Rattle.ac_app.specs.Run.{AsksEncode, IsEncoded}
use Rattle.ac_encode.proofs.Inputs.{one_input, sampling}
use Rattle.ac_words.proofs.Said.{within_bounds}
use Rattle.ac_app.proofs.Jobs.{one_asked}

-- ---- the options that the words ask for

asked_rate : (ws : List Text) (o : Options) → AsksEncode ws o → IsRate o.rate
asked_rate ws o a = (within_bounds ws (Encode o) a).rate

-- ---- what is left

-- a stream has the bytes that its rate gives
abbrev pub StreamsAreSized : Type 0
StreamsAreSized = (o : Options) (k : ℕ) (x : Sound) (stream lines : List ℕ) → IsRate o.rate → x.layout.fscod ≤ 2 → IsStream o x k stream lines → length stream ≡ stream_size o x k

some_same : (a b : List ℕ) → Some a ≡ Some b → a ≡ b
some_same a b e = cc

-- where the old is told, so is the new
gained : (a b : Option (List ℕ)) (before now piece : List ℕ) → a ≡ Some before → b ≡ Some now → Adds a b piece → now ≡ before ++ piece
gained a b before now piece e f p = some_same now (before ++ piece) (sym f ∙ subst (λ (o : Option (List ℕ)). Adds o b piece) e p)

input_by : (o p : Options) (bytes : List ℕ) (head : WavHead) → o ≡ p → IsInput o bytes head → IsInput p bytes head
input_by o p bytes head same i = subst (λ (q : Options). IsInput q bytes head) same i

pub same_left : (ws : List Text) (o p : Options) (bytes : List ℕ) (old new again after : World) → AsksEncode ws o → AsksEncode ws p → IsEncoded o bytes old new → IsEncoded p bytes again after
    → new.input.bytes ≡ after.input.bytes
same_left ws o p bytes old new again after a b x y =
    x.left ∙ (ap (λ (w : WavHead). Some (behind w bytes)) (one_input p bytes x.head y.head (input_by o p bytes x.head (one_asked ws o p a b) x.input) y.input) ∙ sym y.left)

pub done_size : StreamsAreSized → (ws : List Text) (o : Options) (bytes before out : List ℕ) (old new : World) → AsksEncode ws o → (e : IsEncoded o bytes old new) → old.sinks.output.bytes ≡ Some before
    → new.sinks.output.bytes ≡ Some out → length out ≡ length before + stream_size o (sound_of e.head bytes) (frames_of (sound_of e.head bytes))
done_size sized ws o bytes before out old new a x f g =
    let told = gained old.sinks.output.bytes new.sinks.output.bytes before out x.stream f g x.output in
    let sound = sound_of x.head bytes in
    let long = sized o (frames_of sound) sound x.stream x.lines (asked_rate ws o a) (sampling o bytes x.head x.input) x.is_stream in
    ap length told ∙ (length-append before x.stream ∙ ap (λ n. length before + n) long)

pub same_size : StreamsAreSized → (ws : List Text) (o p : Options) (bytes before out other : List ℕ) (old new again after : World) → AsksEncode ws o → AsksEncode ws p → IsEncoded o bytes old new → IsEncoded p bytes again after
    → old.sinks.output.bytes ≡ Some before → new.sinks.output.bytes ≡ Some out → again.sinks.output.bytes ≡ Some before → after.sinks.output.bytes ≡ Some other → length out ≡ length other
same_size sized ws o p bytes before out other old new again after a b x y f g h k =
    let first = done_size sized ws o bytes before out old new a x f g in
    let second = done_size sized ws p bytes before other again after b y h k in
    let options = ap (λ (q : Options). length before + stream_size q (sound_of x.head bytes) (frames_of (sound_of x.head bytes))) (one_asked ws o p a b) in
    let heads = ap (λ (w : WavHead). length before + stream_size p (sound_of w bytes) (frames_of (sound_of w bytes))) (one_input p bytes x.head y.head (input_by o p bytes x.head (one_asked ws o p a b) x.input) y.input) in
    first ∙ (options ∙ (heads ∙ sym second))
