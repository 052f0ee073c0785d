-- The WAV and the lines of frames, one by one.
use Rattle.std.proofs.Common.{◌≡◌, ℕ, suc, ◌+◌, ◌*◌, ◌<◌, List, [], ◌∷◌, ◌++◌, append_assoc, length, Option, None, Some, Ok, refl, ap, sym, subst, ◌∙◌, arith, ℤ}
use Rattle.std.proofs.lemmas.List.{append-nil}
use Rattle.ac_io.specs.Outside.{Adds}
use Rattle.ac_io.proofs.Written.{adds_both}
use Rattle.ac_world.specs.World.{Sinks}
use Rattle.ac_reading.specs.Framed.{Reading}
use Rattle.ac_dec.specs.Sound.{sound_of}
use Rattle.ac_decode.specs.Stream.{size_of}
use Rattle.ac_decode.specs.Sound.{AreSamples, IsPiece, ArePieces, IsWav}
use Rattle.ac_decode.specs.Lines.{frame_line, lines_from, lines_of}
use Rattle.ac_decode.specs.Leaves.{Added, FrameLeaves}

-- ---- what is added to a sink

pub adds_nothing : (a : Option (List ℕ)) → Adds a a []
adds_nothing None = tt
adds_nothing (Some before) = ap (λ l. Some l) (sym (append-nil before))

-- ---- the WAV

-- the sound of frames is a front of the sound of more
abbrev pub FrontIsFront : Type 0
FrontIsFront = (gs more : List Reading) (c j t : ℕ) → j < 6 * length gs → sound_of (gs ++ more) c j t ≡ sound_of gs c j t

-- frames that come behind change nothing of the samples before
samples_front : (xs ys : List Reading) (i : ℕ) (g : Reading) (rows : List (List ℤ)) → ((c j t : ℕ) → j < 6 * (i + 1) → sound_of ys c j t ≡ sound_of xs c j t) → AreSamples xs i g rows → AreSamples ys i g rows
samples_front xs ys i g rows same are c b t channel block place = are c b t channel block place ∙ sym (same c (6 * i + b) t (omega (arith, block)))

pieces_front : (xs ys : List Reading) (i : ℕ) (gs : List Reading) (wav : List ℕ) → ((c j t : ℕ) → j < 6 * (i + length gs) → sound_of ys c j t ≡ sound_of xs c j t) → ArePieces xs i gs wav → ArePieces ys i gs wav
unfolding ArePieces
pieces_front xs ys i [] wav same are = are
pieces_front xs ys i (g ∷ gs) wav same (piece, more, is, are, whole) = (
  piece,
  more,
  (is.0, samples_front xs ys i g is.0 (λ c j t below. same c j t (omega (arith, below))) is.1, is.2),
  pieces_front xs ys (suc i) gs more (λ c j t below. same c j t (omega (arith, below))) are,
  whole,
)

piece_by : (xs : List Reading) (i j : ℕ) (g : Reading) (piece : List ℕ) → i ≡ j → IsPiece xs i g piece → IsPiece xs j g piece
piece_by xs i j g piece e is = subst (λ (n : ℕ). IsPiece xs n g piece) e is

pieces_more : (xs : List Reading) (i : ℕ) (gs : List Reading) (g : Reading) (wav piece : List ℕ) → ArePieces xs i gs wav → IsPiece xs (i + length gs) g piece → ArePieces xs i (gs ++ g ∷ []) (wav ++ piece)
unfolding ArePieces
pieces_more xs i [] g wav piece are is = (
  piece,
  [],
  piece_by xs (i + 0) i g piece (omega arith) is,
  refl,
  ap (λ l. l ++ piece) are ∙ sym (append-nil piece),
)
pieces_more xs i (h ∷ gs) g wav piece (first, more, its, are, whole) is = (
  first,
  more ++ piece,
  its,
  pieces_more xs (suc i) gs g more piece are (piece_by xs (i + suc (length gs)) (suc i + length gs) g piece (omega arith) is),
  ap (λ l. l ++ piece) whole ∙ append_assoc first more piece,
)

pub wav_more : FrontIsFront → (gs : List Reading) (g : Reading) (wav piece : List ℕ) → IsWav gs wav → IsPiece (gs ++ g ∷ []) (length gs) g piece → IsWav (gs ++ g ∷ []) (wav ++ piece)
wav_more front gs g wav piece are is =
    pieces_more (gs ++ g ∷ []) 0 gs g wav piece
    (pieces_front gs (gs ++ g ∷ []) 0 gs wav (λ c j t below. front gs (g ∷ []) c j t (omega (arith, below))) are)
    (piece_by (gs ++ g ∷ []) (length gs) (0 + length gs) g piece (omega arith) is)

pub no_wav : IsWav [] []
unfolding ArePieces
no_wav = refl

-- ---- the lines

plus_zero : (i : ℕ) → i ≡ i + 0
plus_zero i = omega arith

zero_plus : (i : ℕ) → 0 + i ≡ i
zero_plus i = omega arith

lines_behind : (i : ℕ) (gs : List Reading) (g : Reading) → lines_from i (gs ++ g ∷ []) ≡ lines_from i gs ++ frame_line (i + length gs) (size_of g)
lines_behind i [] g = append-nil (frame_line i (size_of g)) ∙ ap (λ n. frame_line n (size_of g)) (plus_zero i)
lines_behind i (h ∷ gs) g =
    let at : suc i + length gs ≡ i + suc (length gs) = omega arith in
    ap (λ l. frame_line i (size_of h) ++ l) (lines_behind (suc i) gs g ∙ ap (λ n. lines_from (suc i) gs ++ frame_line n (size_of g)) at)
    ∙ sym (append_assoc (frame_line i (size_of h)) (lines_from (suc i) gs) (frame_line (i + suc (length gs)) (size_of g)))

pub lines_more : (gs : List Reading) (g : Reading) → lines_of (gs ++ g ∷ []) ≡ lines_of gs ++ frame_line (length gs) (size_of g)
lines_more gs g = lines_behind 0 gs g ∙ ap (λ n. lines_of gs ++ frame_line n (size_of g)) (zero_plus (length gs))

-- ---- both

pub added_none : (old : Sinks) → Added [] old old
added_none old = record { wav = []; is_wav = no_wav; output = adds_nothing old.output.bytes; report = adds_nothing old.report.bytes }

pub added_more : FrontIsFront → (gs : List Reading) (g : Reading) (u : Unit {0}) (old between new : Sinks) → Added gs old between → FrameLeaves gs g (Ok u) between new → Added (gs ++ g ∷ []) old new
added_more front gs g u old between new a f = record {
  wav = a.wav ++ f.piece;
  is_wav = wav_more front gs g a.wav f.piece a.is_wav f.is_piece;
  output = adds_both old.output.bytes between.output.bytes new.output.bytes a.wav f.piece a.output f.emits.0;
  report = subst (λ (l : List ℕ). Adds old.report.bytes new.report.bytes l) (sym (lines_more gs g))
      (adds_both old.report.bytes between.report.bytes new.report.bytes (lines_of gs) (frame_line (length gs) (size_of g)) a.report f.emits.1);
}
