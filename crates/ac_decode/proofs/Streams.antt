-- Frames one behind the other.
use Rattle.std.proofs.Common.{◌≡◌, ℕ, ◌+◌, ◌-◌, ◌*◌, ◌<◌, ◌≤◌, false, List, [], ◌∷◌, ◌++◌, length, take, drop, Some, refl, ap, sym, subst, ◌∙◌, arith}
use Rattle.std.specs.List.{AllByRecursion}
use Rattle.std.specs.Option.{ForSome}
use Rattle.std.proofs.lemmas.List.{length-drop, drop-drop, drop-take}
use Rattle.ac_record.specs.Readings.{IsReading}
use Rattle.ac_reading.specs.Framed.{Reading}
use Rattle.ac_dec.specs.declared.kind.Kind.{Kind}
use Rattle.ac_dec.specs.Decoding.{kind_of}
use Rattle.ac_decode.specs.Stream.{size_of, AreFrames, size_of_all, AreAlike, kind_behind, Accepted}
use Rattle.ac_decode.proofs.Readings.{begun, one_head, read_taken}
use Rattle.ac_decode.proofs.Refusals.{one_kind}
use Rattle.ac_rows.specs.declared.head.Head.{Head}
use Rattle.ac_record.specs.Records.{words_of}

-- ---- sizes

pub no_frames : (bytes : List ℕ) → AreFrames bytes [] bytes
unfolding AreFrames
no_frames bytes = refl

pub frames_long : (bytes : List ℕ) (gs : List Reading) (rest : List ℕ) → AreFrames bytes gs rest → length bytes ≡ size_of_all gs + length rest
unfolding AreFrames
frames_long bytes [] rest f = let e = ap length f in omega (arith, e)
frames_long bytes (g ∷ gs) rest f =
    let e = frames_long (drop (size_of g) bytes) gs rest f.1 in
    let long = (begun bytes g f.0).long in
    omega (arith, e, long, length-drop (size_of g) bytes)

pub frames_rest : (bytes : List ℕ) (gs : List Reading) (rest : List ℕ) → AreFrames bytes gs rest → rest ≡ drop (size_of_all gs) bytes
unfolding AreFrames
frames_rest bytes [] rest f = sym f
frames_rest bytes (g ∷ gs) rest f = frames_rest (drop (size_of g) bytes) gs rest f.1 ∙ drop-drop (size_of_all gs) (size_of g) bytes

pub frames_more : (bytes : List ℕ) (gs : List Reading) (rest : List ℕ) (g : Reading) → AreFrames bytes gs rest → IsReading rest g → AreFrames bytes (gs ++ g ∷ []) (drop (size_of g) rest)
unfolding AreFrames
frames_more bytes [] rest g f r = (subst (λ (l : List ℕ). IsReading l g) (sym f) r, ap (drop (size_of g)) f)
frames_more bytes (h ∷ gs) rest g f r = (f.0, frames_more (drop (size_of h) bytes) gs rest g f.1 r)

pub size_more : (gs : List Reading) (g : Reading) → size_of_all (gs ++ g ∷ []) ≡ size_of_all gs + size_of g
size_more [] g = omega arith
size_more (h ∷ gs) g = let e = size_more gs g in omega (arith, e)

minus_zero : (m : ℕ) → m ≡ m - 0
minus_zero m = omega arith

-- of the first m bytes
pub frames_taken : (m : ℕ) (bytes : List ℕ) (gs : List Reading) (rest : List ℕ) → size_of_all gs ≤ m → AreFrames bytes gs rest → AreFrames (take m bytes) gs (take (m - size_of_all gs) rest)
unfolding AreFrames
frames_taken m bytes [] rest fits f = ap (take m) f ∙ ap (λ x. take x rest) (minus_zero m)
frames_taken m bytes (g ∷ gs) rest fits f =
    let n = m - size_of g in
    let at : m ≡ size_of g + n = omega (arith, fits) in
    let behind : drop (size_of g) (take m bytes) ≡ take n (drop (size_of g) bytes) = ap (λ x. drop (size_of g) (take x bytes)) at ∙ drop-take (size_of g) n bytes in
    let more = frames_taken n (drop (size_of g) bytes) gs rest (omega (arith, fits)) f.1 in
    let left : n - size_of_all gs ≡ m - size_of_all (g ∷ gs) = omega (arith, fits) in (
      read_taken m bytes g (omega (arith, fits)) f.0,
      subst (λ (l : List ℕ). AreFrames l gs (take (m - size_of_all (g ∷ gs)) rest)) (sym behind)
          (subst (λ (x : ℕ). AreFrames (take n (drop (size_of g) bytes)) gs (take x rest)) left more),
    )

-- a frame has 128 bytes at least
pub frames_least : (bytes : List ℕ) (gs : List Reading) (rest : List ℕ) → AreFrames bytes gs rest → 128 * length gs ≤ size_of_all gs
unfolding AreFrames
frames_least bytes [] rest f = omega arith
frames_least bytes (g ∷ gs) rest f =
    let e = frames_least (drop (size_of g) bytes) gs rest f.1 in
    let least = (begun bytes g f.0).least in
    omega (arith, e, least)

-- ---- kinds

abbrev AreOf : Kind → List Reading → Type 0
AreOf k gs = AllByRecursion (λ h. kind_of h ≡ k) gs

of_more : (k : Kind) (gs : List Reading) (g : Reading) → AreOf k gs → kind_of g ≡ k → AreOf k (gs ++ g ∷ [])
of_more k [] g a e = (e, tt)
of_more k (h ∷ gs) g a e = (a.0, of_more k gs g a.1 e)

pub alike_more : (gs : List Reading) (g : Reading) → AreAlike gs → ForSome (kind_behind gs) (λ k. k ≡ kind_of g) → AreAlike (gs ++ g ∷ [])
alike_more [] g a same = tt
alike_more (h ∷ gs) g a same = of_more (kind_of h) gs g a (sym (same (kind_of h) refl))

pub kind_more : (gs : List Reading) (g : Reading) → ForSome (kind_behind gs) (λ k. k ≡ kind_of g) → kind_behind (gs ++ g ∷ []) ≡ Some (kind_of g)
kind_more [] g same = refl
kind_more (h ∷ gs) g same = ap (λ k. Some k) (same (kind_of h) refl)

pub accepted_more : (bytes : List ℕ) (gs : List Reading) (rest : List ℕ) (g : Reading) → Accepted bytes gs rest → IsReading rest g → ForSome (kind_behind gs) (λ k. k ≡ kind_of g) → Accepted bytes (gs ++ g ∷ []) (drop (size_of g) rest)
accepted_more bytes gs rest g a r same = record { frames = frames_more bytes gs rest g a.frames r; alike = alike_more gs g a.alike same }

pub accepted_none : (bytes : List ℕ) → Accepted bytes [] bytes
accepted_none bytes = record { frames = no_frames bytes; alike = tt }

-- ---- two lists of frames of the same bytes

-- the longer goes on where the shorter ends
record GoesOn (rest : List ℕ) (k : Kind) (gs hs : List Reading) (tail : List ℕ) : Type 0 where
  more : List Reading
  frames : AreFrames rest more tail
  alike : AreOf k more
  many : length hs ≡ length gs + length more
  size : size_of_all hs ≡ size_of_all gs + size_of_all more

goes_on_by : (k : Kind) (bytes : List ℕ) (gs hs : List Reading) (rest tail : List ℕ) → AreFrames bytes gs rest → AreFrames bytes hs tail → AreOf k hs → length gs ≤ length hs → GoesOn rest k gs hs tail
unfolding AreFrames
goes_on_by k bytes [] hs rest tail f h a fewer =
    record { more = hs; frames = subst (λ (l : List ℕ). AreFrames l hs tail) f h; alike = a; many = omega arith; size = omega arith }
goes_on_by k bytes (g ∷ gs) [] rest tail f h a fewer = absurd (omega (arith, fewer))
goes_on_by k bytes (g ∷ gs) (x ∷ hs) rest tail f h a fewer =
    let same : size_of x ≡ size_of g = ap (λ (d : Head). 2 * words_of d) (one_head bytes x g h.0 f.0) in
    let n = goes_on_by k (drop (size_of g) bytes) gs hs rest tail f.1 (subst (λ (s : ℕ). AreFrames (drop s bytes) hs tail) same h.1) a.1 (omega (arith, fewer)) in
    let many = n.many in
    let size = n.size in
    record { more = n.more; frames = n.frames; alike = n.alike; many = omega (arith, many); size = omega (arith, size, same) }

some_same : (a j b : Kind) → Some a ≡ Some j → a ≡ b → j ≡ b
some_same a j b e f = cc

-- the first kinds of both are the same
first_kinds : (bytes : List ℕ) (gs hs : List Reading) (rest tail : List ℕ) → AreFrames bytes gs rest → AreFrames bytes hs tail → AreAlike hs → length gs ≤ length hs
    → (k : Kind) × AreOf k hs × ForSome (kind_behind gs) (λ j. j ≡ k)
unfolding AreFrames
first_kinds bytes [] [] rest tail f h a fewer = (record { fscod = 0; acmod = 0; lfe = false }, tt, λ j e. absurd cc)
first_kinds bytes [] (x ∷ hs) rest tail f h a fewer = (kind_of x, (refl, a), λ j e. absurd cc)
first_kinds bytes (g ∷ gs) [] rest tail f h a fewer = absurd (omega (arith, fewer))
first_kinds bytes (g ∷ gs) (x ∷ hs) rest tail f h a fewer = (kind_of x, (refl, a), λ j e. some_same (kind_of g) j (kind_of x) e (one_kind bytes g x f.0 h.0))

-- where the other has more, the next is a frame of the same kind
pub record Further (bytes : List ℕ) (gs : List Reading) (rest : List ℕ) (hs : List Reading) : Type 0 where
  pub next : Reading
  pub reading : IsReading rest next
  pub same : ForSome (kind_behind gs) (λ k. k ≡ kind_of next)
  pub within : size_of_all gs + size_of next ≤ size_of_all hs

further_in : (bytes : List ℕ) (gs hs : List Reading) (rest tail : List ℕ) (k : Kind) → ForSome (kind_behind gs) (λ j. j ≡ k) → length gs < length hs → (more : List Reading) → AreFrames rest more tail → AreOf k more
    → length hs ≡ length gs + length more → size_of_all hs ≡ size_of_all gs + size_of_all more → Further bytes gs rest hs
unfolding AreFrames
further_in bytes gs hs rest tail k same fewer [] f a many size = absurd (omega (arith, fewer, many))
further_in bytes gs hs rest tail k same fewer (x ∷ more) f a many size =
    record { next = x; reading = f.0; same = λ j e. same j e ∙ sym a.0; within = omega (arith, size) }

further_by : (bytes : List ℕ) (gs hs : List Reading) (rest tail : List ℕ) (k : Kind) → ForSome (kind_behind gs) (λ j. j ≡ k) → length gs < length hs → GoesOn rest k gs hs tail → Further bytes gs rest hs
further_by bytes gs hs rest tail k same fewer n = further_in bytes gs hs rest tail k same fewer n.more n.frames n.alike n.many n.size

pub further : (bytes : List ℕ) (gs hs : List Reading) (rest tail : List ℕ) → Accepted bytes gs rest → Accepted bytes hs tail → length gs < length hs → Further bytes gs rest hs
further bytes gs hs rest tail p q fewer =
    let k = first_kinds bytes gs hs rest tail p.frames q.frames q.alike (omega (arith, fewer)) in
    further_by bytes gs hs rest tail k.0 k.2 fewer (goes_on_by k.0 bytes gs hs rest tail p.frames q.frames k.1 (omega (arith, fewer)))

-- where both have as many, they end alike
pub record Together (gs : List Reading) (rest : List ℕ) (hs : List Reading) (tail : List ℕ) : Type 0 where
  pub rests : rest ≡ tail
  pub sizes : size_of_all gs ≡ size_of_all hs
  pub kinds : kind_behind gs ≡ kind_behind hs

no_rest : (rest : List ℕ) (more : List Reading) (tail : List ℕ) → AreFrames rest more tail → length more ≡ 0 → rest ≡ tail
unfolding AreFrames
no_rest rest [] tail f none = f
no_rest rest (x ∷ more) tail f none = absurd (omega (arith, none))

no_size : (more : List Reading) → length more ≡ 0 → size_of_all more ≡ 0
no_size [] none = refl
no_size (x ∷ more) none = absurd (omega (arith, none))

kinds_same : (bytes : List ℕ) (gs hs : List Reading) (rest tail : List ℕ) → AreFrames bytes gs rest → AreFrames bytes hs tail → length gs ≡ length hs → kind_behind gs ≡ kind_behind hs
unfolding AreFrames
kinds_same bytes [] [] rest tail f h e = refl
kinds_same bytes [] (x ∷ hs) rest tail f h e = absurd (omega (arith, e))
kinds_same bytes (g ∷ gs) [] rest tail f h e = absurd (omega (arith, e))
kinds_same bytes (g ∷ gs) (x ∷ hs) rest tail f h e = ap (λ k. Some k) (one_kind bytes g x f.0 h.0)

pub together : (bytes : List ℕ) (gs hs : List Reading) (rest tail : List ℕ) → Accepted bytes gs rest → Accepted bytes hs tail → length gs ≡ length hs → Together gs rest hs tail
together bytes gs hs rest tail p q e =
    let k = first_kinds bytes gs hs rest tail p.frames q.frames q.alike (omega (arith, e)) in
    let n = goes_on_by k.0 bytes gs hs rest tail p.frames q.frames k.1 (omega (arith, e)) in
    let none : length n.more ≡ 0 = let many = n.many in omega (arith, many, e) in
    let size = n.size in
    let nothing = no_size n.more none in
    record {
      rests = no_rest rest n.more tail n.frames none;
      sizes = omega (arith, size, nothing);
      kinds = kinds_same bytes gs hs rest tail p.frames q.frames e;
    }
