-- Each input has one end: frames to its last byte, a frame that is refused, or bytes past the limit.
use Rattle.std.proofs.Common.{◌≡◌, inl, inr, ℕ, ◌+◌, ◌-◌, ◌^◌, ◌<◌, ◌≤◌, List, [], length, take, drop, slice_index, Result, Ok, Err, refl, ap, ap₂, sym, subst, ◌∙◌, arith}
use Rattle.std.proofs.lemmas.Bool.{cases_lt}
use Rattle.std.proofs.lemmas.List.{length-take, length-drop, get_or-take, get_or-drop}
use Rattle.ac_io.specs.declared.within.Unread.TheVariants.{Failed, TooLong}
use Rattle.ac_record.specs.declared.codes.FrameFault.{FrameFault}
use Rattle.ac_record.specs.Laws.{AreBytes}
use Rattle.ac_reading.specs.Framed.{Reading}
use Rattle.ac_dec.specs.Decoding.{IsRefusal}
use Rattle.ac_decode.specs.declared.halt.Halt.{Halt}
use Rattle.ac_decode.specs.declared.halt.Halt.TheVariants as halts
use Rattle.ac_decode.specs.Stream.{size_of_all, kind_behind, needed, looked_at, Accepted, IsEnd, IsRefusedBehind, IsBadStream, IsTooLong}
use Rattle.ac_world.specs.Limit.{limit}
use Rattle.ac_decode.specs.Known.{SeesEnd, SeesBad, Sees}
use Rattle.ac_decode.specs.Leaves.{AnswersUnlessBroken}
use Rattle.ac_decode.proofs.Needs.{needed_fits}
use Rattle.ac_decode.proofs.Readings.{begun, reading_needs}
use Rattle.ac_decode.proofs.Refusals.{LookedFit, six_fit, reading_looked, refusal_by, never_refused, one_refusal}
use Rattle.ac_decode.proofs.Streams.{frames_long, frames_rest, Further, further, together}

-- ---- bytes

pub bytes_within : (m a n : ℕ) (bytes : List ℕ) → AreBytes (take m bytes) → a + n ≤ m → AreBytes (take n (drop a bytes))
bytes_within m a n bytes fit fits k below =
    let kept = length-take n (drop a bytes) in
    let all = length-take m bytes in
    let left = length-drop a bytes in
    let same : slice_index (take m bytes) (a + k) ≡ slice_index (take n (drop a bytes)) k =
    get_or-take m bytes (a + k) 0 (omega (arith, kept, below, fits))
    ∙ (sym (get_or-drop a bytes k 0) ∙ sym (get_or-take n (drop a bytes) k 0 (omega (arith, kept, below)))) in
    subst (λ (x : ℕ). x < 2 ^ 8) same (fit (a + k) (omega (arith, kept, all, left, below, fits)))

pub bytes_of_all : (m : ℕ) (bytes : List ℕ) → AreBytes bytes → AreBytes (take m bytes)
bytes_of_all m bytes fit k below =
    let kept = length-take m bytes in
    subst (λ (x : ℕ). x < 2 ^ 8) (sym (get_or-take m bytes k 0 (omega (arith, kept, below)))) (fit k (omega (arith, kept, below)))

-- behind accepted frames
pub rest_fits : (m n : ℕ) (bytes : List ℕ) (gs : List Reading) (rest : List ℕ) → Accepted bytes gs rest → AreBytes (take m bytes) → size_of_all gs + n ≤ m → AreBytes (take n rest)
rest_fits m n bytes gs rest a fit fits =
    subst (λ (l : List ℕ). AreBytes (take n l)) (sym (frames_rest bytes gs rest a.frames)) (bytes_within m (size_of_all gs) n bytes fit fits)

-- a frame there is looked at
next_fits : (m : ℕ) (bytes : List ℕ) (gs : List Reading) (rest : List ℕ) (hs : List Reading) → Accepted bytes gs rest → AreBytes (take m bytes) → size_of_all hs ≤ m → Further bytes gs rest hs → LookedFit rest
next_fits m bytes gs rest hs a fit fits f =
    let b = begun rest f.next f.reading in
    let long = b.long in
    let least = b.least in
    let within = f.within in
    let six = six_fit 6 rest (rest_fits m 6 bytes gs rest a fit (omega (arith, within, least, fits))) (omega arith) (omega (arith, long, least)) in
    let e = reading_looked rest f.next six f.reading in
    rest_fits m (looked_at rest) bytes gs rest a fit (omega (arith, within, fits, e))

-- ---- no two ends

-- behind the last byte there is no frame
pub no_further : (bytes : List ℕ) (gs hs : List Reading) (tail : List ℕ) → Accepted bytes gs [] → Accepted bytes hs tail → length gs < length hs → ⊥
no_further bytes gs hs tail a b fewer =
    let f = further bytes gs hs [] tail a b fewer in
    let r = begun [] f.next f.reading in
    let long = r.long in
    let least = r.least in
    absurd (omega (arith, long, least))

-- a frame that is refused isn't accepted
bad_further : (bytes : List ℕ) (i : ℕ) (fault : FrameFault) (hs : List Reading) (tail : List ℕ) → (b : IsBadStream bytes i fault) → LookedFit b.rest → Accepted bytes hs tail → length b.before < length hs → ⊥
bad_further bytes i fault hs tail b fit a fewer =
    let f = further bytes b.before hs b.rest tail b.accepted a fewer in
    never_refused (record { kind = kind_behind b.before; delays = [] }) b.rest f.next fault fit (needed_fits b.rest).0 f.reading f.same b.refused

-- nor one that reaches past the limit
long_further : (bytes : List ℕ) (hs : List Reading) (tail : List ℕ) → (t : IsTooLong bytes) → (size_of_all t.before + 6 ≤ limit → AreBytes (take (size_of_all t.before + 6) bytes)) → Accepted bytes hs tail → size_of_all hs ≤ limit
    → length t.before < length hs → ⊥
long_further bytes hs tail t known a within fewer =
    let f = further bytes t.before hs t.rest tail t.accepted a fewer in
    let b = begun t.rest f.next f.reading in
    let long = b.long in
    let least = b.least in
    let inside = f.within in
    let six = six_fit 6 t.rest (rest_fits (size_of_all t.before + 6) 6 bytes t.before t.rest t.accepted (known (omega (arith, inside, least, within))) (omega arith)) (omega arith) (omega (arith, long, least)) in
    let e = reading_needs t.rest f.next six f.reading in
    let past = t.past in
    absurd (omega (arith, past, e, inside, within))

-- behind the same frames
bad_long : (bytes : List ℕ) (i : ℕ) (fault : FrameFault) → (b : IsBadStream bytes i fault) → (t : IsTooLong bytes) → length b.before ≡ length t.before → ⊥
bad_long bytes i fault b t e =
    let s = together bytes b.before t.before b.rest t.rest b.accepted t.accepted e in
    let sizes = s.sizes in
    let needs : needed b.rest ≡ needed t.rest = ap needed s.rests in
    let there = t.there in
    let long = frames_long bytes b.before b.rest b.accepted.frames in
    let past = t.past in
    let within = b.within in
    absurd (omega (arith, sizes, needs, there, long, past, within))

bad_end : (bytes : List ℕ) (i : ℕ) (fault : FrameFault) (hs : List Reading) → (b : IsBadStream bytes i fault) → LookedFit b.rest → IsEnd bytes hs → ⊥
bad_end bytes i fault hs b fit e =
    elim (cases_lt (length b.before) (length hs)) [
      | inl fewer ↦ bad_further bytes i fault hs [] b fit e.accepted fewer
      | inr least ↦
          elim (cases_lt (length hs) (length b.before)) [
            | inl more ↦ no_further bytes hs b.before b.rest e.accepted b.accepted more
            | inr most ↦
                let s = together bytes b.before hs b.rest [] b.accepted e.accepted (omega arith) in
                let none : length b.rest ≡ 0 = ap length s.rests in
                let some = b.some in
                absurd (omega (arith, none, some))
          ]
    ]

bad_apart : (bytes : List ℕ) (i : ℕ) (fault : FrameFault) → (b : IsBadStream bytes i fault) → (t : IsTooLong bytes) → (length b.before < length t.before → LookedFit b.rest) → (size_of_all t.before + 6 ≤ limit → length t.before < length b.before → AreBytes (take (size_of_all t.before + 6) bytes)) → ⊥
bad_apart bytes i fault b t fit known =
    elim (cases_lt (length b.before) (length t.before)) [
      | inl fewer ↦ bad_further bytes i fault t.before t.rest b (fit fewer) t.accepted fewer
      | inr least ↦
          elim (cases_lt (length t.before) (length b.before)) [
            | inl more ↦ long_further bytes b.before b.rest t (λ h. known h more) b.accepted (let within = b.within in omega (arith, within)) more
            | inr most ↦ bad_long bytes i fault b t (omega arith)
          ]
    ]

-- two that are refused are one
bad_one : (bytes : List ℕ) (i j : ℕ) (fault other : FrameFault) → (b : IsBadStream bytes i fault) → (c : IsBadStream bytes j other) → (length b.before < length c.before → LookedFit b.rest) → LookedFit c.rest → (i ≡ j) × (fault ≡ other)
bad_one bytes i j fault other b c fit there =
    elim (cases_lt (length b.before) (length c.before)) [
      | inl fewer ↦ absurd (bad_further bytes i fault c.before c.rest b (fit fewer) c.accepted fewer)
      | inr least ↦
          elim (cases_lt (length c.before) (length b.before)) [
            | inl more ↦ absurd (bad_further bytes j other b.before b.rest c there b.accepted more)
            | inr most ↦
                let e : length b.before ≡ length c.before = omega arith in
                let s = together bytes b.before c.before b.rest c.rest b.accepted c.accepted e in
                let mine : IsRefusedBehind c.before c.rest fault =
                refusal_by (record { kind = kind_behind b.before; delays = [] }) (record { kind = kind_behind c.before; delays = [] }) c.rest fault s.kinds
                (subst (λ (l : List ℕ). IsRefusal (record { kind = kind_behind b.before; delays = [] }) l fault) s.rests b.refused) in
                let m = b.number in
                let n = c.number in
                (omega (arith, m, n, e), one_refusal (record { kind = kind_behind c.before; delays = [] }) c.rest fault other there (needed_fits c.rest).0 mine c.refused)
          ]
    ]

-- ---- the answer by the end that is there

bad_known : (bytes : List ℕ) (i : ℕ) (fault : FrameFault) → (s : SeesBad bytes i fault) → LookedFit s.bad.rest
bad_known bytes i fault s =
    rest_fits (size_of_all s.bad.before + looked_at s.bad.rest) (looked_at s.bad.rest) bytes s.bad.before s.bad.rest s.bad.accepted s.known (omega arith)

before_known : (m : ℕ) (bytes : List ℕ) (i : ℕ) (fault : FrameFault) (hs : List Reading) (tail : List ℕ) → (b : IsBadStream bytes i fault) → Accepted bytes hs tail → AreBytes (take m bytes) → size_of_all hs ≤ m → length b.before < length hs → LookedFit b.rest
before_known m bytes i fault hs tail b a fit fits fewer =
    next_fits m bytes b.before b.rest hs b.accepted fit fits (further bytes b.before hs b.rest tail b.accepted a fewer)

pub end_answers : (bytes : List ℕ) (hs : List Reading) (result : Result (Unit {0}) Halt) → IsEnd bytes hs → Sees bytes result → AnswersUnlessBroken (Ok tt) result
end_answers bytes hs (Ok u) e s = inl refl
end_answers bytes hs (Err (halts.Stream i fault)) e s = absurd (bad_end bytes i fault hs s.bad (bad_known bytes i fault s) e)
end_answers bytes hs (Err (halts.Input Failed)) e s = inr tt
end_answers bytes hs (Err (halts.Input TooLong)) e s = let there = s.long.there in let within = e.within in absurd (omega (arith, there, within))
end_answers bytes hs (Err (halts.Sink broken)) e s = inr tt

bad_end_known : (bytes : List ℕ) (i : ℕ) (fault : FrameFault) → IsBadStream bytes i fault → SeesEnd bytes → ⊥
bad_end_known bytes i fault b s =
    bad_end bytes i fault s.frames b (rest_fits (length bytes) (looked_at b.rest) bytes b.before b.rest b.accepted (bytes_of_all (length bytes) bytes s.known)
    (let long = frames_long bytes b.before b.rest b.accepted.frames in omega (arith, long))) s.is_end

-- the first six bytes of a frame that was accepted
long_known : (bytes : List ℕ) (i : ℕ) (fault : FrameFault) → (t : IsTooLong bytes) → (s : SeesBad bytes i fault) → length t.before < length s.bad.before → AreBytes (take (size_of_all t.before + 6) bytes)
long_known bytes i fault t s more =
    let f = further bytes t.before s.bad.before t.rest s.bad.rest t.accepted s.bad.accepted more in
    let least = (begun t.rest f.next f.reading).least in
    let within = f.within in
    bytes_within (size_of_all s.bad.before + looked_at s.bad.rest) 0 (size_of_all t.before + 6) bytes s.known (omega (arith, least, within))

pub bad_answers : (bytes : List ℕ) (i : ℕ) (fault : FrameFault) (result : Result (Unit {0}) Halt) → IsBadStream bytes i fault → Sees bytes result → AnswersUnlessBroken (Err (halts.Stream i fault)) result
bad_answers bytes i fault (Ok u) b s = absurd (bad_end_known bytes i fault b s)
bad_answers bytes i fault (Err (halts.Stream j other)) b s =
    let m = size_of_all s.bad.before + looked_at s.bad.rest in
    let p = bad_one bytes i j fault other b s.bad (λ fewer. before_known m bytes i fault s.bad.before s.bad.rest b s.bad.accepted s.known (omega arith) fewer) (bad_known bytes j other s) in
    inl (ap₂ (λ (n : ℕ) (f : FrameFault). Err (halts.Stream n f)) (sym p.0) (sym p.1))
bad_answers bytes i fault (Err (halts.Input Failed)) b s = inr tt
bad_answers bytes i fault (Err (halts.Input TooLong)) b s =
    absurd (bad_apart bytes i fault b s.long (λ fewer. before_known (size_of_all s.long.before) bytes i fault s.long.before s.long.rest b s.long.accepted s.known (omega arith) fewer) (λ h more. s.six h))
bad_answers bytes i fault (Err (halts.Sink broken)) b s = inr tt

pub long_answers : (bytes : List ℕ) (result : Result (Unit {0}) Halt) → IsTooLong bytes → Sees bytes result → AnswersUnlessBroken (Err (halts.Input TooLong)) result
long_answers bytes (Ok u) t s = let there = t.there in let within = s.is_end.within in absurd (omega (arith, there, within))
long_answers bytes (Err (halts.Stream j other)) t s = absurd (bad_apart bytes j other s.bad t (λ fewer. bad_known bytes j other s) (λ h more. long_known bytes j other t s more))
long_answers bytes (Err (halts.Input Failed)) t s = inr tt
long_answers bytes (Err (halts.Input TooLong)) t s = inl refl
long_answers bytes (Err (halts.Sink broken)) t s = inr tt
