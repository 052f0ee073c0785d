-- The loop over the frames of an input.
use Rattle.std.proofs.Common.{◌≡◌, ◌≢◌, ℕ, ◌+◌, ◌-◌, ◌^◌, ◌<◌, ◌≤◌, min, List, [], ◌∷◌, ◌++◌, length, take, drop, slice_index, Option, None, Some, Err, inl, inr, refl, ap, sym, subst, ◌∙◌, arith}
use Rattle.std.proofs.lemmas.Bool.{cases_lt}
use Rattle.std.proofs.lemmas.List.{length-append, length-take, length-drop, take_all, drop-drop, get_or-take, get_or-drop}
use Rattle.ac_io.specs.declared.within.Unread.{Unread}
use Rattle.ac_io.specs.declared.within.Unread.TheVariants.{Failed, TooLong}
use Rattle.ac_io.specs.Outside.{Rose}
use Rattle.ac_io.specs.Within.{IsAt}
use Rattle.ac_record.specs.declared.codes.FrameFault.{FrameFault}
use Rattle.ac_record.specs.Laws.{AreBytes}
use Rattle.ac_record.specs.Readings.{IsReading}
use Rattle.ac_world.specs.World.{Sinks, World, SinksNeverFall}
use Rattle.ac_world.specs.declared.writing.Broken.{Broken}
use Rattle.ac_reading.specs.Framed.{Reading}
use Rattle.ac_dec.specs.Decoding.{Decoding, at_first}
use Rattle.ac_decode.specs.declared.halt.Halt.{Halt}
use Rattle.ac_decode.specs.declared.halt.Halt.TheVariants as halts
use Rattle.ac_decode.specs.Stream.{size_of, size_of_all, kind_behind, looked_at, Accepted, IsEnd, IsRefusedBehind, IsBadStream, IsTooLong}
use Rattle.ac_world.specs.Limit.{limit}
use Rattle.ac_decode.specs.Known.{SeesEnd, SeesBad, SeesMore, Sees}
use Rattle.ac_decode.specs.Leaves.{Added, Decoded, AreWhole, FramesTaken, HaltLeaves, HaltRose}
use Rattle.ac_decode.specs.Looks.{ReadsNext, HoldsPart, TakesPart, StopsNext}
use Rattle.ac_decode.specs.Loop.{IsNext, Goes, GoesNot, StepRose, SoFar}
use Rattle.ac_decode.proofs.Needs.{needed_fits}
use Rattle.ac_decode.proofs.Readings.{begun, read_from, reading_needs}
use Rattle.ac_decode.proofs.Refusals.{six_fit, reading_looked, refusal_from}
use Rattle.ac_decode.proofs.Streams.{frames_long, frames_taken, accepted_none, accepted_more, size_more}
use Rattle.ac_decode.proofs.Emits.{sink_behind}
use Rattle.ac_decode.proofs.Sounds.{FrontIsFront, added_none, added_more}
use Rattle.ac_decode.proofs.Steps.{BeginsSilent, stands_first}

-- ---- at first

pub so_far_first : BeginsSilent → (bytes : List ℕ) (d : Decoding) (left : Option (List ℕ)) (old : Sinks) → d ≡ at_first → left ≡ Some bytes → SoFar bytes 0 0 d left old old
so_far_first silent bytes d left old first e = record {
  frames = [];
  accepted = accepted_none bytes;
  taken_is = refl;
  number = refl;
  at = record { within = omega arith; left_is = e };
  stands = stands_first silent d first;
  added = added_none old;
  known = λ k below. absurd (omega (arith, below));
}

-- ---- bytes

bytes_joined : (a n : ℕ) (bytes : List ℕ) → AreBytes (take a bytes) → AreBytes (take n (drop a bytes)) → AreBytes (take (a + n) bytes)
bytes_joined a n bytes front more k below =
    let all = length-take (a + n) bytes in
    let first = length-take a bytes in
    let rest = length-take n (drop a bytes) in
    let left = length-drop a bytes in
    elim (cases_lt k a) [
      | inl early ↦
          subst (λ (x : ℕ). x < 2 ^ 8) (get_or-take a bytes k 0 early ∙ sym (get_or-take (a + n) bytes k 0 (omega (arith, early)))) (front k (omega (arith, all, first, below, early)))
      | inr late ↦
          let at : a + (k - a) ≡ k = omega (arith, late) in
          let within : k - a < n = omega (arith, all, below, late) in
          subst (λ (x : ℕ). x < 2 ^ 8)
          (get_or-take n (drop a bytes) (k - a) 0 within ∙ (get_or-drop a bytes (k - a) 0 ∙ (ap (λ j. slice_index bytes j) at ∙ sym (get_or-take (a + n) bytes k 0 (omega (arith, all, below))))))
          (more (k - a) (omega (arith, all, rest, left, below, late)))
    ]

-- what was read is bytes
piece_fits : (n : ℕ) (piece rest : List ℕ) → ((k : ℕ) → slice_index piece k < 2 ^ 8) → take n piece ≡ take n rest → AreBytes (take n rest)
piece_fits n piece rest fit same =
    subst AreBytes same (λ k below. let kept = length-take n piece in subst (λ (x : ℕ). x < 2 ^ 8) (sym (get_or-take n piece k 0 (omega (arith, kept, below)))) (fit k))

known_more : (bytes : List ℕ) (taken n : ℕ) (piece : List ℕ) (left : Option (List ℕ)) → ((k : ℕ) → slice_index piece k < 2 ^ 8) → AreBytes (take taken bytes) → ReadsNext bytes taken n piece left → AreBytes (take (taken + n) bytes)
known_more bytes taken n piece left fit known r = bytes_joined taken n bytes known (piece_fits n piece (drop taken bytes) fit r.front)

-- ---- the input ends

rest_none : (xs : List ℕ) → length xs ≡ 0 → xs ≡ []
rest_none [] e = refl
rest_none (x ∷ xs) e = absurd (omega (arith, e))

-- nothing is behind the frames
none_left : (bytes : List ℕ) (taken n : ℕ) (piece : List ℕ) (left : Option (List ℕ)) → n ≡ 0 → ReadsNext bytes taken n piece left → drop taken bytes ≡ []
none_left bytes taken n piece left none r =
    let count = r.count in
    let least = (needed_fits (drop taken bytes)).0 in
    rest_none (drop taken bytes) (omega (arith, count, none, least))

end_there : (bytes : List ℕ) (taken : ℕ) (gs : List Reading) → taken ≤ limit → taken ≡ size_of_all gs → Accepted bytes gs [] → IsEnd bytes gs
end_there bytes taken gs within e a =
    let long = frames_long bytes gs [] a.frames in
    record { accepted = a; within = omega (arith, long, e, within) }

pub all_decoded : (bytes : List ℕ) (taken i n : ℕ) (d : Decoding) (piece : List ℕ) (left : Option (List ℕ)) (old new : World) → n ≡ 0 → taken ≤ limit → SoFar bytes taken i d left old.sinks new.sinks → ReadsNext bytes taken n piece new.input.bytes → Decoded bytes old new
all_decoded bytes taken i n d piece left old new none within s r =
    let rest = none_left bytes taken n piece new.input.bytes none r in
    let accepted = subst (λ (l : List ℕ). Accepted bytes s.frames l) rest s.accepted in
    let at : taken + n ≡ taken = omega (arith, none) in
    record {
      frames = s.frames;
      is_end = end_there bytes taken s.frames within s.taken_is accepted;
      left = r.at.left_is ∙ (ap (λ m. Some (drop m bytes)) at ∙ ap (λ l. Some l) rest);
      added = s.added;
    }

pub sees_end : (bytes : List ℕ) (taken i n : ℕ) (d : Decoding) (piece : List ℕ) (before left : Option (List ℕ)) (old new : Sinks) → n ≡ 0 → taken ≤ limit → SoFar bytes taken i d before old new → ReadsNext bytes taken n piece left → SeesEnd bytes
sees_end bytes taken i n d piece before left old new none within s r =
    let rest = none_left bytes taken n piece left none r in
    let accepted = subst (λ (l : List ℕ). Accepted bytes s.frames l) rest s.accepted in
    let e = s.taken_is in
    let long = frames_long bytes s.frames [] accepted.frames in
    record {
      frames = s.frames;
      is_end = end_there bytes taken s.frames within s.taken_is accepted;
      known = subst AreBytes (take_all taken bytes (omega (arith, long, e))) s.known;
    }

-- ---- the next frame isn't read

-- the frames are those of the bytes that were taken
whole_front : (bytes : List ℕ) (taken m : ℕ) (gs : List Reading) → taken ≡ size_of_all gs → taken ≤ m → Accepted bytes gs (drop taken bytes) → HoldsPart bytes taken m → AreWhole (take m bytes) gs
whole_front bytes taken m gs e least a h =
    let n = m - size_of_all gs in
    record {
      rest = take n (drop taken bytes);
      accepted = record { frames = frames_taken m bytes gs (drop taken bytes) (omega (arith, e, least)) a.frames; alike = a.alike };
      no_more = λ g r.
          let b = begun (take n (drop taken bytes)) g r in
          let long = b.long in
          let size = b.least in
          let kept = length-take n (drop taken bytes) in
          let six = six_fit 6 (drop taken bytes) (h.known (omega (arith, e, least, long, size, kept))) (omega arith) (omega (arith, long, size, kept)) in
          let needs = reading_needs (drop taken bytes) g six (read_from n (drop taken bytes) g r) in
          let part = h.part in
          absurd (omega (arith, needs, part, long, kept, e, least));
    }

taken_front : (bytes : List ℕ) (taken : ℕ) (gs : List Reading) (left : Option (List ℕ)) → taken ≡ size_of_all gs → Accepted bytes gs (drop taken bytes) → TakesPart bytes taken left → FramesTaken bytes gs left
taken_front bytes taken gs None e a t = tt
taken_front bytes taken gs (Some rest) e a (k, least, most, at, h) =
    let same : k ≡ min k limit = omega (arith, most) in
    (k, at, subst (λ (m : ℕ). AreWhole (take m bytes) gs) same (whole_front bytes taken k gs e least a h))

limit_front : (bytes : List ℕ) (taken : ℕ) (gs : List Reading) (left : Option (List ℕ)) → taken ≡ size_of_all gs → taken ≤ limit → Accepted bytes gs (drop taken bytes) → HoldsPart bytes taken limit → IsAt bytes (limit + 1) left → FramesTaken bytes gs left
limit_front bytes taken gs None e within a h at = tt
limit_front bytes taken gs (Some rest) e within a h at =
    let same : limit ≡ min (limit + 1) limit = omega arith in
    (limit + 1, at, subst (λ (m : ℕ). AreWhole (take m bytes) gs) same (whole_front bytes taken limit gs e within a h))

abbrev long_there : (bytes : List ℕ) (taken : ℕ) (gs : List Reading) (left : Option (List ℕ)) → taken ≡ size_of_all gs → taken ≤ limit → Accepted bytes gs (drop taken bytes) → HoldsPart bytes taken limit → IsAt bytes (limit + 1) left → IsTooLong bytes
long_there bytes taken gs left e within a h at =
    let part = h.part in
    let there = at.within in
    record { before = gs; rest = drop taken bytes; accepted = a; within = omega (arith, e, within); past = omega (arith, part, e); there = omega (arith, there) }

pub unread : (bytes : List ℕ) (taken i : ℕ) (d : Decoding) (before : Option (List ℕ)) (why : Unread) (old new : World) → taken ≤ limit → SoFar bytes taken i d before old.sinks new.sinks → StopsNext bytes taken why new.input.bytes → HaltLeaves (halts.Input why) bytes old new
unread bytes taken i d before Failed old new within s t =
    record { frames = s.frames; rest = drop taken bytes; accepted = s.accepted; taken = taken_front bytes taken s.frames new.input.bytes s.taken_is s.accepted t; added = s.added }
unread bytes taken i d before TooLong old new within s t = (
  long_there bytes taken s.frames new.input.bytes s.taken_is within s.accepted t.0 t.1,
  t.1,
  record { frames = s.frames; rest = drop taken bytes; accepted = s.accepted; taken = limit_front bytes taken s.frames new.input.bytes s.taken_is within s.accepted t.0 t.1; added = s.added },
)

sees_more : (bytes : List ℕ) (taken i : ℕ) (d : Decoding) (before left : Option (List ℕ)) (old new : Sinks) → taken ≤ limit → SoFar bytes taken i d before old new → HoldsPart bytes taken limit → IsAt bytes (limit + 1) left → SeesMore bytes
sees_more bytes taken i d before left old new within s h at =
    let e = s.taken_is in
    record {
      long = long_there bytes taken s.frames left s.taken_is within s.accepted h at;
      known = subst (λ (m : ℕ). AreBytes (take m bytes)) e s.known;
      six = λ fits. subst (λ (m : ℕ). AreBytes (take (m + 6) bytes)) e (bytes_joined taken 6 bytes s.known (h.known (omega (arith, fits, e))));
    }

pub sees_unread : (bytes : List ℕ) (taken i : ℕ) (d : Decoding) (before left : Option (List ℕ)) (why : Unread) (old new : Sinks) → taken ≤ limit → SoFar bytes taken i d before old new → StopsNext bytes taken why left → Sees bytes (Err (halts.Input why))
sees_unread bytes taken i d before left Failed old new within s t = tt
sees_unread bytes taken i d before left TooLong old new within s t = sees_more bytes taken i d before left old new within s t.0 t.1

-- ---- the next frame is refused

abbrev bad_there : (bytes : List ℕ) (taken i n j : ℕ) (d : Decoding) (piece : List ℕ) (before left : Option (List ℕ)) (fault : FrameFault) (old mid : Sinks) → n ≢ 0 → taken + n ≤ limit → (s : SoFar bytes taken i d before old mid) → ReadsNext bytes taken n piece left
    → j ≡ length s.frames → IsRefusedBehind s.frames (take n piece) fault → IsBadStream bytes j fault
bad_there bytes taken i n j d piece before left fault old mid some within s r number refused =
    let rest = drop taken bytes in
    let count = r.count in
    let e = s.taken_is in
    let looked : take n piece ≡ take (looked_at rest) rest = r.front ∙ ap (λ m. take m rest) count in
    record {
      before = s.frames;
      rest = rest;
      accepted = s.accepted;
      number = number;
      some = omega (arith, count, some);
      refused = refusal_from (record { kind = kind_behind s.frames; delays = [] }) rest fault (subst (λ (l : List ℕ). IsRefusedBehind s.frames l fault) looked refused);
      within = omega (arith, count, e, within);
    }

pub refuses : (bytes : List ℕ) (taken i n j : ℕ) (d : Decoding) (piece : List ℕ) (before : Option (List ℕ)) (fault : FrameFault) (old new : World) (mid : Sinks) → n ≢ 0 → taken + n ≤ limit → (s : SoFar bytes taken i d before old.sinks mid) → ReadsNext bytes taken n piece new.input.bytes
    → GoesNot s.frames (take n piece) (halts.Stream j fault) mid new.sinks → HaltLeaves (halts.Stream j fault) bytes old new
refuses bytes taken i n j d piece before fault old new mid some within s r g =
    let count = r.count in
    let e = s.taken_is in
    let at : taken + n ≡ size_of_all s.frames + looked_at (drop taken bytes) = omega (arith, count, e) in
    record {
      bad = bad_there bytes taken i n j d piece before new.input.bytes fault old.sinks mid some within s r g.0 g.1;
      left = subst (λ (m : ℕ). IsAt bytes m new.input.bytes) at r.at;
      added = subst (λ (x : Sinks). Added s.frames old.sinks x) (sym g.2) s.added;
    }

pub sees_bad : (bytes : List ℕ) (taken i n j : ℕ) (d : Decoding) (piece : List ℕ) (before left : Option (List ℕ)) (fault : FrameFault) (old mid new : Sinks) → ((k : ℕ) → slice_index piece k < 2 ^ 8) → n ≢ 0 → taken + n ≤ limit → (s : SoFar bytes taken i d before old mid) → ReadsNext bytes taken n piece left
    → GoesNot s.frames (take n piece) (halts.Stream j fault) mid new → SeesBad bytes j fault
sees_bad bytes taken i n j d piece before left fault old mid new fit some within s r g =
    let count = r.count in
    let e = s.taken_is in
    let at : taken + n ≡ size_of_all s.frames + looked_at (drop taken bytes) = omega (arith, count, e) in
    record {
      bad = bad_there bytes taken i n j d piece before left fault old mid some within s r g.0 g.1;
      known = subst (λ (m : ℕ). AreBytes (take m bytes)) at (known_more bytes taken n piece left fit s.known r);
    }

-- ---- the next frame is accepted

-- it is what was read
pub record Took (bytes : List ℕ) (taken n : ℕ) (gs : List Reading) (g : Reading) : Type 0 where
  pub accepted : Accepted bytes (gs ++ g ∷ []) (drop (taken + n) bytes)
  pub size : taken + n ≡ size_of_all (gs ++ g ∷ [])

pub took : (bytes : List ℕ) (taken n : ℕ) (piece : List ℕ) (left : Option (List ℕ)) (gs : List Reading) (g : Reading) → ((k : ℕ) → slice_index piece k < 2 ^ 8) → taken ≡ size_of_all gs → Accepted bytes gs (drop taken bytes) → ReadsNext bytes taken n piece left → IsNext gs (take n piece) g
    → Took bytes taken n gs g
took bytes taken n piece left gs g fit e a r x =
    let rest = drop taken bytes in
    let reading = read_from n rest g (subst (λ (l : List ℕ). IsReading l g) r.front x.reading) in
    let b = begun rest g reading in
    let long = b.long in
    let least = b.least in
    let count = r.count in
    let needs = (needed_fits rest).0 in
    let six = six_fit n rest (piece_fits n piece rest fit r.front) (omega (arith, count, needs, long, least)) (omega (arith, long, least)) in
    let looked = reading_looked rest g six reading in
    let more = size_more gs g in
    let size : size_of g ≡ n = omega (arith, looked, count) in
    record {
      accepted = subst (λ (l : List ℕ). Accepted bytes (gs ++ g ∷ []) l) (ap (λ m. drop m rest) size ∙ drop-drop n taken bytes) (accepted_more bytes gs rest g a reading x.same);
      size = omega (arith, more, e, size);
    }

pub breaks : (bytes : List ℕ) (taken i n : ℕ) (d : Decoding) (piece : List ℕ) (before : Option (List ℕ)) (broken : Broken) (old new : World) (mid : Sinks) → ((k : ℕ) → slice_index piece k < 2 ^ 8) → taken + n ≤ limit → (s : SoFar bytes taken i d before old.sinks mid) → ReadsNext bytes taken n piece new.input.bytes
    → GoesNot s.frames (take n piece) (halts.Sink broken) mid new.sinks → HaltLeaves (halts.Sink broken) bytes old new
breaks bytes taken i n d piece before broken old new mid fit within s r (g, x, f) =
    let t = took bytes taken n piece new.input.bytes s.frames g fit s.taken_is s.accepted r x in
    let size = t.size in
    record {
      before = s.frames;
      frame = g;
      rest = drop (taken + n) bytes;
      accepted = t.accepted;
      within = omega (arith, size, within);
      left = r.at.left_is;
      between = mid;
      added = s.added;
      leaves = f;
    }

pub so_far_more : FrontIsFront → (bytes : List ℕ) (taken i n : ℕ) (d e : Decoding) (piece : List ℕ) (before left : Option (List ℕ)) (old mid new : Sinks) → ((k : ℕ) → slice_index piece k < 2 ^ 8) → (s : SoFar bytes taken i d before old mid) → ReadsNext bytes taken n piece left
    → Goes s.frames (take n piece) e mid new → SoFar bytes (taken + n) (i + 1) e left old new
so_far_more front bytes taken i n d e piece before left old mid new fit s r g =
    let t = took bytes taken n piece left s.frames g.next fit s.taken_is s.accepted r g.is_next in
    let number = s.number in
    let more = length-append s.frames (g.next ∷ []) in
    record {
      frames = s.frames ++ g.next ∷ [];
      accepted = t.accepted;
      taken_is = t.size;
      number = omega (arith, number, more);
      at = r.at;
      stands = g.stands;
      added = added_more front s.frames g.next tt old mid new s.added g.leaves;
      known = known_more bytes taken n piece left fit s.known r;
    }

-- ---- counts of faults

pub step_rose : (halt : Halt) (old new : World) (mid : Sinks) → SinksNeverFall old.sinks mid → StepRose halt mid new.sinks → HaltRose halt old new
step_rose (halts.Stream i fault) old new mid up rose = tt
step_rose (halts.Input why) old new mid up rose = absurd rose
step_rose (halts.Sink broken) old new mid up rose = sink_behind broken old.sinks mid new.sinks up rose

pub unread_rose : (why : Unread) (old new : World) → (why ≡ Failed → Rose old.input.faults new.input.faults) → HaltRose (halts.Input why) old new
unread_rose Failed old new rose = rose refl
unread_rose TooLong old new rose = tt

-- ---- a step that didn't go on

pub stopped : (bytes : List ℕ) (taken i n : ℕ) (d : Decoding) (piece : List ℕ) (before : Option (List ℕ)) (halt : Halt) (old new : World) (mid : Sinks) → ((k : ℕ) → slice_index piece k < 2 ^ 8) → n ≢ 0 → taken + n ≤ limit → (s : SoFar bytes taken i d before old.sinks mid) → ReadsNext bytes taken n piece new.input.bytes
    → GoesNot s.frames (take n piece) halt mid new.sinks → HaltLeaves halt bytes old new
stopped bytes taken i n d piece before (halts.Stream j fault) old new mid fit some within s r g = refuses bytes taken i n j d piece before fault old new mid some within s r g
stopped bytes taken i n d piece before (halts.Input why) old new mid fit some within s r g = absurd g
stopped bytes taken i n d piece before (halts.Sink broken) old new mid fit some within s r g = breaks bytes taken i n d piece before broken old new mid fit within s r g

pub sees_stopped : (bytes : List ℕ) (taken i n : ℕ) (d : Decoding) (piece : List ℕ) (before left : Option (List ℕ)) (halt : Halt) (old mid new : Sinks) → ((k : ℕ) → slice_index piece k < 2 ^ 8) → n ≢ 0 → taken + n ≤ limit → (s : SoFar bytes taken i d before old mid) → ReadsNext bytes taken n piece left
    → GoesNot s.frames (take n piece) halt mid new → Sees bytes (Err halt)
sees_stopped bytes taken i n d piece before left (halts.Stream j fault) old mid new fit some within s r g = sees_bad bytes taken i n j d piece before left fault old mid new fit some within s r g
sees_stopped bytes taken i n d piece before left (halts.Input why) old mid new fit some within s r g = absurd g
sees_stopped bytes taken i n d piece before left (halts.Sink broken) old mid new fit some within s r g = tt
