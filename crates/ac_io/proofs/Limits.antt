-- Reading up to a limit.
use Rattle.std.proofs.Common.{◌≡◌, ℕ, ◌+◌, ◌-◌, ◌≤◌, ◌<◌, min, List, ◌++◌, length, drop, Option, Some, None, Result, Ok, Err, ap, ◌∙◌, arith, length-drop}
use Rattle.std.specs.Prelude.{MatchResult, IfOk}
use Rattle.std.proofs.lemmas.List.{take-append-le, drop-drop}
use Rattle.ac_io.specs.declared.within.Unread.{Unread}
use Rattle.ac_io.specs.declared.within.Unread.TheVariants.{Failed, TooLong}
use Rattle.ac_io.specs.Within.{IsAt, StandsIn, TakesAtMost, ReadsOn, StopsAt, ReadsAll, IsLonger}

-- a place behind the first `taken` bytes is one of the whole list
pub at_behind : (bytes : List ℕ) (taken k : ℕ) (left : Option (List ℕ)) → taken ≤ length bytes → IsAt (drop taken bytes) k left → IsAt bytes (taken + k) left
at_behind bytes taken k left h a = record {
  within = omega (arith, h, a.within, length-drop taken bytes);
  left_is = a.left_is ∙ ap (λ l. Some l) (drop-drop k taken bytes);
}

stands_behind : (bytes : List ℕ) (taken n limit : ℕ) (left : Option (List ℕ)) → taken ≤ length bytes → taken ≤ limit → limit - taken < n
    → StandsIn (drop taken bytes) 0 (limit - taken + 1) left → StandsIn bytes taken (min (taken + n) (limit + 1)) left
stands_behind bytes taken n limit None h k m s = tt
stands_behind bytes taken n limit (Some rest) h k m s = (taken + s.0, omega arith, omega (arith, s.2), at_behind bytes taken s.0 (Some rest) h s.3)

stops : (bytes : List ℕ) (taken n limit : ℕ) (why : Unread) (left : Option (List ℕ)) → taken ≤ length bytes → taken ≤ limit → limit - taken < n
    → IsLonger (drop taken bytes) (limit - taken) why left → StopsAt bytes taken n limit why left
stops bytes taken n limit Failed left h k m s = stands_behind bytes taken n limit left h k m s
stops bytes taken n limit TooLong left h k m s =
    let a = at_behind bytes taken (limit - taken + 1) left h s in
    let e : taken + (limit - taken + 1) ≡ limit + 1 = omega arith in
    (omega arith, rw e at a)

pub up_to_limit : (bytes : List ℕ) (taken limit : ℕ) (into mid : List ℕ) (left : Option (List ℕ)) (result : Result ℕ Unread)
    → taken ≤ length bytes → taken ≤ limit → length mid ≡ limit - taken → limit - taken < length into
    → MatchResult result (λ n. ReadsAll (drop taken bytes) n mid left) (λ why. IsLonger (drop taken bytes) (limit - taken) why left)
    → MatchResult result (λ n. ReadsOn bytes taken n (mid ++ drop (limit - taken) into) left) (λ why. StopsAt bytes taken (length into) limit why left)
up_to_limit bytes taken limit into mid left (Ok n) within below long short r =
    let all : n ≡ length (drop taken bytes) = r.all in
    let sum : taken + n ≡ length bytes = omega (arith, length-drop taken bytes) in
    record {
      at = record { within = omega arith; left_is = r.left_is ∙ ap (λ l. Some l) (drop-drop n taken bytes) };
      front = take-append-le n mid (drop (limit - taken) into) r.fits ∙ r.front;
      end = λ _. sum;
    }
up_to_limit bytes taken limit into mid left (Err why) within below long short r = stops bytes taken (length into) limit why left within below short r

-- what is at most taken, whatever is answered

stands_most : (bytes : List ℕ) (taken n limit : ℕ) (left : Option (List ℕ)) → StandsIn bytes taken (min n (limit + 1)) left → TakesAtMost bytes (limit + 1) left
stands_most bytes taken n limit None s = tt
stands_most bytes taken n limit (Some rest) s = (s.0, omega (arith, s.2), s.3.within, let e = s.3.left_is in cc)

pub at_most : (bytes : List ℕ) (place most : ℕ) (left : Option (List ℕ)) → place ≤ most → IsAt bytes place left → TakesAtMost bytes most left
at_most bytes place most None h a = tt
at_most bytes place most (Some rest) h a = (place, h, a.within, let e = a.left_is in cc)

pub most_read : (bytes : List ℕ) (taken n limit room : ℕ) (piece : List ℕ) (left : Option (List ℕ)) (result : Result ℕ Unread) → taken + room ≤ limit → IfOk result (λ k. k ≤ room)
    → MatchResult result (λ k. ReadsOn bytes taken k piece left) (λ why. StopsAt bytes taken n limit why left) → TakesAtMost bytes (limit + 1) left
most_read bytes taken n limit room piece left (Ok k) h below r = at_most bytes (taken + k) (limit + 1) left (omega arith) r.at
most_read bytes taken n limit room piece left (Err Failed) h below r = stands_most bytes taken (taken + n) limit left r
most_read bytes taken n limit room piece left (Err TooLong) h below r = at_most bytes (limit + 1) (limit + 1) left (omega arith) r.1
