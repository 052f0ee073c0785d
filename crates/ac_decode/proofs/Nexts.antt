-- What is read of the next frame.
use Rattle.std.proofs.Common.{◌≡◌, ℕ, ◌+◌, ◌-◌, ◌*◌, ◌^◌, ◌<◌, ◌≤◌, min, List, [], ◌∷◌, ◌++◌, length, take, drop, slice_index, Option, None, Some, inl, inr, ap, ap₂, sym, subst, ◌∙◌, arith}
use Rattle.std.proofs.lemmas.Bool.{cases_lt}
use Rattle.std.proofs.Math.Seq.{take-add}
use Rattle.std.proofs.lemmas.List.{length-take, length-drop, take-append-le, drop-drop, get_or-take}
use Rattle.ac_io.specs.declared.within.Unread.{Unread}
use Rattle.ac_io.specs.declared.within.Unread.TheVariants.{Failed, TooLong}
use Rattle.ac_io.specs.Within.{IsAt, StandsIn, ReadsOn, StopsAt}
use Rattle.ac_codec.specs.declared.refused.Refused.{Refused}
use Rattle.ac_record.specs.Faults.{size_refusal, words_at}
use Rattle.ac_decode.specs.Stream.{needed}
use Rattle.ac_world.specs.Limit.{limit}
use Rattle.ac_decode.specs.Looks.{ReadsSome, ReadsNext, AreKnown, HoldsPart, TakesPart, StopsNext}
use Rattle.ac_decode.proofs.Sizes.{AreSix, six_refusal, six_words}
use Rattle.ac_decode.proofs.Needs.{needed_fits, needed_short, needed_refused, needed_sized, words_fit}

-- ---- a piece of an array

pub reads_front : (bytes : List ℕ) (taken n most : ℕ) (mid post : List ℕ) (left : Option (List ℕ)) → length mid ≡ most → n ≤ most → ReadsOn bytes taken n mid left → ReadsSome bytes taken n most (mid ++ post) left
reads_front bytes taken n most mid post left long fewer r = record {
  at = r.at;
  front = take-append-le n mid post (omega (arith, long, fewer)) ∙ r.front;
  end = λ below. r.end (omega (arith, long, below));
}

-- ---- the first six bytes

part_of_six : (bytes : List ℕ) (taken k : ℕ) → k < taken + 6 → HoldsPart bytes taken k
part_of_six bytes taken k few =
    let least = (needed_fits (drop taken bytes)).0 in
    record { part = omega (arith, few, least); known = λ six. absurd (omega (arith, few, six)) }

stands_six : (bytes : List ℕ) (taken : ℕ) (left : Option (List ℕ)) → StandsIn bytes taken (min (taken + 6) (limit + 1)) left → TakesPart bytes taken left
stands_six bytes taken None s = tt
stands_six bytes taken (Some rest) (k, least, below, at) = (k, least, omega (arith, below), at, part_of_six bytes taken k (omega (arith, below)))

-- they weren't read
pub stops_six : (bytes : List ℕ) (taken : ℕ) (why : Unread) (left : Option (List ℕ)) → StopsAt bytes taken 6 limit why left → StopsNext bytes taken why left
stops_six bytes taken Failed left s = stands_six bytes taken left s
stops_six bytes taken TooLong left s = (part_of_six bytes taken limit s.0, s.1)

-- fewer are there
pub few_next : (bytes : List ℕ) (taken n : ℕ) (piece : List ℕ) (left : Option (List ℕ)) → n < 6 → ReadsSome bytes taken n 6 piece left → ReadsNext bytes taken n piece left
few_next bytes taken n piece left few r =
    let end = r.end few in
    let long = length-drop taken bytes in
    let e = needed_short (drop taken bytes) (omega (arith, end, long, few)) in
    record { at = r.at; front = r.front; count = omega (arith, e, end, long, few) }

-- they are there, and stand in front of a piece
pub record Six (bytes : List ℕ) (taken : ℕ) (piece : List ℕ) : Type 0 where
  pub front : take 6 piece ≡ take 6 (drop taken bytes)
  pub there : 6 ≤ length (drop taken bytes)

pub six_there : (bytes : List ℕ) (taken n : ℕ) (piece : List ℕ) (left : Option (List ℕ)) → n ≡ 6 → ReadsSome bytes taken n 6 piece left → Six bytes taken piece
six_there bytes taken n piece left all r =
    let within = r.at.within in
    record { front = subst (λ (m : ℕ). take m piece ≡ take m (drop taken bytes)) all r.front; there = omega (arith, within, all, length-drop taken bytes) }

six_same : (bytes : List ℕ) (taken : ℕ) (piece : List ℕ) → Six bytes taken piece → (k : ℕ) → k < 6 → slice_index piece k ≡ slice_index (drop taken bytes) k
six_same bytes taken piece s k below =
    sym (get_or-take 6 piece k 0 below) ∙ (ap (λ l. slice_index l k) s.front ∙ get_or-take 6 (drop taken bytes) k 0 below)

-- as an array of their own
abbrev pub six_of : List ℕ → List ℕ
six_of piece =
    slice_index piece 0 ∷ slice_index piece 1 ∷ slice_index piece 2 ∷ slice_index piece 3 ∷ slice_index piece 4 ∷ slice_index piece 5 ∷ []

first_same : (bytes : List ℕ) (taken : ℕ) (piece : List ℕ) → Six bytes taken piece → AreSix (six_of piece) (drop taken bytes)
first_same bytes taken piece s = record {
  zeroth = six_same bytes taken piece s 0 (omega arith);
  first = six_same bytes taken piece s 1 (omega arith);
  fourth = six_same bytes taken piece s 4 (omega arith);
  fifth = six_same bytes taken piece s 5 (omega arith);
}

-- they say no size
pub bad_next : (bytes : List ℕ) (taken n : ℕ) (e : Refused) (piece : List ℕ) (left : Option (List ℕ)) → n ≡ 6 → size_refusal (six_of piece) ≡ Some e → ReadsSome bytes taken n 6 piece left → ReadsNext bytes taken 6 piece left
bad_next bytes taken n e piece left all some r =
    let s = six_there bytes taken n piece left all r in
    let there = s.there in
    let none = sym (six_refusal (six_of piece) (drop taken bytes) (first_same bytes taken piece s)) ∙ some in
    let needs = needed_refused (drop taken bytes) e there none in
    record {
      at = subst (λ (m : ℕ). IsAt bytes (taken + m) left) all r.at;
      front = s.front;
      count = omega (arith, needs, there);
    }

-- ---- the other bytes

pub known_six : (bytes : List ℕ) (taken : ℕ) (piece : List ℕ) → ((k : ℕ) → slice_index piece k < 2 ^ 8) → Six bytes taken piece → AreKnown bytes taken 6
known_six bytes taken piece fit s k below =
    let kept = length-take 6 (drop taken bytes) in
    subst (λ (x : ℕ). x < 2 ^ 8) (six_same bytes taken piece s k (omega (arith, kept, below)) ∙ sym (get_or-take 6 (drop taken bytes) k 0 (omega (arith, kept, below)))) (fit k)

pub needs_by : (bytes : List ℕ) (taken whole : ℕ) (piece : List ℕ) → size_refusal (six_of piece) ≡ None → whole ≡ 2 * words_at (six_of piece) → Six bytes taken piece → needed (drop taken bytes) ≡ whole
needs_by bytes taken whole piece none size s =
    let e = first_same bytes taken piece s in
    needed_sized (drop taken bytes) s.there (sym (six_refusal (six_of piece) (drop taken bytes) e) ∙ none) ∙ (ap (λ w. 2 * w) (sym (six_words (six_of piece) (drop taken bytes) e)) ∙ sym size)

pub size_fits : (first : List ℕ) (whole : ℕ) → size_refusal first ≡ None → whole ≡ 2 * words_at first → (128 ≤ whole) × (whole ≤ 3840)
size_fits first whole none size =
    let w = words_fit first none in
    let least = w.0 in
    let most = w.1 in
    (omega (arith, size, least), omega (arith, size, most))

stands_rest : (bytes : List ℕ) (taken whole : ℕ) (left : Option (List ℕ)) → 6 ≤ whole → needed (drop taken bytes) ≡ whole → AreKnown bytes taken 6
    → StandsIn bytes (taken + 6) (min (taken + 6 + (whole - 6)) (limit + 1)) left → TakesPart bytes taken left
stands_rest bytes taken whole None least needs known s = tt
stands_rest bytes taken whole (Some rest) least needs known (k, more, below, at) =
    (k, omega (arith, more), omega (arith, below), at, record { part = omega (arith, below, needs, least); known = λ _. known })

-- the source stands behind the six
pub at_six : (bytes : List ℕ) (taken n : ℕ) (piece : List ℕ) (left : Option (List ℕ)) → n ≡ 6 → ReadsSome bytes taken n 6 piece left → IsAt bytes (taken + 6) left
at_six bytes taken n piece left all r = subst (λ (m : ℕ). IsAt bytes (taken + m) left) all r.at

pub stops_rest : (bytes : List ℕ) (taken whole : ℕ) (why : Unread) (left : Option (List ℕ)) → 6 ≤ whole → needed (drop taken bytes) ≡ whole → AreKnown bytes taken 6 → StopsAt bytes (taken + 6) (whole - 6) limit why left
    → StopsNext bytes taken why left
stops_rest bytes taken whole Failed left least needs known s = stands_rest bytes taken whole left least needs known s
stops_rest bytes taken whole TooLong left least needs known s = let past = s.0 in (record { part = omega (arith, past, needs, least); known = λ _. known }, s.1)

whole_count : (n whole there needs : ℕ) → needs ≡ whole → 6 + n ≤ whole → (n < whole - 6 → 6 + n ≡ there) → 6 + n ≤ there → 6 + n ≡ min needs there
whole_count n whole there needs e most short least = elim (cases_lt n (whole - 6)) [
  | inl few ↦ let all = short few in omega (arith, e, all, most)
  | inr all ↦ omega (arith, e, all, most, least)
]

-- the six and the others
pub whole_next : (bytes : List ℕ) (taken n whole : ℕ) (piece : List ℕ) (left : Option (List ℕ)) → 6 ≤ whole → 6 + n ≤ whole → take 6 piece ≡ take 6 (drop taken bytes) → needed (drop taken bytes) ≡ whole
    → ReadsSome bytes (taken + 6) n (whole - 6) (drop 6 piece) left → ReadsNext bytes taken (6 + n) piece left
whole_next bytes taken n whole piece left least most front needs r =
    let at : taken + 6 + n ≡ taken + (6 + n) = omega arith in
    let within = r.at.within in
    let left_long = length-drop taken bytes in
    let behind : drop (taken + 6) bytes ≡ drop 6 (drop taken bytes) = sym (drop-drop 6 taken bytes) in
    record {
      at = subst (λ (m : ℕ). IsAt bytes m left) at r.at;
      front = take-add 6 n piece ∙ (ap₂ (λ x y. x ++ y) front (r.front ∙ ap (take n) behind) ∙ sym (take-add 6 n (drop taken bytes)));
      count = whole_count n whole (length (drop taken bytes)) (needed (drop taken bytes)) needs most (λ few. let e = r.end few in omega (arith, e, left_long)) (omega (arith, within, left_long));
    }
