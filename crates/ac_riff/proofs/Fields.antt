-- The fields of a `fmt ` chunk, read from its first 40 bytes.
use Rattle.std.proofs.Common.{◌≡◌, ℕ, zero, suc, ◌+◌, ◌-◌, ◌*◌, ◌≤◌, ◌<◌, min, List, ◌++◌, length, take, drop, replicate, Option, refl, sym, subst, ap, ◌∙◌, arith, inl, inr, slice_index, length-drop}
use Rattle.std.proofs.lemmas.Bool.{cases_lt}
use Rattle.std.proofs.lemmas.List.{get_or-take, get_or-drop, get_or-append-add, get_or_append_left, get_or-replicate, get_or_past, length-take-le}
use Rattle.byteorder.specs.Endian.{little_from}
use Rattle.ac_riff.specs.declared.format.Format.{Format}
use Rattle.ac_riff.specs.Format.{fields_of}
use Rattle.ac_riff.specs.Form.{size_of, whole_length, padded, body_of}
use Rattle.ac_io.specs.Within.{IsAt, ReadsOn}
use Rattle.ac_riff.specs.Pieces.{FormatRead, chunk_at}
use Rattle.ac_riff.proofs.Chunks.{size_take, chunk_long}

number_same : (place n j : ℕ) (xs ys : List ℕ) → (place + j) + n ≤ 40 → ((i : ℕ) → i < 40 → slice_index xs i ≡ slice_index ys i) → little_from j n (drop place xs) ≡ little_from j n (drop place ys)
number_same place zero j xs ys h same = refl
number_same place (suc n) j xs ys h same =
    let byte : slice_index (drop place xs) j ≡ slice_index (drop place ys) j = get_or-drop place xs j 0 ∙ (same (place + j) (omega arith) ∙ sym (get_or-drop place ys j 0)) in
    let rest = number_same place n (suc j) xs ys (omega arith) same in
    ap (λ b. b + 256 * little_from (suc j) n (drop place xs)) byte ∙ ap (λ r. slice_index (drop place ys) j + 256 * r) rest

fields_same : (size : ℕ) (xs ys : List ℕ) → ((i : ℕ) → i < 40 → slice_index xs i ≡ slice_index ys i) → fields_of size xs ≡ fields_of size ys
fields_same size xs ys same =
    let a = number_same 0 2 0 xs ys (omega arith) same in
    let b = number_same 2 2 0 xs ys (omega arith) same in
    let c = number_same 4 4 0 xs ys (omega arith) same in
    let d = number_same 12 2 0 xs ys (omega arith) same in
    let e = number_same 14 2 0 xs ys (omega arith) same in
    let f = number_same 16 2 0 xs ys (omega arith) same in
    let g = number_same 20 4 0 xs ys (omega arith) same in
    let h = number_same 24 16 0 xs ys (omega arith) same in
    cc

-- a byte of a chunk's body, by its place in the list
body_slot : (bytes : List ℕ) (place size i : ℕ) → size ≡ size_of (drop place bytes) → i < size → slice_index (body_of (chunk_at place bytes)) i ≡ slice_index bytes (place + 8 + i)
body_slot bytes place size i e below =
    let rest = drop place bytes in
    let w = whole_length (size_of rest) in
    let same : size_of (chunk_at place bytes) ≡ size_of rest = size_take w rest (omega arith) in
    let at : place + (8 + i) ≡ place + 8 + i = omega arith in
    get_or-take (size_of (chunk_at place bytes)) (drop 8 (chunk_at place bytes)) i 0 (omega (arith, same, e))
    ∙ (get_or-drop 8 (chunk_at place bytes) i 0
    ∙ (get_or-take w rest (8 + i) 0 (omega (arith, e))
    ∙ (get_or-drop place bytes (8 + i) 0 ∙ ap (slice_index bytes) at)))

body_long : (bytes : List ℕ) (place : ℕ) → place + whole_length (size_of (drop place bytes)) ≤ length bytes → length (body_of (chunk_at place bytes)) ≡ size_of (drop place bytes)
body_long bytes place within =
    let rest = drop place bytes in
    let w = whole_length (size_of rest) in
    let same : size_of (chunk_at place bytes) ≡ size_of rest = size_take w rest (omega arith) in
    let long = chunk_long bytes place within in
    length-take-le (size_of (chunk_at place bytes)) (drop 8 (chunk_at place bytes)) (omega (arith, same, long, length-drop 8 (chunk_at place bytes))) ∙ same

front_slot : (bytes mid : List ℕ) (start front i : ℕ) → length mid ≡ front → take front mid ≡ take front (drop start bytes) → i < front → slice_index mid i ≡ slice_index bytes (start + i)
front_slot bytes mid start front i long same below =
    sym (get_or-take front mid i 0 below) ∙ (ap (λ l. slice_index l i) same ∙ (get_or-take front (drop start bytes) i 0 below ∙ get_or-drop start bytes i 0))

zero_slot : (mid : List ℕ) (front i : ℕ) → length mid ≡ front → front ≤ i → i < 40 → slice_index (mid ++ drop front (replicate 40 0)) i ≡ 0
zero_slot mid front i long late below =
    let at : i ≡ length mid + (i - front) = omega arith in
    ap (slice_index (mid ++ drop front (replicate 40 0))) at
    ∙ (get_or-append-add mid (drop front (replicate 40 0)) (i - front) 0
    ∙ (get_or-drop front (replicate 40 0) (i - front) 0 ∙ get_or-replicate 40 (front + (i - front)) 0 0 (omega arith)))

slots : (bytes mid : List ℕ) (place front size : ℕ) → length mid ≡ front → front ≡ min size 40 → take front mid ≡ take front (drop (place + 8) bytes)
    → size ≡ size_of (drop place bytes) → place + whole_length (size_of (drop place bytes)) ≤ length bytes
    → (i : ℕ) → i < 40 → slice_index (mid ++ drop front (replicate 40 0)) i ≡ slice_index (body_of (chunk_at place bytes)) i
slots bytes mid place front size long least same e within i below =
    elim (cases_lt i front) [
      | inl h ↦ get_or_append_left mid (drop front (replicate 40 0)) 0 i (omega (arith, h)) ∙ (front_slot bytes mid (place + 8) front i long same h ∙ sym (body_slot bytes place size i e (omega (arith, h, least))))
      | inr h ↦ zero_slot mid front i long h below ∙ sym (get_or_past (body_of (chunk_at place bytes)) i 0 (omega (arith, h, least, below, e, body_long bytes place within)))
    ]

-- the whole chunk was read
pub format_read : (bytes mid : List ℕ) (place front rest size n : ℕ) (format : Format) (middle left : Option (List ℕ)) → length mid ≡ front → front ≡ min size 40 → n ≡ front
    → ReadsOn bytes (place + 8) n mid middle → size ≡ size_of (drop place bytes) → front + rest ≡ padded size → IsAt bytes (place + 8 + front + rest) left
    → format ≡ fields_of size (mid ++ drop front (replicate 40 0)) → FormatRead bytes place format left
format_read bytes mid place front rest size n format middle left long least all r e sum at says =
    let end : place + 8 + front + rest ≡ place + whole_length (size_of (drop place bytes)) = omega (arith, sum, ap padded e) in
    let there = subst (λ (p : ℕ). IsAt bytes p left) end at in
    let same = subst (λ (k : ℕ). take k mid ≡ take k (drop (place + 8) bytes)) all r.front in
    record {
      at = there;
      says = says ∙ (fields_same size (mid ++ drop front (replicate 40 0)) (body_of (chunk_at place bytes)) (slots bytes mid place front size long least same e there.within)
          ∙ ap (λ s. fields_of s (body_of (chunk_at place bytes))) (e ∙ sym (body_long bytes place there.within)));
    }
