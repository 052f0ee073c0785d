-- Chunks, the list cut behind them, and one chunk more.
use Rattle.std.proofs.Common.{◌≡◌, ◌≢◌, ℕ, ◌+◌, ◌-◌, ◌≤◌, List, [], ◌∷◌, ◌++◌, length, take, drop, None, sym, ap, ◌∙◌, arith, length-drop, length-append, append_assoc}
use Rattle.std.specs.Prelude.{codes}
use Rattle.std.proofs.Common.{inl, inr}
use Rattle.std.specs.List.{concat}
use Rattle.std.proofs.lemmas.List.{take-take, drop-take, length-take-le, append-nil, take_all}
use Rattle.std.proofs.lemmas.List.Folds.{concat-append}
use Rattle.std.proofs.lemmas.List.Elements.{All-append, All-nil, All-cons}
use Rattle.std.proofs.Math.Seq.{take-add}
use Rattle.byteorder.specs.Endian.{little_number}
use Rattle.byteorder.specs.Numbers.{little_from-take}
use Rattle.ac_riff.specs.Format.{format_of, fault_of}
use Rattle.ac_riff.specs.Form.{name_of, size_of, whole_length, body_of, IsChunk, IsPassedBefore, IsPassedBehind, IsRiff, IsOpen, IsFormatted}
use Rattle.ac_riff.specs.Refusal.{Reaches}
use Rattle.ac_riff.specs.Pieces.{chunk_at}

-- ---- the list cut at a limit

pub from_cut : (bytes : List ℕ) (place limit : ℕ) → place ≤ limit → drop place (take limit bytes) ≡ take (limit - place) (drop place bytes)
from_cut bytes place limit h =
    let e : limit ≡ place + (limit - place) = omega arith in
    ap (λ n. drop place (take n bytes)) e ∙ drop-take place (limit - place) bytes

pub size_take : (m : ℕ) (xs : List ℕ) → 8 ≤ m → size_of (take m xs) ≡ size_of xs
size_take m xs h = ap (little_number 4) (from_cut xs 4 m (omega arith)) ∙ little_from-take 0 4 (m - 4) (drop 4 xs) (omega arith)

pub name_take : (m : ℕ) (xs : List ℕ) → 4 ≤ m → name_of (take m xs) ≡ name_of xs
name_take m xs h = take-take 4 m xs h

pub name_cut : (bytes : List ℕ) (place limit : ℕ) → place + 8 ≤ limit → name_of (drop place (take limit bytes)) ≡ name_of (drop place bytes)
name_cut bytes place limit h = ap (take 4) (from_cut bytes place limit (omega arith)) ∙ name_take (limit - place) (drop place bytes) (omega arith)

pub size_cut : (bytes : List ℕ) (place limit : ℕ) → place + 8 ≤ limit → size_of (drop place (take limit bytes)) ≡ size_of (drop place bytes)
size_cut bytes place limit h = ap size_of (from_cut bytes place limit (omega arith)) ∙ size_take (limit - place) (drop place bytes) (omega arith)

pub length_cut : (bytes : List ℕ) (limit : ℕ) → limit ≤ length bytes → length (take limit bytes) ≡ limit
length_cut bytes limit h = length-take-le limit bytes h

-- the list cut at a place which is at most the limit
pub within_cut : (bytes : List ℕ) (place limit : ℕ) → place ≤ length bytes → place ≤ limit → place ≤ length (take limit bytes)
within_cut bytes place limit h k =
    let e : length (take place (take limit bytes)) ≡ place = ap length (take-take place limit bytes k) ∙ length-take-le place bytes h in
    let m = Rattle.std.proofs.lemmas.List.length-take place (take limit bytes) in
    omega (arith, e, m)

riff_cut : (bytes : List ℕ) (limit : ℕ) → 12 ≤ limit → IsRiff bytes → IsRiff (take limit bytes)
riff_cut bytes limit h r = record {
  long = within_cut bytes 12 limit r.long h;
  riff = take-take 4 limit bytes (omega arith) ∙ r.riff;
  wave = ap (take 4) (from_cut bytes 8 limit (omega arith)) ∙ (take-take 4 (limit - 8) (drop 8 bytes) (omega arith) ∙ r.wave);
}

pub open_least : (bytes : List ℕ) (place : ℕ) → IsOpen bytes place → 12 ≤ place
open_least bytes place o =
    let a : length (take place bytes) ≡ place = length-take-le place bytes o.within in
    let b : length (take 12 bytes) ≡ 12 = length-take-le 12 bytes o.riff.long in
    let c : length (take place bytes) ≡ length (take 12 bytes) + length (concat o.passed) = ap length o.same ∙ length-append (take 12 bytes) (concat o.passed) in
    omega (arith, a, b, c)

pub open_cut : (bytes : List ℕ) (place limit : ℕ) → place ≤ limit → IsOpen bytes place → IsOpen (take limit bytes) place
open_cut bytes place limit h o =
    let least = open_least bytes place o in
    record {
      riff = riff_cut bytes limit (omega (arith, least)) o.riff;
      passed = o.passed;
      before = o.before;
      same = take-take place limit bytes h ∙ (o.same ∙ ap (λ l. l ++ concat o.passed) (sym (take-take 12 limit bytes (omega (arith, least)))));
      within = within_cut bytes place limit o.within h;
    }

pub start_least : (bytes chunk : List ℕ) (place : ℕ) (f : IsFormatted bytes chunk place) → f.start ≤ place
start_least bytes chunk place f =
    let a : length (take place bytes) ≡ place = length-take-le place bytes f.within in
    let b : length (take f.start bytes) ≡ f.start = length-take-le f.start bytes f.opened.within in
    let c : length (take place bytes) ≡ length (take f.start bytes) + length (chunk ++ concat f.passed) = ap length f.same ∙ length-append (take f.start bytes) (chunk ++ concat f.passed) in
    omega (arith, a, b, c)

pub formatted_cut : (bytes chunk : List ℕ) (place limit : ℕ) → place ≤ limit → IsFormatted bytes chunk place → IsFormatted (take limit bytes) chunk place
formatted_cut bytes chunk place limit h f =
    let least = start_least bytes chunk place f in
    record {
      start = f.start;
      opened = open_cut bytes f.start limit (omega (arith, least)) f.opened;
      whole = f.whole;
      named = f.named;
      accepted = f.accepted;
      passed = f.passed;
      behind = f.behind;
      same = take-take place limit bytes h ∙ (f.same ∙ ap (λ l. l ++ (chunk ++ concat f.passed)) (sym (take-take f.start limit bytes (omega (arith, least)))));
      within = within_cut bytes place limit f.within h;
    }

pub reaches_cut : (bytes : List ℕ) (place limit : ℕ) → place ≤ limit → Reaches bytes place → Reaches (take limit bytes) place
reaches_cut bytes place limit h (inl o) = inl (open_cut bytes place limit h o)
reaches_cut bytes place limit h (inr f) = inr (f.0, formatted_cut bytes f.0 place limit h f.1)

-- ---- one chunk more

-- the chunk at a place is whole where the list goes on to its end
pub chunk_whole : (bytes : List ℕ) (place : ℕ) → place + whole_length (size_of (drop place bytes)) ≤ length bytes → IsChunk (chunk_at place bytes)
chunk_whole bytes place h =
    let w = whole_length (size_of (drop place bytes)) in
    let long : length (take w (drop place bytes)) ≡ w = length-take-le w (drop place bytes) (omega (arith, length-drop place bytes)) in
    record { long = long ∙ ap whole_length (sym (size_take w (drop place bytes) (omega arith))) }

pub chunk_long : (bytes : List ℕ) (place : ℕ) → place + whole_length (size_of (drop place bytes)) ≤ length bytes → length (chunk_at place bytes) ≡ whole_length (size_of (drop place bytes))
chunk_long bytes place h = length-take-le (whole_length (size_of (drop place bytes))) (drop place bytes) (omega (arith, length-drop place bytes))

pub chunk_name : (bytes : List ℕ) (place : ℕ) → name_of (chunk_at place bytes) ≡ name_of (drop place bytes)
chunk_name bytes place = name_take (whole_length (size_of (drop place bytes))) (drop place bytes) (omega arith)

joined : (passed : List (List ℕ)) (chunk : List ℕ) → concat passed ++ chunk ≡ concat (passed ++ (chunk ∷ []))
joined passed chunk = ap (λ l. concat passed ++ l) (sym (append-nil chunk)) ∙ sym (concat-append passed (chunk ∷ []))

pub open_more : (bytes : List ℕ) (place : ℕ) → IsOpen bytes place → name_of (drop place bytes) ≢ codes "fmt " → name_of (drop place bytes) ≢ codes "data"
    → place + whole_length (size_of (drop place bytes)) ≤ length bytes → IsOpen bytes (place + whole_length (size_of (drop place bytes)))
open_more bytes place o nf nd h =
    let w = whole_length (size_of (drop place bytes)) in
    let chunk = chunk_at place bytes in
    let one : IsPassedBefore chunk = record {
      whole = chunk_whole bytes place h;
      no_format = λ e. nf (sym (chunk_name bytes place) ∙ e);
      no_data = λ e. nd (sym (chunk_name bytes place) ∙ e);
    } in
    record {
      riff = o.riff;
      passed = o.passed ++ (chunk ∷ []);
      before = All-append IsPassedBefore o.passed (chunk ∷ []) o.before (All-cons IsPassedBefore chunk [] one (All-nil IsPassedBefore));
      same = take-add place w bytes ∙ (ap (λ l. l ++ chunk) o.same ∙ (append_assoc (take 12 bytes) (concat o.passed) chunk ∙ ap (λ l. take 12 bytes ++ l) (joined o.passed chunk)));
      within = h;
    }

pub formatted_more : (bytes format : List ℕ) (place : ℕ) → IsFormatted bytes format place → name_of (drop place bytes) ≢ codes "data"
    → place + whole_length (size_of (drop place bytes)) ≤ length bytes → IsFormatted bytes format (place + whole_length (size_of (drop place bytes)))
formatted_more bytes format place f nd h =
    let w = whole_length (size_of (drop place bytes)) in
    let chunk = chunk_at place bytes in
    let one : IsPassedBehind chunk = record {
      whole = chunk_whole bytes place h;
      no_data = λ e. nd (sym (chunk_name bytes place) ∙ e);
    } in
    record {
      start = f.start;
      opened = f.opened;
      whole = f.whole;
      named = f.named;
      accepted = f.accepted;
      passed = f.passed ++ (chunk ∷ []);
      behind = All-append IsPassedBehind f.passed (chunk ∷ []) f.behind (All-cons IsPassedBehind chunk [] one (All-nil IsPassedBehind));
      same = take-add place w bytes ∙ (ap (λ l. l ++ chunk) f.same
          ∙ (append_assoc (take f.start bytes) (format ++ concat f.passed) chunk
          ∙ ap (λ l. take f.start bytes ++ l) (append_assoc format (concat f.passed) chunk ∙ ap (λ l. format ++ l) (joined f.passed chunk))));
      within = h;
    }

-- the `fmt ` chunk itself
pub formatted_first : (bytes : List ℕ) (start : ℕ) → IsOpen bytes start → name_of (drop start bytes) ≡ codes "fmt " → start + whole_length (size_of (drop start bytes)) ≤ length bytes
    → fault_of (format_of (body_of (chunk_at start bytes))) ≡ None → IsFormatted bytes (chunk_at start bytes) (start + whole_length (size_of (drop start bytes)))
formatted_first bytes start o named h fine =
    let w = whole_length (size_of (drop start bytes)) in
    record {
      start = start;
      opened = o;
      whole = chunk_whole bytes start h;
      named = chunk_name bytes start ∙ named;
      accepted = fine;
      passed = [];
      behind = All-nil IsPassedBehind;
      same = take-add start w bytes ∙ ap (λ l. take start bytes ++ l) (sym (append-nil (chunk_at start bytes)));
      within = h;
    }

-- the place behind the 12-byte head
pub open_first : (bytes : List ℕ) → IsRiff bytes → IsOpen bytes 12
open_first bytes r = record { riff = r; passed = []; before = All-nil IsPassedBefore; same = sym (append-nil (take 12 bytes)); within = r.long }
