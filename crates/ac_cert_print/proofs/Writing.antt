-- What pieces written in turn add.
use Rattle.std.proofs.Common.{◌≡◌, ℕ, ◌+◌, ◌-◌, ◌≤◌, Bool, true, false, List, [], ◌∷◌, ◌++◌, length, take, drop, Option, Some, None, refl, ap, sym, subst, ◌∙◌, arith, append_assoc, append-nil, length-drop}
use Rattle.std.proofs.Math.Seq.{take-add}
use Rattle.std.proofs.lemmas.List.{take-append-le, drop-append-le, drop-drop, take_all}
use Rattle.std.specs.Prelude.{nat_le}
use Rattle.std.proofs.lemmas.Bool.{leb-true}
use Rattle.std.proofs.lemmas.Grind.{common_steps}
use Rattle.ac_io.specs.Outside.{Adds, AddsFront}
use Rattle.ac_io.proofs.Written.{adds_both}
use Rattle.ac_cert_print.specs.Pages.{Page, Goes, Stops, Moves, Wrote}

-- ---- fronts and rests of a text that goes on
fronts : (w q : List ℕ) (m n : ℕ) → m ≤ length w → take m w ++ take n (drop m w ++ q) ≡ take (m + n) (w ++ q)
fronts w q m n h = sym (take-add m n (w ++ q) ∙ rw (take-append-le m w q h, drop-append-le m w q h) refl)

rests : (w q : List ℕ) (m n : ℕ) → m ≤ length w → drop n (drop m w ++ q) ≡ drop (m + n) (w ++ q)
rests w q m n h = ap (drop n) (sym (drop-append-le m w q h)) ∙ drop-drop n m (w ++ q)

-- a front of a text is one of the text that goes on
longer : (a b : Option (List ℕ)) (w q : List ℕ) → AddsFront a b w → AddsFront a b (w ++ q)
longer None b w q h = tt
longer (Some held) b w q h = go (nat_le h.0 (length w)) refl
  where
    go : (t : Bool) → nat_le h.0 (length w) ≡ t → AddsFront (Some held) b (w ++ q)
    go true e = (h.0, h.1 ∙ ap (λ (x : List ℕ). Some (held ++ x)) (sym (take-append-le h.0 w q (leb-true h.0 (length w) e))))
    go false e = (length w, h.1 ∙ ap (λ (x : List ℕ). Some (held ++ x)) (take_all h.0 w (grind arith) ∙ (sym (take_all (length w) w (omega arith)) ∙ sym (take-append-le (length w) w q (omega arith)))))

-- some bytes were added, and then a front of the rest
adds_then : (a b c : Option (List ℕ)) (w q : List ℕ) (m : ℕ) → m ≤ length w → Adds a b (take m w) → AddsFront b c (drop m w ++ q) → AddsFront a c (w ++ q)
adds_then None b c w q m h x y = tt
adds_then (Some held) b c w q m h x y =
    let y' = subst (λ (o : Option (List ℕ)). AddsFront o c (drop m w ++ q)) x y in
    (m + y'.0, y'.1 ∙ ap Some (append_assoc held (take m w) (take y'.0 (drop m w ++ q)) ∙ ap (λ (t : List ℕ). held ++ t) (fronts w q m y'.0 h)))

-- ---- in turn
goes_on : (w q : List ℕ) (a b c : Page) → Goes w a b → Goes (b.kept ++ q) b c → Goes (w ++ q) a c
goes_on w q a b c x y =
    let kept : b.kept ++ q ≡ drop x.count w ++ q = ap (λ (k : List ℕ). k ++ q) x.kept in
    let within : y.count ≤ length (drop x.count w ++ q) = subst (λ (l : List ℕ). y.count ≤ length l) kept y.within in
    let added : Adds b.bytes c.bytes (take y.count (drop x.count w ++ q)) = subst (λ (l : List ℕ). Adds b.bytes c.bytes (take y.count l)) kept y.added in
    record {
      count = x.count + y.count;
      within = grind (arith, common_steps, x.within, within);
      added = subst (λ (l : List ℕ). Adds a.bytes c.bytes l) (fronts w q x.count y.count x.within) (adds_both a.bytes b.bytes c.bytes (take x.count w) (take y.count (drop x.count w ++ q)) x.added added);
      kept = y.kept ∙ (ap (drop y.count) kept ∙ rests w q x.count y.count x.within);
    }

stops_then : (w q : List ℕ) (a b c : Page) → Goes w a b → a.faults ≤ b.faults → Stops (b.kept ++ q) b c → Stops (w ++ q) a c
stops_then w q a b c x le y = record {
  rose = omega (arith, y.rose, le);
  front = adds_then a.bytes b.bytes c.bytes w q x.count x.within x.added (subst (λ (l : List ℕ). AddsFront b.bytes c.bytes (l ++ q)) x.kept y.front);
}

stopped : (w q : List ℕ) (a b : Page) → Stops w a b → Stops (w ++ q) a b
stopped w q a b x = record { rose = x.rose; front = longer a.bytes b.bytes w q x.front }

moves-then : (t u v : Bool) (w q : List ℕ) (a b c : Page) → Moves t u w a b → a.faults ≤ b.faults → Moves u v (b.kept ++ q) b c → a.failed ≡ t → b.failed ≡ u → c.failed ≡ v
    → Moves t v (w ++ q) a c
moves-then true true v w q a b c x le y p r s = y ∙ x
moves-then true false v w q a b c x le y p r s =
    let e : b.failed ≡ a.failed = ap (λ (k : Page). k.failed) x in
    absurd (cc)
moves-then false true true w q a b c x le y p r s = subst (λ (k : Page). Stops (w ++ q) a k) (sym y) (stopped w q a b x)
moves-then false true false w q a b c x le y p r s =
    let e : c.failed ≡ b.failed = ap (λ (k : Page). k.failed) y in
    absurd (cc)
moves-then false false true w q a b c x le y p r s = stops_then w q a b c x le y
moves-then false false false w q a b c x le y p r s = goes_on w q a b c x y

-- one piece, and then another
pub then : {p q : List ℕ} {a b c : Page} → Wrote p a b → Wrote q b c → Wrote (p ++ q) a c
then {p} {q} {a} {b} {c} x y = record {
  moves = subst (λ (l : List ℕ). Moves a.failed c.failed l a c) (append_assoc a.kept p q)
      (moves-then a.failed b.failed c.failed (a.kept ++ p) q a b c x.moves x.never_falls y.moves refl refl refl);
  never_falls = omega (arith, x.never_falls, y.never_falls);
}

none : (o : Option (List ℕ)) → Adds o o []
none None = tt
none (Some held) = ap Some (sym (append-nil held))

-- nothing
pub nothing : (a : Page) → Wrote [] a a
nothing a = record { moves = go a.failed; never_falls = omega arith }
  where
    go : (t : Bool) → Moves t t (a.kept ++ []) a a
    go true = refl
    go false = record { count = 0; within = omega arith; added = none a.bytes; kept = sym (append-nil a.kept) }

-- after a failed write nothing is written
pub unmoved : (p : List ℕ) (a : Page) → a.failed ≡ true → Wrote p a a
unmoved p a h = record { moves = rw h refl; never_falls = omega arith }

-- a byte is kept
pub keeps : (byte : ℕ) (a c : Page) → a.failed ≡ false → c.failed ≡ false → c.bytes ≡ a.bytes → c.faults ≡ a.faults → c.kept ≡ a.kept ++ byte ∷ [] → Wrote (byte ∷ []) a c
keeps byte a c p q told faults kept = record {
  moves = rw (p, q) (record { count = 0; within = omega arith; added = rw told (none a.bytes); kept = kept });
  never_falls = omega arith;
}

-- nothing more
pub then_nothing : {p : List ℕ} {a b c : Page} → Wrote p a b → Wrote [] b c → Wrote p a c
then_nothing {p} {a} {b} {c} x y = subst (λ (l : List ℕ). Wrote l a c) (append-nil p) (then x y)

-- ---- a text from the first byte to the last
goes : (t u : Bool) (w : List ℕ) (a b : Page) → t ≡ false → u ≡ false → Moves t u w a b → Goes w a b
goes true u w a b p q x = absurd (cc)
goes false true w a b p q x = absurd (cc)
goes false false w a b p q x = x

stops : (t u : Bool) (w : List ℕ) (a b : Page) → t ≡ false → u ≡ true → Moves t u w a b → Stops w a b
stops true u w a b p q x = absurd (cc)
stops false true w a b p q x = x
stops false false w a b p q x = absurd (cc)

pub all-added : (text : List ℕ) (a b : Page) → a.failed ≡ false → a.kept ≡ [] → b.failed ≡ false → b.kept ≡ [] → Wrote text a b → Adds a.bytes b.bytes text
all-added text a b p begun q emptied x =
    let w : a.kept ++ text ≡ text = ap (λ (k : List ℕ). k ++ text) begun in
    let y : Goes text a b = subst (λ (l : List ℕ). Goes l a b) w (goes a.failed b.failed (a.kept ++ text) a b p q x.moves) in
    let left : length text - y.count ≡ 0 = sym (length-drop y.count text) ∙ ap length (sym y.kept ∙ emptied) in
    subst (λ (l : List ℕ). Adds a.bytes b.bytes l) (take_all y.count text (omega arith)) y.added

pub front-added : (text : List ℕ) (a b : Page) → a.failed ≡ false → a.kept ≡ [] → b.failed ≡ true → Wrote text a b → Stops text a b
front-added text a b p begun q x =
    let w : a.kept ++ text ≡ text = ap (λ (k : List ℕ). k ++ text) begun in
    subst (λ (l : List ℕ). Stops l a b) w (stops a.failed b.failed (a.kept ++ text) a b p q x.moves)
