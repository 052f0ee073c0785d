-- What is read is spelled so, what is spelled so is read, and what is refused is refused there: for each kind of row, and so for all that
-- are made of them.
use Rattle.std.proofs.Common.{◌≡◌, ℕ, zero, suc, ◌+◌, ◌<◌, ◌≤◌, ◌^◌, ◌⊎◌, inl, inr, Bool, true, false, List, [], ◌∷◌, ◌++◌, length, take}
use Rattle.std.proofs.Common.{drop, Option, Some, None, Result, Ok, Err, refl, ap, sym, subst, ◌∙◌, arith, length-append, append_assoc}
use Rattle.std.proofs.lemmas.Bool.{le-ltb, lt-ltb, cases_lt}
use Rattle.std.proofs.lemmas.List.{take_at, drop_at, take-append-drop, length-take-le}
use Rattle.ac_bits.specs.Bits.{bits, num}
use Rattle.ac_bits.proofs.Laws.{bits-num, num_below}
use Rattle.ac_codec.specs.declared.refused.Refused.{Refused}
use Rattle.ac_codec.specs.declared.refused.Refused.TheVariants.{OutOfBits}
use Rattle.std.specs.Prelude.{IfOk, IfErr}
use Rattle.ac_codec.specs.Codec.{Codec, Outcome, Gives, ◌>>=◌, field, field_read, checked, tested_bit, tested_bit_read, tested, absent}
use Rattle.ac_codec.specs.Codec.{pair, shaped, fitted, free, free_read, GivesPart, given, slot, slot_spell, SlotLawful, cons, each}
use Rattle.ac_codec.specs.Codec.{cons_then, then_spell, ThenLawful, judged, judged_as, single, single_read, some_spell, cons_spell}
use Rattle.ac_codec.specs.Codec.{ConsLawful}
use Rattle.std.specs.Prelude.{is_some}
use Rattle.std.specs.Option.{ForSome}
use Rattle.ac_codec.proofs.Reading.{field_at, field_refused, field_out}

pub record Sound {A : Type 0} (c : Codec A) : Type 0 where
  pub found : (l : List Bool) (a : A) (rest : List Bool) → c.read l ≡ Ok (a, rest) → c.Lawful a × (l ≡ c.spell a ++ rest)
  pub only : (a : A) (rest : List Bool) → c.Lawful a → c.read (c.spell a ++ rest) ≡ Ok (a, rest)
  pub refused : (l : List Bool) (e : Refused) (at : List Bool) → c.read l ≡ Err (e, at) → c.Refuses l e at
  pub refuses : (l : List Bool) (e : Refused) (at : List Bool) → c.Refuses l e at → c.read l ≡ Err (e, at)

-- the outcome of a step that did not fail, and of one that did
pub bind_ok : {A B : Type 0} (r : Outcome A) (f : A × List Bool → Outcome B) (y : B × List Bool) → (r >>= f) ≡ Ok y
    → (x : A × List Bool) × (r ≡ Ok x) × (f x ≡ Ok y)
bind_ok (Ok x) f y e = (x, refl, e)
bind_ok (Err d) f y e = absurd cc

pub bind_err : {A B : Type 0} (r : Outcome A) (f : A × List Bool → Outcome B) (y : Refused × List Bool) → (r >>= f) ≡ Err y
    → (r ≡ Err y) ⊎ ((x : A × List Bool) × (r ≡ Ok x) × (f x ≡ Err y))
bind_err (Ok x) f y e = inr (x, refl, e)
bind_err (Err d) f y e = inl cc

-- a step after which nothing fails
bind_later : {A B : Type 0} (r : Outcome A) (f : A × List Bool → B × List Bool) (y : Refused × List Bool) → (r >>= λ x. Ok (f x)) ≡ Err y
    → r ≡ Err y
bind_later (Ok x) f y e = absurd cc
bind_later (Err d) f y e = cc

abbrev ok_of : {A : Type 0} → A × List Bool → Outcome A
ok_of x = Ok x

abbrev err_of : {A : Type 0} → Refused × List Bool → Outcome A
err_of x = Err x

ok_same : {A : Type 0} (x y : A × List Bool) → ok_of x ≡ ok_of y → x ≡ y
ok_same x y e = cc

pub ok_pair : {A : Type 0} (a b : A) (r s : List Bool) → ok_of (a, r) ≡ ok_of (b, s) → (a ≡ b) × (r ≡ s)
ok_pair a b r s e = let h = ok_same (a, r) (b, s) e in (ap (λ x. x.0) h, ap (λ x. x.1) h)

err_same : {A : Type 0} (x y : Refused × List Bool) → err_of {A = A} x ≡ err_of y → x ≡ y
err_same x y e = cc

pub err_pair : {A : Type 0} (a b : Refused) (r s : List Bool) → err_of {A = A} (a, r) ≡ err_of (b, s) → (a ≡ b) × (r ≡ s)
err_pair {A} a b r s e = let h = err_same {A = A} (a, r) (b, s) e in (ap (λ x. x.0) h, ap (λ x. x.1) h)

-- ---- a field
whole : (w : ℕ) (l : List Bool) → w ≤ length l → (num (take w l) < 2 ^ w) × (l ≡ bits (num (take w l)) w ++ drop w l)
whole w l h =
    let n : length (take w l) ≡ w = length-take-le w l h in
    let same : bits (num (take w l)) w ≡ take w l = sym (ap (bits (num (take w l))) n) ∙ bits-num (take w l) in
    (subst (λ (k : ℕ). num (take w l) < 2 ^ k) n (num_below (take w l)), sym (take-append-drop w l) ∙ ap (λ x. x ++ drop w l) (sym same))

checked_ok : (o : Option Refused) (v a : ℕ) (l rest r : List Bool) → checked o v l rest ≡ Ok (a, r) → (o ≡ None) × (v ≡ a) × (rest ≡ r)
checked_ok None v a l rest r e = let h = ok_pair v a rest r e in (refl, h.0, h.1)
checked_ok (Some d) v a l rest r e = absurd cc

checked_err : (o : Option Refused) (v : ℕ) (l rest : List Bool) (d : Refused) (at : List Bool) → checked o v l rest ≡ Err (d, at)
    → (o ≡ Some d) × (at ≡ l)
checked_err None v l rest d at e = absurd cc
checked_err (Some x) v l rest d at e = let h = err_pair {A = ℕ} x d l at e in (ap (λ (y : Refused). Some y) h.0, sym h.1)

FieldRefuses : ℕ → (ℕ → Option Refused) → List Bool → Refused → List Bool → Type 0
FieldRefuses w refuse l e at =
    (at ≡ l) × (((length l < w) × (e ≡ OutOfBits)) ⊎ ((v : ℕ) × (rest : List Bool) × (v < 2 ^ w) × (l ≡ bits v w ++ rest)
    × (refuse v ≡ Some e)))

field_found : (w : ℕ) (refuse : ℕ → Option Refused) (l : List Bool) (a : ℕ) (rest : List Bool) → (length l < w) ⊎ (w ≤ length l)
    → field_read w refuse l ≡ Ok (a, rest) → ((a < 2 ^ w) × (refuse a ≡ None)) × (l ≡ bits a w ++ rest)
field_found w refuse l a rest (inl lt) e =
    let f : Outcome ℕ = Err (OutOfBits, l) in
    let g : f ≡ Ok (a, rest) = rw (lt-ltb (length l) w lt) at e in
    absurd cc
field_found w refuse l a rest (inr le) e =
    let v = num (take w l) in
    let g = rw (le-ltb (length l) w le) at e in
    let h = checked_ok (refuse v) v a l (drop w l) rest g in
    let b = whole w l le in (
      (subst (λ (n : ℕ). n < 2 ^ w) h.1 b.0, ap refuse (sym h.1) ∙ h.0),
      b.1
          ∙ (ap (λ n. bits n w ++ drop w l) h.1 ∙ ap (λ r. bits a w ++ r) h.2),
    )

field_refuses : (w : ℕ) (refuse : ℕ → Option Refused) (l : List Bool) (d : Refused) (at : List Bool) → (length l < w) ⊎ (w ≤ length l)
    → field_read w refuse l ≡ Err (d, at) → (at ≡ l) × (((length l < w) × (d ≡ OutOfBits))
    ⊎ ((v : ℕ) × (rest : List Bool) × (v < 2 ^ w) × (l ≡ bits v w ++ rest) × (refuse v ≡ Some d)))
field_refuses w refuse l d at (inl lt) e =
    let g = rw (lt-ltb (length l) w lt) at e in
    let h = err_pair {A = ℕ} OutOfBits d l at g in
    (sym h.1, inl (lt, sym h.0))
field_refuses w refuse l d at (inr le) e =
    let v = num (take w l) in
    let g = rw (le-ltb (length l) w le) at e in
    let h = checked_err (refuse v) v l (drop w l) d at g in
    let b = whole w l le in
    (h.1, inr (v, drop w l, b.0, b.1, h.0))

pub field_sound : (w : ℕ) (refuse : ℕ → Option Refused) → Sound (field w refuse)
unfolding field
field_sound w refuse = record {
  found = λ l a rest e. field_found w refuse l a rest (cases_lt (length l) w) e;
  only = λ a rest h. field_at w a rest refuse h.0 ∙ ap (λ o. checked o a (bits a w ++ rest) rest) h.1;
  refused = λ l e at h. field_refuses w refuse l e at (cases_lt (length l) w) h;
  refuses = λ l e at h. elim h.1 [
    | inl k ↦ rw (h.0, k.1) (field_out w l refuse k.0)
    | inr k ↦ rw h.0 (field_refused w k.0 l k.1 refuse e k.2 k.3 k.4)
  ];
}

-- ---- single bits
tested_ok : (o : Option Refused) (b a : Bool) (here rest r : List Bool) → tested o b here rest ≡ Ok (a, r)
    → (o ≡ None) × (b ≡ a) × (rest ≡ r)
tested_ok None b a here rest r e = let h = ok_pair b a rest r e in (refl, h.0, h.1)
tested_ok (Some d) b a here rest r e = absurd cc

tested_err : (o : Option Refused) (b : Bool) (here rest : List Bool) (d : Refused) (at : List Bool) → tested o b here rest ≡ Err (d, at)
    → (o ≡ Some d) × (at ≡ here)
tested_err None b here rest d at e = absurd cc
tested_err (Some x) b here rest d at e = let h = err_pair {A = Bool} x d here at e in (ap (λ (y : Refused). Some y) h.0, sym h.1)

tested_bit_found : (refuse : Bool → Option Refused) (l : List Bool) (a : Bool) (rest : List Bool) → tested_bit_read refuse l ≡ Ok (a, rest)
    → (refuse a ≡ None) × (l ≡ a ∷ rest)
tested_bit_found refuse [] a rest e = absurd cc
tested_bit_found refuse (b ∷ l) a rest e =
    let h = tested_ok (refuse b) b a (b ∷ l) l rest e in
    (ap refuse (sym h.1) ∙ h.0, ap (λ x. x ∷ l) h.1 ∙ ap (λ r. a ∷ r) h.2)

tested_bit_refuses : (refuse : Bool → Option Refused) (l : List Bool) (e : Refused) (at : List Bool)
    → tested_bit_read refuse l ≡ Err (e, at)
    → (at ≡ l) × (((l ≡ []) × (e ≡ OutOfBits)) ⊎ ((b : Bool) × (rest : List Bool) × (l ≡ b ∷ rest) × (refuse b ≡ Some e)))
tested_bit_refuses refuse [] e at h = let k = err_pair {A = Bool} OutOfBits e [] at h in (sym k.1, inl (refl, sym k.0))
tested_bit_refuses refuse (b ∷ l) e at h = let k = tested_err (refuse b) b (b ∷ l) l e at h in (k.1, inr (b, l, refl, k.0))

pub tested_bit_sound : (refuse : Bool → Option Refused) → Sound (tested_bit refuse)
unfolding tested_bit
tested_bit_sound refuse = record {
  found = tested_bit_found refuse;
  only = λ a rest h. ap (λ o. tested o a (a ∷ rest) rest) h;
  refused = tested_bit_refuses refuse;
  refuses = λ l e at h. elim h.1 [
    | inl k ↦ rw (h.0, k.0, k.1) refl
    | inr k ↦ rw (h.0, k.2) (ap (λ o. tested o k.0 (k.0 ∷ k.1) k.1) k.3)
  ];
}

-- ---- rows that are absent, and rows in order
pub absent_sound : {A : Type 0} (a : A) → Sound (absent a)
unfolding absent
absent_sound a = record {
  found = λ l b rest e. let h = ok_pair a b l rest e in (sym h.0, h.1);
  only = λ b rest h. ap (λ x. ok_of (x, rest)) (sym h);
  refused = λ l e at h. let g : ok_of (a, l) ≡ Err (e, at) = h in absurd cc;
  refuses = λ l e at h. absurd h;
}

PairLawful : {A B : Type 0} → Codec A → (A → Codec B) → A × B → Type 0
PairLawful c f p = c.Lawful p.0 × (f p.0).Lawful p.1

pub pair_sound : {A B : Type 0} (c : Codec A) (f : A → Codec B) → Sound c → ((a : A) → Sound (f a)) → Sound (pair c f)
unfolding pair
pair_sound {A} {B} c f s t = record {
  found = λ l p rest e.
      let x = bind_ok (c.read l) (λ x. ((f x.0).read x.1 >>= λ y. Ok ((x.0, y.0), y.1))) (p, rest) e in
      let y = bind_ok ((f x.0.0).read x.0.1) (λ y. Ok ((x.0.0, y.0), y.1)) (p, rest) x.2 in
      let h = ok_pair (x.0.0, y.0.0) p y.0.1 rest y.2 in
      let a = s.found l x.0.0 x.0.1 x.1 in
      let b = (t x.0.0).found x.0.1 y.0.0 y.0.1 y.1 in
      let lawful : c.Lawful x.0.0 × (f x.0.0).Lawful y.0.0 = (a.0, b.0) in
      let spelled : l ≡ c.spell x.0.0 ++ (f x.0.0).spell y.0.0 ++ y.0.1 =
      a.1 ∙ (ap (λ m. c.spell x.0.0 ++ m) b.1 ∙ sym (append_assoc (c.spell x.0.0) ((f x.0.0).spell y.0.0) y.0.1)) in (
        subst (λ (q : A × B). c.Lawful q.0 × (f q.0).Lawful q.1) h.0 lawful,
        spelled ∙ (ap (λ (q : A × B). c.spell q.0 ++ (f q.0).spell q.1 ++ y.0.1) h.0 ∙ ap (λ r. c.spell p.0 ++ (f p.0).spell p.1 ++ r) h.1),
      );
  only = λ p rest h.
      let one = s.only p.0 ((f p.0).spell p.1 ++ rest) h.0 in
      let two = (t p.0).only p.1 rest h.1 in
      rw (append_assoc (c.spell p.0) ((f p.0).spell p.1) rest, one, two) refl;
  refused = λ l e at h.
      elim (bind_err (c.read l) (λ x. ((f x.0).read x.1 >>= λ y. Ok ((x.0, y.0), y.1))) (e, at) h) [
        | inl k ↦ inl (s.refused l e at k)
        | inr x ↦ inr (
            let a = s.found l x.0.0 x.0.1 x.1 in (
              x.0.0,
              x.0.1,
              a.0,
              a.1,
              (t x.0.0).refused x.0.1 e at
                  (bind_later ((f x.0.0).read x.0.1) (λ y. ((x.0.0, y.0), y.1)) (e, at) x.2),
            ))
      ];
  refuses = λ l e at h. elim h [
    | inl k ↦ rw (s.refuses l e at k) refl
    | inr x ↦ rw (x.3, s.only x.0 x.1 x.2, (t x.0).refuses x.1 e at x.4) refl
  ];
}

pub shaped_sound : {A B : Type 0} (to : A → B) (from : B → A) (c : Codec A) → ((a : A) → from (to a) ≡ a) → ((b : B) → to (from b) ≡ b)
    → Sound c → Sound (shaped to from c)
unfolding shaped
shaped_sound to from c back again s = record {
  found = λ l b rest e.
      let x = bind_ok (c.read l) (λ x. Ok (to x.0, x.1)) (b, rest) e in
      let h = ok_pair (to x.0.0) b x.0.1 rest x.2 in
      let same : x.0.0 ≡ from b = sym (back x.0.0) ∙ ap from h.0 in
      let a = s.found l x.0.0 x.0.1 x.1 in
      (subst c.Lawful same a.0, a.1 ∙ (ap (λ v. c.spell v ++ x.0.1) same ∙ ap (λ r. c.spell (from b) ++ r) h.1));
  only = λ b rest h. rw (s.only (from b) rest h) (ap (λ v. ok_of (v, rest)) (again b));
  refused = λ l e at h. s.refused l e at (bind_later (c.read l) (λ x. (to x.0, x.1)) (e, at) h);
  refuses = λ l e at h. rw (s.refuses l e at h) refl;
}

pub fitted_sound : {A B : Type 0} (to : A → B) (from : B → A) (Fits : B → Type 0) (c : Codec A)
    → ((a : A) → c.Lawful a → Fits (to a) × (from (to a) ≡ a)) → ((b : B) → Fits b → to (from b) ≡ b)
    → Sound c → Sound (fitted to from Fits c)
unfolding fitted
fitted_sound {A} {B} to from Fits c back again s = record {
  found = λ l b rest e.
      let x = bind_ok (c.read l) (λ x. Ok (to x.0, x.1)) (b, rest) e in
      let h = ok_pair (to x.0.0) b x.0.1 rest x.2 in
      let a = s.found l x.0.0 x.0.1 x.1 in
      let f = back x.0.0 a.0 in
      let same : x.0.0 ≡ from b = sym f.1 ∙ ap from h.0 in
      ((subst Fits h.0 f.0, subst c.Lawful same a.0), a.1 ∙ (ap (λ v. c.spell v ++ x.0.1) same ∙ ap (λ r. c.spell (from b) ++ r) h.1));
  only = λ b rest h. rw (s.only (from b) rest h.1) (ap (λ v. ok_of (v, rest)) (again b h.0));
  refused = λ l e at h. s.refused l e at (bind_later (c.read l) (λ x. (to x.0, x.1)) (e, at) h);
  refuses = λ l e at h. rw (s.refuses l e at h) refl;
}

some_same : {A : Type 0} {x y : A} → Some x ≡ Some y → x ≡ y
some_same e = cc

given_found : {A : Type 0} (there : Bool) (c : Codec A) → Sound c → (l : List Bool) (o : Option A) (rest : List Bool)
    → (given there c).read l ≡ Ok (o, rest)
    → ((is_some o ≡ there) × ForSome o c.Lawful) × (l ≡ some_spell c.spell o ++ rest)
unfolding given
given_found {A} true c s l o rest e =
    let x = bind_ok (c.read l) (λ x. Ok (Some x.0, x.1)) (o, rest) e in
    let h = ok_pair (Some x.0.0) o x.0.1 rest x.2 in
    let a = s.found l x.0.0 x.0.1 x.1 in
    let goal : Option A → Type 0 = λ v. ((is_some v ≡ true) × ForSome v c.Lawful) × (l ≡ some_spell c.spell v ++ rest) in
    subst goal h.0 ((refl, λ y k. subst c.Lawful (some_same k) a.0), a.1 ∙ ap (λ r. c.spell x.0.0 ++ r) h.1)
given_found {A} false c s l o rest e =
    let none : Option A = None in
    let h = ok_pair none o l rest e in
    let goal : Option A → Type 0 = λ v. ((is_some v ≡ false) × ForSome v c.Lawful) × (l ≡ some_spell c.spell v ++ rest) in
    subst goal h.0 ((refl, λ y k. absurd cc), h.1)

given_only : {A : Type 0} (there : Bool) (c : Codec A) → Sound c → (o : Option A) (rest : List Bool) → is_some o ≡ there
    → ForSome o c.Lawful
    → (given there c).read (some_spell c.spell o ++ rest) ≡ Ok (o, rest)
unfolding given
given_only true c s None rest e h = absurd cc
given_only true c s (Some a) rest e h = rw (s.only a rest (h a refl)) refl
given_only false c s None rest e h = refl
given_only false c s (Some a) rest e h = absurd cc

given_refused : {A : Type 0} (there : Bool) (c : Codec A) → Sound c → (l : List Bool) (e : Refused) (at : List Bool)
    → (given there c).read l ≡ Err (e, at) → (there ≡ true) × c.Refuses l e at
unfolding given
given_refused true c s l e at h = (refl, s.refused l e at (bind_later (c.read l) (λ x. (Some x.0, x.1)) (e, at) h))
given_refused {A} false c s l e at h = let none : Option A = None in let g : ok_of (none, l) ≡ Err (e, at) = h in absurd cc

pub given_sound : {A : Type 0} (there : Bool) (c : Codec A) → Sound c → Sound (given there c)
unfolding given
given_sound there c s = record {
  found = given_found there c s;
  only = λ o rest h. given_only there c s o rest h.0 h.1;
  refused = given_refused there c s;
  refuses = λ l e at h. rw (h.0, s.refuses l e at h.1) refl;
}

slot_found : {A : Type 0} (there : Bool) (other : A) (c : Codec A) → Sound c → (l : List Bool) (a : A) (rest : List Bool)
    → (slot there other c).read l ≡ Ok (a, rest)
    → SlotLawful there other c.Lawful a × (l ≡ slot_spell there c.spell a ++ rest)
unfolding slot
slot_found true other c s l a rest e = s.found l a rest e
slot_found false other c s l a rest e = let h = ok_pair other a l rest e in (sym h.0, h.1)

slot_only : {A : Type 0} (there : Bool) (other : A) (c : Codec A) → Sound c → (a : A) (rest : List Bool) → SlotLawful there other c.Lawful a
    → (slot there other c).read (slot_spell there c.spell a ++ rest) ≡ Ok (a, rest)
unfolding slot
slot_only true other c s a rest h = s.only a rest h
slot_only false other c s a rest h = ap (λ x. ok_of (x, rest)) (sym h)

slot_refused : {A : Type 0} (there : Bool) (other : A) (c : Codec A) → Sound c → (l : List Bool) (e : Refused) (at : List Bool)
    → (slot there other c).read l ≡ Err (e, at) → (there ≡ true) × c.Refuses l e at
unfolding slot
slot_refused true other c s l e at h = (refl, s.refused l e at h)
slot_refused false other c s l e at h = let g : ok_of (other, l) ≡ Err (e, at) = h in absurd cc

pub slot_sound : {A : Type 0} (there : Bool) (other : A) (c : Codec A) → Sound c → Sound (slot there other c)
unfolding slot
slot_sound there other c s = record {
  found = slot_found there other c s;
  only = λ a rest h. slot_only there other c s a rest h;
  refused = slot_refused there other c s;
  refuses = λ l e at h. rw (h.0, s.refuses l e at h.1) refl;
}

cons_only : {A : Type 0} (c : Codec A) (d : Codec (List A)) → Sound c → Sound d → (xs : List A) (rest : List Bool)
    → ConsLawful c.Lawful d.Lawful xs → (c.read (cons_spell c.spell d.spell xs ++ rest) >>= λ x. (d.read x.1 >>= λ y. Ok (x.0 ∷ y.0, y.1)))
    ≡ Ok (xs, rest)
cons_only c d s t [] rest h = absurd h
cons_only c d s t (x ∷ xs) rest h =
    rw (append_assoc (c.spell x) (d.spell xs) rest, s.only x (d.spell xs ++ rest) h.0, t.only xs rest h.1) refl

pub cons_sound : {A : Type 0} (c : Codec A) (d : Codec (List A)) → Sound c → Sound d → Sound (cons c d)
unfolding cons
cons_sound {A} c d s t = record {
  found = λ l xs rest e.
      let x = bind_ok (c.read l) (λ x. (d.read x.1 >>= λ y. Ok (x.0 ∷ y.0, y.1))) (xs, rest) e in
      let y = bind_ok (d.read x.0.1) (λ y. Ok (x.0.0 ∷ y.0, y.1)) (xs, rest) x.2 in
      let h = ok_pair (x.0.0 ∷ y.0.0) xs y.0.1 rest y.2 in
      let a = s.found l x.0.0 x.0.1 x.1 in
      let b = t.found x.0.1 y.0.0 y.0.1 y.1 in
      let spelled : l ≡ c.spell x.0.0 ++ d.spell y.0.0 ++ y.0.1 =
      a.1 ∙ (ap (λ m. c.spell x.0.0 ++ m) b.1 ∙ sym (append_assoc (c.spell x.0.0) (d.spell y.0.0) y.0.1)) in
      let goal : List A → Type 0 = λ v. ConsLawful c.Lawful d.Lawful v × (l ≡ cons_spell c.spell d.spell v ++ rest) in
      subst goal h.0 ((a.0, b.0), spelled ∙ ap (λ r. c.spell x.0.0 ++ d.spell y.0.0 ++ r) h.1);
  only = cons_only c d s t;
  refused = λ l e at h.
      elim (bind_err (c.read l) (λ x. (d.read x.1 >>= λ y. Ok (x.0 ∷ y.0, y.1))) (e, at) h) [
        | inl k ↦ inl (s.refused l e at k)
        | inr x ↦ inr (
            let a = s.found l x.0.0 x.0.1 x.1 in
            (x.0.0, x.0.1, a.0, a.1, t.refused x.0.1 e at (bind_later (d.read x.0.1) (λ y. (x.0.0 ∷ y.0, y.1)) (e, at) x.2)))
      ];
  refuses = λ l e at h. elim h [
    | inl k ↦ rw (s.refuses l e at k) refl
    | inr x ↦ rw (x.3, s.only x.0 x.1 x.2, t.refuses x.1 e at x.4) refl
  ];
}

pub each_sound : {A : Type 0} (n i : ℕ) (c : ℕ → Codec A) → ((k : ℕ) → Sound (c k)) → Sound (each n i c)
unfolding each
each_sound zero i c s = absent_sound []
each_sound (suc n) i c s = cons_sound (c i) (each n (suc i) c) (s i) (each_sound n (suc i) c s)

-- ---- what a reader of sound rows ensures
pub gives_found : {A : Type 0} (c : Codec A) → Sound c → (r : Result A Refused) (old new : List Bool) → Gives r new (c.read old)
    → IfOk r (λ a. c.Lawful a × (old ≡ c.spell a ++ new))
gives_found c s (Ok a) old new h = s.found old a new h
gives_found c s (Err e) old new h = tt

pub gives_refused : {A : Type 0} (c : Codec A) → Sound c → (r : Result A Refused) (old new : List Bool) → Gives r new (c.read old)
    → IfErr r (λ e. c.Refuses old e new)
gives_refused c s (Ok a) old new h = tt
gives_refused c s (Err e) old new h = s.refused old e new h

pub gives_only : {A : Type 0} (c : Codec A) → Sound c → (r : Result A Refused) (old new : List Bool) → Gives r new (c.read old)
    → (a : A) (rest : List Bool) → c.Lawful a → old ≡ c.spell a ++ rest → (r ≡ Ok a) × (new ≡ rest)
gives_only {A} c s (Ok b) old new h a rest k e =
    let g : ok_of (b, new) ≡ ok_of (a, rest) = sym h ∙ (ap c.read e ∙ s.only a rest k) in
    let p = ok_pair b a new rest g in
    let ok : A → Result A Refused = λ x. Ok x in
    (ap ok p.0, p.1)
gives_only {A} c s (Err d) old new h a rest k e =
    let g : err_of {A = A} (d, new) ≡ ok_of (a, rest) = sym h ∙ (ap c.read e ∙ s.only a rest k) in
    absurd cc

-- one list of bits stands for at most one value
pub one_value : {A : Type 0} (c : Codec A) → Sound c → (a b : A) (x y : List Bool) → c.Lawful a → c.Lawful b
    → c.spell a ++ x ≡ c.spell b ++ y → (a ≡ b) × (x ≡ y)
one_value c s a b x y h k e = ok_pair a b x y (sym (s.only a x h) ∙ (ap c.read e ∙ s.only b y k))

-- what would be refused is refused
pub gives_refuses : {A : Type 0} (c : Codec A) → Sound c → (r : Result A Refused) (old new : List Bool) → Gives r new (c.read old)
    → (e : Refused) (at : List Bool) → c.Refuses old e at → (r ≡ Err e) × (new ≡ at)
gives_refuses {A} c s (Ok b) old new h e at k =
    let g : ok_of (b, new) ≡ err_of (e, at) = sym h ∙ s.refuses old e at k in
    absurd cc
gives_refuses {A} c s (Err d) old new h e at k =
    let g : err_of {A = A} (d, new) ≡ err_of (e, at) = sym h ∙ s.refuses old e at k in
    let p = err_pair {A = A} d e new at g in
    let err : Refused → Result A Refused = λ x. Err x in
    (ap err p.0, p.1)

-- ---- free bits
free_found : (n : ℕ) (l a rest : List Bool) → (length l < n) ⊎ (n ≤ length l) → free_read n l ≡ Ok (a, rest)
    → (length a ≡ n) × (l ≡ a ++ rest)
free_found n l a rest (inl lt) e =
    let f : Outcome (List Bool) = Err (OutOfBits, l) in
    let g : f ≡ Ok (a, rest) = rw (lt-ltb (length l) n lt) at e in
    absurd cc
free_found n l a rest (inr le) e =
    let g = rw (le-ltb (length l) n le) at e in
    let h = ok_pair (take n l) a (drop n l) rest g in
    (sym (ap length h.0) ∙ length-take-le n l le, sym (take-append-drop n l) ∙ (ap (λ x. x ++ drop n l) h.0 ∙ ap (λ x. a ++ x) h.1))

free_refuses : (n : ℕ) (l : List Bool) (d : Refused) (at : List Bool) → (length l < n) ⊎ (n ≤ length l) → free_read n l ≡ Err (d, at)
    → (at ≡ l) × (length l < n) × (d ≡ OutOfBits)
free_refuses n l d at (inl lt) e =
    let g = rw (lt-ltb (length l) n lt) at e in
    let h = err_pair {A = List Bool} OutOfBits d l at g in
    (sym h.1, lt, sym h.0)
free_refuses n l d at (inr le) e =
    let f : Outcome (List Bool) = Ok (take n l, drop n l) in
    let g : f ≡ Err (d, at) = rw (le-ltb (length l) n le) at e in
    absurd cc

pub free_sound : (n : ℕ) → Sound (free n)
unfolding free
free_sound n = record {
  found = λ l a rest e. free_found n l a rest (cases_lt (length l) n) e;
  only = λ a rest h.
      rw (le-ltb (length (a ++ rest)) n (omega (arith, length-append a rest)), take_at a rest n h, drop_at a rest n h) refl;
  refused = λ l e at h. free_refuses n l e at (cases_lt (length l) n) h;
  refuses = λ l e at h. rw (h.0, h.2, lt-ltb (length l) n h.1) refl;
}

-- what a reader ensures that answers a part
pub part_found : {X Y : Type 0} (part : X → Y) (c : Codec X) → Sound c → (r : Result Y Refused) (old new : List Bool)
    → GivesPart part r new (c.read old) → IfOk r (λ y. (x : X) × (part x ≡ y) × c.Lawful x × (old ≡ c.spell x ++ new))
part_found part c s (Ok y) old new h = let f = s.found old h.0 new h.2 in (h.0, h.1, f.0, f.1)
part_found part c s (Err e) old new h = tt

pub part_only : {X Y : Type 0} (part : X → Y) (c : Codec X) → Sound c → (r : Result Y Refused) (old new : List Bool)
    → GivesPart part r new (c.read old) → (x : X) (rest : List Bool) → c.Lawful x → old ≡ c.spell x ++ rest
    → (r ≡ Ok (part x)) × (new ≡ rest)
part_only {X} {Y} part c s (Ok y) old new h x rest k e =
    let g : ok_of (h.0, new) ≡ ok_of (x, rest) = sym h.2 ∙ (ap c.read e ∙ s.only x rest k) in
    let p = ok_pair h.0 x new rest g in
    let ok : Y → Result Y Refused = λ z. Ok z in
    (ap ok (sym h.1 ∙ ap part p.0), p.1)
part_only {X} part c s (Err d) old new h x rest k e =
    let g : err_of {A = X} (d, new) ≡ ok_of (x, rest) = sym h ∙ (ap c.read e ∙ s.only x rest k) in
    absurd cc

-- ---- rows that depend on those before them
then_only : {A : Type 0} (c : Codec A) (f : A → Codec (List A)) → Sound c → ((a : A) → Sound (f a)) → (xs : List A) (rest : List Bool)
    → ThenLawful c.Lawful (λ x. (f x).Lawful) xs → (c.read (then_spell c.spell (λ x. (f x).spell) xs ++ rest) >>=
    λ x. ((f x.0).read x.1 >>= λ y. Ok (x.0 ∷ y.0, y.1))) ≡ Ok (xs, rest)
then_only c f s t [] rest h = absurd h
then_only c f s t (x ∷ xs) rest h =
    rw (append_assoc (c.spell x) ((f x).spell xs) rest, s.only x ((f x).spell xs ++ rest) h.0, (t x).only xs rest h.1) refl

pub cons_then_sound : {A : Type 0} (c : Codec A) (f : A → Codec (List A)) → Sound c → ((a : A) → Sound (f a)) → Sound (cons_then c f)
unfolding cons_then
cons_then_sound {A} c f s t = record {
  found = λ l xs rest e.
      let x = bind_ok (c.read l) (λ x. ((f x.0).read x.1 >>= λ y. Ok (x.0 ∷ y.0, y.1))) (xs, rest) e in
      let y = bind_ok ((f x.0.0).read x.0.1) (λ y. Ok (x.0.0 ∷ y.0, y.1)) (xs, rest) x.2 in
      let h = ok_pair (x.0.0 ∷ y.0.0) xs y.0.1 rest y.2 in
      let a = s.found l x.0.0 x.0.1 x.1 in
      let b = (t x.0.0).found x.0.1 y.0.0 y.0.1 y.1 in
      let spelled : l ≡ c.spell x.0.0 ++ (f x.0.0).spell y.0.0 ++ y.0.1 =
      a.1 ∙ (ap (λ m. c.spell x.0.0 ++ m) b.1 ∙ sym (append_assoc (c.spell x.0.0) ((f x.0.0).spell y.0.0) y.0.1)) in
      let goal : List A → Type 0 = λ v. ThenLawful c.Lawful (λ x. (f x).Lawful) v × (l ≡ then_spell c.spell (λ x. (f x).spell) v ++ rest) in
      subst goal h.0 ((a.0, b.0), spelled ∙ ap (λ r. c.spell x.0.0 ++ (f x.0.0).spell y.0.0 ++ r) h.1);
  only = then_only c f s t;
  refused = λ l e at h. elim (bind_err (c.read l) (λ x. ((f x.0).read x.1 >>= λ y. Ok (x.0 ∷ y.0, y.1))) (e, at) h) [
    | inl k ↦ inl (s.refused l e at k)
    | inr x ↦ inr (
        let a = s.found l x.0.0 x.0.1 x.1 in
        (x.0.0, x.0.1, a.0, a.1, (t x.0.0).refused x.0.1 e at (bind_later ((f x.0.0).read x.0.1) (λ y. (x.0.0 ∷ y.0, y.1)) (e, at) x.2)))
  ];
  refuses = λ l e at h. elim h [
    | inl k ↦ rw (s.refuses l e at k) refl
    | inr x ↦ rw (x.3, s.only x.0 x.1 x.2, (t x.0).refuses x.1 e at x.4) refl
  ];
}

-- ---- several rows as one field

-- each value has w bits, and w bits always have a value
pub record IsOfWidth {A : Type 0} (w : ℕ) (c : Codec A) : Type 0 where
  pub sound : Sound c
  pub width : (a : A) → c.Lawful a → length (c.spell a) ≡ w
  pub total : (l : List Bool) → w ≤ length l → (x : A × List Bool) × (c.read l ≡ Ok x)

judged_ok : {A : Type 0} (o : Option Refused) (l : List Bool) (x y : A × List Bool) → judged_as o l x ≡ Ok y → (o ≡ None) × (x ≡ y)
judged_ok None l x y e = (refl, ok_same x y e)
judged_ok (Some d) l x y e = absurd cc

judged_err : {A : Type 0} (o : Option Refused) (l : List Bool) (x : A × List Bool) (d : Refused) (at : List Bool)
    → judged_as o l x ≡ Err (d, at) → (o ≡ Some d) × (at ≡ l)
judged_err None l x d at e = absurd cc
judged_err {A} (Some r) l x d at e = let h = err_pair {A = A} r d l at e in (ap (λ (y : Refused). Some y) h.0, sym h.1)

single_found : {A : Type 0} (w : ℕ) (refuse : A → Option Refused) (c : Codec A) → Sound c → (l : List Bool) (a : A) (rest : List Bool)
    → (length l < w) ⊎ (w ≤ length l) → single_read w refuse c.read l ≡ Ok (a, rest)
    → (c.Lawful a × (refuse a ≡ None)) × (l ≡ c.spell a ++ rest)
single_found {A} w refuse c s l a rest (inl lt) e =
    let f : Outcome A = Err (OutOfBits, l) in
    let g : f ≡ Ok (a, rest) = rw (lt-ltb (length l) w lt) at e in
    absurd cc
single_found {A} w refuse c s l a rest (inr le) e =
    let g = rw (le-ltb (length l) w le) at e in
    let x = bind_ok (c.read l) (judged refuse l) (a, rest) g in
    let h = judged_ok (refuse x.0.0) l x.0 (a, rest) x.2 in
    let f = s.found l x.0.0 x.0.1 x.1 in
    let goal : A × List Bool → Type 0 = λ y. (c.Lawful y.0 × (refuse y.0 ≡ None)) × (l ≡ c.spell y.0 ++ y.1) in
    subst goal h.1 ((f.0, h.0), f.1)

single_refused : {A : Type 0} (w : ℕ) (refuse : A → Option Refused) (c : Codec A) → IsOfWidth w c
    → (l : List Bool) (d : Refused) (at : List Bool) → (length l < w) ⊎ (w ≤ length l) → single_read w refuse c.read l ≡ Err (d, at)
    → (at ≡ l) × (((length l < w) × (d ≡ OutOfBits)) ⊎ ((a : A) × (rest : List Bool) × c.Lawful a × (l ≡ c.spell a ++ rest)
    × (refuse a ≡ Some d)))
single_refused {A} w refuse c k l d at (inl lt) e =
    let g = rw (lt-ltb (length l) w lt) at e in
    let h = err_pair {A = A} OutOfBits d l at g in
    (sym h.1, inl (lt, sym h.0))
single_refused {A} w refuse c k l d at (inr le) e =
    let g = rw (le-ltb (length l) w le) at e in
    let x = k.total l le in
    let h = judged_err (refuse x.0.0) l x.0 d at (sym (ap (λ r. r >>= judged refuse l) x.1) ∙ g) in
    let f = k.sound.found l x.0.0 x.0.1 x.1 in
    (h.1, inr (x.0.0, x.0.1, f.0, f.1, h.0))

single_at : {A : Type 0} (w : ℕ) (refuse : A → Option Refused) (c : Codec A) → IsOfWidth w c → (a : A) (rest : List Bool) → c.Lawful a
    → single_read w refuse c.read (c.spell a ++ rest) ≡ judged_as (refuse a) (c.spell a ++ rest) (a, rest)
single_at w refuse c k a rest h =
    let n : length (c.spell a ++ rest) ≡ w + length rest = length-append (c.spell a) rest ∙ ap (λ m. m + length rest) (k.width a h) in
    rw (le-ltb (length (c.spell a ++ rest)) w (omega (arith, n)), k.sound.only a rest h) refl

pub single_sound : {A : Type 0} (w : ℕ) (refuse : A → Option Refused) (c : Codec A) → IsOfWidth w c → Sound (single w refuse c)
unfolding single
single_sound w refuse c k = record {
  found = λ l a rest e. single_found w refuse c k.sound l a rest (cases_lt (length l) w) e;
  only = λ a rest h. single_at w refuse c k a rest h.0 ∙ ap (λ o. judged_as o (c.spell a ++ rest) (a, rest)) h.1;
  refused = λ l e at h. single_refused w refuse c k l e at (cases_lt (length l) w) h;
  refuses = λ l e at h. elim h.1 [
    | inl j ↦ rw (h.0, j.1, lt-ltb (length l) w j.0) refl
    | inr j ↦ rw (h.0, j.3) (single_at w refuse c k j.0 j.1 j.2 ∙ ap (λ o. judged_as o (c.spell j.0 ++ j.1) (j.0, j.1)) j.4)
  ];
}

pub part_refused : {X Y : Type 0} (part : X → Y) (c : Codec X) → Sound c → (r : Result Y Refused) (old new : List Bool)
    → GivesPart part r new (c.read old) → IfErr r (λ e. c.Refuses old e new)
part_refused part c s (Ok y) old new h = tt
part_refused part c s (Err e) old new h = s.refused old e new h

pub part_refuses : {X Y : Type 0} (part : X → Y) (c : Codec X) → Sound c → (r : Result Y Refused) (old new : List Bool)
    → GivesPart part r new (c.read old) → (e : Refused) (at : List Bool) → c.Refuses old e at → (r ≡ Err e) × (new ≡ at)
part_refuses {X} {Y} part c s (Ok y) old new h e at k =
    let g : ok_of (h.0, new) ≡ err_of (e, at) = sym h.2 ∙ s.refuses old e at k in
    absurd cc
part_refuses {X} {Y} part c s (Err d) old new h e at k =
    let g : err_of {A = X} (d, new) ≡ err_of (e, at) = sym h ∙ s.refuses old e at k in
    let p = err_pair {A = X} d e new at g in
    let err : Refused → Result Y Refused = λ x. Err x in
    (ap err p.0, p.1)

-- where a call answers the first of two parts
pub first_found : {A B : Type 0} (c : Codec (A × B)) → Sound c → (r : Result A Refused) (old new : List Bool)
    → GivesPart (λ x. x.0) r new (c.read old) → IfOk r (λ a. (b : B) × c.Lawful (a, b) × (old ≡ c.spell (a, b) ++ new))
first_found {A} {B} c s (Ok a) old new h =
    let f = s.found old h.0 new h.2 in
    let goal : A → Type 0 = λ x. (b : B) × c.Lawful (x, b) × (old ≡ c.spell (x, b) ++ new) in
    subst goal h.1 (h.0.1, f.0, f.1)
first_found c s (Err e) old new h = tt

pub first_only : {A B : Type 0} (c : Codec (A × B)) → Sound c → (r : Result A Refused) (old new : List Bool)
    → GivesPart (λ x. x.0) r new (c.read old) → (a : A) (b : B) (rest : List Bool) → c.Lawful (a, b) → old ≡ c.spell (a, b) ++ rest
    → (r ≡ Ok a) × (new ≡ rest)
first_only c s r old new h a b rest k e = part_only (λ x. x.0) c s r old new h (a, b) rest k e
