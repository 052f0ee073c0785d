-- What is read is spelled so, and what is spelled so is read: for each kind of piece, and so for all that are made of them.
use Rattle.std.proofs.Common.{◌≡◌, ℕ, zero, suc, Bool, true, false, cond, List, [], ◌∷◌, ◌++◌, length, take, drop, Option, Some, None, Ok, Err, refl, ap, sym, subst, ◌∙◌, append_assoc}
use Rattle.std.proofs.lemmas.List.{take_at, drop_at, take-append-drop}
use Rattle.std.proofs.lemmas.Slice.Eq.{bytes_eq-Decides}
use Rattle.std.specs.Str.{bytes_eq}
use Rattle.ac_cert_text.specs.declared.fault.Fault.{Fault}
use Rattle.ac_cert_text.specs.Codec.{Codec, Outcome, ◌>>=◌, word_as, word_read, word, after, before, absent, slot, some_spell, SomeLawful, present, begins, ForkLawful, fork, pair, cons_spell, ConsLawful, cons, each, judged, tested}

pub record Sound {A : Type 0} (c : Codec A) : Type 0 where
  pub found : (l : List ℕ) (a : A) (rest : List ℕ) → c.read l ≡ Ok (a, rest) → c.Lawful a × (l ≡ c.spell a ++ rest)
  pub only : (a : A) (rest : List ℕ) → c.Lawful a → c.read (c.spell a ++ rest) ≡ Ok (a, rest)

-- the outcome of a step that did not fail
pub bind_ok : {A B : Type 0} (r : Outcome A) (f : A × List ℕ → Outcome B) (y : B × List ℕ) → (r >>= f) ≡ Ok y
    → (x : A × List ℕ) × (r ≡ Ok x) × (f x ≡ Ok y)
bind_ok (Ok x) f y e = (x, refl, e)
bind_ok (Err d) f y e = absurd cc

abbrev pub ok_of : {A : Type 0} → A × List ℕ → Outcome A
ok_of x = Ok x

abbrev pub err_of : {A : Type 0} → Fault × List ℕ → Outcome A
err_of x = Err x

ok_same : {A : Type 0} (x y : A × List ℕ) → ok_of x ≡ ok_of y → x ≡ y
ok_same x y e = cc

pub ok_pair : {A : Type 0} (a b : A) (r s : List ℕ) → ok_of (a, r) ≡ ok_of (b, s) → (a ≡ b) × (r ≡ s)
ok_pair a b r s e = let h = ok_same (a, r) (b, s) e in (ap (λ x. x.0) h, ap (λ x. x.1) h)

-- ---- words
word-by : (w l : List ℕ) (t : Bool) (a : Unit {0}) (rest : List ℕ) → bytes_eq (take (length w) l) w ≡ t → word_as t w l ≡ Ok (a, rest) → l ≡ w ++ rest
word-by w l true a rest h e =
    let p = ok_pair tt a (drop (length w) l) rest e in
    let front : take (length w) l ≡ w = (bytes_eq-Decides (take (length w) l) w).0 h in
    sym (take-append-drop (length w) l) ∙ (ap (λ (x : List ℕ). x ++ drop (length w) l) front ∙ ap (λ (r : List ℕ). w ++ r) p.1)
word-by w l false a rest h e = absurd cc

pub word-found : (w l : List ℕ) (a : Unit {0}) (rest : List ℕ) → word_read w l ≡ Ok (a, rest) → l ≡ w ++ rest
word-found w l a rest e = word-by w l (bytes_eq (take (length w) l) w) a rest refl e

pub word-only : (w rest : List ℕ) → word_read w (w ++ rest) ≡ Ok (tt, rest)
word-only w rest =
    let same : bytes_eq w w ≡ true = (bytes_eq-Decides w w).1 refl in
    rw (take_at w rest (length w) refl, same, drop_at w rest (length w) refl) refl

pub word_sound : (w : List ℕ) → Sound (word w)
unfolding word
word_sound w = record {
  found = λ l a rest e. (tt, word-found w l a rest e);
  only = λ a rest h. word-only w rest;
}

pub after_sound : {A : Type 0} (w : List ℕ) (c : Codec A) → Sound c → Sound (after w c)
unfolding after
after_sound w c s = record {
  found = λ l a rest e.
      let x = bind_ok (word_read w l) (λ x. c.read x.1) (a, rest) e in
      let v = word-found w l x.0.0 x.0.1 x.1 in
      let f = s.found x.0.1 a rest x.2 in
      (f.0, v ∙ (ap (λ (m : List ℕ). w ++ m) f.1 ∙ sym (append_assoc w (c.spell a) rest)));
  only = λ a rest h. rw (append_assoc w (c.spell a) rest, word-only w (c.spell a ++ rest)) (s.only a rest h);
}

pub before_sound : {A : Type 0} (c : Codec A) (w : List ℕ) → Sound c → Sound (before c w)
unfolding before
before_sound {A} c w s = record {
  found = λ l a rest e.
      let x = bind_ok (c.read l) (λ x. (word_read w x.1 >>= λ y. Ok (x.0, y.1))) (a, rest) e in
      let y = bind_ok (word_read w x.0.1) (λ y. Ok (x.0.0, y.1)) (a, rest) x.2 in
      let h = ok_pair x.0.0 a y.0.1 rest y.2 in
      let f = s.found l x.0.0 x.0.1 x.1 in
      let v = word-found w x.0.1 y.0.0 y.0.1 y.1 in
      let spelled : l ≡ (c.spell x.0.0 ++ w) ++ y.0.1 = f.1 ∙ (ap (λ (m : List ℕ). c.spell x.0.0 ++ m) v ∙ sym (append_assoc (c.spell x.0.0) w y.0.1)) in
      (subst c.Lawful h.0 f.0, spelled ∙ (ap (λ (q : A). (c.spell q ++ w) ++ y.0.1) h.0 ∙ ap (λ (r : List ℕ). (c.spell a ++ w) ++ r) h.1));
  only = λ a rest h. rw (append_assoc (c.spell a) w rest, s.only a (w ++ rest) h, word-only w rest) refl;
}

-- ---- pieces that are there or not
pub absent_sound : {A : Type 0} (a : A) → Sound (absent a)
unfolding absent
absent_sound a = record {
  found = λ l b rest e. let h = ok_pair a b l rest e in (sym h.0, h.1);
  only = λ b rest h. ap (λ x. ok_of (x, rest)) (sym h);
}

pub slot_sound : {A : Type 0} (there : Bool) (other : A) (c : Codec A) → Sound c → Sound (slot there other c)
unfolding slot
slot_sound true other c s = record { found = s.found; only = s.only }
slot_sound false other c s = record {
  found = λ l b rest e. let h = ok_pair other b l rest e in (sym h.0, h.1);
  only = λ b rest h. ap (λ x. ok_of (x, rest)) (sym h);
}

present_only : {A : Type 0} (c : Codec A) → Sound c → (o : Option A) (rest : List ℕ) → SomeLawful c.Lawful o
    → (c.read (some_spell c.spell o ++ rest) >>= λ x. Ok (Some x.0, x.1)) ≡ Ok (o, rest)
present_only c s None rest h = absurd h
present_only c s (Some a) rest h = rw (s.only a rest h) refl

pub present_sound : {A : Type 0} (c : Codec A) → Sound c → Sound (present c)
unfolding present
present_sound {A} c s = record {
  found = λ l o rest e.
      let x = bind_ok (c.read l) (λ x. Ok (Some x.0, x.1)) (o, rest) e in
      let h = ok_pair (Some x.0.0) o x.0.1 rest x.2 in
      let f = s.found l x.0.0 x.0.1 x.1 in
      let goal : Option A → Type 0 = λ v. SomeLawful c.Lawful v × (l ≡ some_spell c.spell v ++ rest) in
      subst goal h.0 (f.0, f.1 ∙ ap (λ (r : List ℕ). c.spell x.0.0 ++ r) h.1);
  only = present_only c s;
}

module _ {A : Type 0} (b : ℕ) (which : A → Bool) (c d : Codec A) where
  fork-found : Sound c → Sound d → ((a : A) → c.Lawful a → which a ≡ true) → ((a : A) → d.Lawful a → which a ≡ false)
      → (l : List ℕ) (t : Bool) (a : A) (rest : List ℕ) → cond t (c.read l) (d.read l) ≡ Ok (a, rest)
      → ForkLawful (which a) c.Lawful d.Lawful a × (l ≡ cond (which a) (c.spell a) (d.spell a) ++ rest)
  fork-found s r one two l true a rest e = let f = s.found l a rest e in rw (one a f.0) f
  fork-found s r one two l false a rest e = let f = r.found l a rest e in rw (two a f.0) f

  fork-only : Sound c → Sound d → ((a : A) (rest : List ℕ) → c.Lawful a → begins b (c.spell a ++ rest) ≡ true)
      → ((a : A) (rest : List ℕ) → d.Lawful a → begins b (d.spell a ++ rest) ≡ false)
      → (t : Bool) (a : A) (rest : List ℕ) → ForkLawful t c.Lawful d.Lawful a
      → cond (begins b (cond t (c.spell a) (d.spell a) ++ rest)) (c.read (cond t (c.spell a) (d.spell a) ++ rest)) (d.read (cond t (c.spell a) (d.spell a) ++ rest)) ≡ Ok (a, rest)
  fork-only s r one two true a rest h = rw (one a rest h) (s.only a rest h)
  fork-only s r one two false a rest h = rw (two a rest h) (r.only a rest h)

pub fork_sound : {A : Type 0} (b : ℕ) (which : A → Bool) (c d : Codec A) → Sound c → Sound d → ((a : A) → c.Lawful a → which a ≡ true)
    → ((a : A) → d.Lawful a → which a ≡ false) → ((a : A) (rest : List ℕ) → c.Lawful a → begins b (c.spell a ++ rest) ≡ true)
    → ((a : A) (rest : List ℕ) → d.Lawful a → begins b (d.spell a ++ rest) ≡ false) → Sound (fork b which c d)
unfolding fork
fork_sound b which c d s r is is_not one two = record {
  found = λ l a rest e. fork-found b which c d s r is is_not l (begins b l) a rest e;
  only = λ a rest h. fork-only b which c d s r one two (which a) a rest h;
}

-- ---- pieces in order
pub pair_sound : {A B : Type 0} (c : Codec A) (f : A → Codec B) → Sound c → ((a : A) → Sound (f a)) → Sound (pair c f)
unfolding pair
pair_sound {A} {B} c f s t = record {
  found = λ l p rest e.
      let x = bind_ok (c.read l) (λ x. ((f x.0).read x.1 >>= λ y. Ok ((x.0, y.0), y.1))) (p, rest) e in
      let y = bind_ok ((f x.0.0).read x.0.1) (λ y. Ok ((x.0.0, y.0), y.1)) (p, rest) x.2 in
      let h = ok_pair (x.0.0, y.0.0) p y.0.1 rest y.2 in
      let a = s.found l x.0.0 x.0.1 x.1 in
      let b = (t x.0.0).found x.0.1 y.0.0 y.0.1 y.1 in
      let lawful : c.Lawful x.0.0 × (f x.0.0).Lawful y.0.0 = (a.0, b.0) in
      let spelled : l ≡ c.spell x.0.0 ++ (f x.0.0).spell y.0.0 ++ y.0.1 = a.1 ∙ (ap (λ (m : List ℕ). c.spell x.0.0 ++ m) b.1 ∙ sym (append_assoc (c.spell x.0.0) ((f x.0.0).spell y.0.0) y.0.1)) in (
        subst (λ (q : A × B). c.Lawful q.0 × (f q.0).Lawful q.1) h.0 lawful,
        spelled ∙ (ap (λ (q : A × B). c.spell q.0 ++ (f q.0).spell q.1 ++ y.0.1) h.0 ∙ ap (λ (r : List ℕ). c.spell p.0 ++ (f p.0).spell p.1 ++ r) h.1),
      );
  only = λ p rest h.
      let one = s.only p.0 ((f p.0).spell p.1 ++ rest) h.0 in
      let two = (t p.0).only p.1 rest h.1 in
      rw (append_assoc (c.spell p.0) ((f p.0).spell p.1) rest, one, two) refl;
}

cons_only : {A : Type 0} (c : Codec A) (d : Codec (List A)) → Sound c → Sound d → (xs : List A) (rest : List ℕ) → ConsLawful c.Lawful d.Lawful xs
    → (c.read (cons_spell c.spell d.spell xs ++ rest) >>= λ x. (d.read x.1 >>= λ y. Ok (x.0 ∷ y.0, y.1))) ≡ Ok (xs, rest)
cons_only c d s t [] rest h = absurd h
cons_only c d s t (x ∷ xs) rest h = rw (append_assoc (c.spell x) (d.spell xs) rest, s.only x (d.spell xs ++ rest) h.0, t.only xs rest h.1) refl

pub cons_sound : {A : Type 0} (c : Codec A) (d : Codec (List A)) → Sound c → Sound d → Sound (cons c d)
unfolding cons
cons_sound {A} c d s t = record {
  found = λ l xs rest e.
      let x = bind_ok (c.read l) (λ x. (d.read x.1 >>= λ y. Ok (x.0 ∷ y.0, y.1))) (xs, rest) e in
      let y = bind_ok (d.read x.0.1) (λ y. Ok (x.0.0 ∷ y.0, y.1)) (xs, rest) x.2 in
      let h = ok_pair (x.0.0 ∷ y.0.0) xs y.0.1 rest y.2 in
      let a = s.found l x.0.0 x.0.1 x.1 in
      let b = t.found x.0.1 y.0.0 y.0.1 y.1 in
      let spelled : l ≡ c.spell x.0.0 ++ d.spell y.0.0 ++ y.0.1 = a.1 ∙ (ap (λ (m : List ℕ). c.spell x.0.0 ++ m) b.1 ∙ sym (append_assoc (c.spell x.0.0) (d.spell y.0.0) y.0.1)) in
      let goal : List A → Type 0 = λ v. ConsLawful c.Lawful d.Lawful v × (l ≡ cons_spell c.spell d.spell v ++ rest) in
      subst goal h.0 ((a.0, b.0), spelled ∙ ap (λ (r : List ℕ). c.spell x.0.0 ++ d.spell y.0.0 ++ r) h.1);
  only = cons_only c d s t;
}

pub each_sound : {A : Type 0} (n i : ℕ) (c : ℕ → Codec A) → ((k : ℕ) → Sound (c k)) → Sound (each n i c)
unfolding each
each_sound zero i c s = absent_sound []
each_sound (suc n) i c s = cons_sound (c i) (each n (suc i) c) (s i) (each_sound n (suc i) c s)

judged_ok : {A : Type 0} (t : Bool) (l : List ℕ) (x y : A × List ℕ) → judged t l x ≡ Ok y → (t ≡ true) × (x ≡ y)
judged_ok true l x y e = (refl, ok_same x y e)
judged_ok false l x y e = absurd cc

pub tested_sound : {A : Type 0} (test : A → Bool) (c : Codec A) → Sound c → Sound (tested test c)
unfolding tested
tested_sound {A} test c s = record {
  found = λ l a rest e.
      let x = bind_ok (c.read l) (λ x. judged (test x.0) l x) (a, rest) e in
      let j = judged_ok (test x.0.0) l x.0 (a, rest) x.2 in
      let f = s.found l a rest (x.1 ∙ ap (λ (y : A × List ℕ). ok_of y) j.1) in
      ((f.0, ap (λ (y : A × List ℕ). test y.0) (sym j.1) ∙ j.0), f.1);
  only = λ a rest h. rw (s.only a rest h.0, h.1) refl;
}

-- one text stands for at most one value
pub one_value : {A : Type 0} (c : Codec A) → Sound c → (a b : A) (x y : List ℕ) → c.Lawful a → c.Lawful b → c.spell a ++ x ≡ c.spell b ++ y
    → (a ≡ b) × (x ≡ y)
one_value c s a b x y h k e = ok_pair a b x y (sym (s.only a x h) ∙ (ap c.read e ∙ s.only b y k))
