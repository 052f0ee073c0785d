-- Pieces of text as codecs: how a value is spelled, which values are lawful, and what reading gives. That the three agree is `Sound`,
-- proved once for each way of making codecs. All of it is this project's own.
use Rattle.std.specs.Prelude.{◌≡◌, ℕ, zero, suc, ◌+◌, ◌-◌, ◌*◌, ◌<◌, ◌==◌, ◌&&◌, not, nat_le, nat_lt, Bool, true, false, if◌then◌else◌, List, [], ◌∷◌, ◌++◌, length, take, drop, Option, Some, None, Result, Ok, Err}
use Rattle.std.specs.Fmt.{decimal}
use Rattle.std.specs.Str.{bytes_eq}
use Rattle.ac_cert_text.specs.declared.fault.Fault.{Fault}
use Rattle.ac_cert_text.specs.declared.fault.Fault.TheVariants.{Bad, Deep, NoMemory}

-- a value and the bytes behind it, or the fault and the bytes from the refused piece on
abbrev pub Outcome : Type 0 → Type 0
Outcome A = Result (A × List ℕ) (Fault × List ℕ)

infixl 10 ◌>>=◌
abbrev pub ◌>>=◌ : {A B : Type 0} → Outcome A → (A × List ℕ → Outcome B) → Outcome B
(Ok x) >>= f = f x
(Err e) >>= f = Err e

-- a fault is that of reading, unless memory was wanting
abbrev pub Fails : {A : Type 0} → Fault → List ℕ → Outcome A → Type 0
Fails Bad new read = read ≡ Err (Bad, new)
Fails Deep new read = read ≡ Err (Deep, new)
Fails NoMemory new read = Unit {0}

-- what a call answers, seen by a view, and what it leaves is what reading gives
abbrev pub Shows : {X A : Type 0} → (X → A) → Result X Fault → List ℕ → Outcome A → Type 0
Shows view (Ok x) new read = read ≡ Ok (view x, new)
Shows view (Err e) new read = Fails e new read

abbrev pub Gives : {A : Type 0} → Result A Fault → List ℕ → Outcome A → Type 0
Gives (Ok x) new read = read ≡ Ok (x, new)
Gives (Err e) new read = Fails e new read

pub record Codec (A : Type 0) : Type 1 where
  pub spell : A → List ℕ  -- the bytes of a value
  pub Lawful : A → Type 0  -- the values that are written so
  pub read : List ℕ → Outcome A

-- ---- words

abbrev pub word_as : Bool → List ℕ → List ℕ → Outcome (Unit {0})
word_as true w l = Ok (tt, drop (length w) l)
word_as false w l = Err (Bad, l)

abbrev pub word_read : List ℕ → List ℕ → Outcome (Unit {0})
word_read w l = word_as (bytes_eq (take (length w) l) w) w l

-- these bytes
unfoldable pub word : List ℕ → Codec (Unit {0})
word w = record {
  spell = λ a. w;
  Lawful = λ a. Unit {0};
  read = word_read w;
}

-- these bytes, then a piece
unfoldable pub after : {A : Type 0} → List ℕ → Codec A → Codec A
after w c = record {
  spell = λ a. w ++ c.spell a;
  Lawful = c.Lawful;
  read = λ l. word_read w l >>= λ x. c.read x.1;
}

-- a piece, then these bytes
unfoldable pub before : {A : Type 0} → Codec A → List ℕ → Codec A
before c w = record {
  spell = λ a. c.spell a ++ w;
  Lawful = c.Lawful;
  read = λ l. c.read l >>= λ x. (word_read w x.1 >>= λ y. Ok (x.0, y.1));
}

-- ---- numbers

-- a digit may follow the digits of n: what they stand for together is below the limit
abbrev pub fits : ℕ → ℕ → ℕ → Bool
fits limit n b = nat_le 48 b && nat_le b 57 && nat_lt (10 * n + (b - 48)) limit

-- further digits, up to the byte that ends the number: none follows a 0
abbrev pub digits : ℕ → ℕ → ℕ → List ℕ → Option (ℕ × List ℕ)
digits limit end n [] = None
digits limit end n (b ∷ l) =
    if b == end then Some (n, l) else if fits limit n b && not (n == 0) then digits limit end (10 * n + (b - 48)) l else None

abbrev pub number_of : ℕ → ℕ → List ℕ → Option (ℕ × List ℕ)
number_of limit end [] = None
number_of limit end (b ∷ l) = if fits limit 0 b then digits limit end (b - 48) l else None

abbrev pub found_or : {A : Type 0} → List ℕ → Option (A × List ℕ) → Outcome A
found_or l None = Err (Bad, l)
found_or l (Some x) = Ok x

-- a number below a limit in decimal digits, without a sign or a leading zero, and the byte behind it, which is no digit
unfoldable pub number : ℕ → ℕ → Codec ℕ
number limit end = record {
  spell = λ n. decimal n ++ end ∷ [];
  Lawful = λ n. n < limit;
  read = λ l. found_or l (number_of limit end l);
}

abbrev pub one_if : Bool → ℕ
one_if b = if b then 1 else 0

-- 1 for true, 0 for false
unfoldable pub flag : ℕ → Codec Bool
flag end = record {
  spell = λ b. (number 2 end).spell (one_if b);
  Lawful = λ b. Unit {0};
  read = λ l. (number 2 end).read l >>= λ x. Ok (x.0 == 1, x.1);
}

-- ---- pieces that are there or not

-- nothing, and always this value
unfoldable pub absent : {A : Type 0} → A → Codec A
absent a = record {
  spell = λ _. [];
  Lawful = λ b. b ≡ a;
  read = λ l. Ok (a, l);
}

abbrev pub SlotLawful : {A : Type 0} → Bool → A → (A → Type 0) → A → Type 0
SlotLawful true other P a = P a
SlotLawful false other P a = a ≡ other

-- a piece that is there where the test holds; elsewhere the value is this other one
unfoldable pub slot : {A : Type 0} → Bool → A → Codec A → Codec A
slot there other c = record {
  spell = λ a. if there then c.spell a else [];
  Lawful = SlotLawful there other c.Lawful;
  read = λ l. if there then c.read l else Ok (other, l);
}

abbrev pub some_spell : {A : Type 0} → (A → List ℕ) → Option A → List ℕ
some_spell spell None = []
some_spell spell (Some a) = spell a

abbrev pub SomeLawful : {A : Type 0} → (A → Type 0) → Option A → Type 0
SomeLawful P None = ⊥
SomeLawful P (Some a) = P a

-- a piece, whose value is some
unfoldable pub present : {A : Type 0} → Codec A → Codec (Option A)
present c = record {
  spell = some_spell c.spell;
  Lawful = SomeLawful c.Lawful;
  read = λ l. c.read l >>= λ x. Ok (Some x.0, x.1);
}

abbrev pub begins : ℕ → List ℕ → Bool
begins b [] = false
begins b (c ∷ l) = c == b

abbrev pub ForkLawful : {A : Type 0} → Bool → (A → Type 0) → (A → Type 0) → A → Type 0
ForkLawful true P Q a = P a
ForkLawful false P Q a = Q a

-- one of two pieces: the first for the values that a test picks, and where the bytes begin with this one
unfoldable pub fork : {A : Type 0} → ℕ → (A → Bool) → Codec A → Codec A → Codec A
fork b which c d = record {
  spell = λ a. if which a then c.spell a else d.spell a;
  Lawful = λ a. ForkLawful (which a) c.Lawful d.Lawful a;
  read = λ l. if begins b l then c.read l else d.read l;
}

-- ---- pieces in order

-- one piece, and then one that may depend on its value
unfoldable pub pair : {A B : Type 0} → Codec A → (A → Codec B) → Codec (A × B)
pair c f = record {
  spell = λ p. c.spell p.0 ++ (f p.0).spell p.1;
  Lawful = λ p. c.Lawful p.0 × (f p.0).Lawful p.1;
  read = λ l. c.read l >>= λ x. ((f x.0).read x.1 >>= λ y. Ok ((x.0, y.0), y.1));
}

abbrev pub cons_spell : {A : Type 0} → (A → List ℕ) → (List A → List ℕ) → List A → List ℕ
cons_spell f g [] = []
cons_spell f g (x ∷ xs) = f x ++ g xs

abbrev pub ConsLawful : {A : Type 0} → (A → Type 0) → (List A → Type 0) → List A → Type 0
ConsLawful P Q [] = ⊥
ConsLawful P Q (x ∷ xs) = P x × Q xs

-- one piece, and then a list of pieces
unfoldable pub cons : {A : Type 0} → Codec A → Codec (List A) → Codec (List A)
cons c d = record {
  spell = cons_spell c.spell d.spell;
  Lawful = ConsLawful c.Lawful d.Lawful;
  read = λ l. c.read l >>= λ x. (d.read x.1 >>= λ y. Ok (x.0 ∷ y.0, y.1));
}

-- n pieces, the first of number i
unfoldable pub each : {A : Type 0} → ℕ → ℕ → (ℕ → Codec A) → Codec (List A)
each zero i c = absent []
each (suc n) i c = cons (c i) (each n (suc i) c)

-- a piece whose value passes a test; it is refused where it begins
abbrev pub judged : {A : Type 0} → Bool → List ℕ → A × List ℕ → Outcome A
judged true here x = Ok x
judged false here x = Err (Bad, here)

unfoldable pub tested : {A : Type 0} → (A → Bool) → Codec A → Codec A
tested test c = record {
  spell = c.spell;
  Lawful = λ a. c.Lawful a × (test a ≡ true);
  read = λ l. c.read l >>= λ x. judged (test x.0) l x;
}
