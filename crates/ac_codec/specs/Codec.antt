-- Fields of a frame, one after the other without gaps (A/52 5.3), each a relation between a value and its bits.
-- A codec is a field, or several: how a value is spelled, which values are lawful, which bits are refused and why, and
-- what reading gives. That the four agree is `Sound`, proved once for each way of making codecs.
use Rattle.std.specs.Prelude.{◌≡◌, ℕ, zero, suc, ◌<◌, ◌^◌, ◌⊎◌, ◌==◌, Bool, true, false, List, [], ◌∷◌, ◌++◌, length, take, drop, Option}
use Rattle.std.specs.Prelude.{Some, None, is_some, Result, Ok, Err, nat_lt, if◌then◌else◌}
use Rattle.std.specs.Option.{ForSome}
use Rattle.ac_bits.specs.Bits.{bits, num}
use Rattle.ac_codec.specs.declared.refused.Refused.{Refused}
use Rattle.ac_codec.specs.declared.refused.Row.{Row}
use Rattle.ac_codec.specs.declared.refused.Refused.TheVariants.{OutOfBits, Reserved, NoReuse}

-- a value and the bits behind it, or the refusal and the bits from the refused field on
abbrev pub Outcome : Type 0 → Type 0
Outcome A = Result (A × List Bool) (Refused × List Bool)

infixl 10 ◌>>=◌
abbrev pub ◌>>=◌ : {A B : Type 0} → Outcome A → (A × List Bool → Outcome B) → Outcome B
(Ok x) >>= f = f x
(Err e) >>= f = Err e

-- what a call answers and leaves is what reading gives
abbrev pub Gives : {X : Type 0} → Result X Refused → List Bool → Outcome X → Type 0
Gives (Ok x) new read = read ≡ Ok (x, new)
Gives (Err e) new read = read ≡ Err (e, new)

-- the same, where a call answers a part of what is read
abbrev pub GivesPart : {X Y : Type 0} → (X → Y) → Result Y Refused → List Bool → Outcome X → Type 0
GivesPart part (Ok y) new read = (x : _) × (part x ≡ y) × (read ≡ Ok (x, new))
GivesPart part (Err e) new read = read ≡ Err (e, new)

pub record Codec (A : Type 0) : Type 1 where
  pub spell : A → List Bool  -- the bits of a value
  pub Lawful : A → Type 0  -- the values that have bits
  pub Refuses : List Bool → Refused → List Bool → Type 0  -- these bits, for this reason, from there on
  pub read : List Bool → Outcome A

-- ---- numbers

abbrev pub checked : Option Refused → ℕ → List Bool → List Bool → Outcome ℕ
checked None v here rest = Ok (v, rest)
checked (Some e) v here rest = Err (e, here)

abbrev pub field_read : ℕ → (ℕ → Option Refused) → List Bool → Outcome ℕ
field_read w refuse l = if nat_lt (length l) w then Err (OutOfBits, l) else checked (refuse (num (take w l))) (num (take w l)) l (drop w l)

-- a number of w bits, with the values that are refused
unfoldable pub field : ℕ → (ℕ → Option Refused) → Codec ℕ
field w refuse = record {
  spell = λ v. bits v w;
  Lawful = λ v. (v < 2 ^ w) × (refuse v ≡ None);
  Refuses = λ l e at. (at ≡ l) × (((length l < w) × (e ≡ OutOfBits))
      ⊎ ((v : ℕ) × (rest : List Bool) × (v < 2 ^ w) × (l ≡ bits v w ++ rest) × (refuse v ≡ Some e)));
  read = field_read w refuse;
}

-- no value is refused
abbrev pub any : ℕ → Option Refused
any v = None

-- values below n alone
abbrev pub below : ℕ → Row → ℕ → Option Refused
below n row v = if nat_lt v n then None else Some (Reserved row)

-- 0 asks for reuse, which is refused unless there is something to reuse
abbrev pub reused : Bool → Row → ℕ → Option Refused
reused may row v = if may then None else if v == 0 then Some (NoReuse row) else None

-- ---- single bits

abbrev pub tested : Option Refused → Bool → List Bool → List Bool → Outcome Bool
tested None b here rest = Ok (b, rest)
tested (Some e) b here rest = Err (e, here)

abbrev pub tested_bit_read : (Bool → Option Refused) → List Bool → Outcome Bool
tested_bit_read refuse [] = Err (OutOfBits, [])
tested_bit_read refuse (b ∷ l) = tested (refuse b) b (b ∷ l) l

-- a bit, with the values that are refused
unfoldable pub tested_bit : (Bool → Option Refused) → Codec Bool
tested_bit refuse = record {
  spell = λ b. b ∷ [];
  Lawful = λ b. refuse b ≡ None;
  Refuses = λ l e at. (at ≡ l) × (((l ≡ []) × (e ≡ OutOfBits)) ⊎ ((b : Bool) × (rest : List Bool) × (l ≡ b ∷ rest) × (refuse b ≡ Some e)));
  read = tested_bit_read refuse;
}

-- no value is refused
abbrev pub flag : Codec Bool
flag = tested_bit (λ b. None)

-- 1 is refused unless it may be
abbrev pub one_where : Bool → Refused → Bool → Option Refused
one_where may r b = if may then None else if b then Some r else None

-- 0 is refused unless it may be
abbrev pub zero_where : Bool → Refused → Bool → Option Refused
zero_where may r b = if may then None else if b then None else Some r

-- ---- rows that are there or not

-- no bits, and always this value
unfoldable pub absent : {A : Type 0} → A → Codec A
absent a = record {
  spell = λ _. [];
  Lawful = λ b. b ≡ a;
  Refuses = λ l e at. ⊥;
  read = λ l. Ok (a, l);
}

abbrev pub some_spell : {A : Type 0} → (A → List Bool) → Option A → List Bool
some_spell spell None = []
some_spell spell (Some a) = spell a

-- a row that is there where the test holds
unfoldable pub given : {A : Type 0} → Bool → Codec A → Codec (Option A)
given there c = record {
  spell = some_spell c.spell;
  Lawful = λ o. (is_some o ≡ there) × ForSome o c.Lawful;
  Refuses = λ l e at. (there ≡ true) × c.Refuses l e at;
  read = λ l. if there then (c.read l >>= λ x. Ok (Some x.0, x.1)) else Ok (None, l);
}

abbrev pub slot_spell : {A : Type 0} → Bool → (A → List Bool) → A → List Bool
slot_spell there spell a = if there then spell a else []

abbrev pub SlotLawful : {A : Type 0} → Bool → A → (A → Type 0) → A → Type 0
SlotLawful true other P a = P a
SlotLawful false other P a = a ≡ other

-- the same without an Option: elsewhere it has this value
unfoldable pub slot : {A : Type 0} → Bool → A → Codec A → Codec A
slot there other c = record {
  spell = slot_spell there c.spell;
  Lawful = SlotLawful there other c.Lawful;
  Refuses = λ l e at. (there ≡ true) × c.Refuses l e at;
  read = λ l. if there then c.read l else Ok (other, l);
}

-- ---- rows in order

-- one row, and then rows that may depend on its value
unfoldable pub pair : {A B : Type 0} → Codec A → (A → Codec B) → Codec (A × B)
pair c f = record {
  spell = λ p. c.spell p.0 ++ (f p.0).spell p.1;
  Lawful = λ p. c.Lawful p.0 × (f p.0).Lawful p.1;
  Refuses = λ l e at. c.Refuses l e at ⊎ ((a : _) × (mid : List Bool) × c.Lawful a × (l ≡ c.spell a ++ mid) × (f a).Refuses mid e at);
  read = λ l. c.read l >>= λ x. ((f x.0).read x.1 >>= λ y. Ok ((x.0, y.0), y.1));
}

-- the same bits for another type
unfoldable pub shaped : {A B : Type 0} → (A → B) → (B → A) → Codec A → Codec B
shaped to from c = record {
  spell = λ b. c.spell (from b);
  Lawful = λ b. c.Lawful (from b);
  Refuses = c.Refuses;
  read = λ l. c.read l >>= λ x. Ok (to x.0, x.1);
}

-- the same, where only values that fit have bits
unfoldable pub fitted : {A B : Type 0} → (A → B) → (B → A) → (B → Type 0) → Codec A → Codec B
fitted to from Fits c = record {
  spell = λ b. c.spell (from b);
  Lawful = λ b. Fits b × c.Lawful (from b);
  Refuses = c.Refuses;
  read = λ l. c.read l >>= λ x. Ok (to x.0, x.1);
}

abbrev pub cons_spell : {A : Type 0} → (A → List Bool) → (List A → List Bool) → List A → List Bool
cons_spell f g [] = []
cons_spell f g (x ∷ xs) = f x ++ g xs

abbrev pub ConsLawful : {A : Type 0} → (A → Type 0) → (List A → Type 0) → List A → Type 0
ConsLawful P Q [] = ⊥
ConsLawful P Q (x ∷ xs) = P x × Q xs

-- one row, and then a list of rows
unfoldable pub cons : {A : Type 0} → Codec A → Codec (List A) → Codec (List A)
cons c d = record {
  spell = cons_spell c.spell d.spell;
  Lawful = ConsLawful c.Lawful d.Lawful;
  Refuses = λ l e at. c.Refuses l e at ⊎ ((a : _) × (mid : List Bool) × c.Lawful a × (l ≡ c.spell a ++ mid) × d.Refuses mid e at);
  read = λ l. c.read l >>= λ x. (d.read x.1 >>= λ y. Ok (x.0 ∷ y.0, y.1));
}

-- n rows, the first of number i
unfoldable pub each : {A : Type 0} → ℕ → ℕ → (ℕ → Codec A) → Codec (List A)
each zero i c = absent []
each (suc n) i c = cons (c i) (each n (suc i) c)

abbrev pub then_spell : {A : Type 0} → (A → List Bool) → (A → List A → List Bool) → List A → List Bool
then_spell f g [] = []
then_spell f g (x ∷ xs) = f x ++ g x xs

abbrev pub ThenLawful : {A : Type 0} → (A → Type 0) → (A → List A → Type 0) → List A → Type 0
ThenLawful P Q [] = ⊥
ThenLawful P Q (x ∷ xs) = P x × Q x xs

-- one row, and then a list of rows that may depend on it
unfoldable pub cons_then : {A : Type 0} → Codec A → (A → Codec (List A)) → Codec (List A)
cons_then c f = record {
  spell = then_spell c.spell (λ x. (f x).spell);
  Lawful = ThenLawful c.Lawful (λ x. (f x).Lawful);
  Refuses = λ l e at. c.Refuses l e at ⊎ ((a : _) × (mid : List Bool) × c.Lawful a × (l ≡ c.spell a ++ mid) × (f a).Refuses mid e at);
  read = λ l. c.read l >>= λ x. ((f x.0).read x.1 >>= λ y. Ok (x.0 ∷ y.0, y.1));
}

-- ---- several rows as one field

abbrev pub judged_as : {A : Type 0} → Option Refused → List Bool → A × List Bool → Outcome A
judged_as None here x = Ok x
judged_as (Some e) here x = Err (e, here)

abbrev pub judged : {A : Type 0} → (A → Option Refused) → List Bool → A × List Bool → Outcome A
judged refuse here x = judged_as (refuse x.0) here x

abbrev pub single_read : {A : Type 0} → ℕ → (A → Option Refused) → (List Bool → Outcome A) → List Bool → Outcome A
single_read w refuse read l = if nat_lt (length l) w then Err (OutOfBits, l) else (read l >>= judged refuse l)

-- w bits in all, whose values are refused where the first of them began
unfoldable pub single : {A : Type 0} → ℕ → (A → Option Refused) → Codec A → Codec A
single {A} w refuse c = record {
  spell = c.spell;
  Lawful = λ a. c.Lawful a × (refuse a ≡ None);
  Refuses = λ l e at. (at ≡ l) × (((length l < w) × (e ≡ OutOfBits))
      ⊎ ((a : A) × (rest : List Bool) × c.Lawful a × (l ≡ c.spell a ++ rest) × (refuse a ≡ Some e)));
  read = single_read w refuse c.read;
}

-- ---- free bits

abbrev pub free_read : ℕ → List Bool → Outcome (List Bool)
free_read n l = if nat_lt (length l) n then Err (OutOfBits, l) else Ok (take n l, drop n l)

-- any n bits, as one field
unfoldable pub free : ℕ → Codec (List Bool)
free n = record {
  spell = λ l. l;
  Lawful = λ l. length l ≡ n;
  Refuses = λ l e at. (at ≡ l) × (length l < n) × (e ≡ OutOfBits);
  read = free_read n;
}
