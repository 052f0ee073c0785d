-- What the fields of a frame are to meet, whatever they are.
use Rattle.std.specs.Prelude.{◌≡◌, ◌⊎◌, Bool, List, ◌++◌, Result, Ok, Err}
use Rattle.ac_codec.specs.declared.refused.Refused.{Refused}
use Rattle.ac_codec.specs.Codec.{Codec}

-- one list of bits begins with at most one lawful value
abbrev pub HasOneMeaning : {A : Type 0} → Codec A → Type 0
HasOneMeaning {A} c =
    (a b : A) (x y : List Bool) → c.Lawful a → c.Lawful b → c.spell a ++ x ≡ c.spell b ++ y → (a ≡ b) × (x ≡ y)

-- reading gives back what was written
abbrev pub ReadsBack : {A : Type 0} → Codec A → Type 0
ReadsBack {A} c = (a : A) (rest : List Bool) → c.Lawful a → c.read (c.spell a ++ rest) ≡ Ok (a, rest)

-- each list begins with a lawful value, or is refused
abbrev pub IsDecided : {A : Type 0} → Codec A → Type 0
IsDecided {A} c =
    (l : List Bool) → ((a : A) × (rest : List Bool) × (c.Lawful a × (l ≡ c.spell a ++ rest)))
    ⊎ ((e : Refused) × (at : List Bool) × c.Refuses l e at)

-- and not both
abbrev pub IsNeverBoth : {A : Type 0} → Codec A → Type 0
IsNeverBoth {A} c = (a : A) (rest : List Bool) (e : Refused) (at : List Bool) → c.Lawful a → c.Refuses (c.spell a ++ rest) e at → ⊥

-- a list is refused for one reason, at one place
abbrev pub HasOneRefusal : {A : Type 0} → Codec A → Type 0
HasOneRefusal c = (l : List Bool) (d e : Refused) (at there : List Bool) → c.Refuses l d at → c.Refuses l e there → (d ≡ e) × (at ≡ there)

pub record IsFaithful {A : Type 0} (c : Codec A) : Type 0 where
  pub meaning : HasOneMeaning c
  pub back : ReadsBack c
  pub decided : IsDecided c
  pub apart : IsNeverBoth c
  pub refusal : HasOneRefusal c

-- ---- what a reader says that answers a value and passes over free bits behind it

-- a lawful value with this one in front was read
abbrev pub HasRead : {A B : Type 0} → Codec (A × B) → List Bool → List Bool → A → Type 0
HasRead {A} {B} c old new a = (b : B) × c.Lawful (a, b) × (old ≡ c.spell (a, b) ++ new)

-- each lawful value that the bits begin with is read
abbrev pub ReadsEach : {A B : Type 0} → Codec (A × B) → List Bool → List Bool → Result A Refused → Type 0
ReadsEach {A} {B} c old new result =
    (a : A) (b : B) (rest : List Bool) → c.Lawful (a, b) → old ≡ c.spell (a, b) ++ rest → (result ≡ Ok a) × (new ≡ rest)

-- what is refused is refused, and the source stands there
abbrev pub RefusesEach : {A B : Type 0} → Codec (A × B) → List Bool → List Bool → Result A Refused → Type 0
RefusesEach c old new result = (e : Refused) (at : List Bool) → c.Refuses old e at → (result ≡ Err e) × (new ≡ at)
