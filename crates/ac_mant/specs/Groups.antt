-- Mantissas on the wire (A/52 7.3.5). Those of pointers 1 and 2 go by threes and those of pointer 4 by twos, as one number that stands
-- where the first of them stands; groups run over the channels of a block and end with it. Each other mantissa has a number of its own.
use Rattle.std.specs.Prelude.{◌≡◌, ◌⊎◌, ℕ, ◌+◌, ◌-◌, ◌*◌, ◌^◌, ◌<◌, ◌≤◌, ◌==◌, if◌then◌else◌, Bool, List, [], ◌∷◌, ◌++◌, length, slice_index}
use Rattle.ac_base.specs.Counts.{code_width}
use Rattle.ac_bits.specs.Bits.{bits}
use Rattle.ac_mant.specs.declared.ahead.Ahead.{Ahead}
use Rattle.ac_mant.specs.declared.coded.Coded.{Coded}
use Rattle.ac_mant.specs.declared.coded.MantFault.{MantFault}
use Rattle.ac_mant.specs.declared.coded.MantFault.TheVariants.{OutOfBits, BadGroup}
use Rattle.ac_mant.specs.Quantiser.{code_limit, IsCode}

-- a mantissa: its pointer and its code
abbrev pub coded : ℕ → ℕ → Coded
coded bap code = record { bap = bap; code = code }

abbrev pub pairs : List ℕ → List ℕ → List Coded
pairs [] codes = []
pairs (bap ∷ baps) [] = []
pairs (bap ∷ baps) (code ∷ codes) = coded bap code ∷ pairs baps codes

-- the pointers of mantissas
abbrev pub pointers : List Coded → List ℕ
pointers [] = []
pointers (x ∷ xs) = x.bap ∷ pointers xs

-- each is a code of its pointer
pub record IsCoded (x : Coded) : Type 0 where
  pub pointer : x.bap ≤ 15
  pub code : IsCode x.bap x.code

abbrev pub AreCoded : List Coded → Type 0
AreCoded [] = Unit {0}
AreCoded (x ∷ xs) = IsCoded x × AreCoded xs

-- ---- groups

-- at the begin of a block no codes were sent ahead
abbrev pub closed : Ahead
closed = record { one = 0; two = 0; four = 0 }

-- after one code more of groups of this size
abbrev pub turn : ℕ → ℕ → ℕ
turn size left = if left == 0 then size - 1 else left - 1

-- after one mantissa more
abbrev pub after : Ahead → ℕ → Ahead
after o bap = record {
  one = if bap == 1 then turn 3 o.one else o.one;
  two = if bap == 2 then turn 3 o.two else o.two;
  four = if bap == 4 then turn 2 o.four else o.four;
}

-- the bits of the number that stands at a mantissa: none where it was sent with the first of its group
abbrev pub first_width : ℕ → ℕ → ℕ
first_width left width = if left == 0 then width else 0

abbrev pub number_width : Ahead → ℕ → ℕ
number_width o bap =
    if bap == 1 then first_width o.one 5
    else if bap == 2 then first_width o.two 7
    else if bap == 4 then first_width o.four 7
    else code_width bap

-- the number that is refused, and those above it: 27, 125 and 121 for groups, 7 and 15 for pointers 3 and 5
abbrev pub first_limit : ℕ → ℕ → ℕ
first_limit left limit = if left == 0 then limit else 1

abbrev pub number_limit : Ahead → ℕ → ℕ
number_limit o bap =
    if bap == 1 then first_limit o.one 27
    else if bap == 2 then first_limit o.two 125
    else if bap == 4 then first_limit o.four 121
    else code_limit bap

-- ---- from codes to bits

-- the codes with this pointer
abbrev pub coming : ℕ → List Coded → List ℕ
coming bap [] = []
coming bap (x ∷ xs) = if x.bap == bap then x.code ∷ coming bap xs else coming bap xs

-- the codes that a last group lacks: they are free, and written 0
pub record Fill : Type 0 where
  pub one : List ℕ
  pub two : List ℕ
  pub four : List ℕ

abbrev pub zeros : Fill
zeros = record { one = 0 ∷ 0 ∷ []; two = 0 ∷ 0 ∷ []; four = 0 ∷ [] }

pub record IsFill (f : Fill) : Type 0 where
  pub one : (i : ℕ) → slice_index f.one i < 3
  pub two : (i : ℕ) → slice_index f.two i < 5
  pub four : (i : ℕ) → slice_index f.four i < 11

-- a code and the two, or the one, behind it as one number
abbrev pub triple : ℕ → ℕ → List ℕ → ℕ
triple levels code behind = levels * levels * code + levels * slice_index behind 0 + slice_index behind 1

abbrev pub pair : ℕ → ℕ → List ℕ → ℕ
pair levels code behind = levels * code + slice_index behind 0

abbrev pub first_number : ℕ → ℕ → ℕ
first_number left number = if left == 0 then number else 0

-- the number that stands at a mantissa, with others behind it
abbrev pub number : Fill → Ahead → Coded → List Coded → ℕ
number f o x xs =
    if x.bap == 1 then first_number o.one (triple 3 x.code (coming 1 xs ++ f.one))
    else if x.bap == 2 then first_number o.two (triple 5 x.code (coming 2 xs ++ f.two))
    else if x.bap == 4 then first_number o.four (pair 11 x.code (coming 4 xs ++ f.four))
    else x.code

-- the bits of mantissas
abbrev pub spelled : Fill → Ahead → List Coded → List Bool
spelled f o [] = []
spelled f o (x ∷ xs) = bits (number f o x xs) (number_width o x.bap) ++ spelled f (after o x.bap) xs

-- ---- from bits to codes

-- these bits aren't those of mantissas with these pointers, the first of which has place k: the first number that isn't whole, or that
-- stands for no codes
abbrev pub Refuses : Ahead → ℕ → List ℕ → List Bool → MantFault → Type 0
Refuses o k [] l fault = ⊥
Refuses o k (bap ∷ baps) l fault =
    ((length l < number_width o bap) × (fault ≡ OutOfBits))
    ⊎ ((v : ℕ) × (rest : List Bool) × (v < 2 ^ number_width o bap) × (l ≡ bits v (number_width o bap) ++ rest)
    × (((number_limit o bap ≤ v) × (fault ≡ BadGroup k)) ⊎ ((v < number_limit o bap) × Refuses (after o bap) (k + 1) baps rest fault)))
