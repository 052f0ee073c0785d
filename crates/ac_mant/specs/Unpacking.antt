-- How the bits of mantissas are read, one after the other: this project's own way to the codes of A/52 7.3.5.
use Rattle.std.specs.Prelude.{◌≡◌, ℕ, ◌+◌, ◌*◌, ◌/◌, ◌%◌, ◌==◌, if◌then◌else◌, nat_lt, nat_le, Bool, List, [], ◌∷◌, ◌++◌, length, take, drop, Result, Ok, Err}
use Rattle.ac_bits.specs.Bits.{num}
use Rattle.ac_mant.specs.declared.ahead.Ahead.{Ahead}
use Rattle.ac_mant.specs.declared.coded.MantFault.{MantFault}
use Rattle.ac_mant.specs.declared.coded.MantFault.TheVariants.{OutOfBits, BadGroup}
use Rattle.ac_mant.specs.declared.held.Codes.{Codes}
use Rattle.ac_mant.specs.declared.held.Codes.TheVariants.{None, One, Two}
use Rattle.ac_mant.specs.declared.held.Held.{Held}
use Rattle.ac_mant.specs.Groups.{number_width, number_limit}

-- the codes that are still to come of a group
abbrev pub codes_in : Codes → List ℕ
codes_in None = []
codes_in (One a) = a ∷ []
codes_in (Two a b) = a ∷ b ∷ []

-- how many they are
abbrev pub ahead_in : Held → Ahead
ahead_in h = record { one = length (codes_in h.one); two = length (codes_in h.two); four = length (codes_in h.four) }

abbrev pub nothing : Held
nothing = record { one = None; two = None; four = None }

-- ---- one number

-- a number of so many bits below a limit, and the bits behind it
abbrev pub read_number : ℕ → ℕ → ℕ → List Bool → Result (ℕ × List Bool) MantFault
read_number k width limit l =
    if nat_lt (length l) width then Err OutOfBits
    else if nat_le limit (num (take width l)) then Err (BadGroup k)
    else Ok (num (take width l), drop width l)

-- the code at hand, and those still to come, by the number that stands there
abbrev pub of_three : ℕ → ℕ → Codes → ℕ × Codes
of_three levels v None = (v / (levels * levels), Two (v / levels % levels) (v % levels))
of_three levels v (One a) = (a, None)
of_three levels v (Two a b) = (a, One b)

abbrev pub of_two : ℕ → ℕ → Codes → ℕ × Codes
of_two levels v None = (v / levels, One (v % levels))
of_two levels v (One a) = (a, None)
of_two levels v (Two a b) = (a, One b)

abbrev pub opened : Held → ℕ → ℕ → ℕ × Held
opened h bap v =
    if bap == 1 then ((of_three 3 v h.one).0, record h { one = (of_three 3 v h.one).1 })
    else if bap == 2 then ((of_three 5 v h.two).0, record h { two = (of_three 5 v h.two).1 })
    else if bap == 4 then ((of_two 11 v h.four).0, record h { four = (of_two 11 v h.four).1 })
    else (v, h)

-- ---- all

abbrev pub with_number : Result (ℕ × List Bool) MantFault → (ℕ → List Bool → Result (List ℕ × List Bool) MantFault)
    → Result (List ℕ × List Bool) MantFault
with_number (Ok n) f = f n.0 n.1
with_number (Err fault) f = Err fault

abbrev pub with_front : List ℕ → Result (List ℕ × List Bool) MantFault → Result (List ℕ × List Bool) MantFault
with_front front (Ok r) = Ok (front ++ r.0, r.1)
with_front front (Err fault) = Err fault

unfoldable pub read_from : Held → ℕ → List ℕ → List Bool → Result (List ℕ × List Bool) MantFault
read_from h k [] l = Ok ([], l)
read_from h k (bap ∷ baps) l =
    with_number (read_number k (number_width (ahead_in h) bap) (number_limit (ahead_in h) bap) l) (λ v rest.
    with_front ((opened h bap v).0 ∷ []) (read_from (opened h bap v).1 (k + 1) baps rest))

-- what a call gives that read so
abbrev pub NumberGives : Result ℕ MantFault → List Bool → Result (ℕ × List Bool) MantFault → Type 0
NumberGives (Ok v) new read = read ≡ Ok (v, new)
NumberGives (Err fault) new read = read ≡ Err fault

abbrev pub CodesGive : Result Unit MantFault → List ℕ → List Bool → Result (List ℕ × List Bool) MantFault → Type 0
CodesGive (Ok done) codes new read = read ≡ Ok (codes, new)
CodesGive (Err fault) codes new read = read ≡ Err fault
