-- Codes and the numbers of their groups, both ways.
use Rattle.std.proofs.Common.{◌≡◌, ℕ, ◌-◌, ◌/◌, ◌%◌, ◌<◌, false, List, ◌∷◌, ◌++◌, length, slice_index, arith, refl, inl, inr, ap, sym, subst}
use Rattle.std.specs.Prelude.{◌==◌, if◌then◌else◌}
use Rattle.std.proofs.lemmas.Bool.{cases_eq}
use Rattle.std.proofs.lemmas.Bool.Decides.{nat_tests}
use Rattle.ac_mant.specs.declared.ahead.Ahead.{Ahead}
use Rattle.ac_mant.specs.declared.coded.Coded.{Coded}
use Rattle.ac_mant.specs.declared.held.Codes.{Codes}
use Rattle.ac_mant.specs.declared.held.Codes.TheVariants.{None, One, Two}
use Rattle.ac_mant.specs.declared.held.Held.{Held}
use Rattle.ac_mant.specs.Quantiser.{levels, code_limit, IsCode}
use Rattle.ac_mant.specs.Groups.{Fill, coded, after, coming, triple, pair, number, number_limit, first_limit, first_number}
use Rattle.ac_mant.specs.Unpacking.{codes_in, ahead_in, of_three, of_two, opened}

-- the codes that are held stand at the front of a list
abbrev pub Begins : Codes → List ℕ → Type 0
Begins None l = Unit {0}
Begins (One a) l = slice_index l 0 ≡ a
Begins (Two a b) l = (slice_index l 0 ≡ a) × (slice_index l 1 ≡ b)

-- they are codes of so many levels
abbrev pub AreLow : ℕ → Codes → Type 0
AreLow levels None = Unit {0}
AreLow levels (One a) = a < levels
AreLow levels (Two a b) = (a < levels) × (b < levels)

-- no more than one is held of a group of two
abbrev pub IsPair : Codes → Type 0
IsPair None = Unit {0}
IsPair (One a) = Unit {0}
IsPair (Two a b) = ⊥

pub record IsHeld (h : Held) : Type 0 where
  pub one : AreLow 3 h.one
  pub two : AreLow 5 h.two
  pub four : AreLow 11 h.four
  pub pair : IsPair h.four

-- the codes held are the next ones of these mantissas, and of the fill behind them
pub record Awaits (h : Held) (f : Fill) (xs : List Coded) : Type 0 where
  pub one : Begins h.one (coming 1 xs ++ f.one)
  pub two : Begins h.two (coming 2 xs ++ f.two)
  pub four : Begins h.four (coming 4 xs ++ f.four)

-- ---- from a number to codes and back

pub three_ahead : (levels v : ℕ) (h : Codes) → length (codes_in (of_three levels v h).1) ≡ (if length (codes_in h) == 0 then 2 else length (codes_in h) - 1)
three_ahead levels v None = refl
three_ahead levels v (One a) = refl
three_ahead levels v (Two a b) = refl

pub two_ahead : (levels v : ℕ) (h : Codes) → length (codes_in (of_two levels v h).1) ≡ (if length (codes_in h) == 0 then 1 else length (codes_in h) - 1)
two_ahead levels v None = refl
two_ahead levels v (One a) = refl
two_ahead levels v (Two a b) = refl

-- the three pointers of groups, and all others
pub by_kind : (P : ℕ → Type 0) → P 1 → P 2 → P 4 → ((bap : ℕ) → (bap == 1) ≡ false → (bap == 2) ≡ false → (bap == 4) ≡ false → P bap) → (bap : ℕ) → P bap
by_kind P of_1 of_2 of_4 other bap =
    elim (cases_eq bap 1) [
      | inl is_1 ↦ subst P (sym is_1) of_1
      | inr not_1 ↦
          elim (cases_eq bap 2) [
            | inl is_2 ↦ subst P (sym is_2) of_2
            | inr not_2 ↦
                elim (cases_eq bap 4) [
                  | inl is_4 ↦ subst P (sym is_4) of_4
                  | inr not_4 ↦ other bap (grind (arith, nat_tests)) (grind (arith, nat_tests)) (grind (arith, nat_tests))
                ]
          ]
    ]

pub opened_ahead : (h : Held) (v bap : ℕ) → ahead_in (opened h bap v).1 ≡ after (ahead_in h) bap
opened_ahead h v =
    by_kind (λ bap. ahead_in (opened h bap v).1 ≡ after (ahead_in h) bap)
    (ap (λ n. record { one = n; two = length (codes_in h.two); four = length (codes_in h.four) }) (three_ahead 3 v h.one))
    (ap (λ n. record { one = length (codes_in h.one); two = n; four = length (codes_in h.four) }) (three_ahead 5 v h.two))
    (ap (λ n. record { one = length (codes_in h.one); two = length (codes_in h.two); four = n }) (two_ahead 11 v h.four))
    (λ bap not_1 not_2 not_4. rw not_1 (rw not_2 (rw not_4 refl)))

-- what a number stands for is what it is made of
three_low : (v a b : ℕ) (l : List ℕ) → v < 27 → slice_index l 0 ≡ v / 3 % 3 → slice_index l 1 ≡ v % 3 → triple 3 (v / 9) l ≡ v
three_low v a b l low first second = omega (arith, first, second)

five_low : (v a b : ℕ) (l : List ℕ) → v < 125 → slice_index l 0 ≡ v / 5 % 5 → slice_index l 1 ≡ v % 5 → triple 5 (v / 25) l ≡ v
five_low v a b l low first second = omega (arith, first, second)

eleven_low : (v : ℕ) (l : List ℕ) → v < 121 → slice_index l 0 ≡ v % 11 → pair 11 (v / 11) l ≡ v
eleven_low v l low first = omega (arith, first)

-- ---- groups of three codes of three levels
held3 : (c : Codes) (v : ℕ) → AreLow 3 c → v < first_limit (length (codes_in c)) 27 → AreLow 3 (of_three 3 v c).1
held3 None v are low = (omega arith, omega arith)
held3 (One a) v are low = tt
held3 (Two a b) v are low = are.1

code3 : (c : Codes) (v : ℕ) → AreLow 3 c → v < first_limit (length (codes_in c)) 27 → (of_three 3 v c).0 < 3
code3 None v are low = omega arith
code3 (One a) v are low = are
code3 (Two a b) v are low = are.0

number3 : (c : Codes) (v : ℕ) (l : List ℕ) → v < first_limit (length (codes_in c)) 27 → Begins (of_three 3 v c).1 l → first_number (length (codes_in c)) (triple 3 (of_three 3 v c).0 l) ≡ v
number3 None v l low begins = three_low v 0 0 l low begins.0 begins.1
number3 (One a) v l low begins = omega arith
number3 (Two a b) v l low begins = omega arith

awaits3 : (c : Codes) (v : ℕ) (l : List ℕ) → Begins (of_three 3 v c).1 l → Begins c ((of_three 3 v c).0 ∷ l)
awaits3 None v l begins = tt
awaits3 (One a) v l begins = refl
awaits3 (Two a b) v l begins = (refl, begins)

-- of five levels
held5 : (c : Codes) (v : ℕ) → AreLow 5 c → v < first_limit (length (codes_in c)) 125 → AreLow 5 (of_three 5 v c).1
held5 None v are low = (omega arith, omega arith)
held5 (One a) v are low = tt
held5 (Two a b) v are low = are.1

code5 : (c : Codes) (v : ℕ) → AreLow 5 c → v < first_limit (length (codes_in c)) 125 → (of_three 5 v c).0 < 5
code5 None v are low = omega arith
code5 (One a) v are low = are
code5 (Two a b) v are low = are.0

number5 : (c : Codes) (v : ℕ) (l : List ℕ) → v < first_limit (length (codes_in c)) 125 → Begins (of_three 5 v c).1 l → first_number (length (codes_in c)) (triple 5 (of_three 5 v c).0 l) ≡ v
number5 None v l low begins = five_low v 0 0 l low begins.0 begins.1
number5 (One a) v l low begins = omega arith
number5 (Two a b) v l low begins = omega arith

awaits5 : (c : Codes) (v : ℕ) (l : List ℕ) → Begins (of_three 5 v c).1 l → Begins c ((of_three 5 v c).0 ∷ l)
awaits5 None v l begins = tt
awaits5 (One a) v l begins = refl
awaits5 (Two a b) v l begins = (refl, begins)

-- of two codes of eleven levels
held11 : (c : Codes) (v : ℕ) → AreLow 11 c → IsPair c → v < first_limit (length (codes_in c)) 121 → AreLow 11 (of_two 11 v c).1 × IsPair (of_two 11 v c).1
held11 None v are pair low = (omega arith, tt)
held11 (One a) v are pair low = (tt, tt)
held11 (Two a b) v are pair low = absurd pair

code11 : (c : Codes) (v : ℕ) → AreLow 11 c → v < first_limit (length (codes_in c)) 121 → (of_two 11 v c).0 < 11
code11 None v are low = omega arith
code11 (One a) v are low = are
code11 (Two a b) v are low = are.0

number11 : (c : Codes) (v : ℕ) (l : List ℕ) → v < first_limit (length (codes_in c)) 121 → Begins (of_two 11 v c).1 l → first_number (length (codes_in c)) (pair 11 (of_two 11 v c).0 l) ≡ v
number11 None v l low begins = eleven_low v l low begins
number11 (One a) v l low begins = omega arith
number11 (Two a b) v l low begins = omega arith

awaits11 : (c : Codes) (v : ℕ) (l : List ℕ) → IsPair c → Begins (of_two 11 v c).1 l → Begins c ((of_two 11 v c).0 ∷ l)
awaits11 None v l pair begins = tt
awaits11 (One a) v l pair begins = refl
awaits11 (Two a b) v l pair begins = absurd pair

-- ---- one mantissa, of any pointer

pub own_limit : (a : Ahead) (bap : ℕ) → (bap == 1) ≡ false → (bap == 2) ≡ false → (bap == 4) ≡ false → number_limit a bap ≡ code_limit bap
own_limit a bap not_1 not_2 not_4 = rw not_1 (rw not_2 (rw not_4 refl))

pub other_held : (h : Held) (v bap : ℕ) → (bap == 1) ≡ false → (bap == 2) ≡ false → (bap == 4) ≡ false → (opened h bap v).1 ≡ h
other_held h v bap not_1 not_2 not_4 = rw not_1 (rw not_2 (rw not_4 refl))

pub coming_other : (k bap code : ℕ) (xs : List Coded) → (bap == k) ≡ false → coming k (coded bap code ∷ xs) ≡ coming k xs
coming_other k bap code xs not = rw not refl

-- the number that was read is a lawful one
abbrev pub IsLow : Held → ℕ → ℕ → Type 0
IsLow h v bap = v < number_limit (ahead_in h) bap

pub step_held : (h : Held) (v : ℕ) → IsHeld h → (bap : ℕ) → IsLow h v bap → IsHeld (opened h bap v).1
step_held h v is =
    by_kind (λ bap. IsLow h v bap → IsHeld (opened h bap v).1)
    (λ low. record { one = held3 h.one v is.one low; two = is.two; four = is.four; pair = is.pair })
    (λ low. record { one = is.one; two = held5 h.two v is.two low; four = is.four; pair = is.pair })
    (λ low. record { one = is.one; two = is.two; four = (held11 h.four v is.four is.pair low).0; pair = (held11 h.four v is.four is.pair low).1 })
    (λ bap not_1 not_2 not_4 low. rw not_1 (rw not_2 (rw not_4 is)))

pub step_code : (h : Held) (v : ℕ) → IsHeld h → (bap : ℕ) → IsLow h v bap → IsCode bap (opened h bap v).0
unfolding levels
step_code h v is =
    by_kind (λ bap. IsLow h v bap → IsCode bap (opened h bap v).0)
    (λ low. code3 h.one v is.one low)
    (λ low. code5 h.two v is.two low)
    (λ low. code11 h.four v is.four low)
    (λ bap not_1 not_2 not_4 low. rw not_1 (rw not_2 (rw not_4 (subst (λ (n : ℕ). v < n) (own_limit (ahead_in h) bap not_1 not_2 not_4) low))))

pub step_number : (h : Held) (v : ℕ) (f : Fill) (xs : List Coded) (bap : ℕ) → IsLow h v bap → Awaits (opened h bap v).1 f xs → number f (ahead_in h) (coded bap (opened h bap v).0) xs ≡ v
step_number h v f xs =
    by_kind (λ bap. IsLow h v bap → Awaits (opened h bap v).1 f xs → number f (ahead_in h) (coded bap (opened h bap v).0) xs ≡ v)
    (λ low awaits. number3 h.one v (coming 1 xs ++ f.one) low awaits.one)
    (λ low awaits. number5 h.two v (coming 2 xs ++ f.two) low awaits.two)
    (λ low awaits. number11 h.four v (coming 4 xs ++ f.four) low awaits.four)
    (λ bap not_1 not_2 not_4 low awaits. rw not_1 (rw not_2 (rw not_4 refl)))

pub step_awaits : (h : Held) (v : ℕ) (f : Fill) (xs : List Coded) → IsHeld h → (bap : ℕ) → Awaits (opened h bap v).1 f xs → Awaits h f (coded bap (opened h bap v).0 ∷ xs)
step_awaits h v f xs is =
    by_kind (λ bap. Awaits (opened h bap v).1 f xs → Awaits h f (coded bap (opened h bap v).0 ∷ xs))
    (λ awaits. record { one = awaits3 h.one v (coming 1 xs ++ f.one) awaits.one; two = awaits.two; four = awaits.four })
    (λ awaits. record { one = awaits.one; two = awaits5 h.two v (coming 2 xs ++ f.two) awaits.two; four = awaits.four })
    (λ awaits. record { one = awaits.one; two = awaits.two; four = awaits11 h.four v (coming 4 xs ++ f.four) is.pair awaits.four })
    (λ bap not_1 not_2 not_4 awaits.
    let same = other_held h v bap not_1 not_2 not_4 in
    let kept : Awaits h f xs = subst (λ (g : Held). Awaits g f xs) same awaits in
    let code = (opened h bap v).0 in
    record {
      one = subst (λ (l : List ℕ). Begins h.one (l ++ f.one)) (sym (coming_other 1 bap code xs not_1)) kept.one;
      two = subst (λ (l : List ℕ). Begins h.two (l ++ f.two)) (sym (coming_other 2 bap code xs not_2)) kept.two;
      four = subst (λ (l : List ℕ). Begins h.four (l ++ f.four)) (sym (coming_other 4 bap code xs not_4)) kept.four;
    })
