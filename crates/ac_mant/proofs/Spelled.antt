-- What was packed is read back.
use Rattle.std.proofs.Common.{◌≡◌, ℕ, zero, suc, ◌+◌, ◌^◌, ◌<◌, ◌≤◌, Bool, false, List, [], ◌∷◌, ◌++◌, append_assoc, length, slice_index, Ok, arith, refl, inl, inr, ap, sym, subst, ◌∙◌}
use Rattle.std.specs.Prelude.{◌==◌, ◌||◌, nat_eq, nat_le}
use Rattle.std.proofs.lemmas.Bool.{cases_eq}
use Rattle.std.proofs.lemmas.Bool.Decides.{nat_tests}
use Rattle.ac_base.specs.Counts.{code_width}
use Rattle.ac_base.proofs.Tests.{all_below-at}
use Rattle.ac_bits.specs.Bits.{bits}
use Rattle.ac_mant.specs.declared.ahead.Ahead.{Ahead}
use Rattle.ac_mant.specs.declared.coded.Coded.{Coded}
use Rattle.ac_mant.specs.declared.held.Codes.{Codes}
use Rattle.ac_mant.specs.declared.held.Codes.TheVariants.{None, One, Two}
use Rattle.ac_mant.specs.declared.held.Held.{Held}
use Rattle.ac_mant.specs.Quantiser.{levels, width, code_limit}
use Rattle.ac_mant.specs.Groups.{AreCoded, Fill, IsFill, closed, pairs, pointers, after, coming, triple, pair, first_number, first_width, first_limit, number, number_width, number_limit, spelled}
use Rattle.ac_mant.specs.Unpacking.{nothing, codes_in, ahead_in, of_three, of_two, opened, read_number, read_from}
use Rattle.std.specs.List.{All}
use Rattle.std.proofs.lemmas.List.Elements.{All-head, All-tail}
use Rattle.ac_mant.proofs.Coming.{limit_of_1, limit_of_2, limit_of_4}
use Rattle.ac_mant.proofs.Reading.{read_low}
use Rattle.ac_mant.proofs.Grouping.{Begins, Awaits, by_kind, opened_ahead, own_limit, other_held, coming_other}
use Rattle.ac_mant.proofs.Whole.{AreLowPointers, step_ok, end_ok}

-- the codes of mantissas
abbrev pub codes_of : List Coded → List ℕ
codes_of [] = []
codes_of (x ∷ xs) = x.code ∷ codes_of xs

-- those with a pointer, and a fill behind them, are below its limit
coming_same : (bap limit : ℕ) (x : Coded) (xs : List Coded) (fill : List ℕ) (i : ℕ) → x.bap ≡ bap → x.code < limit → ((j : ℕ) → slice_index (coming bap xs ++ fill) j < limit) → slice_index (coming bap (x ∷ xs) ++ fill) i < limit
coming_same bap limit x xs fill zero same here rest = grind (arith, nat_tests)
coming_same bap limit x xs fill (suc i) same here rest = let behind = rest i in grind (arith, nat_tests)

pub coming_item : (bap limit : ℕ) (xs : List Coded) (fill : List ℕ) (i : ℕ) → code_limit bap ≡ limit → AreCoded xs → ((j : ℕ) → slice_index fill j < limit) → slice_index (coming bap xs ++ fill) i < limit
coming_item bap limit [] fill i is are low = low i
coming_item bap limit (x ∷ xs) fill i is are low =
    elim (cases_eq x.bap bap) [
      | inl same ↦
          let here : x.code < limit = subst (λ (n : ℕ). x.code < n) (ap code_limit same ∙ is) are.0.code in
          coming_same bap limit x xs fill i same here (λ j. coming_item bap limit xs fill j is are.1 low)
      | inr other ↦ let rest = coming_item bap limit xs fill i is are.1 low in grind (arith, nat_tests)
    ]

-- a lawful number fits its bits
own_fit : (bap : ℕ) → bap ≤ 15 → (bap == 1) ≡ false → (bap == 2) ≡ false → (bap == 4) ≡ false → code_limit bap ≤ 2 ^ code_width bap
unfolding levels width
own_fit bap most not_1 not_2 not_4 =
    let test = all_below-at 16 (λ k. nat_eq k 1 || nat_eq k 2 || nat_eq k 4 || nat_le (code_limit k) (2 ^ code_width k)) refl bap (omega arith) in
    grind (arith, nat_tests, test)

first_fits : (left limit w : ℕ) → limit ≤ 2 ^ w → first_limit left limit ≤ 2 ^ first_width left w
first_fits zero limit w fits = fits
first_fits (suc left) limit w fits = let none : (suc left == 0) ≡ false = grind (arith, nat_tests) in rw none (omega arith)

pub limit_fits : (a : Ahead) (bap : ℕ) → bap ≤ 15 → number_limit a bap ≤ 2 ^ number_width a bap
limit_fits a =
    by_kind (λ bap. bap ≤ 15 → number_limit a bap ≤ 2 ^ number_width a bap)
    (λ most. first_fits a.one 27 5 (omega arith))
    (λ most. first_fits a.two 125 7 (omega arith))
    (λ most. first_fits a.four 121 7 (omega arith))
    (λ bap not_1 not_2 not_4 most. rw not_1 (rw not_2 (rw not_4 (own_fit bap most not_1 not_2 not_4))))

-- ---- groups of three codes of three levels
low3 : (c : Codes) (code : ℕ) (l : List ℕ) → code < 3 → ((i : ℕ) → slice_index l i < 3) → first_number (length (codes_in c)) (triple 3 code l) < first_limit (length (codes_in c)) 27
low3 None code l here behind = let a = behind 0 in let b = behind 1 in omega (arith, a, b)
low3 (One a) code l here behind = omega arith
low3 (Two a b) code l here behind = omega arith

code3 : (c : Codes) (code : ℕ) (l : List ℕ) → ((i : ℕ) → slice_index l i < 3) → Begins c (code ∷ l) → (of_three 3 (first_number (length (codes_in c)) (triple 3 code l)) c).0 ≡ code
code3 None code l behind begins = let a = behind 0 in let b = behind 1 in omega (arith, a, b)
code3 (One a) code l behind begins = sym begins
code3 (Two a b) code l behind begins = sym begins.0

begins3 : (c : Codes) (code : ℕ) (l : List ℕ) → ((i : ℕ) → slice_index l i < 3) → Begins c (code ∷ l) → Begins (of_three 3 (first_number (length (codes_in c)) (triple 3 code l)) c).1 l
begins3 None code l behind begins = let a = behind 0 in let b = behind 1 in (omega (arith, a, b), omega (arith, a, b))
begins3 (One a) code l behind begins = tt
begins3 (Two a b) code l behind begins = begins.1

-- of five levels
low5 : (c : Codes) (code : ℕ) (l : List ℕ) → code < 5 → ((i : ℕ) → slice_index l i < 5) → first_number (length (codes_in c)) (triple 5 code l) < first_limit (length (codes_in c)) 125
low5 None code l here behind = let a = behind 0 in let b = behind 1 in omega (arith, a, b)
low5 (One a) code l here behind = omega arith
low5 (Two a b) code l here behind = omega arith

code5 : (c : Codes) (code : ℕ) (l : List ℕ) → ((i : ℕ) → slice_index l i < 5) → Begins c (code ∷ l) → (of_three 5 (first_number (length (codes_in c)) (triple 5 code l)) c).0 ≡ code
code5 None code l behind begins = let a = behind 0 in let b = behind 1 in omega (arith, a, b)
code5 (One a) code l behind begins = sym begins
code5 (Two a b) code l behind begins = sym begins.0

begins5 : (c : Codes) (code : ℕ) (l : List ℕ) → ((i : ℕ) → slice_index l i < 5) → Begins c (code ∷ l) → Begins (of_three 5 (first_number (length (codes_in c)) (triple 5 code l)) c).1 l
begins5 None code l behind begins = let a = behind 0 in let b = behind 1 in (omega (arith, a, b), omega (arith, a, b))
begins5 (One a) code l behind begins = tt
begins5 (Two a b) code l behind begins = begins.1

-- of two codes of eleven levels
low11 : (c : Codes) (code : ℕ) (l : List ℕ) → code < 11 → ((i : ℕ) → slice_index l i < 11) → first_number (length (codes_in c)) (pair 11 code l) < first_limit (length (codes_in c)) 121
low11 None code l here behind = let a = behind 0 in omega (arith, a)
low11 (One a) code l here behind = omega arith
low11 (Two a b) code l here behind = omega arith

code11 : (c : Codes) (code : ℕ) (l : List ℕ) → ((i : ℕ) → slice_index l i < 11) → Begins c (code ∷ l) → (of_two 11 (first_number (length (codes_in c)) (pair 11 code l)) c).0 ≡ code
code11 None code l behind begins = let a = behind 0 in omega (arith, a)
code11 (One a) code l behind begins = sym begins
code11 (Two a b) code l behind begins = sym begins.0

begins11 : (c : Codes) (code : ℕ) (l : List ℕ) → ((i : ℕ) → slice_index l i < 11) → Begins c (code ∷ l) → Begins (of_two 11 (first_number (length (codes_in c)) (pair 11 code l)) c).1 l
begins11 None code l behind begins = let a = behind 0 in omega (arith, a)
begins11 (One a) code l behind begins = tt
begins11 (Two a b) code l behind begins = begins.1

-- ---- one mantissa, of any pointer

-- each of the codes that may come is one of its pointer
pub record AreToCome (f : Fill) (xs : List Coded) : Type 0 where
  pub one : (i : ℕ) → slice_index (coming 1 xs ++ f.one) i < 3
  pub two : (i : ℕ) → slice_index (coming 2 xs ++ f.two) i < 5
  pub four : (i : ℕ) → slice_index (coming 4 xs ++ f.four) i < 11

to_come : (f : Fill) (xs : List Coded) → IsFill f → AreCoded xs → AreToCome f xs
to_come f xs is are = record {
  one = λ i. coming_item 1 3 xs f.one i (limit_of_1 1 refl) are is.one;
  two = λ i. coming_item 2 5 xs f.two i (limit_of_2 2 refl) are is.two;
  four = λ i. coming_item 4 11 xs f.four i (limit_of_4 4 refl) are is.four;
}

record OneRead (h : Held) (f : Fill) (bap code : ℕ) (xs : List Coded) (v : ℕ) : Type 0 where
  low : v < number_limit (ahead_in h) bap
  same : (opened h bap v).0 ≡ code
  awaits : Awaits (opened h bap v).1 f xs

other_number : (f : Fill) (a : Ahead) (bap code : ℕ) (xs : List Coded) → (bap == 1) ≡ false → (bap == 2) ≡ false → (bap == 4) ≡ false → number f a (record { bap = bap; code = code }) xs ≡ code
other_number f a bap code xs not_1 not_2 not_4 = rw not_1 (rw not_2 (rw not_4 refl))

other_code : (h : Held) (v bap : ℕ) → (bap == 1) ≡ false → (bap == 2) ≡ false → (bap == 4) ≡ false → (opened h bap v).0 ≡ v
other_code h v bap not_1 not_2 not_4 = rw not_1 (rw not_2 (rw not_4 refl))

one_other : (h : Held) (f : Fill) (bap code : ℕ) (xs : List Coded) → (bap == 1) ≡ false → (bap == 2) ≡ false → (bap == 4) ≡ false → code < code_limit bap → Awaits h f (record { bap = bap; code = code } ∷ xs) → OneRead h f bap code xs (number f (ahead_in h) (record { bap = bap; code = code }) xs)
one_other h f bap code xs not_1 not_2 not_4 here awaits =
    let v = number f (ahead_in h) (record { bap = bap; code = code }) xs in
    let is : v ≡ code = other_number f (ahead_in h) bap code xs not_1 not_2 not_4 in
    let kept : Awaits h f xs = record {
      one = subst (λ (l : List ℕ). Begins h.one (l ++ f.one)) (coming_other 1 bap code xs not_1) awaits.one;
      two = subst (λ (l : List ℕ). Begins h.two (l ++ f.two)) (coming_other 2 bap code xs not_2) awaits.two;
      four = subst (λ (l : List ℕ). Begins h.four (l ++ f.four)) (coming_other 4 bap code xs not_4) awaits.four;
    } in
    record {
      low = subst (λ (n : ℕ). n < number_limit (ahead_in h) bap) (sym is) (subst (λ (n : ℕ). code < n) (sym (own_limit (ahead_in h) bap not_1 not_2 not_4)) here);
      same = other_code h v bap not_1 not_2 not_4 ∙ is;
      awaits = subst (λ (g : Held). Awaits g f xs) (sym (other_held h v bap not_1 not_2 not_4)) kept;
    }

one_read : (h : Held) (f : Fill) (code : ℕ) (xs : List Coded) → AreToCome f xs → (bap : ℕ) → code < code_limit bap → Awaits h f (record { bap = bap; code = code } ∷ xs) → OneRead h f bap code xs (number f (ahead_in h) (record { bap = bap; code = code }) xs)
unfolding levels
one_read h f code xs come =
    by_kind (λ bap. code < code_limit bap → Awaits h f (record { bap = bap; code = code } ∷ xs) → OneRead h f bap code xs (number f (ahead_in h) (record { bap = bap; code = code }) xs))
    (λ here awaits. record {
      low = low3 h.one code (coming 1 xs ++ f.one) here come.one;
      same = code3 h.one code (coming 1 xs ++ f.one) come.one awaits.one;
      awaits = record { one = begins3 h.one code (coming 1 xs ++ f.one) come.one awaits.one; two = awaits.two; four = awaits.four };
    })
    (λ here awaits. record {
      low = low5 h.two code (coming 2 xs ++ f.two) here come.two;
      same = code5 h.two code (coming 2 xs ++ f.two) come.two awaits.two;
      awaits = record { one = awaits.one; two = begins5 h.two code (coming 2 xs ++ f.two) come.two awaits.two; four = awaits.four };
    })
    (λ here awaits. record {
      low = low11 h.four code (coming 4 xs ++ f.four) here come.four;
      same = code11 h.four code (coming 4 xs ++ f.four) come.four awaits.four;
      awaits = record { one = awaits.one; two = awaits.two; four = begins11 h.four code (coming 4 xs ++ f.four) come.four awaits.four };
    })
    (λ bap not_1 not_2 not_4 here awaits. one_other h f bap code xs not_1 not_2 not_4 here awaits)

-- ---- all

pub spelled_reads : (xs : List Coded) (h : Held) (k : ℕ) (f : Fill) (rest : List Bool) → IsFill f → AreCoded xs → Awaits h f xs → read_from h k (pointers xs) (spelled f (ahead_in h) xs ++ rest) ≡ Ok (codes_of xs, rest)
spelled_reads [] h k f rest is are awaits = end_ok h k rest
spelled_reads (x ∷ xs) h k f rest is are awaits =
    let v = number f (ahead_in h) x xs in
    let w = number_width (ahead_in h) x.bap in
    let one = one_read h f x.code xs (to_come f xs is are.1) x.bap are.0.code awaits in
    let wide = limit_fits (ahead_in h) x.bap are.0.pointer in
    let fits : v < 2 ^ w = omega (arith, wide, one.low) in
    let behind = spelled f (after (ahead_in h) x.bap) xs ++ rest in
    let split = append_assoc (bits v w) (spelled f (after (ahead_in h) x.bap) xs) rest in
    let here : read_number k w (number_limit (ahead_in h) x.bap) (spelled f (ahead_in h) (x ∷ xs) ++ rest) ≡ Ok (v, behind) =
    ap (λ b. read_number k w (number_limit (ahead_in h) x.bap) b) split ∙ read_low k w (number_limit (ahead_in h) x.bap) v behind fits one.low in
    let next = spelled_reads xs (opened h x.bap v).1 (k + 1) f rest is are.1 one.awaits in
    let later : read_from (opened h x.bap v).1 (k + 1) (pointers xs) behind ≡ Ok (codes_of xs, rest) =
    subst (λ (a : Ahead). read_from (opened h x.bap v).1 (k + 1) (pointers xs) (spelled f a xs ++ rest) ≡ Ok (codes_of xs, rest)) (opened_ahead h v x.bap) next in
    step_ok h k x.bap v (pointers xs) (spelled f (ahead_in h) (x ∷ xs) ++ rest) behind (Ok (codes_of xs, rest)) here later
    ∙ ap (λ c. Ok (c ∷ codes_of xs, rest)) one.same

-- ---- pointers and codes apart

pub pointers_pairs : (baps codes : List ℕ) → length codes ≡ length baps → pointers (pairs baps codes) ≡ baps
pointers_pairs [] codes long = refl
pointers_pairs (bap ∷ baps) [] long = absurd (omega arith)
pointers_pairs (bap ∷ baps) (code ∷ codes) long = ap (λ l. bap ∷ l) (pointers_pairs baps codes (omega arith))

pub codes_pairs : (baps codes : List ℕ) → length codes ≡ length baps → codes_of (pairs baps codes) ≡ codes
codes_pairs [] [] long = refl
codes_pairs [] (code ∷ codes) long = absurd (omega arith)
codes_pairs (bap ∷ baps) [] long = absurd (omega arith)
codes_pairs (bap ∷ baps) (code ∷ codes) long = ap (λ l. code ∷ l) (codes_pairs baps codes (omega arith))

none_awaited : (f : Fill) (xs : List Coded) → Awaits nothing f xs
none_awaited f xs = record { one = tt; two = tt; four = tt }

pub pairs_read : (baps codes : List ℕ) (f : Fill) (l rest : List Bool) → length codes ≡ length baps → IsFill f → AreCoded (pairs baps codes) → l ≡ spelled f closed (pairs baps codes) ++ rest → read_from nothing 0 baps l ≡ Ok (codes, rest)
pairs_read baps codes f l rest long is are whole =
    let read = spelled_reads (pairs baps codes) nothing 0 f rest is are (none_awaited f (pairs baps codes)) in
    ap (λ b. read_from nothing 0 baps b) whole
    ∙ ap (λ (p : List ℕ). read_from nothing 0 p (spelled f closed (pairs baps codes) ++ rest)) (sym (pointers_pairs baps codes long))
    ∙ read
    ∙ ap (λ c. Ok (c, rest)) (codes_pairs baps codes long)

pub low_pointers : (baps : List ℕ) → All (λ bap. bap ≤ 15) baps → AreLowPointers baps
low_pointers [] low = tt
low_pointers (bap ∷ baps) low = (All-head (λ b. b ≤ 15) bap baps low, low_pointers baps (All-tail (λ b. b ≤ 15) bap baps low))
