-- The text of a number, and its parse.
use Rattle.std.proofs.Common.{◌≡◌, ◌≢◌, ◌∙◌, ◌<◌, ◌≤◌, ◌+◌, ◌^◌, ◌/◌, ◌%◌, ◌==◌, ◌&&◌, ℕ, Bool, cond, not, true, false, refl, sym, ap, arith, List, [], ◌∷◌, ◌++◌, length, slice_index, get_or, Result, Ok, Err, true≢false, rules, subst}
use Rattle.std.specs.Fmt.{decimal}
use Rattle.std.specs.Str.Parse.{AllDigits, IsNumeral, ParsesUnsigned, digits_value, starts_with_minus, without_leading_plus}
use Rattle.std.proofs.lemmas.Bool.Decides.{nat_tests}
use Rattle.std.proofs.lemmas.Fmt.{decimal_by_steps, decimal_digit, decimal_injective, decimal-digits_value, parse-decimal}
use Rattle.std.proofs.lemmas.Str.Parse.{IsNumeralModel}
use Rattle.ac_words.specs.Grammar.{Text}
use Rattle.ac_words.specs.Digits.{is_bare_number}

-- the first byte of a number's text
pub record Begins (n : ℕ) (ds : Text) : Type 0 where
  pub some : 0 < length ds
  pub low : 48 ≤ slice_index ds 0
  pub high : slice_index ds 0 ≤ 57
  pub zero_alone : slice_index ds 0 ≡ 48 → n ≡ 0

begins_more : (n m d : ℕ) (ds : Text) → 10 ≤ n → n / 10 ≡ m → Begins m ds → Begins n (ds ++ d ∷ [])
begins_more n m d [] big is h = absurd (omega (arith, h.some))
begins_more n m d (x ∷ xs) big is h = record {
  some = omega arith;
  low = h.low;
  high = h.high;
  zero_alone = λ e. let z : m ≡ 0 = h.zero_alone e in absurd (omega arith);
}

pub decimal_begins : (n : ℕ) → n < 2 ^ 64 → Begins n (decimal n)
decimal_begins n small = decimal_by_steps Begins
    (λ k lt. record { some = omega arith; low = omega arith; high = omega arith; zero_alone = λ e. omega arith })
    (λ k ds big h. begins_more k (k / 10) (48 + k % 10) ds big refl h) n small

bare_when : (n : ℕ) (ds : Text) → Begins n ds → (n ≡ 0 → length ds ≡ 1) → is_bare_number ds ≡ true
bare_when n [] h one = absurd (omega (arith, h.some))
bare_when n (b ∷ []) h one = let low : 48 ≤ b = h.low in grind (arith, nat_tests)
bare_when n (b ∷ c ∷ rest) h one =
    let low : 48 ≤ b = h.low in
    let other : b ≢ 48 = λ e. let z : n ≡ 0 = h.zero_alone e in let l : length (b ∷ c ∷ rest) ≡ 1 = one z in absurd (omega arith) in
    grind (arith, nat_tests)

zero_text : decimal 0 ≡ 48 ∷ []
zero_text = decimal_digit 0 (omega arith)

pub bare_decimal : (n : ℕ) → n < 2 ^ 64 → is_bare_number (decimal n) ≡ true
bare_decimal n small = bare_when n (decimal n) (decimal_begins n small) (λ z. ap (λ (k : ℕ). length (decimal k)) z ∙ ap length zero_text)

pub plain_decimal : (n : ℕ) → n < 2 ^ 64 → not (starts_with_minus (decimal n)) ≡ true
plain_decimal n small = let low : 48 ≤ slice_index (decimal n) 0 = (decimal_begins n small).low in grind (arith, nat_tests)

no_plus : (bs : Text) → is_bare_number bs ≡ true → (0 < length bs) × (without_leading_plus bs ≡ bs) × (slice_index bs 0 ≡ 48 → length bs ≡ 1)
no_plus [] e = absurd (true≢false (sym e))
no_plus (b ∷ []) e = (omega arith, go (b == 43) e, λ z. refl)
  where
    go : (t : Bool) → not t ≡ true → Rattle.std.proofs.Common.drop (cond t 1 0) (b ∷ []) ≡ b ∷ []
    go true h = absurd (true≢false (sym h))
    go false h = refl
no_plus (b ∷ c ∷ rest) e = (omega arith, go (b == 43) (b == 48) e, λ z. absurd (never (b == 43) z e))
  where
    go : (t u : Bool) → (not t && not u) ≡ true → Rattle.std.proofs.Common.drop (cond t 1 0) (b ∷ c ∷ rest) ≡ b ∷ c ∷ rest
    go true u h = absurd (true≢false (sym h))
    go false u h = refl

    never : (t : Bool) → b ≡ 48 → (not t && not (b == 48)) ≡ true → ⊥
    never true z h = true≢false (sym h)
    never false z h = grind (arith, nat_tests)

own : IsNumeralModel (AllDigits 10) (digits_value 10)
own = record { to = λ ds h. h; from = λ ds h. h; same = λ ds h. refl }

pub parsed_is : (E : Type 0) (bs : Text) (n : ℕ) → is_bare_number bs ≡ true → ParsesUnsigned {E = E} 64 10 bs (Ok n) → bs ≡ decimal n
parsed_is E bs n bare h =
    let parts = no_plus bs bare in
    let numeral : IsNumeral 10 bs = subst (IsNumeral 10) parts.1 h.0.0 in
    let value : digits_value 10 bs ≡ n = ap (digits_value 10) (sym parts.1) ∙ sym h.1 in
    let small : digits_value 10 bs < 2 ^ 64 = subst (λ (x : Text). digits_value 10 x < 2 ^ 64) parts.1 h.0.1 in
    sym (decimal-digits_value own bs numeral.1 parts.0 parts.2 small) ∙ ap decimal value

pub unparsed_is : {E : Type 0} (bs : Text) (n : ℕ) (e : E) → ParsesUnsigned 64 10 bs (Err e) → n < 2 ^ 64 → bs ≡ decimal n → ⊥
unparsed_is bs n e h small is = let bad = parse-decimal 64 n bs (Err e) small small is h in cc bad

-- a text writes one number
pub same_number : (text : Text) (m n : ℕ) → m < 2 ^ 64 → n < 2 ^ 64 → text ≡ decimal m → text ≡ decimal n → m ≡ n
same_number text m n below small is also = decimal_injective m n below small (sym is ∙ also)
