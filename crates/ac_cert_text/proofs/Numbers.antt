-- The text of a number is read, and what is read is the text of a number.
use Rattle.std.proofs.Common.{◌≡◌, ℕ, zero, suc, ◌+◌, ◌-◌, ◌*◌, ◌/◌, ◌%◌, ◌^◌, ◌<◌, ◌≤◌, ◌==◌, ◌&&◌, not, Bool, true, false, cond, List, [], ◌∷◌, ◌++◌, Option, Some, None, Ok, refl, ap, sym, subst, ◌∙◌, arith, append_assoc, eq-eqb}
use Rattle.std.specs.Prelude.{nat_le, nat_lt}
use Rattle.std.specs.Fmt.{decimal}
use Rattle.std.proofs.lemmas.Bool.{lt-ltb, le-leb, eqb-true, leb-true, ltb-true}
use Rattle.std.proofs.lemmas.Bool.Decides.{nat_tests}
use Rattle.std.proofs.lemmas.Fmt.{decimal_by_steps, decimal_digit, decimal_step}
use Rattle.ac_cert_text.specs.Codec.{fits, digits, number_of, found_or, number, one_if, flag}
use Rattle.ac_cert_text.proofs.Sound.{Sound, bind_ok, ok_pair}

abbrev some_of : ℕ × List ℕ → Option (ℕ × List ℕ)
some_of x = Some x

some_same : (x y : ℕ × List ℕ) → some_of x ≡ some_of y → x ≡ y
some_same x y e = cc

pub both : (a b : Bool) → (a && b) ≡ true → (a ≡ true) × (b ≡ true)
both true true e = (refl, refl)
both true false e = absurd cc
both false b e = absurd cc

pub fits-true : (limit n b : ℕ) → 48 ≤ b → b ≤ 57 → 10 * n + (b - 48) < limit → fits limit n b ≡ true
fits-true limit n b low high small =
    rw (le-leb 48 b low, le-leb b 57 high, lt-ltb (10 * n + (b - 48)) limit small) refl

-- what a digit that fits is
pub record Digit (limit n b : ℕ) : Type 0 where
  pub low : 48 ≤ b
  pub high : b ≤ 57
  pub small : 10 * n + (b - 48) < limit

pub fits-is : (limit n b : ℕ) → fits limit n b ≡ true → Digit limit n b
fits-is limit n b e =
    let p = both (nat_le 48 b && nat_le b 57) (nat_lt (10 * n + (b - 48)) limit) e in
    let q = both (nat_le 48 b) (nat_le b 57) p.0 in
    record {
      low = leb-true 48 b q.0;
      high = leb-true b 57 q.1;
      small = ltb-true (10 * n + (b - 48)) limit p.1;
    }

not-zero : (n : ℕ) → not (n == 0) ≡ true → 0 < n
not-zero zero e = absurd cc
not-zero (suc n) e = omega arith

zero-not : (n : ℕ) → 0 < n → not (n == 0) ≡ true
zero-not zero h = absurd (omega arith)
zero-not (suc n) h = grind (arith, nat_tests)

digit_more : (n b : ℕ) → 0 < n → 48 ≤ b → b ≤ 57 → 10 * n + (b - 48) < 2 ^ 64 → decimal (10 * n + (b - 48)) ≡ decimal n ++ b ∷ []
digit_more n b some low high small =
    let m = 10 * n + (b - 48) in
    let high_part : m / 10 ≡ n = omega arith in
    let low_part : 48 + m % 10 ≡ b = omega arith in
    decimal_step m (omega arith) small ∙ (ap (λ (k : ℕ). decimal k ++ (48 + m % 10) ∷ []) high_part ∙ ap (λ (c : ℕ). decimal n ++ c ∷ []) low_part)

-- ---- what is read
digits-found : (limit end : ℕ) → limit ≤ 2 ^ 32 → (l : List ℕ) (n m : ℕ) (rest : List ℕ) → n < limit → digits limit end n l ≡ Some (m, rest)
    → (m < limit) × (decimal n ++ l ≡ decimal m ++ end ∷ rest)
digits-found limit end small [] n m rest lt e = absurd cc
digits-found limit end small (b ∷ l) n m rest lt e = go (b == end) (fits limit n b && not (n == 0)) refl refl (λ k below is. digits-found limit end small l k m rest below is) e
  where
    go : (t u : Bool) → (b == end) ≡ t → (fits limit n b && not (n == 0)) ≡ u
        → ((k : ℕ) → k < limit → digits limit end k l ≡ Some (m, rest) → (m < limit) × (decimal k ++ l ≡ decimal m ++ end ∷ rest))
        → cond t (some_of (n, l)) (cond u (digits limit end (10 * n + (b - 48)) l) None) ≡ Some (m, rest)
        → (m < limit) × (decimal n ++ b ∷ l ≡ decimal m ++ end ∷ rest)
    go true u h k on e =
        let s = some_same (n, l) (m, rest) e in
        let same : n ≡ m = ap (λ (x : ℕ × List ℕ). x.0) s in
        let tail : l ≡ rest = ap (λ (x : ℕ × List ℕ). x.1) s in
        let byte : b ≡ end = eqb-true b end h in (
          subst (λ (q : ℕ). q < limit) same lt,
          ap (λ (q : ℕ). decimal q ++ b ∷ l) same
              ∙ (ap (λ (c : ℕ). decimal m ++ c ∷ l) byte ∙ ap (λ (r : List ℕ). decimal m ++ end ∷ r) tail),
        )
    go false true h k on e =
        let p = both (fits limit n b) (not (n == 0)) k in
        let d = fits-is limit n b p.0 in
        let more = digit_more n b (not-zero n p.1) d.low d.high (omega (arith, d.small, small)) in
        let f = on (10 * n + (b - 48)) d.small e in
        (f.0, sym (append_assoc (decimal n) (b ∷ []) l) ∙ (ap (λ (x : List ℕ). x ++ l) (sym more) ∙ f.1))
    go false false h k on e = absurd cc

number-found : (limit end : ℕ) → limit ≤ 2 ^ 32 → (l : List ℕ) (m : ℕ) (rest : List ℕ) → number_of limit end l ≡ Some (m, rest)
    → (m < limit) × (l ≡ decimal m ++ end ∷ rest)
number-found limit end small [] m rest e = absurd cc
number-found limit end small (b ∷ l) m rest e = go (fits limit 0 b) refl e
  where
    go : (t : Bool) → fits limit 0 b ≡ t → cond t (digits limit end (b - 48) l) None ≡ Some (m, rest) → (m < limit) × (b ∷ l ≡ decimal m ++ end ∷ rest)
    go true h e =
        let d = fits-is limit 0 b h in
        let first : decimal (b - 48) ≡ b ∷ [] = decimal_digit (b - 48) (omega (arith, d.low, d.high)) ∙ ap (λ (c : ℕ). c ∷ []) (omega (arith, d.low)) in
        let f = digits-found limit end small l (b - 48) m rest (omega (arith, d.small)) e in
        (f.0, ap (λ (x : List ℕ). x ++ l) (sym first) ∙ f.1)
    go false h e = absurd cc

-- ---- what is spelled
begun-one : (limit end n : ℕ) → n < 10 → n < limit → (t : List ℕ) → number_of limit end ((48 + n) ∷ t) ≡ digits limit end n t
begun-one limit end n lt small t =
    let f = fits-true limit 0 (48 + n) (omega arith) (omega arith) (omega arith) in
    let same : 48 + n - 48 ≡ n = omega arith in
    rw (f, same) refl

begun-more : (limit end n : ℕ) (ds : List ℕ) → end < 48 → 10 ≤ n → (n / 10 < limit → (t : List ℕ) → number_of limit end (ds ++ t) ≡ digits limit end (n / 10) t)
    → n < limit → (t : List ℕ) → number_of limit end ((ds ++ (48 + n % 10) ∷ []) ++ t) ≡ digits limit end n t
begun-more limit end n ds low big h small t =
    let b = 48 + n % 10 in
    let k = n / 10 in
    let whole : 10 * k + (b - 48) ≡ n = omega arith in
    let other : (b == end) ≡ false = grind (arith, nat_tests) in
    let f : fits limit k b ≡ true = fits-true limit k b (omega arith) (omega arith) (omega arith) in
    let some : not (k == 0) ≡ true = zero-not k (omega arith) in
    let step : digits limit end k (b ∷ t) ≡ digits limit end n t = rw (other, f, some, whole) refl in
    ap (number_of limit end) (append_assoc ds (b ∷ []) t) ∙ (h (omega arith) (b ∷ t) ∙ step)

number-only : (limit end : ℕ) → limit ≤ 2 ^ 32 → end < 48 → (m : ℕ) (rest : List ℕ) → m < limit → number_of limit end (decimal m ++ end ∷ rest) ≡ Some (m, rest)
number-only limit end small low m rest lt =
    let begun = decimal_by_steps (λ n ds. n < limit → (t : List ℕ) → number_of limit end (ds ++ t) ≡ digits limit end n t)
    (λ n few h t. begun-one limit end n few h t)
    (λ n ds big h lt t. begun-more limit end n ds low big h lt t)
    m (omega arith) in
    let last : digits limit end m (end ∷ rest) ≡ Some (m, rest) = rw (eq-eqb end end refl) refl in
    begun lt (end ∷ rest) ∙ last

found_or_ok : (l : List ℕ) (o : Option (ℕ × List ℕ)) (a : ℕ) (rest : List ℕ) → found_or l o ≡ Ok (a, rest) → o ≡ Some (a, rest)
found_or_ok l None a rest e = absurd cc
found_or_ok l (Some x) a rest e = let p = ok_pair x.0 a x.1 rest e in ap (λ (n : ℕ). some_of (n, x.1)) p.0 ∙ ap (λ (r : List ℕ). some_of (a, r)) p.1

pub number_sound : (limit end : ℕ) → limit ≤ 2 ^ 32 → end < 48 → Sound (number limit end)
unfolding number
number_sound limit end small low = record {
  found = λ l a rest e.
      let f = number-found limit end small l a rest (found_or_ok l (number_of limit end l) a rest e) in
      (f.0, f.1 ∙ sym (append_assoc (decimal a) (end ∷ []) rest));
  only = λ a rest h.
      ap (λ (t : List ℕ). found_or t (number_of limit end t)) (append_assoc (decimal a) (end ∷ []) rest)
      ∙ ap (λ (o : Option (ℕ × List ℕ)). found_or (decimal a ++ end ∷ rest) o) (number-only limit end small low a rest h);
}

one_back : (n : ℕ) → n < 2 → one_if (n == 1) ≡ n
one_back zero h = refl
one_back (suc zero) h = refl
one_back (suc (suc n)) h = absurd (omega arith)

one_bit : (b : Bool) → (one_if b == 1) ≡ b
one_bit true = refl
one_bit false = refl

one_small : (b : Bool) → one_if b < 2
one_small true = omega arith
one_small false = omega arith

lawful-small : (end n : ℕ) → (number 2 end).Lawful n → n < 2
unfolding number
lawful-small end n h = h

small-lawful : (end : ℕ) (b : Bool) → (number 2 end).Lawful (one_if b)
unfolding number
small-lawful end b = one_small b

pub flag_sound : (end : ℕ) → end < 48 → Sound (flag end)
unfolding flag
flag_sound end low =
    let s = number_sound 2 end (omega arith) low in
    record {
      found = λ l b rest e.
          let x = bind_ok ((number 2 end).read l) (λ x. Ok (x.0 == 1, x.1)) (b, rest) e in
          let h = ok_pair (x.0.0 == 1) b x.0.1 rest x.2 in
          let f = s.found l x.0.0 x.0.1 x.1 in
          let small : x.0.0 < 2 = lawful-small end x.0.0 f.0 in
          let same : x.0.0 ≡ one_if b = sym (one_back x.0.0 small) ∙ ap one_if h.0 in
          (tt, f.1 ∙ (ap (λ (n : ℕ). (number 2 end).spell n ++ x.0.1) same ∙ ap (λ (r : List ℕ). (number 2 end).spell (one_if b) ++ r) h.1));
      only = λ b rest h.
          let one = s.only (one_if b) rest (small-lawful end b) in
          rw (one, one_bit b) refl;
    }
