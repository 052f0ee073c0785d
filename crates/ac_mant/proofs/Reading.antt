-- A number that was taken.
use Rattle.std.proofs.Common.{◌≡◌, ◌⊎◌, ℕ, ◌+◌, ◌^◌, ◌<◌, ◌≤◌, Bool, true, false, List, [], ◌∷◌, ◌++◌, append_assoc, append-nil, length, take, drop, Result, Ok, Err, arith, refl, inl, inr, ap, sym, subst, ◌∙◌}
use Rattle.std.specs.Prelude.{nat_lt, nat_le}
use Rattle.std.proofs.lemmas.Bool.{cases_lt}
use Rattle.std.proofs.lemmas.Bool.Decides.{nat_tests}
use Rattle.std.proofs.lemmas.List.{length-append, length-take-le, take-append-drop}
use Rattle.std.proofs.Math.Seq.{take-append_seam, drop-append_seam}
use Rattle.ac_bits.specs.Bits.{bits, num}
use Rattle.ac_bits.proofs.Laws.{length-bits, num-bits, bits-num, bits-zero, num_below}
use Rattle.ac_mant.specs.Quantiser.{levels}
use Rattle.ac_mant.specs.declared.ahead.Ahead.{Ahead}
use Rattle.ac_mant.specs.declared.coded.MantFault.{MantFault}
use Rattle.ac_mant.specs.declared.coded.MantFault.TheVariants.{OutOfBits, BadGroup}
use Rattle.ac_mant.specs.declared.held.Held.{Held}
use Rattle.ac_mant.specs.Groups.{number_width, number_limit}
use Rattle.ac_mant.specs.Unpacking.{read_number, read_from, with_front, opened, ahead_in}

pub taken_front : (v w : ℕ) (new : List Bool) → take w (bits v w ++ new) ≡ bits v w
taken_front v w new = subst (λ (n : ℕ). take n (bits v w ++ new) ≡ bits v w) (length-bits v w) (take-append_seam (bits v w) new)

pub taken_rest : (v w : ℕ) (new : List Bool) → drop w (bits v w ++ new) ≡ new
taken_rest v w new = subst (λ (n : ℕ). drop n (bits v w ++ new) ≡ new) (length-bits v w) (drop-append_seam (bits v w) new)

pub long_enough : (v w : ℕ) (new : List Bool) → length (bits v w ++ new) ≡ w + length new
long_enough v w new = length-append (bits v w) new ∙ ap (λ n. n + length new) (length-bits v w)

pub read_low : (k w limit v : ℕ) (new : List Bool) → v < 2 ^ w → v < limit → read_number k w limit (bits v w ++ new) ≡ Ok (v, new)
read_low k w limit v new fits low =
    let long = long_enough v w new in
    let enough : nat_lt (length (bits v w ++ new)) w ≡ false = grind (arith, nat_tests, long) in
    let is : num (take w (bits v w ++ new)) ≡ v = ap num (taken_front v w new) ∙ num-bits v w fits in
    let below : nat_le limit v ≡ false = grind (arith, nat_tests) in
    rw enough (rw is (rw below (ap (λ r. Ok (v, r)) (taken_rest v w new))))

pub read_high : (k w limit v : ℕ) (new : List Bool) → v < 2 ^ w → limit ≤ v → read_number k w limit (bits v w ++ new) ≡ Err (BadGroup k)
read_high k w limit v new fits high =
    let long = long_enough v w new in
    let enough : nat_lt (length (bits v w ++ new)) w ≡ false = grind (arith, nat_tests, long) in
    let is : num (take w (bits v w ++ new)) ≡ v = ap num (taken_front v w new) ∙ num-bits v w fits in
    let above : nat_le limit v ≡ true = grind (arith, nat_tests) in
    rw enough (rw is (rw above refl))

pub read_short : (k w limit : ℕ) (l : List Bool) → length l < w → read_number k w limit l ≡ Err OutOfBits
read_short k w limit l short =
    let lacks : nat_lt (length l) w ≡ true = grind (arith, nat_tests) in
    rw lacks refl

-- ---- one code after the other

pub fronts_join : (a b : List ℕ) (r : Result (List ℕ × List Bool) MantFault) → with_front a (with_front b r) ≡ with_front (a ++ b) r
fronts_join a b (Ok r) = ap (λ l. Ok (l, r.1)) (sym (append_assoc a b r.0))
fronts_join a b (Err fault) = refl

pub one_read : (front : List ℕ) (h : Held) (k bap v : ℕ) (baps : List ℕ) (l rest : List Bool) → read_number k (number_width (ahead_in h) bap) (number_limit (ahead_in h) bap) l ≡ Ok (v, rest) → with_front front (read_from h k (bap ∷ baps) l) ≡ with_front (front ++ (opened h bap v).0 ∷ []) (read_from (opened h bap v).1 (k + 1) baps rest)
unfolding read_from
one_read front h k bap v baps l rest is = rw is (fronts_join front ((opened h bap v).0 ∷ []) (read_from (opened h bap v).1 (k + 1) baps rest))

pub none_read : (front : List ℕ) (h : Held) (k bap : ℕ) (fault : MantFault) (baps : List ℕ) (l : List Bool) → read_number k (number_width (ahead_in h) bap) (number_limit (ahead_in h) bap) l ≡ Err fault → with_front front (read_from h k (bap ∷ baps) l) ≡ Err fault
unfolding read_from
none_read front h k bap fault baps l is = rw is refl

pub end_read : (front : List ℕ) (h : Held) (k : ℕ) (l : List Bool) → with_front front (read_from h k [] l) ≡ Ok (front, l)
unfolding read_from
end_read front h k l = ap (λ r. Ok (r, l)) (append-nil front)

-- ---- any bits: too few, or a number and what is behind it

pub record Taken (w : ℕ) (l : List Bool) : Type 0 where
  pub v : ℕ
  pub rest : List Bool
  pub fits : v < 2 ^ w
  pub whole : l ≡ bits v w ++ rest

pub cases_take : (w : ℕ) (l : List Bool) → (length l < w) ⊎ Taken w l
cases_take w l =
    elim (cases_lt (length l) w) [
      | inl short ↦ inl short
      | inr enough ↦
          let long : length (take w l) ≡ w = length-take-le w l enough in
          let front : bits (num (take w l)) w ≡ take w l = subst (λ (n : ℕ). bits (num (take w l)) n ≡ take w l) long (bits-num (take w l)) in
          inr (record {
            v = num (take w l);
            rest = drop w l;
            fits = subst (λ (n : ℕ). num (take w l) < 2 ^ n) long (num_below (take w l));
            whole = sym (take-append-drop w l) ∙ ap (λ b. b ++ drop w l) (sym front);
          })
    ]

-- ---- where no number stands

pub none_stands : (k : ℕ) (l : List Bool) → read_number k 0 1 l ≡ Ok (0, l)
none_stands k l = ap (λ (b : List Bool). read_number k 0 1 (b ++ l)) (sym (bits-zero 0)) ∙ read_low k 0 1 0 l (omega arith) (omega arith)

zero_read : (o : Ahead) (k : ℕ) (l : List Bool) → read_number k (number_width o 0) (number_limit o 0) l ≡ Ok (0, l)
unfolding levels
zero_read o k l = none_stands k l

pub zero_stands : (o : Ahead) (bap k : ℕ) (l : List Bool) → bap ≡ 0 → read_number k (number_width o bap) (number_limit o bap) l ≡ Ok (0, l)
zero_stands o bap k l e = ap (λ (b : ℕ). read_number k (number_width o b) (number_limit o b) l) e ∙ zero_read o k l
