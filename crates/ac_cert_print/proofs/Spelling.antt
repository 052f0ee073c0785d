-- The text of a list of pieces, piece by piece.
use Rattle.std.proofs.Common.{◌≡◌, ℕ, zero, suc, ◌+◌, ◌<◌, ◌≤◌, Bool, true, false, List, [], ◌∷◌, ◌++◌, length, take, get_or, refl, ap, sym, subst, ◌∙◌, arith, append_assoc, append-nil}
use Rattle.std.proofs.lemmas.List.{take_more, take_all, length-take-le}
use Rattle.std.specs.Prelude.{nat_lt}
use Rattle.std.proofs.lemmas.Bool.{lt-ltb, ltb-true}
use Rattle.std.proofs.lemmas.Fmt.{decimal_digit}
use Rattle.ac_cert_text.specs.Codec.{Codec, each, cons, absent, slot, number, flag}
use Rattle.ac_cert_print.specs.Pages.{Page, Wrote}
use Rattle.ac_cert_print.proofs.Writing.{then, nothing}

none-spelled : {A : Type 0} (n i : ℕ) (c : ℕ → Codec A) → (each n i c).spell [] ≡ []
unfolding each cons absent
none-spelled zero i c = refl
none-spelled (suc n) i c = refl

one-more : {A : Type 0} (n i k : ℕ) (c : ℕ → Codec A) (xs : List A) (x : A) → length xs < n → k ≡ i + length xs → (each n i c).spell (xs ++ x ∷ []) ≡ (each n i c).spell xs ++ (c k).spell x
unfolding each cons absent
one-more zero i k c xs x h e = absurd (omega arith)
one-more {A} (suc n) i k c [] x h e =
    let same : k ≡ i = omega arith in
    rw same (ap (λ (l : List ℕ). (c i).spell x ++ l) (none-spelled n (suc i) c) ∙ append-nil ((c i).spell x))
one-more (suc n) i k c (y ∷ xs) x h e =
    ap (λ (l : List ℕ). (c i).spell y ++ l) (one-more n (suc i) k c xs x (omega arith) (omega arith))
    ∙ sym (append_assoc ((c i).spell y) ((each n (suc i) c).spell xs) ((c k).spell x))

-- before the first piece
pub at_first : {A : Type 0} (n : ℕ) (c : ℕ → Codec A) (xs : List A) (a : Page) → Wrote ((each n 0 c).spell (take 0 xs)) a a
at_first n c xs a = subst (λ (l : List ℕ). Wrote l a a) (sym (none-spelled n 0 c)) (nothing a)

-- a piece more
pub one_piece : {A : Type 0} (n k j : ℕ) (c : ℕ → Codec A) (xs : List A) (d : A) {a b e : Page} → length xs ≡ n → k < n → j ≡ k → Wrote ((each n 0 c).spell (take k xs)) a b
    → Wrote ((c k).spell (get_or xs j d)) b e → Wrote ((each n 0 c).spell (take (k + 1) xs)) a e
one_piece n k j c xs d {a} {b} {e} long lt same x y =
    let piece : Wrote ((c k).spell (get_or xs k d)) b e = subst (λ (i : ℕ). Wrote ((c k).spell (get_or xs i d)) b e) same y in
    let room : k < length xs = omega arith in
    let short : length (take k xs) ≡ k = length-take-le k xs (omega arith) in
    let spelled : (each n 0 c).spell (take k xs) ++ (c k).spell (get_or xs k d) ≡ (each n 0 c).spell (take (k + 1) xs) =
    sym (ap (each n 0 c).spell (take_more xs k d room) ∙ one-more n 0 k c (take k xs) (get_or xs k d) (omega arith) (omega arith)) in
    subst (λ (l : List ℕ). Wrote l a e) spelled (then x piece)

-- all pieces
pub at_last : {A : Type 0} (n k : ℕ) (c : ℕ → Codec A) (xs : List A) {a b : Page} → length xs ≡ n → n ≤ k → Wrote ((each n 0 c).spell (take k xs)) a b → Wrote ((each n 0 c).spell xs) a b
at_last {A} n k c xs {a} {b} long le x = subst (λ (l : List A). Wrote ((each n 0 c).spell l) a b) (take_all k xs (omega arith)) x

-- ---- a piece that is there or not
pub same : {p q : List ℕ} {a b : Page} → p ≡ q → Wrote q a b → Wrote p a b
same {p} {q} {a} {b} e x = subst (λ (l : List ℕ). Wrote l a b) (sym e) x

pub there : {A : Type 0} (t : Bool) (other : A) (c : Codec A) (x : A) → t ≡ true → (slot t other c).spell x ≡ c.spell x
unfolding slot
there true other c x e = refl
there false other c x e = absurd (cc)

pub not-there : {A : Type 0} (t : Bool) (other : A) (c : Codec A) (x : A) → t ≡ false → (slot t other c).spell x ≡ []
unfolding slot
not-there true other c x e = absurd (cc)
not-there false other c x e = refl

pub below : (c n m : ℕ) → c < n → n ≡ m → nat_lt c m ≡ true
below c n m lt e = lt-ltb c m (omega arith)

pub not-below : (c n m : ℕ) → n ≤ c → n ≡ m → nat_lt c m ≡ false
not-below c n m le e = go (nat_lt c m) refl
  where
    go : (t : Bool) → nat_lt c m ≡ t → nat_lt c m ≡ false
    go true h = let lt : c < m = ltb-true c m h in absurd (omega arith)
    go false h = h

pub flag-true : (flag 32).spell true ≡ 49 ∷ 32 ∷ []
unfolding flag number
flag-true = ap (λ (l : List ℕ). l ++ 32 ∷ []) (decimal_digit 1 (omega arith))

pub flag-false : (flag 32).spell false ≡ 48 ∷ 32 ∷ []
unfolding flag number
flag-false = ap (λ (l : List ℕ). l ++ 32 ∷ []) (decimal_digit 0 (omega arith))
