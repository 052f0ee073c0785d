-- A leak as the greatest over bands, and as it runs.
use Rattle.std.proofs.Common.{◌≡◌, ℕ, zero, suc, ◌+◌, ◌*◌, ◌-◌, ◌<◌, ◌≤◌, ℤ, pos, ◌-ℤ◌, refl, sym, ap, ◌∙◌, arith, subst}
use Rattle.std.proofs.lemmas.Int.{ints, clamps}
use Rattle.std.proofs.lemmas.Bool.Decides.{nat_tests}
use Rattle.std.specs.Int.{int_max}
use Rattle.ac_alloc.specs.Excitation.{greatest, leak, leak_from, first_rise}

max_shift : (x y d : ℤ) → int_max (x -ℤ d) (y -ℤ d) ≡ int_max x y -ℤ d
max_shift x y d = omega (arith, ints, clamps)

max_assoc : (x y z : ℤ) → int_max (int_max x y) z ≡ int_max x (int_max y z)
max_assoc x y z = omega (arith, ints, clamps)

greatest_shift : (f h : ℕ → ℤ) (d : ℤ) (a n : ℕ) → ((j : ℕ) → j ≤ a + n → h j ≡ f j -ℤ d) → greatest h a n ≡ greatest f a n -ℤ d
greatest_shift f h d a zero e = e a (omega arith)
greatest_shift f h d a (suc n) e =
    let rest = greatest_shift f h d a n (λ j l. e j (omega arith)) in
    let here = e (a + suc n) (omega arith) in
    rw (rest, here) (max_shift (greatest f a n) (f (a + suc n)) d)

-- the first of them taken apart
greatest_first : (f : ℕ → ℤ) (a n : ℕ) → greatest f a (suc n) ≡ int_max (f a) (greatest f (a + 1) n)
greatest_first f a zero = refl
greatest_first f a (suc n) =
    let e : a + suc (suc n) ≡ a + 1 + suc n = omega arith in
    ap (λ x. int_max x (f (a + suc (suc n)))) (greatest_first f a n) ∙ ap (λ x. int_max (int_max (f a) (greatest f (a + 1) n)) (f x)) e ∙ max_assoc (f a) (greatest f (a + 1) n) (f (a + 1 + suc n))

since_more : (decay n m : ℕ) → m ≡ n + 1 → decay * m ≡ decay * n + decay
since_more decay n m e = omega (arith, ap (λ x. decay * x) e)

since_none : (decay n : ℕ) → n ≡ 0 → decay * n ≡ 0
since_none decay n e = omega (arith, ap (λ x. decay * x) e)

minus_none : (x : ℤ) (n : ℕ) → n ≡ 0 → x -ℤ pos n ≡ x
minus_none x n e = omega (arith, ints)

minus_more : (x : ℤ) (n m d : ℕ) → m ≡ n + d → x -ℤ pos m ≡ x -ℤ pos n -ℤ pos d
minus_more x n m d e = omega (arith, ints)

pub leak_here : (P : ℕ → ℕ) (gain decay a : ℕ) → leak P gain decay a a ≡ pos (P a) -ℤ pos gain
leak_here P gain decay a =
    let e : a - a ≡ 0 = omega arith in
    ap (greatest (λ j. pos (P j) -ℤ pos gain -ℤ pos (decay * (a - j))) a) e ∙ minus_none (pos (P a) -ℤ pos gain) (decay * (a - a)) (since_none decay (a - a) e)

-- a running leak falls by the decay or is lifted by the band
pub leak_next : (P : ℕ → ℕ) (gain decay a b : ℕ) → a ≤ b → leak P gain decay a (b + 1) ≡ int_max (leak P gain decay a b -ℤ pos decay) (pos (P (b + 1)) -ℤ pos gain)
leak_next P gain decay a b l =
    let f = λ (j : ℕ). pos (P j) -ℤ pos gain -ℤ pos (decay * (b - j)) in
    let h = λ (j : ℕ). pos (P j) -ℤ pos gain -ℤ pos (decay * (b + 1 - j)) in
    let n : b + 1 - a ≡ suc (b - a) = omega arith in
    let last : a + suc (b - a) ≡ b + 1 = omega arith in
    let all = greatest_shift f h (pos decay) a (b - a) (λ j m. minus_more (pos (P j) -ℤ pos gain) (decay * (b - j)) (decay * (b + 1 - j)) decay (since_more decay (b - j) (b + 1 - j) (omega arith))) in
    let here = minus_none (pos (P (b + 1)) -ℤ pos gain) (decay * (b + 1 - (b + 1))) (since_none decay (b + 1 - (b + 1)) (omega arith)) in
    ap (greatest h a) n ∙ ap (λ x. int_max x (h (a + suc (b - a)))) all ∙ ap (λ x. int_max (greatest f a (b - a) -ℤ pos decay) (h x)) last ∙ ap (λ x. int_max (greatest f a (b - a) -ℤ pos decay) x) here

-- a leak from a value of its own runs likewise
pub leak_from_first : (start : ℤ) (P : ℕ → ℕ) (gain decay f : ℕ) → leak_from start P gain decay f f ≡ int_max (start -ℤ pos decay) (pos (P f) -ℤ pos gain)
leak_from_first start P gain decay f =
    let one : f - f + 1 ≡ 1 = omega arith in
    let d : decay * (f - f + 1) ≡ decay = omega (arith, ap (λ x. decay * x) one) in
    ap (λ x. int_max (start -ℤ pos x) (leak P gain decay f f)) d ∙ ap (int_max (start -ℤ pos decay)) (leak_here P gain decay f)

four : (x l y d : ℤ) → int_max (x -ℤ d) (int_max (l -ℤ d) y) ≡ int_max (int_max x l -ℤ d) y
four x l y d = omega (arith, ints, clamps)

pub leak_from_next : (start : ℤ) (P : ℕ → ℕ) (gain decay f b : ℕ) → f ≤ b → leak_from start P gain decay f (b + 1) ≡ int_max (leak_from start P gain decay f b -ℤ pos decay) (pos (P (b + 1)) -ℤ pos gain)
leak_from_next start P gain decay f b l =
    let m = minus_more start (decay * (b - f + 1)) (decay * (b + 1 - f + 1)) decay (since_more decay (b - f + 1) (b + 1 - f + 1) (omega arith)) in
    ap (λ x. int_max x (leak P gain decay f (b + 1))) m ∙ ap (int_max (start -ℤ pos (decay * (b - f + 1)) -ℤ pos decay)) (leak_next P gain decay f b l) ∙ four (start -ℤ pos (decay * (b - f + 1))) (leak P gain decay f b) (pos (P (b + 1)) -ℤ pos gain) (pos decay)

-- a leak that begins at z - 1 is, from z on, one from the value that it has there
pub leak_rest : (P : ℕ → ℕ) (gain decay z b : ℕ) → 0 < z → z ≤ b → leak P gain decay (z - 1) b ≡ leak_from (pos (P (z - 1)) -ℤ pos gain) P gain decay z b
leak_rest P gain decay z b s l =
    let f = λ (j : ℕ). pos (P j) -ℤ pos gain -ℤ pos (decay * (b - j)) in
    let n : b - (z - 1) ≡ suc (b - z) = omega arith in
    let e : z - 1 + 1 ≡ z = omega arith in
    let d : b - (z - 1) ≡ b - z + 1 = omega arith in
    ap (greatest f (z - 1)) n ∙ greatest_first f (z - 1) (b - z) ∙ ap (λ x. int_max (f (z - 1)) (greatest f x (b - z))) e ∙ ap (λ x. int_max (pos (P (z - 1)) -ℤ pos gain -ℤ pos (decay * x)) (greatest f z (b - z))) d

-- the running leak before n bands more than f
abbrev pub so_far : ℤ → (ℕ → ℕ) → ℕ → ℕ → ℕ → ℕ → ℤ
so_far start P gain decay f zero = start
so_far start P gain decay f (suc n) = leak_from start P gain decay f (f + n)

so_far_step : (start : ℤ) (P : ℕ → ℕ) (gain decay f n : ℕ) → int_max (so_far start P gain decay f n -ℤ pos decay) (pos (P (f + n)) -ℤ pos gain) ≡ leak_from start P gain decay f (f + n)
so_far_step start P gain decay f zero =
    let e : f ≡ f + 0 = omega arith in
    subst (λ x. int_max (start -ℤ pos decay) (pos (P x) -ℤ pos gain) ≡ leak_from start P gain decay f x) e (sym (leak_from_first start P gain decay f))
so_far_step start P gain decay f (suc n) =
    let e : f + n + 1 ≡ f + suc n = omega arith in
    subst (λ x. int_max (leak_from start P gain decay f (f + n) -ℤ pos decay) (pos (P x) -ℤ pos gain) ≡ leak_from start P gain decay f x) e (sym (leak_from_next start P gain decay f (f + n) (omega arith)))

pub so_far_next : (start : ℤ) (P : ℕ → ℕ) (gain decay f b : ℕ) (x y : ℤ) → f ≤ b → x ≡ so_far start P gain decay f (b - f) → y ≡ int_max (x -ℤ pos decay) (pos (P b) -ℤ pos gain) → y ≡ leak_from start P gain decay f b
so_far_next start P gain decay f b x y l ex ey =
    let e : f + (b - f) ≡ b = omega arith in
    ey ∙ ap (λ v. int_max (v -ℤ pos decay) (pos (P b) -ℤ pos gain)) ex ∙ subst (λ k. int_max (so_far start P gain decay f (b - f) -ℤ pos decay) (pos (P k) -ℤ pos gain) ≡ leak_from start P gain decay f k) e (so_far_step start P gain decay f (b - f))

pub so_far_none : (start : ℤ) (P : ℕ → ℕ) (gain decay f : ℕ) → start ≡ so_far start P gain decay f (f - f)
so_far_none start P gain decay f = let e : f - f ≡ 0 = omega arith in ap (so_far start P gain decay f) (sym e)

pub so_far_more : (start : ℤ) (P : ℕ → ℕ) (gain decay f b : ℕ) (y : ℤ) → f ≤ b → y ≡ leak_from start P gain decay f b → y ≡ so_far start P gain decay f (b + 1 - f)
so_far_more start P gain decay f b y l e =
    let n : suc (b - f) ≡ b + 1 - f = omega arith in
    let k : b ≡ f + (b - f) = omega arith in
    e ∙ ap (leak_from start P gain decay f) k ∙ ap (so_far start P gain decay f) n

-- ---- where the leaks begin
pub first_rise_next : (P : ℕ → ℕ) (b n m : ℕ) → n ≡ suc m → P (b + 1) < P b → first_rise P b n ≡ first_rise P (b + 1) m
first_rise_next P b n m e l = rw e (grind (arith, nat_tests))

pub first_rise_here : (P : ℕ → ℕ) (b n m : ℕ) → n ≡ suc m → P b ≤ P (b + 1) → first_rise P b n ≡ b + 1
first_rise_here P b n m e l = rw e (grind (arith, nat_tests))
