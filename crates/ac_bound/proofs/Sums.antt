-- Sums of the first numbers.
use Rattle.std.proofs.Common.{◌≡◌, ℕ, zero, suc, ◌+◌, ◌-◌, ◌<◌, ◌≤◌, Bool, true, false, ap, ◌∙◌, arith}
use Rattle.std.specs.Prelude.{if◌then◌else◌}
use Rattle.ac_base.specs.Sigma.{sum_below}
use Rattle.ac_base.proofs.ByRuns.{sum_more, sum_none}

pub sum_rises : (n : ℕ) (f g : ℕ → ℕ) → ((k : ℕ) → k < n → f k ≤ g k) → sum_below n f ≤ sum_below n g
sum_rises zero f g h = omega (arith, sum_none f, sum_none g)
sum_rises (suc n) f g h =
    omega (arith, sum_more n f, sum_more n g, sum_rises n f g (λ k l. h k (omega arith)), h n (omega arith))

-- the first ones, one more, and the rest
pub sum_split : (done m : ℕ) (f : ℕ → ℕ) → sum_below (done + 1 + m) f ≡ sum_below done f + f done + sum_below m (λ i. f (done + 1 + i))
sum_split done zero f =
    let e : done + 1 + 0 ≡ suc done = omega arith in
    let x : sum_below (done + 1 + 0) f ≡ sum_below (suc done) f = ap (λ n. sum_below n f) e in
    omega (arith, x, sum_more done f, sum_none (λ i. f (done + 1 + i)))
sum_split done (suc m) f =
    let e : done + 1 + suc m ≡ suc (done + 1 + m) = omega arith in
    let x : sum_below (done + 1 + suc m) f ≡ sum_below (suc (done + 1 + m)) f = ap (λ n. sum_below n f) e in
    omega (arith, x, sum_more (done + 1 + m) f, sum_more m (λ i. f (done + 1 + i)), sum_split done m f)

pub chosen : (b : Bool) (x y u v : ℕ) → x ≤ u → y ≤ v → (if b then x else y) ≤ (if b then u else v)
chosen true x y u v p q = p
chosen false x y u v p q = q

-- ---- sums from one number on
pub none_yet : (f : ℕ → ℕ) (done c : ℕ) → c ≡ done + 1 → sum_below (c - done - 1) f ≡ 0
none_yet f done c e =
    let z : c - done - 1 ≡ 0 = omega arith in ap (λ n. sum_below n f) z ∙ sum_none f

pub one_more : (f : ℕ → ℕ) (done c : ℕ) → done < c → sum_below (c + 1 - done - 1) (λ i. f (done + 1 + i)) ≡ sum_below (c - done - 1) (λ i. f (done + 1 + i)) + f c
one_more f done c l =
    let m = c - done - 1 in
    let e : c + 1 - done - 1 ≡ suc m = omega arith in
    let last : done + 1 + m ≡ c = omega arith in
    let x : sum_below (c + 1 - done - 1) (λ i. f (done + 1 + i)) ≡ sum_below (suc m) (λ i. f (done + 1 + i)) = ap (λ n. sum_below n (λ i. f (done + 1 + i))) e in
    let y : f (done + 1 + m) ≡ f c = ap f last in
    omega (arith, x, sum_more m (λ i. f (done + 1 + i)), y)
