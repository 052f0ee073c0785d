-- Sums over bins.
use Rattle.std.proofs.Common.{◌≡◌, ℕ, zero, suc, ◌+◌, ◌*◌, ◌-◌, ◌<◌, ◌≤◌, arith, ap, ap₂, ◌∙◌, refl, sym, add-one, add-zero}
use Rattle.ac_sixths.specs.Runs.{total_from}

pub total_none : (f : ℕ → ℕ) (a : ℕ) → total_from f a 0 ≡ 0
unfolding total_from
total_none f a = refl

pub total_more : (f : ℕ → ℕ) (a n : ℕ) → total_from f a (n + 1) ≡ total_from f a n + f (a + n)
unfolding total_from
total_more f a n = rw add-one refl

pub total_bound : (f : ℕ → ℕ) (m a n : ℕ) → ((k : ℕ) → a ≤ k → k < a + n → f k ≤ m) → total_from f a n ≤ m * n
unfolding total_from
total_bound f m a zero h = omega arith
total_bound f m a (suc n) h = omega (arith, total_bound f m a n (λ k p q. h k p (omega arith)), h (a + n) (omega arith) (omega arith))

pub total_same : (f g : ℕ → ℕ) (a n : ℕ) → ((k : ℕ) → a ≤ k → k < a + n → f k ≡ g k) → total_from f a n ≡ total_from g a n
unfolding total_from
total_same f g a zero h = refl
total_same f g a (suc n) h =
    ap₂ (λ x y. x + y) (total_same f g a n (λ k p q. h k p (omega arith))) (h (a + n) (omega arith) (omega arith))

-- one more bin
pub total_next : (f : ℕ → ℕ) (a k : ℕ) → a ≤ k → total_from f a (k + 1 - a) ≡ total_from f a (k - a) + f k
total_next f a k h =
    let e : k + 1 - a ≡ k - a + 1 = omega arith in
    let g : a + (k - a) ≡ k = omega arith in
    ap (total_from f a) e ∙ total_more f a (k - a) ∙ ap (λ i. total_from f a (k - a) + f i) g

-- one more item from 0 on
pub total_first : (f : ℕ → ℕ) (n : ℕ) → total_from f 0 (n + 1) ≡ total_from f 0 n + f n
total_first f n =
    let g : 0 + n ≡ n = omega arith in
    total_more f 0 n ∙ ap (λ i. total_from f 0 n + f i) g

-- two parts
pub total_parts : (f : ℕ → ℕ) (a m n : ℕ) → total_from f a (m + n) ≡ total_from f a m + total_from f (a + m) n
unfolding total_from
total_parts f a m zero = let e : m + 0 ≡ m = omega arith in ap (total_from f a) e ∙ sym (add-zero (total_from f a m))
total_parts f a m (suc n) =
    let e : m + suc n ≡ suc (m + n) = omega arith in
    let g : a + (m + n) ≡ a + m + n = omega arith in
    let here = total_parts f a m n in
    let same = ap f g in
    ap (total_from f a) e ∙ (let s : total_from f a (m + n) + f (a + (m + n)) ≡ total_from f a m + (total_from f (a + m) n + f (a + m + n)) = omega arith in s)

-- equal items
total_equal : (f : ℕ → ℕ) (a n x : ℕ) → ((k : ℕ) → k < n → f (a + k) ≡ x) → total_from f a n ≡ n * x
unfolding total_from
total_equal f a zero x h = omega arith
total_equal f a (suc n) x h = omega (arith, total_equal f a n x (λ k l. h k (omega arith)), h n (omega arith))

-- the first of each m items, m times
pub total_pieces : (f g : ℕ → ℕ) (a m n : ℕ) → ((i k : ℕ) → i < n → k < m → f (a + i * m + k) ≡ g i) → m * total_from g 0 n ≡ total_from f a (n * m)
unfolding total_from
total_pieces f g a m zero h = let e : 0 * m ≡ 0 = omega arith in let z = ap (total_from f a) e in omega (arith, z)
total_pieces f g a m (suc n) h =
    let before = total_pieces f g a m n (λ i k l q. h i k (omega arith) q) in
    let last = total_equal f (a + n * m) m (g n) (λ k l. h n k (omega arith) l) in
    let parts = total_parts f a (n * m) m in
    let e : suc n * m ≡ n * m + m = omega arith in
    let z : 0 + n ≡ n = omega arith in
    let first = total_first g n in
    let here : m * total_from g 0 (n + 1) ≡ m * total_from g 0 n + m * g n = ap (λ v. m * v) first ∙ (let d : m * (total_from g 0 n + g n) ≡ m * total_from g 0 n + m * g n = omega arith in d) in
    let s : suc n ≡ n + 1 = omega arith in
    ap (λ v. m * total_from g 0 v) s ∙ here ∙ (let t : m * total_from g 0 n + m * g n ≡ total_from f a (n * m) + total_from f (a + n * m) m = omega (arith, before, last) in t) ∙ sym parts ∙ sym (ap (total_from f a) e)

-- two parts, by their ends
pub total_joined : (f : ℕ → ℕ) (s a b : ℕ) → s ≤ a → a ≤ b → total_from f s (a - s) + total_from f a (b - a) ≡ total_from f s (b - s)
total_joined f s a b l m =
    let e : a - s + (b - a) ≡ b - s = omega arith in
    let g : s + (a - s) ≡ a = omega arith in
    let parts = total_parts f s (a - s) (b - a) in
    let at = ap (λ v. total_from f v (b - a)) g in
    let all = ap (total_from f s) e in
    omega (arith, parts, at, all)

-- items that are equal, each at its place
pub total_shifted : (f g : ℕ → ℕ) (a b n : ℕ) → ((i : ℕ) → i < n → f (a + i) ≡ g (b + i)) → total_from f a n ≡ total_from g b n
unfolding total_from
total_shifted f g a b zero h = refl
total_shifted f g a b (suc n) h =
    ap₂ (λ x y. x + y) (total_shifted f g a b n (λ i l. h i (omega arith))) (h n (omega arith))

-- sums of two
pub total_twos : (f g : ℕ → ℕ) (a n : ℕ) → ((i : ℕ) → i < n → g i ≡ f (a + i * 2) + f (a + i * 2 + 1)) → total_from g 0 n ≡ total_from f a (n * 2)
unfolding total_from
total_twos f g a zero h = let e : 0 * 2 ≡ 0 = omega arith in let z = ap (total_from f a) e in omega (arith, z)
total_twos f g a (suc n) h =
    let before = total_twos f g a n (λ i l. h i (omega arith)) in
    let e : suc n * 2 ≡ n * 2 + 1 + 1 = omega arith in
    let last = total_more f a (n * 2 + 1) in
    let first = total_more f a (n * 2) in
    let p : a + (n * 2 + 1) ≡ a + n * 2 + 1 = omega arith in
    let z : 0 + n ≡ n = omega arith in
    omega (arith, before, ap (total_from f a) e, last, first, ap f p, ap g z, h n (omega arith))
