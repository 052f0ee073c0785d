-- The two passes give the formula: the least of all r h + 2 |g - h|.
use Rattle.std.proofs.Common.{◌≡◌, ℕ, suc, zero, ◌+◌, ◌*◌, ◌<◌, ◌≤◌, ◌-◌, List, length, slice_index, sym, ⊎_elim, arith, subst}
use Rattle.std.proofs.Common.{map}
use Rattle.std.proofs.lemmas.Bool.{cases_eq, cases_lt}
use Rattle.std.proofs.lemmas.List.FromFn.{get_or-map-range_with_len, length-map-range_with_len}
use Rattle.std.specs.List.{range_with_len}
use Rattle.ac_expo.specs.Least.{distance, least, spread}

-- ---- the least of f 0 to f n
pub least_le : (n : ℕ) (f : ℕ → ℕ) (h : ℕ) → h ≤ n → least n f ≤ f h
unfolding least
least_le zero f h l = let e : h ≡ 0 = omega arith in subst (λ x. f 0 ≤ f x) (sym e) (omega arith)
least_le (suc n) f h l =
    ⊎_elim (λ (e : h ≡ suc n). subst (λ x. least (suc n) f ≤ f x) (sym e) (omega arith)) (λ ne. omega (arith, least_le n f h (omega arith))) (cases_eq h (suc n))

pub least_ge : (n : ℕ) (f : ℕ → ℕ) (x : ℕ) → ((h : ℕ) → h ≤ n → x ≤ f h) → x ≤ least n f
unfolding least
least_ge zero f x each = each 0 (omega arith)
least_ge (suc n) f x each = omega (arith, each (suc n) (omega arith), least_ge n f x (λ h l. each h (omega arith)))

pub least_same : (n : ℕ) (f g : ℕ → ℕ) → ((h : ℕ) → h ≤ n → f h ≡ g h) → least n f ≡ least n g
unfolding least
least_same zero f g same = same 0 (omega arith)
least_same (suc n) f g same = omega (arith, same (suc n) (omega arith), least_same n f g (λ h l. same h (omega arith)))

least_near : (n : ℕ) (f g : ℕ → ℕ) → ((h : ℕ) → f h ≤ g h + 2) → least n f ≤ least n g + 2
unfolding least
least_near zero f g near = near 0
least_near (suc n) f g near = omega (arith, near (suc n), least_near n f g near)

-- ---- the formula
pub near_up : (last : ℕ) (r : ℕ → ℕ) (g : ℕ) → spread last r (g + 1) ≤ spread last r g + 2
near_up last r g = least_near last _ _ (λ h. let d : distance (g + 1) h ≤ distance g h + 1 = omega arith in omega arith)

pub near_down : (last : ℕ) (r : ℕ → ℕ) (g : ℕ) → spread last r g ≤ spread last r (g + 1) + 2
near_down last r g = least_near last _ _ (λ h. let d : distance g h ≤ distance (g + 1) h + 1 = omega arith in omega arith)

pub spread_within : (last : ℕ) (r : ℕ → ℕ) (g : ℕ) → g ≤ last → spread last r g ≤ r g
spread_within last r g l = let d : distance g g ≡ 0 = omega arith in omega (arith, least_le last (λ h. r h + 2 * distance g h) g l)

-- ---- lists whose neighbours are within 2
pub record IsSmooth (s : List ℕ) : Type 0 where
  pub up : (k : ℕ) → k + 1 < length s → slice_index s (k + 1) ≤ slice_index s k + 2
  pub down : (k : ℕ) → k + 1 < length s → slice_index s k ≤ slice_index s (k + 1) + 2

climb : (t : List ℕ) (k n : ℕ) → IsSmooth t → k + n < length t → slice_index t (k + n) ≤ slice_index t k + 2 * n
climb t k zero s h = let e : k + 0 ≡ k = omega arith in subst (λ x. slice_index t x ≤ slice_index t k + 2 * 0) (sym e) (omega arith)
climb t k (suc n) s h =
    let e : k + suc n ≡ k + n + 1 = omega arith in
    subst (λ x. slice_index t x ≤ slice_index t k + 2 * suc n) (sym e) (omega (arith, s.up (k + n) (omega arith), climb t k n s (omega arith)))

fall : (t : List ℕ) (k n : ℕ) → IsSmooth t → k + n < length t → slice_index t k ≤ slice_index t (k + n) + 2 * n
fall t k zero s h = let e : k + 0 ≡ k = omega arith in subst (λ x. slice_index t k ≤ slice_index t x + 2 * 0) (sym e) (omega arith)
fall t k (suc n) s h =
    let e : k + suc n ≡ k + n + 1 = omega arith in
    subst (λ x. slice_index t k ≤ slice_index t x + 2 * suc n) (sym e) (omega (arith, s.down (k + n) (omega arith), fall t k n s (omega arith)))

apart : (t : List ℕ) (g h : ℕ) → IsSmooth t → g < length t → h < length t → slice_index t g ≤ slice_index t h + 2 * distance g h
apart t g h s a b =
    ⊎_elim (λ (l : g < h). let e : g + (h - g) ≡ h = omega arith in let f : slice_index t g ≤ slice_index t h + 2 * (h - g) = subst (λ x. slice_index t g ≤ slice_index t x + 2 * (h - g)) e (fall t g (h - g) s (omega arith)) in omega arith) (λ (l : h ≤ g). let e : h + (g - h) ≡ g = omega arith in let f : slice_index t g ≤ slice_index t h + 2 * (g - h) = subst (λ x. slice_index t x ≤ slice_index t h + 2 * (g - h)) e (climb t h (g - h) s (omega arith)) in omega arith) (cases_lt g h)

pub record IsWithin (r s : List ℕ) : Type 0 where
  pub long : length s ≡ length r
  pub below : (k : ℕ) → k < length r → slice_index s k ≤ slice_index r k

-- ---- the two passes over r, which end at the formula: no smooth list within r is above them
pub record Upward (r s : List ℕ) (i : ℕ) : Type 0 where
  pub within : IsWithin r s
  pub up : (k : ℕ) → k + 1 < i → k + 1 < length s → slice_index s (k + 1) ≤ slice_index s k + 2
  pub most : (t : List ℕ) (k : ℕ) → IsSmooth t → IsWithin r t → k < length r → slice_index t k ≤ slice_index s k
  pub small : (k : ℕ) → slice_index s k ≤ 24

pub record Downward (r s : List ℕ) (i : ℕ) : Type 0 where
  pub within : IsWithin r s
  pub up : (k : ℕ) → k + 1 < length s → slice_index s (k + 1) ≤ slice_index s k + 2
  pub down : (k : ℕ) → i ≤ k + 1 → k + 1 < length s → slice_index s k ≤ slice_index s (k + 1) + 2
  pub most : (t : List ℕ) (k : ℕ) → IsSmooth t → IsWithin r t → k < length r → slice_index t k ≤ slice_index s k
  pub small : (k : ℕ) → slice_index s k ≤ 24

spread_list : List ℕ → List ℕ
spread_list r = map (spread (length r - 1) (slice_index r)) (range_with_len 0 (length r))

at_spread : (r : List ℕ) (k : ℕ) → k < length r → slice_index (spread_list r) k ≡ spread (length r - 1) (slice_index r) k
unfolding spread_list
at_spread r k h = get_or-map-range_with_len (spread (length r - 1) (slice_index r)) 0 (length r) k k 0 h (omega arith)

long_spread : (r : List ℕ) → length (spread_list r) ≡ length r
unfolding spread_list
long_spread r = length-map-range_with_len (spread (length r - 1) (slice_index r)) 0 (length r)

smooth_spread : (r : List ℕ) → IsSmooth (spread_list r)
smooth_spread r =
    let long = long_spread r in
    record {
      up = λ k h. omega (arith, at_spread r (k + 1) (omega arith), at_spread r k (omega arith), near_up (length r - 1) (slice_index r) k);
      down = λ k h. omega (arith, at_spread r (k + 1) (omega arith), at_spread r k (omega arith), near_down (length r - 1) (slice_index r) k);
    }

within_spread : (r : List ℕ) → IsWithin r (spread_list r)
within_spread r = record { long = long_spread r; below = λ k h. omega (arith, at_spread r k h, spread_within (length r - 1) (slice_index r) k (omega arith)) }

pub downward-spread : (r s : List ℕ) (i : ℕ) → i ≤ 1 → Downward r s i → (k : ℕ) → k < length r → slice_index s k ≡ spread (length r - 1) (slice_index r) k
downward-spread r s i one d k l =
    let long : length s ≡ length r = d.within.long in
    let smooth : IsSmooth s = record { up = d.up; down = λ j m. d.down j (omega arith) m } in
    let above : slice_index (spread_list r) k ≤ slice_index s k = d.most (spread_list r) k (smooth_spread r) (within_spread r) l in
    let e = at_spread r k l in
    let below = least_ge (length r - 1) (λ h. slice_index r h + 2 * distance k h) (slice_index s k) (λ h m. let w = d.within.below h (omega arith) in let a = apart s k h smooth (omega arith) (omega arith) in omega arith) in
    omega arith
