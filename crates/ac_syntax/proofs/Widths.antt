-- How many bits rows have.
use Rattle.std.proofs.Common.{◌≡◌, ℕ, zero, suc, ◌+◌, ◌-◌, ◌*◌, ◌<◌, ◌≤◌, ◌&&◌, Bool, true, false, List, [], ◌∷◌, ◌++◌, length, nat_lt}
use Rattle.std.proofs.Common.{nat_le, Option, Some, None, refl, ap, ap₂, sym, ◌∙◌, arith, length-append, inl, inr}
use Rattle.std.specs.Prelude.{is_some}
use Rattle.std.proofs.Math.Nat.{suc-mul, mul-one, mul-add, mul_assoc}
use Rattle.std.proofs.lemmas.Bool.{cases_lt, lt-ltb, le-ltb, le-leb}
use Rattle.ac_bits.specs.Bits.{bits}
use Rattle.ac_bits.proofs.Laws.{length-bits}
use Rattle.ac_base.specs.SideBits.{when}
use Rattle.ac_codec.specs.Codec.{Codec, slot_spell, some_spell, each, cons, absent}

pub number_width : (there : Bool) (w : ℕ) (o : Option ℕ) → is_some o ≡ there → length (some_spell (λ v. bits v w) o) ≡ when there w
number_width there w None e = rw (sym e) refl
number_width there w (Some v) e = length-bits v w ∙ (rw (sym e) refl)

pub bit_width : (there : Bool) (o : Option Bool) → is_some o ≡ there → length (some_spell (λ b. b ∷ []) o) ≡ when there 1
bit_width there None e = rw (sym e) refl
bit_width there (Some v) e = rw (sym e) refl

pub slot_width : (there : Bool) (w v : ℕ) → length (slot_spell there (λ v. bits v w) v) ≡ when there w
slot_width true w v = length-bits v w
slot_width false w v = refl

pub slot_bit_width : (there b : Bool) → length (slot_spell there (λ b. b ∷ []) b) ≡ when there 1
slot_bit_width true b = refl
slot_bit_width false b = refl

-- the widths of n rows from number i on
unfoldable pub total : ℕ → ℕ → (ℕ → ℕ) → ℕ
total zero i f = 0
total (suc n) i f = f i + total n (suc i) f

pub each_width : {A : Type 0} (n i : ℕ) (c : ℕ → Codec A) (width : ℕ → ℕ) (xs : List A)
    → ((k : ℕ) (x : A) → i ≤ k → k < i + n → (c k).Lawful x → length ((c k).spell x) ≡ width k) → (each n i c).Lawful xs
    → length ((each n i c).spell xs) ≡ total n i width
unfolding each cons absent total
each_width zero i c width xs h l = refl
each_width (suc n) i c width [] h l = absurd l
each_width (suc n) i c width (x ∷ xs) h l =
    let r = each_width n (suc i) c width xs (λ k y le lt. h k y (omega arith) (omega arith)) l.1 in
    length-append ((c i).spell x) ((each n (suc i) c).spell xs) ∙ ap₂ (λ a b. a + b) (h i x (omega arith) (omega arith) l.0) r

pub same_total : (n i : ℕ) (f g : ℕ → ℕ) → ((k : ℕ) → i ≤ k → k < i + n → f k ≡ g k) → total n i f ≡ total n i g
unfolding total
same_total zero i f g h = refl
same_total (suc n) i f g h =
    ap₂ (λ a b. a + b) (h i (omega arith) (omega arith)) (same_total n (suc i) f g (λ k le lt. h k (omega arith) (omega arith)))

pub none_total : (n i : ℕ) → total n i (λ k. 0) ≡ 0
unfolding total
none_total zero i = refl
none_total (suc n) i = let r = none_total n (suc i) in omega (arith, r)

and_true : (b : Bool) → (b && true) ≡ b
and_true true = refl
and_true false = refl

and_false : (b : Bool) → (b && false) ≡ false
and_false true = refl
and_false false = refl

-- those below m
pub below_total : (n i m w : ℕ) → m ≤ i + n → total n i (λ k. when (nat_lt k m) w) ≡ (m - i) * w
unfolding total
below_total zero i m w h =
    let e : (m - i) * w ≡ 0 * w = ap (λ k. k * w) (omega arith) in
    omega (arith, e)
below_total (suc n) i m w h = elim (cases_lt i m) [
  | inl lt ↦
      let r = below_total n (suc i) m w (omega arith) in
      let e : m - i ≡ suc (m - suc i) = omega arith in
      let a : when (nat_lt i m) w ≡ w = rw (lt-ltb i m lt) refl in
      let s : (m - i) * w ≡ (m - suc i) * w + w = ap (λ k. k * w) e ∙ suc-mul (m - suc i) w in
      omega (arith, a, r, s)
  | inr le ↦
      let r = below_total n (suc i) m w (omega arith) in
      let a : when (nat_lt i m) w ≡ 0 = rw (le-ltb i m le) refl in
      let d : (m - i) * w ≡ 0 * w = ap (λ k. k * w) (omega arith) in
      let e : (m - suc i) * w ≡ 0 * w = ap (λ k. k * w) (omega arith) in
      omega (arith, a, r, d, e)
]

-- for five channels
pub full_total : (full w : ℕ) → full ≤ 5 → total 5 0 (λ k. when (nat_lt k full) w) ≡ full * w
full_total full w h = below_total 5 0 full w (omega arith) ∙ ap (λ (m : ℕ). m * w) (omega arith)

-- for channels that are coupled all or none
pub both_total : (full w : ℕ) (used : Bool) → full ≤ 5 → total 5 0 (λ k. when (nat_lt k full && used) w) ≡ when used (full * w)
both_total full w true h =
    same_total 5 0 (λ k. when (nat_lt k full && true) w) (λ k. when (nat_lt k full) w)
    (λ k le lt. ap (λ b. when b w) (and_true (nat_lt k full))) ∙ full_total full w h
both_total full w false h =
    same_total 5 0 (λ k. when (nat_lt k full && false) w) (λ k. 0) (λ k le lt. ap (λ b. when b w) (and_false (nat_lt k full)))
    ∙ none_total 5 0

-- for bands
pub bands_total : (bands : ℕ) → bands ≤ 18 → total 18 0 (λ k. when (nat_lt k bands) 8) ≡ bands * 8
bands_total bands h = below_total 18 0 bands 8 (omega arith) ∙ ap (λ (m : ℕ). m * 8) (omega arith)

pub joined_total : (n : ℕ) → n ≤ 18 → total 18 0 (λ k. when (nat_le 1 k && nat_lt k n) 1) ≡ n - 1
unfolding total
joined_total n h =
    let r : total 17 1 (λ k. when (nat_le 1 k && nat_lt k n) 1) ≡ total 17 1 (λ k. when (nat_lt k n) 1) =
    same_total 17 1 (λ k. when (nat_le 1 k && nat_lt k n) 1) (λ k. when (nat_lt k n) 1)
    (λ k le lt. ap (λ b. when (b && nat_lt k n) 1) (le-leb 1 k le)) in
    let s = below_total 17 1 n 1 (omega arith) in
    let e : (n - 1) * 1 ≡ n - 1 = mul-one (n - 1) in
    let t : total 17 1 (λ k. when (nat_le 1 k && nat_lt k n) 1) ≡ n - 1 = r ∙ (s ∙ e) in
    ap (λ x. 0 + x) t ∙ (omega arith)

-- a channel's coordinates
pub eight_a_band : (full bands : ℕ) → full * (3 + bands * 8) ≡ full * 1 + full * 2 + full * bands * 4 + full * bands * 4
eight_a_band full bands =
    let a = mul-add full 3 (bands * 8) in
    let b : full * (bands * 8) ≡ full * bands * 8 = sym (mul_assoc full bands 8) in
    omega (arith, a, b)

-- several rows
pub l2 : (a b : List Bool) → length (a ++ b) ≡ length a + length b
l2 = length-append

pub l3 : (a b c : List Bool) → length (a ++ (b ++ c)) ≡ length a + length b + length c
l3 a b c = omega (arith, l2 a (b ++ c), l2 b c)

pub l4 : (a b c d : List Bool) → length (a ++ (b ++ (c ++ d))) ≡ length a + length b + length c + length d
l4 a b c d = omega (arith, l2 a (b ++ (c ++ d)), l3 b c d)

pub l6 : (a b c d e f : List Bool) → length (a ++ (b ++ (c ++ (d ++ (e ++ f))))) ≡ length a + length b + length c + length d + length e
    + length f
l6 a b c d e f = omega (arith, l3 a b (c ++ (d ++ (e ++ f))), l4 c d e f)

pub l7 : (a b c d e f g : List Bool) → length (a ++ (b ++ (c ++ (d ++ (e ++ (f ++ g)))))) ≡ length a + length b + length c + length d
    + length e + length f + length g
l7 a b c d e f g = omega (arith, l2 a (b ++ (c ++ (d ++ (e ++ (f ++ g))))), l6 b c d e f g)
