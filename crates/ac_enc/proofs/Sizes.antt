-- The sizes of frames.
use Rattle.std.proofs.Common.{◌≡◌, ℕ, zero, suc, ◌+◌, ◌-◌, ◌*◌, ◌/◌, ◌%◌, ◌<◌, ◌≤◌, ◌⊎◌, inl, inr, Bool, true, false, slice_index, refl, ap, ap₂, arith}
use Rattle.std.specs.Prelude.{nat_eq, if◌then◌else◌}
use Rattle.std.proofs.lemmas.Bool.{cases_lt, eqb-true, eq-eqb}
use Rattle.std.proofs.lemmas.Bool.Decides.{eqb_tells}
use Rattle.ac_base.specs.Rates.{IsRate, rates}
use Rattle.ac_base.specs.Sizes.{frame_words_of, words_before, table_words, code_words}
use Rattle.ac_base.proofs.RateTable.{rate_least, rate_most, rate_at}
use Rattle.ac_sent.specs.Asked.{IsSizeCode}
use Rattle.ac_enc.specs.Frame.{size_code, words_so_far}

-- one frame more
before_more : (rate n : ℕ) → 320 * rate * (n + 1) ≡ 320 * rate * n + 320 * rate
before_more rate n = omega arith

pub rising : (rate n : ℕ) → words_before rate n ≤ words_before rate (n + 1)
rising rate n = let e = before_more rate n in omega (arith, e)

pub kept : (rate n : ℕ) → words_so_far rate 1 n ≡ words_before rate n
unfolding words_so_far
kept rate zero = omega arith
kept rate (suc n) =
    let before = kept rate n in
    let up = rising rate n in
    let e : suc n ≡ n + 1 = omega arith in
    rw e (omega (arith, before, up))

-- a step of a floor is within one of the step's own
between : (a b : ℕ) → 10240 ≤ b → b ≤ 204800 → (64 ≤ (a + b) / 147 - a / 147) × ((a + b) / 147 - a / 147 ≤ 1920)
between a b least most = (omega arith, omega arith)

alternating : (rate n : ℕ) → 32 ≤ rate → rate ≤ 640 → (64 ≤ words_before rate (n + 1) - words_before rate n) × (words_before rate (n + 1) - words_before rate n ≤ 1920)
alternating rate n least most = rw (before_more rate n) (between (320 * rate * n) (320 * rate) (omega arith) (omega arith))

-- the size of a frame
abbrev Fits : ℕ → Type 0
Fits words = (64 ≤ words) × (words ≤ 1920)

chosen : (a b : Bool) (x y z : ℕ) → Fits x → Fits y → Fits z → Fits (if a then x else if b then y else z)
chosen true b x y z p q r = p
chosen false true x y z p q r = q
chosen false false x y z p q r = r

pub words_fit : (rate fscod i : ℕ) → IsRate rate → (64 ≤ frame_words_of rate fscod i) × (frame_words_of rate fscod i ≤ 1920)
words_fit rate fscod i is =
    let least = rate_least rate is in
    let most = rate_most rate is in
    chosen (nat_eq fscod 0) (nat_eq fscod 1) (2 * rate) (words_before rate (i + 1) - words_before rate i) (3 * rate)
    (omega arith, omega arith) (alternating rate i least most) (omega arith, omega arith)

-- a step of a floor is the floor of the step, or one more
stepped : (a b : ℕ) → ((a + b) / 147 - a / 147 ≡ b / 147) ⊎ ((a + b) / 147 - a / 147 ≡ b / 147 + 1)
stepped a b =
    elim (cases_lt (a % 147 + b % 147) 147) [
      | inl h ↦ inl (omega (arith, h))
      | inr h ↦ inr (omega (arith, h))
    ]

alternates : (rate n : ℕ) → (words_before rate (n + 1) - words_before rate n ≡ 320 * rate / 147) ⊎ (words_before rate (n + 1) - words_before rate n ≡ 320 * rate / 147 + 1)
alternates rate n = rw (before_more rate n) (stepped (320 * rate * n) (320 * rate))

-- two choices that differ at the second alone
one_more : (a b : Bool) (x y t z : ℕ) (P : Type 0) → (b ≡ true → P) → (y ≡ t) ⊎ (y ≡ t + 1)
    → let chosen = if a then x else if b then y else z in
    let table = if a then x else if b then t else z in
    (chosen ≡ table) ⊎ (P × (chosen ≡ table + 1))
one_more true b x y t z P p h = inl refl
one_more false true x y t z P p h =
    elim h [
      | inl e ↦ inl e
      | inr e ↦ inr (p refl, e)
    ]
one_more false false x y t z P p h = inl refl

words_listed : (rate fscod i : ℕ) → (frame_words_of rate fscod i ≡ table_words rate fscod) ⊎ ((fscod ≡ 1) × (frame_words_of rate fscod i ≡ table_words rate fscod + 1))
words_listed rate fscod i =
    one_more (nat_eq fscod 0) (nat_eq fscod 1) (2 * rate) (words_before rate (i + 1) - words_before rate i) (320 * rate / 147) (3 * rate) (fscod ≡ 1) (eqb-true fscod 1) (alternates rate i)

pub listed : (rate fscod i code : ℕ) → let words = frame_words_of rate fscod i in
    let table = table_words rate fscod in
    let frmsizecod = size_code rate fscod i code in
    ((words ≡ table) × (frmsizecod ≡ 2 * code)) ⊎ ((fscod ≡ 1) × (words ≡ table + 1) × (frmsizecod ≡ 2 * code + 1))
listed rate fscod i code =
    let chosen = λ (b : Bool). if b then 2 * code else 2 * code + 1 in
    elim (eqb_tells (frame_words_of rate fscod i) (table_words rate fscod)) [
      | inl h ↦ inl (h.1, ap chosen h.0)
      | inr h ↦
          elim (words_listed rate fscod i) [
            | inl e ↦ absurd (h.1 e)
            | inr e ↦ inr (e.0, e.1, ap chosen h.0)
          ]
    ]

-- ---- each size has a code

-- the words of the two codes of a rate
words_of_code : (fscod k r : ℕ) → r < 2 → code_words fscod (2 * k + r) ≡ table_words (slice_index rates k) fscod + (if nat_eq fscod 1 then r else 0)
words_of_code fscod k r small =
    let half : (2 * k + r) / 2 ≡ k = omega arith in
    let rest : (2 * k + r) % 2 ≡ r = omega arith in
    ap₂ (λ (h p : ℕ). table_words (slice_index rates h) fscod + (if nat_eq fscod 1 then p else 0)) half rest

abbrev more_where : Bool → ℕ → ℕ
more_where b n = if b then n else 0

none_more : (b : Bool) → more_where b 0 ≡ 0
none_more true = refl
none_more false = refl

-- the words of frame i have a code that this encoder writes
pub sized : (rate fscod i : ℕ) → IsRate rate → (code : ℕ) × IsSizeCode fscod (frame_words_of rate fscod i) code
sized rate fscod i is =
    let at = rate_at rate is in
    let k = at.0 in
    let table = ap (λ r. table_words r fscod) at.2 in
    elim (words_listed rate fscod i) [
      | inl e ↦
          let even = words_of_code fscod k 0 (omega arith) in
          let none = none_more (nat_eq fscod 1) in
          let code : 2 * k + 0 < 38 = let small = at.1 in omega arith in
          (2 * k + 0, record { known = code; even = inr (omega arith); size = omega (arith, even, none, table, e) })
      | inr e ↦
          let odd = words_of_code fscod k 1 (omega arith) in
          let one : more_where (nat_eq fscod 1) 1 ≡ 1 = ap (λ (b : Bool). more_where b 1) (eq-eqb fscod 1 e.0) in
          let code : 2 * k + 1 < 38 = let small = at.1 in omega arith in
          (2 * k + 1, record { known = code; even = inl e.0; size = let more = e.1 in omega (arith, odd, one, table, more) })
    ]
