-- Skip fields: how much they take.
use Rattle.std.proofs.Common.{◌≢◌, inl, inr, ◌≡◌, ℕ, zero, suc, ◌+◌, ◌-◌, ◌*◌, ◌/◌, ◌<◌, ◌≤◌, min, refl, ap, ◌∙◌, arith}
use Rattle.std.proofs.lemmas.Bool.{cases_lt}
use Rattle.ac_base.specs.Sizes.{front_room}
use Rattle.ac_sent.specs.Padding.{skip, skipl_of, skip_bits, skipped, to_skip}
use Rattle.ac_frame.specs.Plain.{total_bits}
use Rattle.std.specs.Prelude.{Some, None}

pub skipped_is : (x : ℕ) → skipped x ≡ skip_bits (skip x 1) + skip_bits (skip x 2) + skip_bits (skip x 3) + skip_bits (skip x 4) + skip_bits (skip x 5)
unfolding skipped
skipped_is x = refl

-- the bits of the skip field of a block that is to take n bits
field : ℕ → ℕ
field n = skip_bits (skipl_of n)

field_none : field 0 ≡ 0
unfolding field skipl_of
field_none = refl

field_some : (n : ℕ) → 0 < n → field n ≡ 9 + 8 * min 511 ((n - 9 + 7) / 8)
unfolding field skipl_of
field_some zero h = absurd (omega arith)
field_some (suc n) h = refl

-- it takes what it is to take, at most 8 bits more, and at most 4,097
field_full : (n : ℕ) → 4097 ≤ n → field n ≡ 4097
field_full n h = omega (arith, field_some n (omega arith))

field_least : (n : ℕ) → n ≤ 4097 → (n ≤ field n) × (field n ≤ n + 8)
field_least zero h = omega (arith, field_none)
field_least (suc n) h = omega (arith, field_some (suc n) (omega arith))

fields : (x : ℕ) → skipped x ≡ field (x - 16388) + field (x - 12291) + field (x - 8194) + field (x - 4097) + field (x - 0)
unfolding skipped skip field
fields x = refl

none_left : (x : ℕ) → x ≡ 0 → field x ≡ 0
none_left x e = ap field e ∙ field_none

within_0 : (x : ℕ) → x ≤ 4097 → (x ≤ skipped x) × (skipped x ≤ x + 8)
within_0 x h =
    let all = fields x in
    let f0 = field_least (x - 0) (omega arith) in
    let f1 = none_left (x - 4097) (omega arith) in
    let f2 = none_left (x - 8194) (omega arith) in
    let f3 = none_left (x - 12291) (omega arith) in
    let f4 = none_left (x - 16388) (omega arith) in
    (omega arith, omega arith)

within_1 : (x : ℕ) → 4097 ≤ x → x ≤ 8194 → (x ≤ skipped x) × (skipped x ≤ x + 8)
within_1 x l h =
    let all = fields x in
    let f0 = field_full (x - 0) (omega arith) in
    let f1 = field_least (x - 4097) (omega arith) in
    let f2 = none_left (x - 8194) (omega arith) in
    let f3 = none_left (x - 12291) (omega arith) in
    let f4 = none_left (x - 16388) (omega arith) in
    (omega arith, omega arith)

within_2 : (x : ℕ) → 8194 ≤ x → x ≤ 12291 → (x ≤ skipped x) × (skipped x ≤ x + 8)
within_2 x l h =
    let all = fields x in
    let f0 = field_full (x - 0) (omega arith) in
    let f1 = field_full (x - 4097) (omega arith) in
    let f2 = field_least (x - 8194) (omega arith) in
    let f3 = none_left (x - 12291) (omega arith) in
    let f4 = none_left (x - 16388) (omega arith) in
    (omega arith, omega arith)

within_3 : (x : ℕ) → 12291 ≤ x → x ≤ 16388 → (x ≤ skipped x) × (skipped x ≤ x + 8)
within_3 x l h =
    let all = fields x in
    let f0 = field_full (x - 0) (omega arith) in
    let f1 = field_full (x - 4097) (omega arith) in
    let f2 = field_full (x - 8194) (omega arith) in
    let f3 = field_least (x - 12291) (omega arith) in
    let f4 = none_left (x - 16388) (omega arith) in
    (omega arith, omega arith)

within_4 : (x : ℕ) → 16388 ≤ x → x ≤ 20485 → (x ≤ skipped x) × (skipped x ≤ x + 8)
within_4 x l h =
    let all = fields x in
    let f0 = field_full (x - 0) (omega arith) in
    let f1 = field_full (x - 4097) (omega arith) in
    let f2 = field_full (x - 8194) (omega arith) in
    let f3 = field_full (x - 12291) (omega arith) in
    let f4 = field_least (x - 16388) (omega arith) in
    (omega arith, omega arith)

-- all skip fields take x bits and at most 8 more
pub skips_within : (x : ℕ) → x ≤ 20485 → (x ≤ skipped x) × (skipped x ≤ x + 8)
skips_within x h =
    elim (cases_lt x 4097) [
      | inl a ↦ within_0 x (omega arith)
      | inr a ↦
          elim (cases_lt x 8194) [
            | inl b ↦ within_1 x a (omega arith)
            | inr b ↦
                elim (cases_lt x 12291) [
                  | inl d ↦ within_2 x b (omega arith)
                  | inr d ↦
                      elim (cases_lt x 16388) [ inl e ↦ within_3 x d (omega arith) | inr e ↦ within_4 x e (omega arith) ]
                ]
          ]
    ]

-- with the other fields they leave room in the frame
pub room_left : (words groups : ℕ) → 64 ≤ words → words ≤ 1920 → groups ≤ 21 → skipped (to_skip words (total_bits groups) 0) + total_bits groups ≤ 16 * words
room_left words groups a b c =
    let x = to_skip words (total_bits groups) 0 in
    let few : x ≤ 20485 = omega arith in
    omega (arith, (skips_within x few).1)

-- ---- the rule of the skip fields
pub skipl_none : (n : ℕ) → skipl_of n ≡ None → n ≡ 0
unfolding skipl_of
skipl_none zero e = refl
skipl_none (suc n) e = absurd (cc)

pub skipl_zero : (n : ℕ) → n ≡ 0 → skipl_of n ≡ None
unfolding skipl_of
skipl_zero zero e = refl
skipl_zero (suc n) e = absurd (omega arith)

skipl_some : (n k : ℕ) → skipl_of n ≡ Some k → k ≡ min 511 ((n - 9 + 7) / 8)
unfolding skipl_of
skipl_some zero k e = absurd (cc)
skipl_some (suc n) k e = cc

pub skipl_takes : (n k : ℕ) → n ≤ 4097 → skipl_of n ≡ Some k → n ≤ 9 + 8 * k
skipl_takes n k h e = omega (arith, skipl_some n k e)

pub skipl_least : (n k j : ℕ) → skipl_of n ≡ Some k → n ≤ 9 + 8 * j → k ≤ j
skipl_least n k j e h = omega (arith, skipl_some n k e)

pub skipl_full : (n : ℕ) → 4097 ≤ n → skipl_of n ≡ Some 511
unfolding skipl_of
skipl_full zero h = absurd (omega arith)
skipl_full (suc n) h = let e : min 511 ((suc n - 9 + 7) / 8) ≡ 511 = omega arith in ap Some e

pub skip_order : (x block : ℕ) → block < 5 → skip x block ≢ None → skip x (block + 1) ≡ Some 511
unfolding skip
skip_order x block h some =
    let n = x - 4097 * (5 - block) in
    let more : n ≢ 0 = λ e. some (skipl_zero n e) in
    skipl_full (x - 4097 * (5 - (block + 1))) (omega arith)

first_skip : (x : ℕ) → skip_bits (skip x 1) ≡ field (x - 16388)
unfolding skip field
first_skip x = refl

pub front_kept : (words groups : ℕ) → 64 ≤ words → words ≤ 1920 → groups ≤ 21 → 65 + 35 + (12 + 7 * groups) + 10 + skip_bits (skip (to_skip words (total_bits groups) 0) 1) ≤ front_room words
front_kept words groups a b c =
    let x = to_skip words (total_bits groups) 0 in
    let few : x - 16388 ≤ 4097 = omega arith in
    omega (arith, first_skip x, (field_least (x - 16388) few).1)
