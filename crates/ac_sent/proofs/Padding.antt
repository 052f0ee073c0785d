-- The padding keeps both rooms.
use Rattle.std.proofs.Common.{◌≡◌, ℕ, zero, suc, ◌+◌, ◌-◌, ◌*◌, ◌/◌, ◌<◌, ◌≤◌, min, inl, inr, refl, ap, ◌∙◌, arith}
use Rattle.std.specs.Prelude.{Some}
use Rattle.std.proofs.lemmas.Bool.{cases_lt}
use Rattle.ac_base.specs.Sizes.{front_room, end_room}
use Rattle.ac_sent.specs.Padding.{skip, skipl_of, skip_bits, skipped, to_skip}
use Rattle.ac_sent.specs.Laws.{PaddingKeepsRooms}

-- the bits of the skip field of a block that is to take n bits
pub field : ℕ → ℕ
field n = skip_bits (skipl_of n)

field_none : field 0 ≡ 0
unfolding field skipl_of
field_none = refl

field_some : (n : ℕ) → 0 < n → field n ≡ 9 + 8 * min 511 ((n - 9 + 7) / 8)
unfolding field skipl_of
field_some zero h = absurd (omega arith)
field_some (suc n) h = refl

-- it takes what it is to take, at most 8 bits more, and at most 4,097
field_full : (n : ℕ) → 4097 ≤ n → field n ≡ 4097
field_full n h = omega (arith, field_some n (omega arith))

field_least : (n : ℕ) → n ≤ 4097 → (n ≤ field n) × (field n ≤ n + 8)
field_least zero h = omega (arith, field_none)
field_least (suc n) h = omega (arith, field_some (suc n) (omega arith))

fields : (x : ℕ) → skipped x ≡ field (x - 16388) + field (x - 12291) + field (x - 8194) + field (x - 4097) + field (x - 0)
unfolding skipped skip field
fields x = refl

none_left : (x : ℕ) → x ≡ 0 → field x ≡ 0
none_left x e = ap field e ∙ field_none

within_0 : (x : ℕ) → x ≤ 4097 → (x ≤ skipped x) × (skipped x ≤ x + 8)
within_0 x h =
    let all = fields x in
    let f0 = field_least (x - 0) (omega arith) in
    let f1 = none_left (x - 4097) (omega arith) in
    let f2 = none_left (x - 8194) (omega arith) in
    let f3 = none_left (x - 12291) (omega arith) in
    let f4 = none_left (x - 16388) (omega arith) in
    (omega arith, omega arith)

within_1 : (x : ℕ) → 4097 ≤ x → x ≤ 8194 → (x ≤ skipped x) × (skipped x ≤ x + 8)
within_1 x l h =
    let all = fields x in
    let f0 = field_full (x - 0) (omega arith) in
    let f1 = field_least (x - 4097) (omega arith) in
    let f2 = none_left (x - 8194) (omega arith) in
    let f3 = none_left (x - 12291) (omega arith) in
    let f4 = none_left (x - 16388) (omega arith) in
    (omega arith, omega arith)

within_2 : (x : ℕ) → 8194 ≤ x → x ≤ 12291 → (x ≤ skipped x) × (skipped x ≤ x + 8)
within_2 x l h =
    let all = fields x in
    let f0 = field_full (x - 0) (omega arith) in
    let f1 = field_full (x - 4097) (omega arith) in
    let f2 = field_least (x - 8194) (omega arith) in
    let f3 = none_left (x - 12291) (omega arith) in
    let f4 = none_left (x - 16388) (omega arith) in
    (omega arith, omega arith)

within_3 : (x : ℕ) → 12291 ≤ x → x ≤ 16388 → (x ≤ skipped x) × (skipped x ≤ x + 8)
within_3 x l h =
    let all = fields x in
    let f0 = field_full (x - 0) (omega arith) in
    let f1 = field_full (x - 4097) (omega arith) in
    let f2 = field_full (x - 8194) (omega arith) in
    let f3 = field_least (x - 12291) (omega arith) in
    let f4 = none_left (x - 16388) (omega arith) in
    (omega arith, omega arith)

within_4 : (x : ℕ) → 16388 ≤ x → x ≤ 20485 → (x ≤ skipped x) × (skipped x ≤ x + 8)
within_4 x l h =
    let all = fields x in
    let f0 = field_full (x - 0) (omega arith) in
    let f1 = field_full (x - 4097) (omega arith) in
    let f2 = field_full (x - 8194) (omega arith) in
    let f3 = field_full (x - 12291) (omega arith) in
    let f4 = field_least (x - 16388) (omega arith) in
    (omega arith, omega arith)

-- all skip fields take x bits and at most 8 more
pub skips_within : (x : ℕ) → x ≤ 20485 → (x ≤ skipped x) × (skipped x ≤ x + 8)
skips_within x h =
    elim (cases_lt x 4097) [
      | inl a ↦ within_0 x (omega arith)
      | inr a ↦
          elim (cases_lt x 8194) [
            | inl b ↦ within_1 x a (omega arith)
            | inr b ↦
                elim (cases_lt x 12291) [
                  | inl d ↦ within_2 x b (omega arith)
                  | inr d ↦ elim (cases_lt x 16388) [ inl e ↦ within_3 x d (omega arith) | inr e ↦ within_4 x e (omega arith) ]
                ]
          ]
    ]

pub none_skipped : (x : ℕ) → x ≡ 0 → skipped x ≡ 0
none_skipped x e =
    let all = fields x in
    let f0 = none_left (x - 0) (omega arith) in
    let f1 = none_left (x - 4097) (omega arith) in
    let f2 = none_left (x - 8194) (omega arith) in
    let f3 = none_left (x - 12291) (omega arith) in
    let f4 = none_left (x - 16388) (omega arith) in
    omega arith

pub first_skip : (x : ℕ) → skip_bits (skip x 1) ≡ field (x - 16388)
unfolding skip field
first_skip x = refl

-- a skipl has 9 bits
pub skipl_small : (n k : ℕ) → skipl_of n ≡ Some k → k ≤ 511
unfolding skipl_of
skipl_small zero k e = absurd (cc)
skipl_small (suc n) k e = let same : k ≡ min 511 ((suc n - 9 + 7) / 8) = cc in omega (arith, same)

pub skip_small : (x b k : ℕ) → skip x b ≡ Some k → k ≤ 511
unfolding skip
skip_small x b k e = skipl_small (x - 4097 * (5 - b)) k e

-- ---- the rooms
-- front is at most f, last and 26 at most e, and both are within the whole t of a frame of f + e bits
rooms : (f e front t last x : ℕ) → f ≤ 19200 → e ≤ 11600 → front ≤ f → t ≤ f + e → last + 26 ≤ e → front ≤ t → last ≤ t
    → x ≡ f + e - t - (e - last - 18)
    → (skipped x + (f + e - t - skipped x) ≡ f + e - t) × (front + field (x - 16388) ≤ f) × (last + (f + e - t - skipped x) + 18 ≤ e)
rooms f e front t last x a b c d g h i is = elim (cases_lt 0 x) [
  | inr le ↦
      let none = none_skipped x (omega arith) in
      let first = none_left (x - 16388) (omega arith) in
      (omega (arith, none), omega (arith, first), omega (arith, none, is))
  | inl some ↦
      let exact : x + t + e ≡ f + e + last + 18 = omega (arith, is, some) in
      let few : x ≤ 20485 = omega (arith, exact) in
      let s = skips_within x few in
      let first = (field_least (x - 16388) (omega (arith, few))).1 in
      let room : front + field (x - 16388) ≤ f = elim (cases_lt 16388 x) [
        | inl more ↦ omega (arith, exact, first, more)
        | inr less ↦ omega (arith, none_left (x - 16388) (omega (arith, less)))
      ] in
      (omega (arith, s, exact), room, omega (arith, s, exact))
]

pub keeps_rooms : PaddingKeepsRooms
keeps_rooms words parts least most front last fit =
    let f = front_room words in
    let e = end_room words in
    let all : f + e ≡ 16 * words = omega arith in
    let x = to_skip words parts.total parts.last in
    let r = rooms f e parts.front parts.total parts.last x (omega arith) (omega arith) fit.in_front (omega (arith, fit.whole, all)) (omega (arith, fit.at_end)) front last (omega (arith, all)) in
    let one = first_skip x in
    record {
      shared = omega (arith, r.0, all);
      front = omega (arith, r.1, one);
      end = omega (arith, r.2, all);
    }
