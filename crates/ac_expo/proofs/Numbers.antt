-- The numbers from 0 to 3071 and the words.
use Rattle.std.proofs.Common.{◌≡◌, ℕ, ◌+◌, ◌-◌, ◌*◌, ◌/◌, ◌%◌, ◌<◌, ◌≤◌, [], ◌∷◌, slice_index, arith, ap}
use Rattle.ac_expo.specs.Words.{word_list, EachNumberIsOneWord, EachWordHasANumber}

pub one : EachNumberIsOneWord
one i j a b e =
    let c0 : i / 1024 + 1 ≡ j / 1024 + 1 = ap (λ w. slice_index w 0) e in
    let c1 : i / 256 % 4 ≡ j / 256 % 4 = ap (λ w. slice_index w 1) e in
    let c2 : i / 64 % 4 ≡ j / 64 % 4 = ap (λ w. slice_index w 2) e in
    let c3 : i / 16 % 4 ≡ j / 16 % 4 = ap (λ w. slice_index w 3) e in
    let c4 : i / 4 % 4 ≡ j / 4 % 4 = ap (λ w. slice_index w 4) e in
    let c5 : i % 4 ≡ j % 4 = ap (λ w. slice_index w 5) e in
    omega arith

number_of : ℕ → ℕ → ℕ → ℕ → ℕ → ℕ → ℕ
number_of a b c d e f = 1024 * (a - 1) + 256 * b + 64 * c + 16 * d + 4 * e + f

number_in : (a b c d e f : ℕ) → 1 ≤ a → a ≤ 3 → b ≤ 3 → c ≤ 3 → d ≤ 3 → e ≤ 3 → f ≤ 3 → number_of a b c d e f < 3072
unfolding number_of
number_in a b c d e f some a3 b3 c3 d3 e3 f3 = omega arith

digits : (a b c d e f : ℕ) → 1 ≤ a → a ≤ 3 → b ≤ 3 → c ≤ 3 → d ≤ 3 → e ≤ 3 → f ≤ 3 → word_list (number_of a b c d e f) ≡ a ∷ b ∷ c ∷ d ∷ e ∷ f ∷ []
unfolding number_of
digits a b c d e f some a3 b3 c3 d3 e3 f3 =
    let n = 1024 * (a - 1) + 256 * b + 64 * c + 16 * d + 4 * e + f in
    let ea : n / 1024 + 1 ≡ a = omega arith in
    let eb : n / 256 % 4 ≡ b = omega arith in
    let ec : n / 64 % 4 ≡ c = omega arith in
    let ed : n / 16 % 4 ≡ d = omega arith in
    let ee : n / 4 % 4 ≡ e = omega arith in
    let ef : n % 4 ≡ f = omega arith in
    cc

pub each : EachWordHasANumber
each (a ∷ b ∷ c ∷ d ∷ e ∷ f ∷ []) w =
    let a3 : a ≤ 3 = w.small 0 (omega arith) in
    let b3 : b ≤ 3 = w.small 1 (omega arith) in
    let c3 : c ≤ 3 = w.small 2 (omega arith) in
    let d3 : d ≤ 3 = w.small 3 (omega arith) in
    let e3 : e ≤ 3 = w.small 4 (omega arith) in
    let f3 : f ≤ 3 = w.small 5 (omega arith) in
    let some : 1 ≤ a = w.sends in
    (number_of a b c d e f, (number_in a b c d e f some a3 b3 c3 d3 e3 f3, digits a b c d e f some a3 b3 c3 d3 e3 f3))
each codes w = absurd (omega (arith, w.long))
