-- Bits that are taken ahead.
use Rattle.std.proofs.Common.{◌≡◌, ℕ, ◌+◌, ◌-◌, ◌*◌, ◌/◌, ◌%◌, ◌^◌, ◌<◌, ◌≤◌, Bool, List, ◌++◌, append_assoc, length, drop, arith, ap, sym, subst, ◌∙◌}
use Rattle.std.proofs.Math.Nat.{pow-le-pow_right}
use Rattle.std.proofs.lemmas.Nat.{mod_below, pow_pos}
use Rattle.std.proofs.lemmas.List.{length-append}
use Rattle.std.proofs.Math.Seq.{drop-append_seam}
use Rattle.ac_bits.specs.Bits.{bits}
use Rattle.ac_bits.proofs.Laws.{bits-join, bits-split, length-bits, low_left, put_fits}

-- bits join those that are held
pub joined : (held have word count : ℕ) (old new : List Bool) → held < 2 ^ have → word < 2 ^ count → have + count ≤ 64 → old ≡ bits word count ++ new
    → bits (held * 2 ^ count % 2 ^ 64 + word) (have + count) ++ new ≡ bits held have ++ old
joined held have word count old new h k w is =
    let f = put_fits held have word count h k w in
    ap (λ n. bits (n + word) (have + count) ++ new) f.0
    ∙ (ap (λ l. l ++ new) (bits-join held have count word k)
    ∙ (append_assoc (bits held have) (bits word count) new ∙ ap (λ l. bits held have ++ l) (sym is)))

whole_word : (held have : ℕ) → held < 2 ^ have → have ≤ 64 → held < 2 ^ 64
whole_word held have h w = let two : 0 < 2 = omega arith in omega (arith, pow-le-pow_right two w)

-- the first of those that are held, and the others
pub split : (held have width : ℕ) (rest : List Bool) → held < 2 ^ have → width ≤ have → have ≤ 64
    → bits held have ++ rest ≡ bits (held / 2 ^ (have - width)) width ++ (bits (held - (held / 2 ^ (have - width) * 2 ^ (have - width)) % 2 ^ 64) (have - width) ++ rest)
split held have width rest h k w =
    let u = have - width in
    let e : width + u ≡ have = omega arith in
    rw (low_left held u (whole_word held have h w))
    (ap (λ l. l ++ rest) (sym (ap (bits held) e) ∙ bits-split held width u) ∙ append_assoc (bits (held / 2 ^ u) width) (bits (held % 2 ^ u) u) rest)

pub rest_fits : (held have u : ℕ) → held < 2 ^ have → have ≤ 64 → held - (held / 2 ^ u * 2 ^ u) % 2 ^ 64 < 2 ^ u
rest_fits held have u h w = rw (low_left held u (whole_word held have h w)) (mod_below held (2 ^ u) (pow_pos u))

pub window_long : (held have : ℕ) (rest : List Bool) → length (bits held have ++ rest) ≡ have + length rest
window_long held have rest = length-append (bits held have) rest ∙ ap (λ n. n + length rest) (length-bits held have)

-- what is behind a number
pub dropped : (v w : ℕ) (old new : List Bool) → old ≡ bits v w ++ new → new ≡ drop w old
dropped v w old new is =
    sym (subst (λ (n : ℕ). drop n (bits v w ++ new) ≡ new) (length-bits v w) (drop-append_seam (bits v w) new)) ∙ ap (drop w) (sym is)

-- what is behind a front
pub behind : (front old new : List Bool) → old ≡ front ++ new → new ≡ drop (length old - length new) old
behind front old new is =
    let long : length old ≡ length front + length new = ap length is ∙ length-append front new in
    let n : length front ≡ length old - length new = omega (arith, long) in
    sym (drop-append_seam front new) ∙ ap (drop (length front)) (sym is) ∙ ap (λ k. drop k old) n
