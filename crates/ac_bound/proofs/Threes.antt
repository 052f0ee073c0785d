-- What holds of the three parts.
use Rattle.std.proofs.Common.{ℕ, zero, suc, ◌<◌, arith}

pub of_three : (P : ℕ → Type 0) → P 0 → P 1 → P 2 → (part : ℕ) → part < 3 → P part
of_three P a b c zero l = a
of_three P a b c (suc zero) l = b
of_three P a b c (suc (suc zero)) l = c
of_three P a b c (suc (suc (suc n))) l = absurd (omega arith)

-- and of the six blocks
pub of_six : (P : ℕ → Type 0) → P 0 → P 1 → P 2 → P 3 → P 4 → P 5 → (b : ℕ) → b < 6 → P b
of_six P a b c d e f zero l = a
of_six P a b c d e f (suc zero) l = b
of_six P a b c d e f (suc (suc zero)) l = c
of_six P a b c d e f (suc (suc (suc zero))) l = d
of_six P a b c d e f (suc (suc (suc (suc zero)))) l = e
of_six P a b c d e f (suc (suc (suc (suc (suc zero))))) l = f
of_six P a b c d e f (suc (suc (suc (suc (suc (suc n)))))) l = absurd (omega arith)
