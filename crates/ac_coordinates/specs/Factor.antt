-- The factor that a coupling coordinate stands for, in units of 2^-19 (A/52 7.4.3, mstrcplco 0): cplcomant / 16 for cplcoexp 15,
-- else (cplcomant + 16) / 32, each times 2^-cplcoexp.
use Rattle.std.specs.Prelude.{ℕ, ◌+◌, ◌-◌, ◌*◌, ◌^◌, ◌==◌, if◌then◌else◌}

abbrev pub factor_of : ℕ → ℕ → ℕ
factor_of exp mant = if exp == 15 then mant else (mant + 16) * 2 ^ (14 - exp)
