use Rattle.std.proofs.Common.{◌≡◌, ◌^◌, ◌<◌, ◌≤◌, ℕ, length, unsigned_abs}
use Rattle.ac_energy.specs.Coefficients.{entry}
use Rattle.ac_dec.specs.Heard.{values_of}
use Rattle.ac_dec.proofs.mantissas.values.Given as goal

abbrev pub invariant-loop-c : goal.invariant-loop-c
invariant-loop-c l = record {
  long : length l.coefs.c ≡ 7;
  value : (c b k : ℕ) → c < l.c → b < 6 → k < 256 → entry l.coefs.c c b k ≡ values_of l.codes b c k;
  bound : (c b k : ℕ) → c < l.c → b < 6 → k < 256 → unsigned_abs (entry l.coefs.c c b k) ≤ 2 ^ 24;
}
