use Rattle.std.proofs.Common.{◌≡◌, ◌<◌, ◌≤◌, ℕ, false, length, slice_index_or}
use Rattle.ac_rows.specs.Filled.{holds}
use Rattle.ac_dec.specs.Heard.{block_at}
use Rattle.ac_dec.specs.Separated.{HasValues, HasSeparated}
use Rattle.ac_dec.proofs.separating.separate.Given as goal

abbrev pub invariant-loop-b : goal.invariant-loop-b
invariant-loop-b l = record {
  long : length l.used ≡ 6;
  used : (b : ℕ) → b < l.b → slice_index_or l.used b false ≡ holds (block_at l.codes b).cplinu;
  done : (b : ℕ) → b < l.b → HasSeparated l.codes b l.coefs.c;
  left : (b : ℕ) → l.b ≤ b → b < 6 → HasValues l.codes b l.coefs.c;
}
