use Rattle.std.proofs.Common.{◌≡◌, ◌<◌, ℕ, false}
use Rattle.ac_base.specs.Spans.{is_coupling}
use Rattle.ac_separation.specs.Written.{lead_at}
use Rattle.ac_separation.proofs.leads.coupling_channel.Given as goal

abbrev pub invariant-loop-c : goal.invariant-loop-c
invariant-loop-c l = (c : ℕ) → c < l.c → is_coupling (lead_at l.spans c) ≡ false
