use Rattle.std.proofs.Common.{◌≡◌, ◌^◌, length}
use Rattle.ac_base.specs.Sigma.{Within, Lists}
use Rattle.ac_convolution.specs.Negacyclic.{wave, items}
use Rattle.ac_convolution.proofs.rows.widened.Given as goal

abbrev pub invariant-loop-s : goal.invariant-loop-s
invariant-loop-s l = (length l.w ≡ 48) × Lists l.s (wave 16 (items l.x)) l.w × Within (2 ^ 24) l.s l.w

abbrev pub invariant-loop-t : goal.invariant-loop-t
invariant-loop-t l = (length l.w ≡ 48) × Lists l.t (wave 16 (items l.x)) l.w × Within (2 ^ 24) l.t l.w

abbrev pub invariant-loop-u : goal.invariant-loop-u
invariant-loop-u l = (length l.w ≡ 48) × Lists l.u (wave 16 (items l.x)) l.w × Within (2 ^ 24) l.u l.w
