use Rattle.std.proofs.Common.{◌≡◌, ◌^◌, length}
use Rattle.ac_convolution.specs.Rows.{Rows, RowsWithin}
use Rattle.ac_convolution.specs.Transform.{class_of, waves_of}
use Rattle.ac_convolution.proofs.inverse.classes.Given as goal

abbrev pub invariant-loop-a : goal.invariant-loop-a
invariant-loop-a l = (length l.x ≡ 32) × Rows l.a 48 (class_of (waves_of l.q)) l.x × RowsWithin (2 ^ 56) l.a 48 l.x

abbrev pub invariant-loop-b : goal.invariant-loop-b
invariant-loop-b l = (length l.x ≡ 32) × Rows l.b 48 (class_of (waves_of l.q)) l.x × RowsWithin (2 ^ 56) l.b 48 l.x

abbrev pub invariant-loop-c : goal.invariant-loop-c
invariant-loop-c l = (length l.x ≡ 32) × Rows l.c 48 (class_of (waves_of l.q)) l.x × RowsWithin (2 ^ 56) l.c 48 l.x

abbrev pub invariant-loop-d : goal.invariant-loop-d
invariant-loop-d l = (length l.x ≡ 32) × Rows l.d 48 (class_of (waves_of l.q)) l.x × RowsWithin (2 ^ 56) l.d 48 l.x
