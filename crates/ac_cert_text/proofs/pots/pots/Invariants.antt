use Rattle.std.proofs.Common.{◌≡◌, ◌-◌, take, length}
use Rattle.ac_cert_text.specs.Codec.{each}
use Rattle.ac_cert_text.specs.Text.{fields_of, pot_lines}
use Rattle.ac_cert_text.proofs.Loops.{front_then}
use Rattle.ac_cert_text.proofs.pots.pots.Given as goal

abbrev pub invariant-loop-c : goal.invariant-loop-c
invariant-loop-c l = record {
  reads : front_then (take l.c l.pots.p) ((each (7 - l.c) l.c (pot_lines (fields_of l.fn.shape))).read l.cursor.rest.now) ≡ (each 7 0 (pot_lines (fields_of l.fn.shape))).read l.fn.cursor.rest.now;
  whole : length l.pots.p ≡ 7;
}
