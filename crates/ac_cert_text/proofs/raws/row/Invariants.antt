use Rattle.std.proofs.Common.{◌≡◌, ◌-◌, take, length}
use Rattle.ac_cert_text.specs.Codec.{each}
use Rattle.ac_cert_text.specs.Text.{bin}
use Rattle.ac_cert_text.proofs.Loops.{front_then}
use Rattle.ac_cert_text.proofs.raws.row.Given as goal

abbrev pub invariant-loop-k : goal.invariant-loop-k
invariant-loop-k l = record {
  reads : front_then (take l.k l.row) ((each (256 - l.k) l.k (bin l.fn.span)).read l.cursor.rest.now) ≡ (each 256 0 (bin l.fn.span)).read l.fn.cursor.rest.now;
  whole : length l.row ≡ 256;
}
