use Rattle.std.proofs.Common.{◌≡◌, ◌<◌, length}
use Rattle.ac_cert_text.specs.Codec.{digits}
use Rattle.ac_cert_text.proofs.number.digits.Given as goal

abbrev pub invariant-loop-byte : goal.invariant-loop-byte
invariant-loop-byte l = record {
  same : digits l.limit l.end l.n l.rest ≡ digits l.limit l.end l.fn.first l.fn.bytes;
  bound : l.n < l.limit;
}

abbrev pub decreases-loop-byte : goal.decreases-loop-byte
decreases-loop-byte l = length l.rest
