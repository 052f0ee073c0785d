use Rattle.ac_synth.proofs.Lawful.{whole, kind}
use Rattle.ac_synth.proofs.Made.{stream, each}
use Rattle.ac_synth.proofs.Room.{enough}
use Rattle.ac_synth.proofs.law.again_law.Goals as goal

pub returns : goal.returns
returns c = record {
  whole = whole;
  kind = kind;
  stream = stream;
  each = each;
  enough = enough;
}
