use Rattle.std.proofs.Common.{◌≡◌, ◌++◌, []}
use Rattle.ac_rows.specs.Filled.{listed}
use Rattle.ac_record.specs.Records.{blocks_spelled}
use Rattle.ac_sent.specs.Packed.{sent_part}
use Rattle.ac_packing.proofs.Bodies.{rest_spelled}
use Rattle.ac_packing.proofs.body.put_blocks.Given as goal

abbrev pub invariant-loop-b : goal.invariant-loop-b
invariant-loop-b l = l.sink ++ rest_spelled l.q l.head l.b ≡ l.fn.sink ++ blocks_spelled l.head [] (listed 6 0 (sent_part l.q))
