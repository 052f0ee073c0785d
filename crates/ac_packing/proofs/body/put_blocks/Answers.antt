use Rattle.std.proofs.Common.{◌≡◌, ◌∙◌, ◌++◌, [], List, Bool, ap, sym, arith}
use Rattle.std.proofs.lemmas.List.{append-nil}
use Rattle.ac_rows.specs.Filled.{listed}
use Rattle.ac_record.specs.Records.{blocks_spelled}
use Rattle.ac_sent.specs.Packed.{sent_part}
use Rattle.ac_packing.proofs.Bodies.{rest_first, rest_last, one_more, room_here}
use Rattle.ac_packing.proofs.body.put_blocks.Goals as goal

pub loop-b-init : goal.loop-b-init
loop-b-init c = ap (λ (l : List Bool). c.args.sink.now ++ l) (rest_first c.args.q.now c.args.head.now)

pub put_block-requires-clause-room : goal.put_block-requires-clause-room
put_block-requires-clause-room c =
    let h = c.args.head.now in
    room_here c.args.q.now h c.loop-b.b c.args.sink.now c.loop-b.sink (blocks_spelled h [] (listed 6 0 (sent_part c.args.q.now))) c.loop-b-test.true c.loop-b.invariant c.requires.room

pub loop-b-preserved : goal.loop-b-preserved
loop-b-preserved c =
    let h = c.args.head.now in
    one_more c.args.q.now h c.loop-b.b c.args.sink.now c.loop-b.sink c.put_block.new.sink (blocks_spelled h [] (listed 6 0 (sent_part c.args.q.now))) c.loop-b-test.true c.loop-b.invariant c.put_block.ensures.adds

pub returns : goal.returns
returns c =
    let six : c.loop-b.b ≡ 6 = omega (arith, c.loop-b-test.false, c.loop-b.auto.b-end) in
    record {
      adds = record {
        whole = sym (append-nil c.loop-b.sink) ∙ (sym (ap (λ (l : List Bool). c.loop-b.sink ++ l) (rest_last c.args.q.now c.args.head.now c.loop-b.b six)) ∙ c.loop-b.invariant);
      };
    }
