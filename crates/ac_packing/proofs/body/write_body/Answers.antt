use Rattle.std.proofs.Common.{◌≡◌, ◌-◌, ◌*◌, ◌∙◌, length, ap, arith, false}
use Rattle.ac_sent.specs.Fields.{parts_at}
use Rattle.ac_sent.specs.Padding.{aux_bits}
use Rattle.ac_packing.proofs.Bodies.{head_same, blocks_same, head_sent, pieces_long, all_written, front_long}
use Rattle.ac_packing.proofs.body.write_body.Goals as goal

pub write_head-requires-clause-lawful : goal.write_head-requires-clause-lawful
write_head-requires-clause-lawful c = head_sent c.args.q.now c.args.code c.frame_head-head.result c.frame_head-head.ensures.value c.requires.code.known

pub write_head-requires-clause-room : goal.write_head-requires-clause-room
write_head-requires-clause-room c =
    let q = c.args.q.now in
    omega (arith, ap length (head_same q c.args.code c.frame_head-head.result c.frame_head-head.ensures.value), pieces_long q c.args.code false c.requires.asked c.requires.code, ap length c.new-sink.ensures, q.shape.most_size)

pub put_blocks-requires-clause-room : goal.put_blocks-requires-clause-room
put_blocks-requires-clause-room c =
    let q = c.args.q.now in
    let h = c.frame_head-head.result in
    omega (arith, ap length (head_same q c.args.code h c.frame_head-head.ensures.value), ap length (blocks_same q c.args.code h c.frame_head-head.ensures.value), pieces_long q c.args.code false c.requires.asked c.requires.code, ap length c.new-sink.ensures, c.write_head.ensures.len, q.shape.most_size)

pub overflow_sub-aux-2 : goal.overflow_sub-aux-2
overflow_sub-aux-2 c =
    let q = c.args.q.now in
    let long = front_long q c.args.code c.frame_head-head.result c.requires.asked c.requires.code c.frame_head-head.ensures.value c.new-sink.ensures c.write_head.ensures.adds c.put_blocks.ensures.adds in
    omega (arith, long, c.len.ensures.len, c.from.ensures)

pub put_tail-requires : goal.put_tail-requires
put_tail-requires c =
    let q = c.args.q.now in
    let long = front_long q c.args.code c.frame_head-head.result c.requires.asked c.requires.code c.frame_head-head.ensures.value c.new-sink.ensures c.write_head.ensures.adds c.put_blocks.ensures.adds in
    record { room = omega (arith, long, c.len.ensures.len, c.from.ensures, q.shape.most_size) }

pub bytes-requires : goal.bytes-requires
bytes-requires c =
    let q = c.args.q.now in
    let long = front_long q c.args.code c.frame_head-head.result c.requires.asked c.requires.code c.frame_head-head.ensures.value c.new-sink.ensures c.write_head.ensures.adds c.put_blocks.ensures.adds in
    omega (arith, long, c.len.ensures.len, c.from.ensures, c.put_tail.ensures.len)

pub returns-clause-count : goal.returns-clause-count
returns-clause-count c =
    let q = c.args.q.now in
    let long = front_long q c.args.code c.frame_head-head.result c.requires.asked c.requires.code c.frame_head-head.ensures.value c.new-sink.ensures c.write_head.ensures.adds c.put_blocks.ensures.adds in
    omega (arith, long, c.len.ensures.len, c.from.ensures, c.put_tail.ensures.len, c.bytes.ensures.count)

pub returns-clause-bytes : goal.returns-clause-bytes
returns-clause-bytes c =
    let q = c.args.q.now in
    let long = front_long q c.args.code c.frame_head-head.result c.requires.asked c.requires.code c.frame_head-head.ensures.value c.new-sink.ensures c.write_head.ensures.adds c.put_blocks.ensures.adds in
    let aux : 16 * c.from.result - 18 - c.len.result ≡ aux_bits q.shape.words (parts_at q).total (parts_at q).last = omega (arith, long, c.len.ensures.len, c.from.ensures) in
    c.bytes.ensures.value
    ∙ all_written q c.args.code c.args.crcrsv c.frame_head-head.result (16 * c.from.result - 18 - c.len.result) c.frame_head-head.ensures.value aux c.new-sink.ensures c.write_head.ensures.adds c.put_blocks.ensures.adds c.put_tail.ensures.adds
