use Rattle.std.proofs.Common.{◌≡◌, take, refl}
use Rattle.ac_record.specs.Order.{over_channels}
use Rattle.ac_record.specs.Readings.{cell}
use Rattle.ac_reading.specs.Mantissas.{span_at}
use Rattle.ac_reading.proofs.Rooms.{span_range}
use Rattle.ac_reading.proofs.Unpacking.{order_channels, order_twice, flat_small, unpacked, refused, numbers_are}
use Rattle.ac_reading.proofs.mantissas.read_codes.Goals as goal

pub gather-many-requires-clause-spans : goal.gather-many-requires-clause-spans
gather-many-requires-clause-spans c = λ x. (span_range c.args.head.now c.args.filled.now c.args.spans.now c.requires.spans c.requires.coded x).order

pub gather-many-requires-clause-ends : goal.gather-many-requires-clause-ends
gather-many-requires-clause-ends c = λ x. (span_range c.args.head.now c.args.filled.now c.args.spans.now c.requires.spans c.requires.coded x).end

pub gather-many-requires-clause-channels : goal.gather-many-requires-clause-channels
gather-many-requires-clause-channels c = order_channels c.args.head.now c.args.filled.now (take c.order-count.result c.order-count.new.out) c.order-count.ensures.value

pub unpack_block-requires-clause-pointers : goal.unpack_block-requires-clause-pointers
unpack_block-requires-clause-pointers c = flat_small (span_at c.args.spans.now) (take c.order-count.result c.order-count.new.out) (λ x k. cell c.args.baps.now x c.args.b k) (take c.gather-many.result c.gather-many.new.flat) c.requires.pointers c.gather-many.ensures.value

pub scatter-requires-clause-spans : goal.scatter-requires-clause-spans
scatter-requires-clause-spans c = λ x. (span_range c.args.head.now c.args.filled.now c.args.spans.now c.requires.spans c.requires.coded x).order

pub scatter-requires-clause-ends : goal.scatter-requires-clause-ends
scatter-requires-clause-ends c = λ x. (span_range c.args.head.now c.args.filled.now c.args.spans.now c.requires.spans c.requires.coded x).end

pub scatter-requires-clause-channels : goal.scatter-requires-clause-channels
scatter-requires-clause-channels c = order_channels c.args.head.now c.args.filled.now (take c.order-count.result c.order-count.new.out) c.order-count.ensures.value

pub scatter-requires-clause-apart : goal.scatter-requires-clause-apart
scatter-requires-clause-apart c = order_twice c.args.head.now c.args.filled.now (take c.order-count.result c.order-count.new.out) c.order-count.ensures.value

pub returns-in-Err-clause-cause : goal.returns-in-Err-clause-cause
returns-in-Err-clause-cause c = refused c.args.head.now c.args.filled.now c.args.b c.args.spans.now (take c.order-count.result c.order-count.new.out) c.args.baps.now (take c.gather-many.result c.gather-many.new.flat) c.args.source.now c.in-Err.fault c.refused_as.result c.requires.spans c.order-count.ensures.value c.gather-many.ensures.value c.in-Err.ensures.refused c.refused_as.ensures

pub returns-in-Ok-clause-found : goal.returns-in-Ok-clause-found
returns-in-Ok-clause-found c =
    let found = c.in-Ok.ensures.found in
    let order = take c.order-count.result c.order-count.new.out in
    let pointers = take c.gather-many.result c.gather-many.new.flat in
    let numbers = c.unpack_block.new.out in
    let is_n : numbers ≡ over_channels (span_at c.args.spans.now) order (λ x k. cell c.scatter.new.out x c.args.b k) =
    numbers_are (span_at c.args.spans.now) order (λ x k. cell c.args.baps.now x c.args.b k) (λ x k. cell c.scatter.new.out x c.args.b k) pointers numbers _ _ c.gather-many.ensures.value found.2 refl c.scatter.ensures.value in
    unpacked c.args.head.now c.args.filled.now c.args.b c.args.spans.now order c.args.baps.now c.scatter.new.out pointers numbers c.args.source.now c.unpack_block.new.source found.0 c.requires.spans c.order-count.ensures.value
    c.gather-many.ensures.value is_n found.1 found.3 found.4 c.scatter.ensures.elsewhere
