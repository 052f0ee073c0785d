use Rattle.std.proofs.Common.{ap, sym, subst, ℕ, false, length, replicate, arith, length-append}
use Rattle.std.proofs.lemmas.List.{length-replicate}
use Rattle.ac_bits.specs.Bits.{Appends}
use Rattle.ac_bits.proofs.Laws.{appends-then}
use Rattle.ac_base.specs.Shape.{full_of}
use Rattle.ac_rows.specs.BlockRows.{skip_bits}
use Rattle.ac_rows.specs.Bits.{block_bits, BlockIsLawful}
use Rattle.ac_rows.proofs.BlockBits.{whole_bits, fields_lawful}
use Rattle.ac_rows.proofs.HeadSound.{head_channels}
use Rattle.ac_row_writing.proofs.block.write_block.Goals as goal

pub full_channels-requires : goal.full_channels-requires
full_channels-requires c = head_channels c.args.head.now c.requires.head

pub write_groups-requires-clause-lawful : goal.write_groups-requires-clause-lawful
write_groups-requires-clause-lawful c =
    subst (λ (n : ℕ). BlockIsLawful n c.args.block.now) (sym c.full_channels.ensures.value)
    (fields_lawful c.args.head.now c.args.earlier.now c.args.block.now c.requires.lawful)

pub write_groups-requires-clause-room : goal.write_groups-requires-clause-room
write_groups-requires-clause-room c =
    let e = whole_bits c.args.head.now c.args.earlier.now c.args.block.now c.requires.lawful in
    let n = ap (λ (m : ℕ). length (block_bits m c.args.block.now)) c.full_channels.ensures.value in
    omega (
      arith,
      c.requires.room,
      ap length e,
      length-append (block_bits (full_of c.args.head.now.acmod) c.args.block.now)
          (replicate (skip_bits c.args.block.now) false),
      n,
    )

pub put_zeros-requires : goal.put_zeros-requires
put_zeros-requires c =
    let e = whole_bits c.args.head.now c.args.earlier.now c.args.block.now c.requires.lawful in
    let n = ap (λ (m : ℕ). length (block_bits m c.args.block.now)) c.full_channels.ensures.value in
    record {
      room = omega (
        arith,
        c.requires.room,
        ap length e,
        length-append (block_bits (full_of c.args.head.now.acmod) c.args.block.now) (replicate (skip_bits c.args.block.now) false),
        length-replicate (skip_bits c.args.block.now) false,
        n,
        c.write_groups.ensures.len,
        c.skipped.ensures,
      );
    }

pub returns-clause-adds : goal.returns-clause-adds
returns-clause-adds c =
    let e = whole_bits c.args.head.now c.args.earlier.now c.args.block.now c.requires.lawful in
    let front = rw c.full_channels.ensures.value at c.write_groups.ensures.adds in
    let back = rw c.skipped.ensures at c.put_zeros.ensures.adds in
    subst (Appends c.args.sink.now c.put_zeros.new.sink) (sym e) (appends-then front back)

pub returns-clause-len : goal.returns-clause-len
returns-clause-len c =
    let e = whole_bits c.args.head.now c.args.earlier.now c.args.block.now c.requires.lawful in
    let n = ap (λ (m : ℕ). length (block_bits m c.args.block.now)) c.full_channels.ensures.value in
    omega (
      arith,
      ap length e,
      length-append (block_bits (full_of c.args.head.now.acmod) c.args.block.now)
          (replicate (skip_bits c.args.block.now) false),
      length-replicate (skip_bits c.args.block.now) false,
      n,
      c.write_groups.ensures.len,
      c.put_zeros.ensures.len,
      c.skipped.ensures,
    )
