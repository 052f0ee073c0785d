use Rattle.std.proofs.Common.{arith}
use Rattle.ac_bits.proofs.Laws.{appends-then}
use Rattle.ac_rows.specs.Groups.{strategy_of, codes_of, exponents_of}
use Rattle.ac_rows.specs.BlockRows.{coupling_now}
use Rattle.ac_rows.proofs.BlockBits.{block_parts, block_length}
use Rattle.ac_rows.proofs.ZippedLawful.{exponents_fit}
use Rattle.ac_row_writing.proofs.block.write_groups.Goals as goal

pub write_start-requires-clause-lawful : goal.write_start-requires-clause-lawful
write_start-requires-clause-lawful c = let h = c.requires.lawful in (block_parts c.args.full h.0 h.1 h.2 c.args.b.now h.3).start

pub write_start-requires-clause-room : goal.write_start-requires-clause-room
write_start-requires-clause-room c = omega (arith, c.requires.room, block_length c.args.full c.args.b.now)

pub write_strategy-requires-clause-fits : goal.write_strategy-requires-clause-fits
write_strategy-requires-clause-fits c =
    let h = c.requires.lawful in (c.args.full, h.0, h.2.begun, (block_parts c.args.full h.0 h.1 h.2 c.args.b.now h.3).strategy)

pub write_strategy-requires-clause-room : goal.write_strategy-requires-clause-room
write_strategy-requires-clause-room c = omega (arith, c.requires.room, block_length c.args.full c.args.b.now, c.write_start.ensures.len)

pub write_shared-requires-clause-lawful : goal.write_shared-requires-clause-lawful
write_shared-requires-clause-lawful c =
    let h =
    c.requires.lawful in (h.2, coupling_now h.2 (strategy_of c.args.b.now), (block_parts c.args.full h.0 h.1 h.2 c.args.b.now h.3).shared)

pub write_shared-requires-clause-room : goal.write_shared-requires-clause-room
write_shared-requires-clause-room c =
    omega (arith, c.requires.room, block_length c.args.full c.args.b.now, c.write_start.ensures.len, c.write_strategy.ensures.len)

pub write_codes-requires-clause-lawful : goal.write_codes-requires-clause-lawful
write_codes-requires-clause-lawful c =
    let h =
    c.requires.lawful in (
      h.0,
      h.1,
      h.2,
      coupling_now h.2 (strategy_of c.args.b.now),
      (block_parts c.args.full h.0 h.1 h.2 c.args.b.now h.3).codes,
    )

pub write_codes-requires-clause-room : goal.write_codes-requires-clause-room
write_codes-requires-clause-room c =
    omega (
      arith,
      c.requires.room,
      block_length c.args.full c.args.b.now,
      c.write_start.ensures.len,
      c.write_strategy.ensures.len,
      c.write_shared.ensures.len,
    )

pub write_exponents-requires-clause-fits : goal.write_exponents-requires-clause-fits
write_exponents-requires-clause-fits c =
    let h =
    c.requires.lawful in exponents_fit c.args.full (coupling_now h.2 (strategy_of c.args.b.now)) (codes_of c.args.b.now)
    (exponents_of c.args.b.now) (block_parts c.args.full h.0 h.1 h.2 c.args.b.now h.3).exponents

pub write_exponents-requires-clause-room : goal.write_exponents-requires-clause-room
write_exponents-requires-clause-room c =
    omega (
      arith,
      c.requires.room,
      block_length c.args.full c.args.b.now,
      c.write_start.ensures.len,
      c.write_strategy.ensures.len,
      c.write_shared.ensures.len,
      c.write_codes.ensures.len,
    )

pub write_allocation-requires-clause-lawful : goal.write_allocation-requires-clause-lawful
write_allocation-requires-clause-lawful c =
    let h =
    c.requires.lawful in (
      c.args.full,
      h.1,
      h.2,
      coupling_now h.2 (strategy_of c.args.b.now),
      (block_parts c.args.full h.0 h.1 h.2 c.args.b.now h.3).allocation,
    )

pub write_allocation-requires-clause-room : goal.write_allocation-requires-clause-room
write_allocation-requires-clause-room c =
    omega (
      arith,
      c.requires.room,
      block_length c.args.full c.args.b.now,
      c.write_start.ensures.len,
      c.write_strategy.ensures.len,
      c.write_shared.ensures.len,
      c.write_codes.ensures.len,
      c.write_exponents.ensures.len,
    )

pub write_rest-requires-clause-lawful : goal.write_rest-requires-clause-lawful
write_rest-requires-clause-lawful c = let h = c.requires.lawful in (block_parts c.args.full h.0 h.1 h.2 c.args.b.now h.3).rest

pub write_rest-requires-clause-room : goal.write_rest-requires-clause-room
write_rest-requires-clause-room c =
    omega (
      arith,
      c.requires.room,
      block_length c.args.full c.args.b.now,
      c.write_start.ensures.len,
      c.write_strategy.ensures.len,
      c.write_shared.ensures.len,
      c.write_codes.ensures.len,
      c.write_exponents.ensures.len,
      c.write_allocation.ensures.len,
    )

pub returns-clause-adds : goal.returns-clause-adds
returns-clause-adds c =
    appends-then c.write_start.ensures.adds (appends-then c.write_strategy.ensures.adds
    (appends-then c.write_shared.ensures.adds (appends-then c.write_codes.ensures.adds
    (appends-then c.write_exponents.ensures.adds (appends-then c.write_allocation.ensures.adds (c.write_rest.ensures.adds))))))

pub returns-clause-len : goal.returns-clause-len
returns-clause-len c =
    omega (
      arith,
      block_length c.args.full c.args.b.now,
      c.write_start.ensures.len,
      c.write_strategy.ensures.len,
      c.write_shared.ensures.len,
      c.write_codes.ensures.len,
      c.write_exponents.ensures.len,
      c.write_allocation.ensures.len,
      c.write_rest.ensures.len,
    )
