use Rattle.ac_bits.proofs.Laws.{appends-then}
use Rattle.ac_codec.specs.Codec.{field, pair, shaped, given, tested_bit, fitted, each, cons, absent}
use Rattle.ac_rows.specs.BlockRows.{allocation, parameters, offsets, leaks, offset_each, alternating}
use Rattle.ac_rows.specs.Groups.{allocation_of}
use Rattle.ac_rows.proofs.ZippedLawful.{allocation_offsets, offsets_fit}
use Rattle.ac_row_writing.proofs.allocation.write_allocation.Goals as goal

pub returns-clause-adds : goal.returns-clause-adds
unfolding allocation parameters offsets leaks pair shaped field given tested_bit offset_each alternating fitted each cons absent
returns-clause-adds c =
    appends-then (appends-then c.put_bit.ensures.adds (appends-then c.put_optional.ensures.adds
    (appends-then c.put_optional-2.ensures.adds (appends-then c.put_optional-3.ensures.adds
    (appends-then c.put_optional-4.ensures.adds (c.put_optional-5.ensures.adds))))))
    (appends-then (appends-then c.put_bit-2.ensures.adds (appends-then c.put_optional-6.ensures.adds
    (appends-then c.put_optional-7.ensures.adds (appends-then c.put_optional-8.ensures.adds
    (appends-then c.write_offsets.ensures.adds (appends-then c.put_optional-9.ensures.adds (c.put_optional-10.ensures.adds)))))))
    (appends-then c.put_optional_bit.ensures.adds (appends-then c.put_optional-11.ensures.adds (c.put_optional-12.ensures.adds))))

pub write_offsets-requires-clause-offsets : goal.write_offsets-requires-clause-offsets
write_offsets-requires-clause-offsets c =
    let h = c.requires.lawful in
    let x = allocation_of c.args.b.now in
    let l = allocation_offsets h.0 h.1 h.2 h.3 x h.4 in
    λ i lt. (offsets_fit l.0 x.fsnroffst x.fgaincod l.1 i lt).0

pub write_offsets-requires-clause-gains : goal.write_offsets-requires-clause-gains
write_offsets-requires-clause-gains c =
    let h = c.requires.lawful in
    let x = allocation_of c.args.b.now in
    let l = allocation_offsets h.0 h.1 h.2 h.3 x h.4 in
    λ i lt. (offsets_fit l.0 x.fsnroffst x.fgaincod l.1 i lt).1
