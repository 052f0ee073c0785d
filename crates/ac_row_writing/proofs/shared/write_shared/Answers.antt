use Rattle.std.proofs.Common.{ap, sym, subst, length, arith, length-append}
use Rattle.ac_bits.specs.Bits.{Appends}
use Rattle.ac_bits.proofs.Laws.{appends-then}
use Rattle.ac_codec.specs.Lists.{spelled_each}
use Rattle.ac_rows.specs.Groups.{shared_of}
use Rattle.ac_rows.specs.BlockRows.{joined_channels, phase_each}
use Rattle.ac_rows.specs.Bits.{channel_bits, nothing, uncoupled}
use Rattle.ac_rows.proofs.JoinedChannels.{shared_parts, shared_spelled}
use Rattle.ac_row_writing.proofs.shared.write_shared.Goals as goal

pub write_channels-requires-clause-masters : goal.write_channels-requires-clause-masters
write_channels-requires-clause-masters c = let h = c.requires.lawful in (shared_parts h.0 h.1 (shared_of c.args.b.now) h.2).masters

pub write_channels-requires-clause-exps : goal.write_channels-requires-clause-exps
write_channels-requires-clause-exps c = let h = c.requires.lawful in (shared_parts h.0 h.1 (shared_of c.args.b.now) h.2).exps

pub write_channels-requires-clause-mants : goal.write_channels-requires-clause-mants
write_channels-requires-clause-mants c = let h = c.requires.lawful in (shared_parts h.0 h.1 (shared_of c.args.b.now) h.2).mants

pub write_channels-requires-clause-room : goal.write_channels-requires-clause-room
write_channels-requires-clause-room c =
    let h = c.requires.lawful in
    let x = shared_of c.args.b.now in
    let js = spelled_each channel_bits (joined_channels x.cplcoe x.mstrcplco x.cplcoexp x.cplcomant) in
    let e = shared_spelled nothing uncoupled x (omega (arith, (shared_parts h.0 h.1 x h.2).joined)) in
    omega (arith, c.requires.room, ap length e, length-append js ((phase_each 0).spell x.phsflg))

pub write_phases-requires : goal.write_phases-requires
write_phases-requires c =
    let h = c.requires.lawful in
    let x = shared_of c.args.b.now in
    let js = spelled_each channel_bits (joined_channels x.cplcoe x.mstrcplco x.cplcoexp x.cplcomant) in
    let e = shared_spelled nothing uncoupled x (omega (arith, (shared_parts h.0 h.1 x h.2).joined)) in
    record {
      room = omega (
        arith,
        c.requires.room,
        ap length e,
        length-append js ((phase_each 0).spell x.phsflg),
        c.write_channels.ensures.len,
      );
    }

pub returns-clause-adds : goal.returns-clause-adds
returns-clause-adds c =
    let h = c.requires.lawful in
    let x = shared_of c.args.b.now in
    let e = shared_spelled nothing uncoupled x (omega (arith, (shared_parts h.0 h.1 x h.2).joined)) in
    subst (Appends c.args.sink.now c.write_phases.new.sink) (sym e) (appends-then c.write_channels.ensures.adds c.write_phases.ensures.adds)

pub returns-clause-len : goal.returns-clause-len
returns-clause-len c =
    let h = c.requires.lawful in
    let x = shared_of c.args.b.now in
    let js = spelled_each channel_bits (joined_channels x.cplcoe x.mstrcplco x.cplcoexp x.cplcomant) in
    let e = shared_spelled nothing uncoupled x (omega (arith, (shared_parts h.0 h.1 x h.2).joined)) in
    omega (arith, ap length e, length-append js ((phase_each 0).spell x.phsflg), c.write_channels.ensures.len, c.write_phases.ensures.len)
