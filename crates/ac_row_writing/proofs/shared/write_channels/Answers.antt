use Rattle.std.proofs.Common.{◌+◌, ◌∙◌, ap, sym, subst, length, take, arith, length-append}
use Rattle.ac_bits.specs.Bits.{Appends}
use Rattle.ac_bits.proofs.Laws.{appends-then}
use Rattle.ac_codec.specs.Lists.{spelled_each}
use Rattle.ac_rows.specs.BlockRows.{joined_channels}
use Rattle.ac_rows.specs.Bits.{channel_bits}
use Rattle.ac_rows.proofs.JoinedChannels.{AreLong, channel_at, joined-more, joined_fits, joined_all}
use Rattle.ac_row_writing.proofs.shared.write_channels.Goals as goal

pub write_channel-requires-clause-room : goal.write_channel-requires-clause-room
write_channel-requires-clause-room c =
    let l = c.loop-i in
    let a = c.args in
    let long : AreLong 5 a.coes.now a.masters.now a.exps.now a.mants.now =
    record { coes = c.told-coes; masters = c.told-masters; exps = c.told-exps; mants = c.told-mants } in
    omega (arith, l.invariant.len, c.requires.room, joined_fits a.coes.now a.masters.now a.exps.now a.mants.now long l.i c.loop-i-test.true)

pub loop-i-preserved : goal.loop-i-preserved
loop-i-preserved c =
    let l = c.loop-i in
    let a = c.args in
    let long : AreLong 5 a.coes.now a.masters.now a.exps.now a.mants.now =
    record { coes = c.told-coes; masters = c.told-masters; exps = c.told-exps; mants = c.told-mants } in
    let more = joined-more a.coes.now a.masters.now a.exps.now a.mants.now long l.i c.loop-i-test.true in
    let front = spelled_each channel_bits (take l.i (joined_channels a.coes.now a.masters.now a.exps.now a.mants.now)) in
    record {
      adds = subst (Appends a.sink.now c.write_channel.new.sink) (sym more) (appends-then l.invariant.adds c.write_channel.ensures.adds);
      len =
          omega (
            arith,
            l.invariant.len,
            c.write_channel.ensures.len,
            ap length more,
            length-append front (channel_bits (channel_at a.coes.now a.masters.now a.exps.now a.mants.now l.i)),
          );
    }

pub returns-clause-adds : goal.returns-clause-adds
returns-clause-adds c =
    let l = c.loop-i in
    let a = c.args in
    let long : AreLong 5 a.coes.now a.masters.now a.exps.now a.mants.now =
    record { coes = c.told-coes; masters = c.told-masters; exps = c.told-exps; mants = c.told-mants } in
    subst (Appends a.sink.now l.sink) (joined_all a.coes.now a.masters.now a.exps.now a.mants.now long l.i c.loop-i-test.false)
    l.invariant.adds

pub returns-clause-len : goal.returns-clause-len
returns-clause-len c =
    let l = c.loop-i in
    let a = c.args in
    let long : AreLong 5 a.coes.now a.masters.now a.exps.now a.mants.now =
    record { coes = c.told-coes; masters = c.told-masters; exps = c.told-exps; mants = c.told-mants } in
    l.invariant.len ∙ ap (λ b. length a.sink.now + length b) (joined_all a.coes.now a.masters.now a.exps.now a.mants.now long l.i
    c.loop-i-test.false)
