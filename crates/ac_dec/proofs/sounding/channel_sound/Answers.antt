use Rattle.std.proofs.Common.{[], slice_index_or, ap, sym, arith}
use Rattle.ac_dec.specs.Sounding.{coded_block}
use Rattle.ac_dec.proofs.Lists.{delay_first}
use Rattle.ac_dec.proofs.Pieces.{sounds_more, rest_more}
use Rattle.ac_dec.proofs.sounding.channel_sound.Goals as goal

pub loop-b-init : goal.loop-b-init
loop-b-init c = record { sound = λ b t lt below. absurd (omega (arith, lt)); left = λ t below. sym (delay_first c.args.delay.now _ t); bound = c.requires.delay }

pub loop-b-preserved : goal.loop-b-preserved
loop-b-preserved c =
    let l = c.loop-b in
    let blocks = coded_block c.args.coefs.now.c c.args.full c.args.used.now c.args.c in
    let same = ap (λ r. slice_index_or (slice_index_or c.args.coefs.now.c r []) l.b []) c.row_at-row.ensures.value in
    record {
      sound = sounds_more blocks c.args.delay.now l.delay _ l.b l.out c.block_sound.new.out same l.invariant.sound l.invariant.left c.block_sound.ensures.sound c.block_sound.ensures.rest;
      left = rest_more blocks c.args.delay.now c.block_sound.new.delay _ l.b same c.block_sound.ensures.delay;
      bound = c.block_sound.ensures.bound;
    }
