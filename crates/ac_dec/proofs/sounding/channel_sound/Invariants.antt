use Rattle.std.proofs.Common.{◌^◌}
use Rattle.ac_base.specs.Sigma.{Within}
use Rattle.ac_dec.specs.Sounding.{coded_block, AreSounds, AreRest}
use Rattle.ac_dec.proofs.sounding.channel_sound.Given as goal

abbrev pub invariant-loop-b : goal.invariant-loop-b
invariant-loop-b l = record {
  sound : AreSounds (coded_block l.coefs.c l.full l.used l.c) l.fn.delay l.b l.out;
  left : AreRest (coded_block l.coefs.c l.full l.used l.c) l.fn.delay l.b l.delay;
  bound : Within (2 ^ 55) 256 l.delay;
}
