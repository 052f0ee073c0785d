use Rattle.std.proofs.Common.{◌∷◌, [], ◌<◌, ap, sym, subst, None, length, take, get_or, arith, length-append}
use Rattle.ac_bits.specs.Bits.{Appends}
use Rattle.ac_bits.proofs.Laws.{appends-then}
use Rattle.ac_codec.specs.Codec.{some_spell}
use Rattle.ac_codec.specs.Lists.{spelled_each}
use Rattle.ac_codec.proofs.Spelling.{spelled_each-more, next_fits}
use Rattle.ac_codec.proofs.write.put_bits.Goals as goal

pub put_optional_bit-requires : goal.put_optional_bit-requires
put_optional_bit-requires c =
    let l = c.loop-value in
    let lt : l.value-index < length c.args.values.now = omega (arith, c.loop-value-test.true, c.told-values) in
    record {
      room = omega (
        arith,
        l.invariant.len,
        c.requires.room,
        next_fits (some_spell (λ b. b ∷ [])) c.args.values.now l.value-index None lt,
      );
    }

pub loop-value-preserved : goal.loop-value-preserved
loop-value-preserved c =
    let l = c.loop-value in
    let lt : l.value-index < length c.args.values.now = omega (arith, c.loop-value-test.true, c.told-values) in
    let more = spelled_each-more (some_spell (λ b. b ∷ [])) c.args.values.now l.value-index None lt in
    record {
      adds =
          subst (Appends c.args.sink.now c.put_optional_bit.new.sink) (sym more)
          (appends-then l.invariant.adds c.put_optional_bit.ensures.adds);
      len =
          omega (
            arith,
            l.invariant.len,
            c.put_optional_bit.ensures.len,
            ap length more,
            length-append (spelled_each (some_spell (λ b. b ∷ [])) (take l.value-index c.args.values.now))
                (some_spell (λ b. b ∷ []) (get_or c.args.values.now l.value-index None)),
          );
    }
