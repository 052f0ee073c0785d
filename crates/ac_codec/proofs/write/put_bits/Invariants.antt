use Rattle.std.proofs.Common.{◌≡◌, ◌∷◌, [], ◌+◌, length, take}
use Rattle.ac_bits.specs.Bits.{Appends}
use Rattle.ac_codec.specs.Codec.{some_spell}
use Rattle.ac_codec.specs.Lists.{spelled_each}
use Rattle.ac_codec.proofs.write.put_bits.Given as goal

abbrev pub invariant-loop-value : goal.invariant-loop-value
invariant-loop-value l =
    record {
      adds : Appends l.initial.sink l.sink (spelled_each (some_spell (λ b. b ∷ [])) (take l.value-index l.values));
      len : length l.sink ≡ length l.initial.sink + length (spelled_each (some_spell (λ b. b ∷ [])) (take l.value-index l.values));
    }
