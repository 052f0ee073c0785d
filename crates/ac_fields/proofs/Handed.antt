-- What is handed in has what the blocks ask.
use Rattle.std.proofs.Common.{◌<◌, ℕ, arith}
use Rattle.ac_sent.specs.Asked.{IsQuantised}
use Rattle.ac_sent.specs.Values.{Quantised}
use Rattle.ac_fields.specs.Asked.{HasFields}

-- values that may be handed in for a frame have the fields of each block
pub has_fields : (q : Quantised) (b : ℕ) → IsQuantised q → b < 6 → HasFields q b
has_fields q b h lt = record {
  offset = h.offset;
  kinds = λ c coded sends. (omega (arith, sends), h.assigned.kinds c b coded lt);
  spellable = λ c coded sends. h.spellable c b coded lt sends;
}
