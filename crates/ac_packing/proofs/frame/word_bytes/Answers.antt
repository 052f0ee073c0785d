use Rattle.std.proofs.Common.{◌/◌, ◌%◌, ◌++◌, ap, sym, ◌∙◌}
use Rattle.std.proofs.lemmas.List.{append-nil}
use Rattle.ac_bits.specs.Bits.{bits}
use Rattle.ac_bits.proofs.Laws.{bits-split}
use Rattle.ac_packing.proofs.frame.word_bytes.Goals as goal

pub returns-clause-bits : goal.returns-clause-bits
returns-clause-bits c =
    let w = c.args.word in
    ap (λ l. bits (w / 256) 8 ++ l) (append-nil (bits (w % 256) 8)) ∙ sym (bits-split w 8 8)
