use Rattle.std.proofs.Common.{◌≡◌, ◌+◌, ◌-◌, ◌*◌, length, ap, ◌∙◌, arith}
use Rattle.std.proofs.lemmas.Slice.{take-put_mid_below, drop-put_mid}
use Rattle.ac_dec.proofs.Pieces.{outside_same}
use Rattle.ac_dec.proofs.sounding.block_sound.Goals as goal

pub returns-clause-rest : goal.returns-clause-rest
returns-clause-rest c =
    let b = c.args.b in
    let few = c.requires.block in
    let long : length c.copy_from_slice.new.self ≡ 256 * b + 256 - 256 * b = ap length c.copy_from_slice.ensures.after ∙ (c.inverse.array_long2 ∙ omega arith) in
    let size = c.told-out in
    outside_same c.args.out.now _ (256 * b) (256 * b + 256)
    (take-put_mid_below (256 * b) (256 * b + 256 - 256 * b) c.args.out.now c.copy_from_slice.new.self (256 * b) (omega arith) (omega (arith, few, size)))
    (drop-put_mid (256 * b) (256 * b + 256 - 256 * b) c.args.out.now c.copy_from_slice.new.self (256 * b + 256) (omega arith) (omega (arith, few, size)) long)
