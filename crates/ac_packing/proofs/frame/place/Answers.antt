use Rattle.std.proofs.Common.{◌+◌, ◌-◌, arith, length}
use Rattle.std.proofs.lemmas.Slice.{drop-put_mid}
use Rattle.ac_packing.proofs.frame.place.Goals as goal

pub returns-clause-rest : goal.returns-clause-rest
returns-clause-rest c =
    let n = c.args.at + length c.args.bytes.now in
    drop-put_mid c.args.at (n - c.args.at) c.args.out.now c.copy_from_slice.new.self n (omega arith) (omega arith) (omega arith)
