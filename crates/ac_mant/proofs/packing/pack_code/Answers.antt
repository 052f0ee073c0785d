use Rattle.std.proofs.Common.{◌≡◌, arith, rules}
use Rattle.ac_mant.specs.Groups.{zeros, number, number_width}
use Rattle.ac_mant.proofs.Numbers.{number_fits, number_width_most}
use Rattle.ac_mant.proofs.packing.pack_code.Goals as goal

pub write-requires-clause-width : goal.write-requires-clause-width
write-requires-clause-width c =
    let w : c.from-2.result ≡ number_width c.args.ahead c.args.x.bap = search rules in
    omega (arith, w, number_width_most c.args.ahead c.args.x.bap c.requires.coded.pointer)

pub write-requires-clause-fits : goal.write-requires-clause-fits
write-requires-clause-fits c =
    let n : c.from.result ≡ number zeros c.args.ahead c.args.x c.args.rest.now = search rules in
    let w : c.from-2.result ≡ number_width c.args.ahead c.args.x.bap = search rules in
    rw n (rw w (number_fits c.args.ahead c.args.x c.args.rest.now c.requires.coded c.requires.others))
