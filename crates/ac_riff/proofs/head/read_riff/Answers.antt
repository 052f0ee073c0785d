use Rattle.std.proofs.Common.{arith}
use Rattle.ac_io.specs.Within.{IsAt}
use Rattle.std.proofs.lemmas.Result.{err_from_is_err_and}
use Rattle.ac_io.proofs.Limits.{at_most}
use Rattle.ac_riff.proofs.Stops.{riff_read, no_riff_stops, untaken_riff_stops}
use Rattle.ac_riff.proofs.head.read_riff.Goals as goal

pub returns-in_err-read_exact-clause-cause : goal.returns-in_err-read_exact-clause-cause
returns-in_err-read_exact-clause-cause g c = λ bytes e.
    let p = err_from_is_err_and c.from_residual.result c.from_residual.ensures.1 in
    let at : IsAt bytes 0 (g.S.Source.left c.args.input.now) = record { within = omega arith; left_is = e } in
    rw (p.1, p.2) (untaken_riff_stops bytes c.args.limit _ (c.in_err-read_exact.ensures.cause bytes at))

pub returns-in-None-clause-told : goal.returns-in-None-clause-told
returns-in-None-clause-told g c = λ bytes e.
    let at : IsAt bytes 0 (g.S.Source.left c.args.input.now) = record { within = omega arith; left_is = e } in
    let r = c.in_ok-read_exact.ensures.told bytes at in
    riff_read bytes c.read_exact.new.into _ r c.read_exact.auto.into c.in-None.ensures.0 c.in-None.ensures.1

pub returns-in-Some-clause-cause : goal.returns-in-Some-clause-cause
returns-in-Some-clause-cause g c = λ bytes e.
    let at : IsAt bytes 0 (g.S.Source.left c.args.input.now) = record { within = omega arith; left_is = e } in
    let r = c.in_ok-read_exact.ensures.told bytes at in
    no_riff_stops bytes c.read_exact.new.into c.args.limit c.in-Some.place _ r c.read_exact.auto.into c.in_ok-read_exact.ensures.bound c.in-Some.ensures

pub returns-in-Some-clause-told : goal.returns-in-Some-clause-told
returns-in-Some-clause-told g c = λ bytes e.
    let at : IsAt bytes 0 (g.S.Source.left c.args.input.now) = record { within = omega arith; left_is = e } in
    at_most bytes 12 c.args.limit _ c.in_ok-read_exact.ensures.bound (c.in_ok-read_exact.ensures.told bytes at).at
