use Rattle.std.proofs.Common.{arith, sym, ◌∙◌, inl}
use Rattle.std.specs.Prelude.{◌≢◌, codes, drop}
use Rattle.std.proofs.lemmas.Result.{err_from_is_err_and}
use Rattle.ac_riff.specs.Form.{name_of}
use Rattle.ac_riff.proofs.Stops.{sized_stops, faulty_stops, found, names_differ}
use Rattle.ac_riff.proofs.head.accept.Goals as goal

pub returns-in_err-format-clause-cause : goal.returns-in_err-format-clause-cause
returns-in_err-format-clause-cause g c = λ bytes o at named e.
    let p = err_from_is_err_and c.from_residual.result c.from_residual.ensures.1 in
    let u = c.in_err-format.ensures.cause bytes at e in
    let nd : name_of (drop c.args.place bytes) ≢ codes "data" = λ same. names_differ (sym named ∙ same) in
    rw (p.1, p.2) (sized_stops bytes c.args.place c.args.limit c.args.size _ (inl o) c.requires at.within nd e u)

pub returns-in-Some-clause-cause : goal.returns-in-Some-clause-cause
returns-in-Some-clause-cause g c = λ bytes o at named e.
    faulty_stops bytes c.args.place c.args.limit c.args.size c.in_ok-format.format c.in-Some.fault _ o named e (c.in_ok-format.ensures.told bytes at e) c.in_ok-format.ensures.bound c.in-Some.ensures.value c.in-Some.ensures.kind

pub returns-in-None-clause-told : goal.returns-in-None-clause-told
returns-in-None-clause-told g c = λ bytes o at named e.
    found bytes c.args.place c.args.size _ c.in_ok-format.format _ o named e (c.in_ok-format.ensures.told bytes at e) (sym c.in-None.ensures.value) (omega arith)
