use Rattle.std.proofs.Common.{◌+◌, ℕ, subst}
use Rattle.std.proofs.lemmas.Result.{err_from_is_err_and}
use Rattle.ac_riff.specs.Pieces.{IsUntaken}
use Rattle.ac_riff.proofs.Stops.{sized_stops}
use Rattle.ac_riff.proofs.head.pass_chunk.Goals as goal

pub returns-in_err-pass_over-clause-cause : goal.returns-in_err-pass_over-clause-cause
returns-in_err-pass_over-clause-cause g c = λ bytes r at nd e.
    let p = err_from_is_err_and c.from_residual.result c.from_residual.ensures.1 in
    let u = c.in_err-pass_over.ensures.cause bytes at in
    let u' = subst (λ (n : ℕ). IsUntaken bytes (c.args.place + 8) n c.args.limit c.in_err-pass_over.field-0.0) c.padded-padded.ensures.value u in
    rw (p.1, p.2) (sized_stops bytes c.args.place c.args.limit c.args.chunk.now.size _ r c.requires at.within nd e u')
