use Rattle.std.proofs.Common.{inr, subst, arith, drop, refl}
use Rattle.std.proofs.lemmas.Result.{err_from_is_err_and}
use Rattle.ac_riff.specs.declared.chunk.Name.{Name}
use Rattle.ac_riff.specs.Form.{name_of}
use Rattle.ac_riff.specs.Pieces.{NameIs}
use Rattle.ac_riff.proofs.Stops.{no_chunk_stops, formatted_next, no_data}
use Rattle.ac_riff.proofs.Before.{at_most_more, handed, head_behind, chunk_behind}
use Rattle.ac_riff.proofs.head.find_samples.Goals as goal

pub returns-in_err-chunk-clause-cause : goal.returns-in_err-chunk-clause-cause
returns-in_err-chunk-clause-cause g c = λ bytes chunk f at.
    let p = err_from_is_err_and c.from_residual.result c.from_residual.ensures.1 in
    let before = c.loop-chunk.invariant.told bytes chunk f at in
    rw (p.1, p.2) (no_chunk_stops bytes c.loop-chunk.place c.args.limit _ (inr (chunk, before.0)) c.loop-chunk.invariant.room before.1.within (c.in_err-chunk.ensures.cause bytes before.1))

pub returns-in-Samples-clause-told : goal.returns-in-Samples-clause-told
returns-in-Samples-clause-told g c = λ bytes chunk f at.
    let before = c.loop-chunk.invariant.told bytes chunk f at in
    let r = c.in_ok-chunk.ensures.told bytes before.1 in
    let named = subst (λ (n : Name). NameIs n (name_of (drop c.loop-chunk.place bytes))) c.in-Samples.is r.named in
    record { place = c.loop-chunk.place; formatted = before.0; named = named; size_is = r.size_is; place_is = refl; at = r.at }

pub returns-in_err-place-in_default-clause-cause : goal.returns-in_err-place-in_default-clause-cause
returns-in_err-place-in_default-clause-cause g c = λ bytes chunk f at.
    let p = err_from_is_err_and c.from_residual-in_err-place-in_default.result c.from_residual-in_err-place-in_default.ensures.1 in
    let before = c.loop-chunk.invariant.told bytes chunk f at in
    let r = c.in_ok-chunk.ensures.told bytes before.1 in
    rw (p.1, p.2) (c.in_err-place-in_default.ensures.cause bytes (inr (chunk, before.0)) r.at (no_data c.in_ok-chunk.chunk.name _ r.named c.in_default.not-Samples) r.size_is)

pub loop-chunk-preserved : goal.loop-chunk-preserved
loop-chunk-preserved g c = record {
  room = c.in_ok-place-in_default.ensures.bound;
  told = λ bytes chunk f at.
      let before = c.loop-chunk.invariant.told bytes chunk f at in
      let r = c.in_ok-chunk.ensures.told bytes before.1 in
      let nd = no_data c.in_ok-chunk.chunk.name _ r.named c.in_default.not-Samples in
      let passed = c.in_ok-place-in_default.ensures.told bytes (inr (chunk, before.0)) r.at nd r.size_is in
      (formatted_next bytes chunk c.loop-chunk.place c.in_ok-place-in_default.place c.in_ok-chunk.chunk.size _ before.0 nd r.size_is c.in_ok-place-in_default.ensures.value passed, passed);
  faults = omega (arith, c.in_ok-place-in_default.ensures.never_falls, c.in_ok-chunk.ensures.never_falls, c.loop-chunk.invariant.faults);
}

pub returns-in_err-chunk-clause-most_read : goal.returns-in_err-chunk-clause-most_read
returns-in_err-chunk-clause-most_read g c = λ bytes chunk f at. c.in_err-chunk.ensures.most_read bytes (c.loop-chunk.invariant.told bytes chunk f at).1

pub returns-in-Samples-clause-most_read : goal.returns-in-Samples-clause-most_read
returns-in-Samples-clause-most_read g c = λ bytes chunk f at. c.in_ok-chunk.ensures.most_read bytes (c.loop-chunk.invariant.told bytes chunk f at).1

pub returns-in_err-place-in_default-clause-most_read : goal.returns-in_err-place-in_default-clause-most_read
returns-in_err-place-in_default-clause-most_read g c = λ bytes chunk f at.
    let before = c.loop-chunk.invariant.told bytes chunk f at in
    let r = c.in_ok-chunk.ensures.told bytes before.1 in
    c.in_err-place-in_default.ensures.most_read bytes r.at

pub returns-in_err-chunk-clause-told : goal.returns-in_err-chunk-clause-told
returns-in_err-chunk-clause-told g c = λ bytes chunk f at.
    let p = err_from_is_err_and c.from_residual.result c.from_residual.ensures.1 in
    rw (p.1, p.2) (c.in_err-chunk.ensures.told bytes (c.loop-chunk.invariant.told bytes chunk f at).1)

pub returns-in_err-place-in_default-clause-told : goal.returns-in_err-place-in_default-clause-told
returns-in_err-place-in_default-clause-told g c = λ bytes chunk f at.
    let p = err_from_is_err_and c.from_residual-in_err-place-in_default.result c.from_residual-in_err-place-in_default.ensures.1 in
    let before = c.loop-chunk.invariant.told bytes chunk f at in
    let r = c.in_ok-chunk.ensures.told bytes before.1 in
    rw (p.1, p.2) (c.in_err-place-in_default.ensures.told bytes (inr (chunk, before.0)) r.at (no_data c.in_ok-chunk.chunk.name _ r.named c.in_default.not-Samples) r.size_is)

pub returns-in_err-chunk-clause-before_data : goal.returns-in_err-chunk-clause-before_data
returns-in_err-chunk-clause-before_data g c = λ bytes chunk head f at is.
    let p = err_from_is_err_and c.from_residual.result c.from_residual.ensures.1 in
    let before = c.loop-chunk.invariant.told bytes chunk f at in
    rw (p.1, p.2) (λ failed. at_most_more bytes _ head.taken _ (head_behind bytes head c.loop-chunk.place (inr (chunk, before.0)) is) (c.in_err-chunk.ensures.no_further bytes before.1 (handed c.in_err-chunk.field-0.0 failed)))

pub returns-in_err-place-in_default-clause-before_data : goal.returns-in_err-place-in_default-clause-before_data
returns-in_err-place-in_default-clause-before_data g c = λ bytes chunk head f at is.
    let p = err_from_is_err_and c.from_residual-in_err-place-in_default.result c.from_residual-in_err-place-in_default.ensures.1 in
    let before = c.loop-chunk.invariant.told bytes chunk f at in
    let r = c.in_ok-chunk.ensures.told bytes before.1 in
    let nd = no_data c.in_ok-chunk.chunk.name _ r.named c.in_default.not-Samples in
    rw (p.1, p.2) (λ failed. at_most_more bytes _ head.taken _ (chunk_behind bytes head c.loop-chunk.place c.in_ok-chunk.chunk.size (inr (chunk, before.0)) is nd r.size_is) (c.in_err-place-in_default.ensures.no_further bytes r.at (handed c.in_err-place-in_default.field-0.0 failed)))
