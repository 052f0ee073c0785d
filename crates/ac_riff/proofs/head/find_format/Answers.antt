use Rattle.std.proofs.Common.{inl, subst, arith, drop}
use Rattle.std.proofs.lemmas.Result.{err_from_is_err_and}
use Rattle.ac_riff.specs.declared.chunk.Name.{Name}
use Rattle.ac_riff.specs.Form.{name_of}
use Rattle.ac_riff.specs.Pieces.{NameIs}
use Rattle.ac_riff.proofs.Stops.{no_chunk_stops, no_format_stops, open_next}
use Rattle.std.proofs.Common.{sym, ◌∙◌}
use Rattle.std.specs.Prelude.{◌≢◌, codes}
use Rattle.ac_riff.proofs.Stops.{names_differ}
use Rattle.ac_riff.proofs.Before.{at_most_more, handed, head_behind, chunk_behind}
use Rattle.ac_riff.proofs.head.find_format.Goals as goal

pub returns-in_err-chunk-clause-cause : goal.returns-in_err-chunk-clause-cause
returns-in_err-chunk-clause-cause g c = λ bytes o at.
    let p = err_from_is_err_and c.from_residual.result c.from_residual.ensures.1 in
    let before = c.loop-chunk.invariant.told bytes o at in
    rw (p.1, p.2) (no_chunk_stops bytes c.loop-chunk.place c.args.limit _ (inl before.0) c.loop-chunk.invariant.room before.1.within (c.in_err-chunk.ensures.cause bytes before.1))

pub returns-in-Samples-clause-cause : goal.returns-in-Samples-clause-cause
returns-in-Samples-clause-cause g c = λ bytes o at.
    let before = c.loop-chunk.invariant.told bytes o at in
    let r = c.in_ok-chunk.ensures.told bytes before.1 in
    let named = subst (λ (n : Name). NameIs n (name_of (drop c.loop-chunk.place bytes))) c.in-Samples.is r.named in
    no_format_stops bytes c.loop-chunk.place c.args.limit before.0 c.in_ok-chunk.ensures.bound r.at.within named

pub loop-chunk-preserved : goal.loop-chunk-preserved
loop-chunk-preserved g c = record {
  room = c.in_ok-place-in-Other.ensures.bound;
  told = λ bytes o at.
      let before = c.loop-chunk.invariant.told bytes o at in
      let r = c.in_ok-chunk.ensures.told bytes before.1 in
      let named = subst (λ (n : Name). NameIs n (name_of (drop c.loop-chunk.place bytes))) c.in-Other.is r.named in
      let passed = c.in_ok-place-in-Other.ensures.told bytes (inl before.0) r.at named.1 r.size_is in
      (open_next bytes c.loop-chunk.place c.in_ok-place-in-Other.place c.in_ok-chunk.chunk.size _ before.0 named.0 named.1 r.size_is c.in_ok-place-in-Other.ensures.value passed, passed);
  faults = omega (arith, c.in_ok-place-in-Other.ensures.never_falls, c.in_ok-chunk.ensures.never_falls, c.loop-chunk.invariant.faults);
}

pub returns-in_err-chunk-clause-before_data : goal.returns-in_err-chunk-clause-before_data
returns-in_err-chunk-clause-before_data g c = λ bytes head o at is.
    let p = err_from_is_err_and c.from_residual.result c.from_residual.ensures.1 in
    let before = c.loop-chunk.invariant.told bytes o at in
    rw (p.1, p.2) (λ failed. at_most_more bytes _ head.taken _ (head_behind bytes head c.loop-chunk.place (inl before.0) is) (c.in_err-chunk.ensures.no_further bytes before.1 (handed c.in_err-chunk.field-0.0 failed)))

pub returns-in-Format-clause-before_data : goal.returns-in-Format-clause-before_data
returns-in-Format-clause-before_data g c = λ bytes head o at is failed.
    let before = c.loop-chunk.invariant.told bytes o at in
    let r = c.in_ok-chunk.ensures.told bytes before.1 in
    let named = subst (λ (n : Name). NameIs n (name_of (drop c.loop-chunk.place bytes))) c.in-Format.is r.named in
    let nd : name_of (drop c.loop-chunk.place bytes) ≢ codes "data" = λ same. names_differ (sym named ∙ same) in
    at_most_more bytes _ head.taken _ (chunk_behind bytes head c.loop-chunk.place c.in_ok-chunk.chunk.size (inl before.0) is nd r.size_is) (c.accept.ensures.no_further bytes r.at failed)

pub returns-in_err-place-in-Other-clause-before_data : goal.returns-in_err-place-in-Other-clause-before_data
returns-in_err-place-in-Other-clause-before_data g c = λ bytes head o at is.
    let p = err_from_is_err_and c.from_residual-in_err-place-in-Other.result c.from_residual-in_err-place-in-Other.ensures.1 in
    let before = c.loop-chunk.invariant.told bytes o at in
    let r = c.in_ok-chunk.ensures.told bytes before.1 in
    let named = subst (λ (n : Name). NameIs n (name_of (drop c.loop-chunk.place bytes))) c.in-Other.is r.named in
    rw (p.1, p.2) (λ failed. at_most_more bytes _ head.taken _ (chunk_behind bytes head c.loop-chunk.place c.in_ok-chunk.chunk.size (inl before.0) is named.1 r.size_is) (c.in_err-place-in-Other.ensures.no_further bytes r.at (handed c.in_err-place-in-Other.field-0.0 failed)))
