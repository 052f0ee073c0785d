use Rattle.std.specs.Prelude.{None}
use Rattle.std.proofs.lemmas.Result.{err_from_is_err_and}
use Rattle.ac_riff.proofs.Chunks.{open_first}
use Rattle.ac_riff.proofs.Fine.{fine}
use Rattle.ac_riff.proofs.Stops.{head_read}
use Rattle.ac_riff.proofs.Exact.{read_exactly}
use Rattle.std.specs.Prelude.{Ok, Err}
use Rattle.ac_riff.proofs.Before.{at_most_more, handed, riff_behind, before_data}
use Rattle.ac_riff.proofs.head.WavHead.read.Goals as goal

pub returns-in_err-samples-clause-cause : goal.returns-in_err-samples-clause-cause
returns-in_err-samples-clause-cause g c = λ bytes e.
    let p = err_from_is_err_and c.from_residual-in_err-samples.result c.from_residual-in_err-samples.ensures.1 in
    let r = c.in_ok-read_riff.ensures.told bytes e in
    let f = c.in_ok-found.ensures.told bytes (open_first bytes r.0) r.1 in
    rw (p.1, p.2) (c.in_err-samples.ensures.cause bytes f.chunk f.formatted f.at)

pub head-requires : goal.head-requires
head-requires g c = fine c.in_ok-found.found.format c.in_ok-found.ensures.fine

pub returns-clause-told : goal.returns-clause-told
returns-clause-told g c = λ bytes e.
    let r = c.in_ok-read_riff.ensures.told bytes e in
    let f = c.in_ok-found.ensures.told bytes (open_first bytes r.0) r.1 in
    head_read bytes c.args.limit c.in_ok-found.found c.in_ok-samples.samples _ _ c.head.result f (c.in_ok-samples.ensures.told bytes f.chunk f.formatted f.at) c.in_ok-samples.ensures.bound c.head.ensures.says

pub returns-clause-complete : goal.returns-clause-complete
returns-clause-complete g c = λ bytes e nf. read_exactly bytes c.args.limit _ _ (returns-clause-told g c bytes e) nf

pub returns-in_err-samples-clause-complete : goal.returns-in_err-samples-clause-complete
returns-in_err-samples-clause-complete g c = λ bytes e nf.
    let p = err_from_is_err_and c.from_residual-in_err-samples.result c.from_residual-in_err-samples.ensures.1 in
    let r = c.in_ok-read_riff.ensures.told bytes e in
    let f = c.in_ok-found.ensures.told bytes (open_first bytes r.0) r.1 in
    read_exactly bytes c.args.limit None _ (rw (p.1, p.2) (c.in_err-samples.ensures.cause bytes f.chunk f.formatted f.at)) nf

pub returns-in_err-read_riff-clause-complete : goal.returns-in_err-read_riff-clause-complete
returns-in_err-read_riff-clause-complete g c = λ bytes e nf.
    let p = err_from_is_err_and c.from_residual.result c.from_residual.ensures.1 in
    read_exactly bytes c.args.limit None _ (rw (p.1, p.2) (c.in_err-read_riff.ensures.cause bytes e)) nf

pub returns-in_err-found-clause-complete : goal.returns-in_err-found-clause-complete
returns-in_err-found-clause-complete g c = λ bytes e nf.
    let p = err_from_is_err_and c.from_residual-in_err-found.result c.from_residual-in_err-found.ensures.1 in
    let r = c.in_ok-read_riff.ensures.told bytes e in
    read_exactly bytes c.args.limit None _ (rw (p.1, p.2) (c.in_err-found.ensures.cause bytes (open_first bytes r.0) r.1)) nf

pub returns-in_err-samples-clause-most_read : goal.returns-in_err-samples-clause-most_read
returns-in_err-samples-clause-most_read g c = λ bytes e.
    let r = c.in_ok-read_riff.ensures.told bytes e in
    let f = c.in_ok-found.ensures.told bytes (open_first bytes r.0) r.1 in
    c.in_err-samples.ensures.most_read bytes f.chunk f.formatted f.at

pub returns-clause-most_read : goal.returns-clause-most_read
returns-clause-most_read g c = λ bytes e.
    let r = c.in_ok-read_riff.ensures.told bytes e in
    let f = c.in_ok-found.ensures.told bytes (open_first bytes r.0) r.1 in
    c.in_ok-samples.ensures.most_read bytes f.chunk f.formatted f.at

pub returns-in_err-samples-clause-told : goal.returns-in_err-samples-clause-told
returns-in_err-samples-clause-told g c = λ bytes e.
    let p = err_from_is_err_and c.from_residual-in_err-samples.result c.from_residual-in_err-samples.ensures.1 in
    let r = c.in_ok-read_riff.ensures.told bytes e in
    let f = c.in_ok-found.ensures.told bytes (open_first bytes r.0) r.1 in
    rw (p.1, p.2) (c.in_err-samples.ensures.told bytes f.chunk f.formatted f.at)

pub returns-in_err-read_riff-clause-before_data : goal.returns-in_err-read_riff-clause-before_data
returns-in_err-read_riff-clause-before_data g c = λ bytes head e is.
    let p = err_from_is_err_and c.from_residual.result c.from_residual.ensures.1 in
    before_data bytes c.args.limit head (Err c.in_err-read_riff.field-0.0) _ is (c.in_err-read_riff.ensures.cause bytes e) (c.in_err-read_riff.ensures.told bytes e)
    (λ failed. at_most_more bytes 12 head.taken _ (riff_behind bytes head is) (c.in_err-read_riff.ensures.no_further bytes e (handed c.in_err-read_riff.field-0.0 failed)))

pub returns-in_err-found-clause-before_data : goal.returns-in_err-found-clause-before_data
returns-in_err-found-clause-before_data g c = λ bytes head e is.
    let r = c.in_ok-read_riff.ensures.told bytes e in
    let o = open_first bytes r.0 in
    before_data bytes c.args.limit head (Err c.in_err-found.field-0.0) _ is (c.in_err-found.ensures.cause bytes o r.1) (c.in_err-found.ensures.told bytes o r.1)
    (λ failed. c.in_err-found.ensures.before_data bytes head o r.1 is (handed c.in_err-found.field-0.0 failed))

pub returns-in_err-samples-clause-before_data : goal.returns-in_err-samples-clause-before_data
returns-in_err-samples-clause-before_data g c = λ bytes head e is.
    let r = c.in_ok-read_riff.ensures.told bytes e in
    let f = c.in_ok-found.ensures.told bytes (open_first bytes r.0) r.1 in
    before_data bytes c.args.limit head (Err c.in_err-samples.field-0.0) _ is (c.in_err-samples.ensures.cause bytes f.chunk f.formatted f.at) (c.in_err-samples.ensures.told bytes f.chunk f.formatted f.at)
    (λ failed. c.in_err-samples.ensures.before_data bytes f.chunk head f.formatted f.at is (handed c.in_err-samples.field-0.0 failed))

pub returns-clause-before_data : goal.returns-clause-before_data
returns-clause-before_data g c = λ bytes head e is.
    before_data bytes c.args.limit head (Ok c.head.result) _ is tt (returns-clause-told g c bytes e) (λ failed. absurd cc)
