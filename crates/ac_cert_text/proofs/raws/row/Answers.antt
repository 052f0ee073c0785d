use Rattle.std.proofs.Common.{◌<◌, take, length, arith, length-set, Ok, List, ℕ, ap, ◌∙◌}
use Rattle.std.proofs.lemmas.List.{take_more_set, take_all}
use Rattle.std.proofs.lemmas.Result.{err_from_is_err_and}
use Rattle.ac_cert_text.specs.Codec.{each}
use Rattle.ac_cert_text.specs.Text.{bin, row}
use Rattle.ac_cert_text.proofs.Loops.{goes_on, fails, is_done}
use Rattle.ac_cert_text.proofs.raws.row.Goals as goal

pub returns-in_err-row : goal.returns-in_err-row
unfolding row
returns-in_err-row c =
    let p = err_from_is_err_and c.from_residual.result c.from_residual.ensures.1 in
    let l = c.loop-k in
    rw (p.1, p.2) (fails (bin c.args.span.now) (take l.k l.row) 256 l.k l.cursor.rest.now c.bin.new.cursor.rest.now c.in_err-row.field-0.0 ((each 256 0 (bin c.args.span.now)).read c.args.cursor.now.rest.now) c.loop-k-test.true c.in_err-row.ensures l.invariant.reads)

pub loop-k-preserved : goal.loop-k-preserved
loop-k-preserved c =
    let l = c.loop-k in
    let room : l.k < length l.row = omega arith in
    let more = goes_on (bin c.args.span.now) (take l.k l.row) c.in_ok-row.field-0 256 l.k l.cursor.rest.now c.bin.new.cursor.rest.now ((each 256 0 (bin c.args.span.now)).read c.args.cursor.now.rest.now) c.loop-k-test.true c.in_ok-row.ensures l.invariant.reads in
    record {
      reads = rw (take_more_set l.row l.k c.in_ok-row.field-0 room) more;
      whole = length-set l.row l.k c.in_ok-row.field-0 ∙ l.invariant.whole;
    }

pub returns : goal.returns
unfolding row
returns c =
    let l = c.loop-k in
    is_done (bin c.args.span.now) (take l.k l.row) 256 l.k l.cursor.rest.now ((each 256 0 (bin c.args.span.now)).read c.args.cursor.now.rest.now) c.loop-k-test.false l.invariant.reads
    ∙ ap (λ (x : List ℕ). Ok (x, l.cursor.rest.now)) (take_all l.k l.row (omega arith))
