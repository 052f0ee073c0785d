use Rattle.std.proofs.Common.{◌<◌, take, length, arith, length-set, Ok, List, ℕ, ap, ◌∙◌}
use Rattle.std.proofs.lemmas.List.{take_more_set, take_all}
use Rattle.std.proofs.lemmas.Result.{err_from_is_err_and}
use Rattle.ac_cert_text.specs.Codec.{each}
use Rattle.ac_cert_text.specs.Text.{fields_of, raw_lines, raws}
use Rattle.ac_cert_text.proofs.Loops.{goes_on, fails, is_done}
use Rattle.ac_cert_text.proofs.raws.raws.Goals as goal

pub returns-in_err-next : goal.returns-in_err-next
unfolding raws
returns-in_err-next c =
    let p = err_from_is_err_and c.from_residual.result c.from_residual.ensures.1 in
    let l = c.loop-c in
    let row = raw_lines (fields_of c.args.shape.now) in
    rw (p.1, p.2) (fails row (take l.c l.raw.e) 7 l.c l.cursor.rest.now c.raw_lines.new.cursor.rest.now c.in_err-next.field-0.0 ((each 7 0 row).read c.args.cursor.now.rest.now) c.loop-c-test.true c.in_err-next.ensures l.invariant.reads)

pub loop-c-preserved : goal.loop-c-preserved
loop-c-preserved c =
    let l = c.loop-c in
    let row = raw_lines (fields_of c.args.shape.now) in
    let room : l.c < length l.raw.e = omega arith in
    let more = goes_on row (take l.c l.raw.e) c.in_ok-next.next 7 l.c l.cursor.rest.now c.raw_lines.new.cursor.rest.now ((each 7 0 row).read c.args.cursor.now.rest.now) c.loop-c-test.true c.in_ok-next.ensures l.invariant.reads in
    record {
      reads = rw (take_more_set l.raw.e l.c c.in_ok-next.next room) more;
      whole = length-set l.raw.e l.c c.in_ok-next.next ∙ l.invariant.whole;
    }

pub returns : goal.returns
unfolding raws
returns c =
    let l = c.loop-c in
    let row = raw_lines (fields_of c.args.shape.now) in
    is_done row (take l.c l.raw.e) 7 l.c l.cursor.rest.now ((each 7 0 row).read c.args.cursor.now.rest.now) c.loop-c-test.false l.invariant.reads
    ∙ ap (λ (x : List (List (List ℕ))). Ok (x, l.cursor.rest.now)) (take_all l.c l.raw.e (omega arith))
