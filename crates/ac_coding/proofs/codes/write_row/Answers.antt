use Rattle.std.proofs.Common.{◌≡◌, ℕ, pos, slice_index, slice_index_or, arith}
use Rattle.std.proofs.lemmas.Grind.{common_steps}
use Rattle.ac_mant.specs.Quantiser.{code_of}
use Rattle.ac_base.proofs.SpanBounds.{span_end}
use Rattle.ac_coding.proofs.Written.{put_none, put_more, put_all}
use Rattle.ac_coding.proofs.codes.write_row.Goals as goal

pub loop-k-init : goal.loop-k-init
loop-k-init c =
    let f : ℕ → ℕ = λ j. code_of (slice_index_or c.args.coefs.now j (pos 0)) (slice_index c.args.exps.now j) (slice_index c.args.pointers.now j) in
    put_none c.args.span.now f c.from-k.result c.from-k.ensures

pub loop-k-preserved : goal.loop-k-preserved
loop-k-preserved c =
    let f : ℕ → ℕ = λ j. code_of (slice_index_or c.args.coefs.now j (pos 0)) (slice_index c.args.exps.now j) (slice_index c.args.pointers.now j) in
    let k = c.loop-k.k in
    let end = span_end c.args.span.now c.requires.span in
    let value : c.quantise.result ≡ f k = grind (arith, common_steps) in
    put_more c.args.span.now f c.loop-k.out k c.quantise.result (omega arith, omega arith) (omega arith) value c.loop-k.invariant

pub returns : goal.returns
returns c =
    let f : ℕ → ℕ = λ j. code_of (slice_index_or c.args.coefs.now j (pos 0)) (slice_index c.args.exps.now j) (slice_index c.args.pointers.now j) in
    put_all c.args.span.now f c.loop-k.out c.loop-k.k (omega arith) c.loop-k.invariant
