use Rattle.std.proofs.Common.{ℕ, ◌<◌, ◌&&◌, Bool, Option, nat_le, nat_lt, take, length, arith, length-set, Ok, ap, ◌∙◌}
use Rattle.std.proofs.lemmas.List.{take_more_set, take_all}
use Rattle.std.proofs.lemmas.Result.{err_from_is_err_and}
use Rattle.ac_codec.specs.Codec.{Codec, flag, given, each}
use Rattle.ac_codec.proofs.Loops.{goes_on, ends, is_done}
use Rattle.ac_codec.proofs.read.bits.Goals as goal

abbrev rows : ℕ → ℕ → ℕ → Codec (Option Bool)
rows from to i = given (nat_le from i && nat_lt i to) flag

pub returns-in_err-all : goal.returns-in_err-all
returns-in_err-all c =
    let p = err_from_is_err_and c.from_residual.result c.from_residual.ensures.1 in
    let l = c.loop-i in
    let row = rows c.args.from c.args.to in
    rw (p.1, p.2) (ends row (take l.i l.all) 18 l.i l.source c.in_err-all.field-0.0 c.optional_bit.new.source
    ((each 18 0 row).read c.args.source.now) c.loop-i-test.true (rw (← c.within-there.ensures) c.in_err-all.ensures) l.invariant.reads)

pub loop-i-preserved : goal.loop-i-preserved
loop-i-preserved c =
    let l = c.loop-i in
    let row = rows c.args.from c.args.to in
    let room : l.i < length l.all = omega arith in
    let more =
    goes_on row (take l.i l.all) c.in_ok-all.field-0 18 l.i l.source c.optional_bit.new.source ((each 18 0 row).read c.args.source.now)
    c.loop-i-test.true (rw (← c.within-there.ensures) c.in_ok-all.ensures) l.invariant.reads in
    record {
      reads = rw (take_more_set l.all l.i c.in_ok-all.field-0 room) more;
      whole = length-set l.all l.i c.in_ok-all.field-0 ∙ l.invariant.whole;
    }

pub returns : goal.returns
returns c =
    let l = c.loop-i in
    is_done (rows c.args.from c.args.to) (take l.i l.all) 18 l.i l.source ((each 18 0 (rows c.args.from c.args.to)).read c.args.source.now)
    c.loop-i-test.false l.invariant.reads
    ∙ ap (λ x. Ok (x, l.source)) (take_all l.i l.all (omega arith))
