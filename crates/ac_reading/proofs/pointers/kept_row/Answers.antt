use Rattle.std.proofs.Common.{◌≡◌, rules}
use Rattle.ac_alloc.specs.Pointers.{pointer}
use Rattle.ac_record.specs.Held.{is_silent, params_in, offset_of}
use Rattle.ac_reading.proofs.Keeping.{pointers_same}
use Rattle.ac_reading.proofs.Steps.{pointer_small, row_small}
use Rattle.ac_reading.proofs.pointers.kept_row.Goals as goal

pub returns-then-stays-clause-value : goal.returns-then-stays-clause-value
returns-then-stays-clause-value c =
    let h = c.args.head.now in
    let f = c.args.filled.now in
    let kept = c.args.kept.now in
    let silent : is_silent h kept.block ≡ is_silent h f = search rules in
    let same = c.stays.ensures c.if-stays.true in
    pointers_same h f c.args.span.now kept c.args.c c.args.old.now c.args.exps.now c.args.before.now same silent c.requires.span (c.requires.before same.there)

pub returns-then-stays-clause-small : goal.returns-then-stays-clause-small
returns-then-stays-clause-small c =
    let h = c.args.head.now in
    let f = c.args.filled.now in
    let s = c.args.span.now in
    row_small s (λ k. pointer (is_silent h f) (params_in h f c.args.c) s c.args.exps.now k (offset_of h f c.args.c)) c.args.before.now (returns-then-stays-clause-value c)
    (λ k. pointer_small (is_silent h f) (params_in h f c.args.c) s c.args.exps.now k (offset_of h f c.args.c))
