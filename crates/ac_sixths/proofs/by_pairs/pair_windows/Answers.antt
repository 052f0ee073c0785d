use Rattle.std.proofs.Common.{◌≢◌, ◌+◌, ◌<◌, ℕ, List, length, arith, ◌∙◌}
use Rattle.ac_alloc.specs.declared.params.Params.{Params}
use Rattle.ac_sixths.specs.Runs.{column, span_sixths}
use Rattle.ac_sixths.proofs.Meanings.{sums_are, none_at, cleared}
use Rattle.ac_sixths.proofs.Keyed.{table_small}
use Rattle.ac_sixths.proofs.Paired.{pair_small}
use Rattle.ac_sixths.proofs.by_pairs.pair_windows.Goals as goal

pub returns-then-t0-eq0 : goal.returns-then-t0-eq0
returns-then-t0-eq0 c = λ (p : Params) (exps : List ℕ) run (j : ℕ) h.
    let s = c.args.span.now in
    let f = c.args.table.now.f in
    let long : 0 < length c.pair_sums-x.result = omega (arith, c.pair_sums-x.type_inv) in
    cleared c.pair_sums-x.result c.args.t0 j (span_sixths p s exps) long (omega arith) (λ e. none_at p s exps (c.args.t0 + j) e)
    (λ n. c.pair_sums-x.ensures j h ∙ sums_are f p s exps c.args.levels.now (column c.args.bases.now c.args.row) (c.args.t0 + j) c.requires.span c.requires.table run (omega arith) n)

pub returns-else-t0-eq0 : goal.returns-else-t0-eq0
returns-else-t0-eq0 c = λ (p : Params) (exps : List ℕ) run (j : ℕ) h.
    let some : c.args.t0 + j ≢ 0 = omega arith in
    c.pair_sums-x.ensures j h ∙ sums_are c.args.table.now.f p c.args.span.now exps c.args.levels.now (column c.args.bases.now c.args.row) (c.args.t0 + j) c.requires.span c.requires.table run (omega arith) some

pub pair_sums-x-requires-clause-small : goal.pair_sums-x-requires-clause-small
pair_sums-x-requires-clause-small c = table_small c.args.table.now.f c.requires.table

pub pair_sums-x-requires-clause-small_two : goal.pair_sums-x-requires-clause-small_two
pair_sums-x-requires-clause-small_two c = pair_small c.args.two.now.f c.requires.two
