use Rattle.std.proofs.Common.{◌≡◌, ◌+◌, arith, rules, ap, ◌∙◌}
use Rattle.ac_levels.specs.Rows.{ranges_before}
use Rattle.ac_levels.proofs.Filling.{before, before_six, kind_start, kind_more}
use Rattle.ac_levels.proofs.rows.fill_kind.Goals as goal

pub loop-from-init : goal.loop-from-init
loop-from-init c = kind_start c.args.blocks.now c.args.start c.args.out.now (search rules)

pub fill_from-requires-clause-room : goal.fill_from-requires-clause-room
fill_from-requires-clause-room c = omega (arith, c.requires, c.loop-from.invariant.place, before c.loop-from.from 6 (omega arith), before_six)

pub overflow_add-at : goal.overflow_add-at
overflow_add-at c = omega (arith, c.requires, c.loop-from.invariant.place, before c.loop-from.from 6 (omega arith), before_six)

pub loop-from-preserved : goal.loop-from-preserved
loop-from-preserved c =
    kind_more c.args.blocks.now c.args.start c.loop-from.from c.loop-from.at c.args.out.now c.loop-from.out c.fill_from.new.out (omega arith) (search rules) c.fill_from.ensures.rows c.fill_from.ensures.others c.loop-from.invariant

pub returns-clause-others : goal.returns-clause-others
returns-clause-others c =
    let six : c.loop-from.from ≡ 6 = omega (arith, c.loop-from-test.false, c.loop-from.auto.from-end) in
    let end : c.loop-from.at ≡ c.args.start + 21 = c.loop-from.invariant.place ∙ ap (λ n. c.args.start + ranges_before n) six ∙ ap (λ n. c.args.start + n) before_six in
    (c.loop-from.invariant.others.0, λ r h. c.loop-from.invariant.others.1 r (omega arith))
