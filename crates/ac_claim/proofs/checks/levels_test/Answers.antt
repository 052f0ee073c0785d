use Rattle.std.proofs.Common.{◌≡◌, ◌+◌, ◌-◌, drop, sym, ap, ◌∙◌, arith}
use Rattle.std.proofs.lemmas.Result.{err_from_is_err_and}
use Rattle.ac_base.specs.declared.shapes.Shape.{Shape}
use Rattle.ac_cost.specs.Records.{AtOffset, at_offset}
use Rattle.ac_claim.specs.Tests.{level_no, levels_no, result_of}
use Rattle.ac_claim.proofs.Answering.{first_fails, ok_none}
use Rattle.ac_claim.proofs.Claiming.{levels-step}
use Rattle.ac_claim.proofs.Firsts.{or-none}
use Rattle.ac_claim.proofs.checks.levels_test.Goals as goal

pub returns-in_err-level_test : goal.returns-in_err-level_test
returns-in_err-level_test c =
    let shape = c.args.shape.now in
    let raw = c.args.lists.now.raw in
    let old = c.loop-level in
    let level = c.level-item.result in
    let later = levels_no shape raw (old.t - 1) (drop (old.level-index + 1) c.args.levels.now) in
    let table : c.at-table.result ≡ at_offset shape raw old.t = c.at-table.ensures.value ∙ ap (λ (s : Shape). at_offset s raw old.t) c.requires.same in
    let bad = c.in_err-level_test.ensures ∙ ap (λ (v : AtOffset). result_of (level_no v level)) table in
    let step = levels-step shape raw old.t old.level-index level c.args.levels.now c.loop-level-test.true c.level-item.is in
    let p = err_from_is_err_and c.from_residual.result c.from_residual.ensures.1 in
    rw (p.1, p.2) (first_fails (level_no (at_offset shape raw old.t) level) later c.in_err-level_test.field-0.0 bad ∙ ap result_of (sym step ∙ old.invariant.rest))

pub loop-level-preserved : goal.loop-level-preserved
loop-level-preserved c =
    let shape = c.args.shape.now in
    let raw = c.args.lists.now.raw in
    let old = c.loop-level in
    let level = c.level-item.result in
    let rest = drop (old.level-index + 1) c.args.levels.now in
    let here = level_no (at_offset shape raw old.t) level in
    let table : c.at-table.result ≡ at_offset shape raw old.t = c.at-table.ensures.value ∙ ap (λ (s : Shape). at_offset s raw old.t) c.requires.same in
    let good = c.in_ok-level_test.ensures ∙ ap (λ (v : AtOffset). result_of (level_no v level)) table in
    let step = levels-step shape raw old.t old.level-index level c.args.levels.now c.loop-level-test.true c.level-item.is in
    record {
      within = omega (arith, c.saturating_sub-t.ensures, old.invariant.within);
      rest = ap (λ k. levels_no shape raw k rest) c.saturating_sub-t.ensures ∙ (sym (or-none here (levels_no shape raw (old.t - 1) rest) (ok_none here c.in_ok-level_test.field-0 good)) ∙ (sym step ∙ old.invariant.rest));
    }
