use Rattle.std.proofs.Common.{◌≡◌, ◌-◌, arith, ap, ◌∙◌, sym}
use Rattle.std.proofs.lemmas.Int.{ints}
use Rattle.ac_base.specs.Cosine.{half_wave, cosine_at}
use Rattle.ac_base.proofs.Waves.{cosine_is, half_low, half_high, quarter_bound}
use Rattle.ac_base.proofs.cosine_table.cosine.Goals as goal

pub negated-requires : goal.negated-requires
negated-requires c =
    let is = c.requires (1024 - c.half_phase-q.result) (omega arith) in
    let b = quarter_bound (1024 - c.half_phase-q.result) in
    omega (arith, ints, is)

pub returns-then-q-le512-clause-value : goal.returns-then-q-le512-clause-value
returns-then-q-le512-clause-value c =
    let is = c.requires c.half_phase-q.result (omega arith) in
    let low = half_low c.half_phase-q.result (omega arith) in
    let b = quarter_bound c.half_phase-q.result in
    let wave : cosine_at c.args.phase ≡ half_wave c.half_phase-q.result = cosine_is c.args.phase ∙ ap half_wave (sym c.half_phase-q.ensures.value) in
    omega (arith, ints, is)

pub returns-then-q-le512-clause-bound : goal.returns-then-q-le512-clause-bound
returns-then-q-le512-clause-bound c =
    let is = c.requires c.half_phase-q.result (omega arith) in
    let b = quarter_bound c.half_phase-q.result in
    omega (arith, ints, is)

pub returns-else-q-le512-clause-value : goal.returns-else-q-le512-clause-value
returns-else-q-le512-clause-value c =
    let is = c.requires (1024 - c.half_phase-q.result) (omega arith) in
    let high = half_high c.half_phase-q.result (omega arith) in
    let b = quarter_bound (1024 - c.half_phase-q.result) in
    let wave : cosine_at c.args.phase ≡ half_wave c.half_phase-q.result = cosine_is c.args.phase ∙ ap half_wave (sym c.half_phase-q.ensures.value) in
    omega (arith, ints, is)

pub returns-else-q-le512-clause-bound : goal.returns-else-q-le512-clause-bound
returns-else-q-le512-clause-bound c =
    let is = c.requires (1024 - c.half_phase-q.result) (omega arith) in
    let b = quarter_bound (1024 - c.half_phase-q.result) in
    omega (arith, ints, is)
