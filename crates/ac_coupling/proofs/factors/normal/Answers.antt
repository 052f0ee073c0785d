use Rattle.std.proofs.Common.{◌-◌, ◌/◌, ◌^◌, ℕ, arith}
use Rattle.ac_coupling.proofs.Nearest.{is_normal, normal_factor, greatest_normal}
use Rattle.ac_coupling.proofs.factors.normal.Goals as goal

pub overflow_sub-shift : goal.overflow_sub-shift
overflow_sub-shift c =
    (is_normal c.args.limit c.ilog2-shift.result c.requires.least c.requires.most c.ilog2-shift.ensures.power_le c.ilog2-shift.ensures.next_power_gt).least_bit

pub overflow_sub-result : goal.overflow_sub-result
overflow_sub-result c =
    (is_normal c.args.limit c.ilog2-shift.result c.requires.least c.requires.most c.ilog2-shift.ensures.power_le c.ilog2-shift.ensures.next_power_gt).most_bit

pub overflow_sub-result-2 : goal.overflow_sub-result-2
overflow_sub-result-2 c =
    (is_normal c.args.limit c.ilog2-shift.result c.requires.least c.requires.most c.ilog2-shift.ensures.power_le c.ilog2-shift.ensures.next_power_gt).least

pub overflow_cast-result-3 : goal.overflow_cast-result-3
overflow_cast-result-3 c =
    let n = is_normal c.args.limit c.ilog2-shift.result c.requires.least c.requires.most c.ilog2-shift.ensures.power_le c.ilog2-shift.ensures.next_power_gt in
    omega (arith, n.most)

pub returns-clause-mant : goal.returns-clause-mant
returns-clause-mant c =
    let n = is_normal c.args.limit c.ilog2-shift.result c.requires.least c.requires.most c.ilog2-shift.ensures.power_le c.ilog2-shift.ensures.next_power_gt in
    omega (arith, n.most)

pub returns-clause-within : goal.returns-clause-within
returns-clause-within c =
    let n = is_normal c.args.limit c.ilog2-shift.result c.requires.least c.requires.most c.ilog2-shift.ensures.power_le c.ilog2-shift.ensures.next_power_gt in
    let shift = c.ilog2-shift.result - 4 in
    let is = normal_factor shift (c.args.limit / 2 ^ shift) n.most_bit n.least in
    omega (arith, is, n.below)

pub returns-clause-greatest : goal.returns-clause-greatest
returns-clause-greatest c =
    λ (exp mant : ℕ) e m within.
    let n = is_normal c.args.limit c.ilog2-shift.result c.requires.least c.requires.most c.ilog2-shift.ensures.power_le c.ilog2-shift.ensures.next_power_gt in
    let shift = c.ilog2-shift.result - 4 in
    let is = normal_factor shift (c.args.limit / 2 ^ shift) n.most_bit n.least in
    let g = greatest_normal c.args.limit shift (c.args.limit / 2 ^ shift) n.least n.most n.below n.above exp mant e m within in
    omega (arith, is, g)
