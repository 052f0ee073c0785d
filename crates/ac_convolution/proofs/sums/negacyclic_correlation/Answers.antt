use Rattle.std.proofs.Common.{◌≡◌, ◌≤◌, ◌+◌, ◌*◌, ◌/◌, ◌%◌, ◌^◌, ℤ, unsigned_abs, arith, sym, ap, ap₂, ◌∙◌, subst}
use Rattle.ac_convolution.specs.Negacyclic.{items, negacyclic}
use Rattle.ac_convolution.specs.Transform.{low_of, high_of, whole_of}
use Rattle.ac_convolution.proofs.Whole.{low_bound, high_bound, table_bound, half_is, sum_bound, whole_is, sum_joined}
use Rattle.ac_convolution.proofs.sums.negacyclic_correlation.Goals as goal

pub half-requires-clause-kernels : goal.half-requires-clause-kernels
half-requires-clause-kernels c =
    let h = items c.args.h.now in
    table_bound (λ i. low_of (h i)) (λ i below. let bound = low_bound (h i) in omega arith) c.args.low.now c.requires.table.0

pub half-requires-2-clause-kernels : goal.half-requires-2-clause-kernels
half-requires-2-clause-kernels c =
    let h = items c.args.h.now in
    table_bound (λ i. high_of (h i)) (λ i below. high_bound (h i) (c.requires.h i below)) c.args.high.now c.requires.table.1

pub join-requires-clause-low : goal.join-requires-clause-low
join-requires-clause-low c = λ i below k within.
    let g = items c.args.g.now in
    let h = items c.args.h.now in
    let is = c.half.ensures i below k within ∙ half_is g (λ i. low_of (h i)) c.forward.new.out c.args.low.now c.forward.ensures.value c.requires.table.0 i k below within in
    subst (λ (z : ℤ). unsigned_abs z ≤ 2 ^ 52) (sym is) (sum_bound g (λ i. low_of (h i)) c.requires.g (λ i under. let bound = low_bound (h i) in omega arith) (16 * k + i))

pub join-requires-clause-high : goal.join-requires-clause-high
join-requires-clause-high c = λ i below k within.
    let g = items c.args.g.now in
    let h = items c.args.h.now in
    let is = c.half-2.ensures i below k within ∙ half_is g (λ i. high_of (h i)) c.forward.new.out c.args.high.now c.forward.ensures.value c.requires.table.1 i k below within in
    subst (λ (z : ℤ). unsigned_abs z ≤ 2 ^ 52) (sym is) (sum_bound g (λ i. high_of (h i)) c.requires.g (λ i under. high_bound (h i) (c.requires.h i under)) (16 * k + i))

pub returns : goal.returns
returns c = λ n below.
    let g = items c.args.g.now in
    let h = items c.args.h.now in
    let low = c.half.ensures (n % 16) (omega arith) (n / 16) (omega arith) ∙ half_is g (λ i. low_of (h i)) c.forward.new.out c.args.low.now c.forward.ensures.value c.requires.table.0 (n % 16) (n / 16) (omega arith) (omega arith) in
    let high = c.half-2.ensures (n % 16) (omega arith) (n / 16) (omega arith) ∙ half_is g (λ i. high_of (h i)) c.forward.new.out c.args.high.now c.forward.ensures.value c.requires.table.1 (n % 16) (n / 16) (omega arith) (omega arith) in
    let place : 16 * (n / 16) + n % 16 ≡ n = omega arith in
    c.join.ensures n below
    ∙ ap₂ whole_of low high
    ∙ whole_is (negacyclic g (λ i. low_of (h i)) (16 * (n / 16) + n % 16)) (negacyclic g (λ i. high_of (h i)) (16 * (n / 16) + n % 16))
    ∙ sum_joined g h (16 * (n / 16) + n % 16)
    ∙ ap (λ m. negacyclic g h m) place
