use Rattle.std.proofs.Common.{◌≤◌, ◌^◌, ℤ, unsigned_abs, arith, sym, ◌∙◌, subst}
use Rattle.ac_convolution.specs.Negacyclic.{items}
use Rattle.ac_convolution.specs.Transform.{low_of, high_of}
use Rattle.ac_convolution.proofs.Whole.{low_bound, high_bound, table_same}
use Rattle.ac_convolution.proofs.table.kernel_table.Goals as goal

pub table-requires : goal.table-requires
table-requires c = λ i below.
    let bound = low_bound (items c.args.h.now i) in
    subst (λ (z : ℤ). unsigned_abs z ≤ 2 ^ 15) (sym (c.lows.ensures i below)) (omega arith)

pub table-requires-2 : goal.table-requires-2
table-requires-2 c = λ i below.
    let bound = high_bound (items c.args.h.now i) (c.requires i below) in
    subst (λ (z : ℤ). unsigned_abs z ≤ 2 ^ 15) (sym (c.highs.ensures i below)) bound

pub returns : goal.returns
returns c =
    let h = items c.args.h.now in (
      (λ e below n within. c.table.ensures e below n within ∙ table_same (items c.lows.result) (λ i. low_of (h i)) c.lows.ensures e n within),
      (λ e below n within. c.table-2.ensures e below n within ∙ table_same (items c.highs.result) (λ i. high_of (h i)) c.highs.ensures e n within),
    )
