use Rattle.std.proofs.Common.{◌≡◌, ◌+◌, ◌-◌, ◌≤◌, ◌++◌, take}
use Rattle.std.specs.Prelude.{not}
use Rattle.ac_base.specs.Shape.{full_of, count_of}
use Rattle.ac_rows.specs.Groups.{strategy_of}
use Rattle.ac_rows.specs.Filled.{holds, is_coupled}
use Rattle.ac_record.specs.Order.{with_coupling}
use Rattle.ac_reading.proofs.order.full_order.Given as goal

abbrev pub invariant-loop-i : goal.invariant-loop-i
invariant-loop-i l =
    record {
      whole : take l.count l.out ++ with_coupling (is_coupled (strategy_of l.block)) (full_of l.head.acmod) l.came l.i (full_of l.head.acmod - l.i)
          ≡ with_coupling (is_coupled (strategy_of l.block)) (full_of l.head.acmod) (not (holds l.block.cplinu)) 0 (full_of l.head.acmod);
      few : l.count ≤ l.i + count_of l.came;
    }
