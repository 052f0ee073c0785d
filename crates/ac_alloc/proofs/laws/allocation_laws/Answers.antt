use Rattle.ac_alloc.proofs.Rising.{masks_are_levels, floors_are_floors, baps_rise_with_t, bap_rises}
use Rattle.ac_alloc.proofs.Reading.{masks_by_span, pointers_by_span}
use Rattle.ac_alloc.proofs.laws.allocation_laws.Goals as goal

pub returns-clause-masks : goal.returns-clause-masks
returns-clause-masks c = masks_are_levels

pub returns-clause-floors : goal.returns-clause-floors
returns-clause-floors c = floors_are_floors

pub returns-clause-masks_by_span : goal.returns-clause-masks_by_span
returns-clause-masks_by_span c = masks_by_span

pub returns-clause-pointers_by_span : goal.returns-clause-pointers_by_span
returns-clause-pointers_by_span c = pointers_by_span

pub returns-clause-levels : goal.returns-clause-levels
returns-clause-levels c = baps_rise_with_t

pub returns-clause-rises : goal.returns-clause-rises
returns-clause-rises c = bap_rises
