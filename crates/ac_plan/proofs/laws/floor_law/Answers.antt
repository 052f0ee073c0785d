use Rattle.ac_plan.proofs.Floors.{floor_below, floor_one}
use Rattle.ac_plan.proofs.laws.floor_law.Goals as goal

pub returns : goal.returns
returns c = record { root = floor_below; one = floor_one }
