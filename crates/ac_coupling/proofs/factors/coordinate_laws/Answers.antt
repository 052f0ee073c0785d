use Rattle.ac_coupling.proofs.Search.{search_gives, one_coordinate}
use Rattle.ac_coupling.proofs.factors.coordinate_laws.Goals as goal

pub returns-clause-search : goal.returns-clause-search
returns-clause-search c = search_gives

pub returns-clause-one : goal.returns-clause-one
returns-clause-one c = one_coordinate
