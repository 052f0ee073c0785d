-- The program's own exit codes, and the lines that it prints itself; the status lines and codes of runs are ac_app's.
use Rattle.std.specs.Prelude.{ℕ, List, codes}
use Rattle.ac_status.specs.declared.status.Status.{Status}
use Rattle.ac_status.specs.declared.status.Status.TheVariants as statuses
use Rattle.ac_words.specs.declared.fault.WordsFault.{WordsFault}
use Rattle.ac_words.specs.declared.fault.WordsFault.TheVariants.{Usage, NoMemory}

-- a name couldn't be opened or created
abbrev pub open_fault : ℕ
open_fault = 8

abbrev pub open_fault_line : List ℕ
open_fault_line = codes "status 8 open fault\n"

-- why there are no words to follow
abbrev pub status_of_words : WordsFault → Status
status_of_words Usage = statuses.Usage
status_of_words NoMemory = statuses.NoMemory
