-- The last line of the report and the exit code, by the status: this project's own. Each line ends with a line feed.
use Rattle.std.specs.Prelude.{ℕ, List, ◌++◌, codes, decimal}
use Rattle.ac_base.specs.declared.sizes.Part.{Part}
use Rattle.ac_base.specs.declared.sizes.Part.TheVariants as parts
use Rattle.ac_codec.specs.declared.refused.Refused.{Refused}
use Rattle.ac_codec.specs.declared.refused.Refused.TheVariants as refused
use Rattle.ac_record.specs.declared.codes.FrameFault.{FrameFault}
use Rattle.ac_record.specs.declared.codes.FrameFault.TheVariants as faults
use Rattle.ac_riff.specs.declared.fault.WavKind.{WavKind}
use Rattle.ac_riff.specs.declared.fault.WavKind.TheVariants as kinds
use Rattle.ac_status.specs.declared.status.Status.{Status}
use Rattle.ac_status.specs.declared.status.Status.TheVariants as statuses

-- the word of a kind of refusal; fields and values aren't printed
abbrev pub kind_word : WavKind → List ℕ
kind_word kinds.Short = codes "short "
kind_word kinds.NotRiff = codes "notriff "
kind_word kinds.NoFmt = codes "nofmt "
kind_word kinds.NoData = codes "nodata "
kind_word (kinds.BadFmt field) = codes "badfmt "
kind_word (kinds.Unsupported field value) = codes "unsupported "

-- the word of a part of a frame
abbrev pub part_word : Part → List ℕ
part_word parts.Front = codes "front "
part_word parts.Total = codes "total "
part_word parts.Last = codes "last "

-- the word of a refused field or mantissa; its parts aren't printed
abbrev pub refused_word : Refused → List ℕ
refused_word refused.BadSync = codes "badsync"
refused_word (refused.Reserved row) = codes "reserved"
refused_word (refused.BadBsid bsid) = codes "badbsid"
refused_word refused.DualMono = codes "dualmono"
refused_word refused.ShortBlock = codes "shortblock"
refused_word refused.Dither = codes "dither"
refused_word refused.Delta = codes "delta"
refused_word (refused.NoReuse row) = codes "noreuse"
refused_word (refused.BadExponent channel place) = codes "badexponent"
refused_word (refused.BadGroup place) = codes "badgroup"
refused_word refused.OutOfBits = codes "outofbits"

-- the word of a fault of a frame, likewise
abbrev pub fault_word : FrameFault → List ℕ
fault_word (faults.Short have) = codes "short"
fault_word (faults.BadCrc1 remainder) = codes "badcrc1"
fault_word (faults.BadCrc2 remainder) = codes "badcrc2"
fault_word (faults.Changed row) = codes "changed"
fault_word (faults.Field r) = refused_word r

-- the last line: the code of the status, and why
abbrev pub status_line : Status → List ℕ
status_line statuses.Ok = codes "status 0 ok\n"
status_line statuses.Usage = codes "status 1 usage\n"
status_line (statuses.BadWav kind place) = codes "status 2 bad wav " ++ kind_word kind ++ decimal place ++ codes "\n"
status_line (statuses.RateTooLow part needed room) =
    codes "status 3 rate too low " ++ part_word part ++ decimal needed ++ codes " " ++ decimal room ++ codes "\n"
status_line (statuses.BadStream frame fault) =
    codes "status 4 bad stream " ++ decimal frame ++ codes " " ++ fault_word fault ++ codes "\n"
status_line statuses.ReadFault = codes "status 6 read fault\n"
status_line statuses.WriteFault = codes "status 7 write fault\n"
status_line statuses.NoMemory = codes "status 9 no memory\n"
status_line (statuses.TooLong limit) = codes "status 11 too long " ++ decimal limit ++ codes "\n"

-- the exit code; 8 is that of an open fault, which is no status of a run
abbrev pub code_of : Status → ℕ
code_of statuses.Ok = 0
code_of statuses.Usage = 1
code_of (statuses.BadWav kind place) = 2
code_of (statuses.RateTooLow part needed room) = 3
code_of (statuses.BadStream frame fault) = 4
code_of statuses.ReadFault = 6
code_of statuses.WriteFault = 7
code_of statuses.NoMemory = 9
code_of (statuses.TooLong limit) = 11
