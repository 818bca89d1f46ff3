-- The fault line with which a run ends, without the program's name (this project's own).
use Rattle.std.specs.Prelude.{ℕ, List, [], ◌++◌, codes, decimal}
use Rattle.gate_transcript.specs.declared.fault.BadEntryKind.{BadEntryKind}
use Rattle.gate_transcript.specs.declared.fault.BadEntryKind.TheVariants as entry
use Rattle.run_status.specs.declared.status.Status.{Status}
use Rattle.run_status.specs.declared.status.Status.TheVariants.{Done, Usage, SourceFault, SinkFault, BadTranscript, Upstream, ListenFault, RecordFault, CrewRefused, Memory, TooLong, AcceptFault, DialFault, NumbersSpent}
use Rattle.run_status.specs.CauseTexts.{fault_text}

-- the name of why bytes are no transcript
abbrev pub entry_fault_name : BadEntryKind → List ℕ
entry_fault_name entry.Magic = codes "Magic"
entry_fault_name entry.Kind = codes "Kind"
entry_fault_name entry.Conn = codes "Conn"
entry_fault_name entry.Length = codes "Length"
entry_fault_name entry.Cut = codes "Cut"

-- the fault line of each end; Done has none
abbrev pub fault_line : Status → List ℕ
fault_line Done = []
fault_line (Usage place) = codes "usage: word " ++ decimal place
fault_line SourceFault = codes "source failed"
fault_line SinkFault = codes "sink failed"
fault_line (BadTranscript place kind) = codes "bad transcript at " ++ decimal place ++ codes ": " ++ entry_fault_name kind
fault_line (Upstream cause) = codes "upstream: " ++ fault_text cause
fault_line ListenFault = codes "listen failed"
fault_line RecordFault = codes "record failed"
fault_line CrewRefused = codes "no crew"
fault_line Memory = codes "out of memory"
fault_line TooLong = codes "transcript too long"
fault_line AcceptFault = codes "accept failed"
fault_line DialFault = codes "dial failed"
fault_line NumbersSpent = codes "connection numbers spent"
