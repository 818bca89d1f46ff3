-- The number with which a program ends that ran a gateway (this project's own).
use Rattle.std.specs.Prelude.{ℕ}
use Rattle.run_status.specs.declared.status.Status.{Status}
use Rattle.run_status.specs.declared.status.Status.TheVariants.{Done, Usage, SourceFault, SinkFault, BadTranscript, Upstream, ListenFault, RecordFault, CrewRefused, Memory, TooLong, AcceptFault, DialFault, NumbersSpent}

-- the exit status of each end (this project's own)
abbrev pub exit_code : Status → ℕ
exit_code Done = 0
exit_code (Usage place) = 2
exit_code SourceFault = 3
exit_code SinkFault = 4
exit_code (BadTranscript place fault) = 5
exit_code (Upstream cause) = 6
exit_code ListenFault = 7
exit_code RecordFault = 8
exit_code CrewRefused = 9
exit_code Memory = 10
exit_code TooLong = 11
exit_code AcceptFault = 12
exit_code DialFault = 13
exit_code NumbersSpent = 14
