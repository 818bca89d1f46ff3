-- What stops a replay, by the part that failed: the reader of entries, or the processing of an event (this project's own).
use Rattle.gate_transcript.specs.declared.fault.EntryFault.{EntryFault}
use Rattle.gate_transcript.specs.declared.fault.EntryFault.TheVariants as entry
use Rattle.gate_transcript.specs.declared.fault.ReadFault.{ReadFault}
use Rattle.gate_transcript.specs.declared.fault.ReadFault.TheVariants as read
use Rattle.gateway_replay.specs.declared.core_records.ProcessFault.{ProcessFault}
use Rattle.gateway_replay.specs.declared.core_records.ProcessFault.TheVariants as fault
use Rattle.run_status.specs.declared.status.Status.{Status}
use Rattle.run_status.specs.declared.status.Status.TheVariants as status
use Rattle.gateway_replay.specs.declared.whole_replay.Stop.{Stop}
use Rattle.gateway_replay.specs.declared.whole_replay.Stop.TheVariants as stop

-- how a run ends by what stopped it
abbrev pub status_of_stop : Stop → Status
status_of_stop (stop.Bad bad) = status.BadTranscript bad.place bad.kind
status_of_stop stop.Sink = status.SinkFault
status_of_stop stop.Memory = status.Memory

-- what stops a replay where entries are read
abbrev pub stop_of_reader : EntryFault → Stop
stop_of_reader (entry.Bad bad) = stop.Bad bad
stop_of_reader entry.Memory = stop.Memory

-- what stops a replay where an event is processed
abbrev pub stop_of_event : ProcessFault → Stop
stop_of_event fault.Sink = stop.Sink
stop_of_event fault.Memory = stop.Memory

-- how a replay ends where its source can't be read
abbrev pub status_of_read : ReadFault → Status
status_of_read read.Source = status.SourceFault
status_of_read read.Memory = status.Memory
