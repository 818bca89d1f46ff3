-- What the halves of a link in memory hold, and the calls that each has had. This project's own.
use Rattle.std.specs.Prelude.{◌≡◌, ℕ, ◌+◌, Bool, List, map, drop, Some}
use Rattle.gate_outside.specs.declared.inlet.MemoryInlet.{MemoryInlet}
use Rattle.gate_outside.specs.declared.memory.MemorySink.{MemorySink}
use Rattle.gate_outside.specs.declared.outlet.MemoryOutlet.{MemoryOutlet}
use Rattle.gate_outside.specs.declared.script.Script.{Script}
use Rattle.gate_outside.specs.Doors.{IsNewLink}
use Rattle.gate_outside.specs.Memories.{bytes_written, call_script, calls_made, calls_failed, write_faults}

-- the sink in which an outlet writes, and the bytes that it has taken
abbrev pub outlet_sink : MemoryOutlet → MemorySink
outlet_sink outlet = outlet.sink

-- what was written to an outlet
abbrev pub bytes_sent : MemoryOutlet → List ℕ
bytes_sent outlet = bytes_written outlet.sink

-- whether an outlet was shut
abbrev pub is_shut : MemoryOutlet → Bool
is_shut outlet = outlet.shut

-- the bytes that an inlet has still to give
abbrev pub bytes_coming : MemoryInlet → List ℕ
bytes_coming inlet = drop inlet.at inlet.bytes

-- its script, and how often it was read: the number of its next call
abbrev pub inlet_script : MemoryInlet → Script
inlet_script inlet = call_script inlet.calls

-- how often an inlet was read
abbrev pub inlet_reads : MemoryInlet → ℕ
inlet_reads inlet = calls_made inlet.calls

-- how often it has failed, by its script or since a part waited too long
abbrev pub inlet_faults : MemoryInlet → ℕ
inlet_faults inlet = calls_failed inlet.calls + inlet.late

-- how often it had nothing for now, and how often it has told its end
abbrev pub inlet_waits : MemoryInlet → ℕ
inlet_waits inlet = inlet.waits

-- how often it told its end
abbrev pub inlet_ends : MemoryInlet → ℕ
inlet_ends inlet = inlet.ends

-- the number of waits for outlets from which on it fails, and how many there were
abbrev pub inlet_turns : MemoryInlet → ℕ
inlet_turns inlet = inlet.turns

-- how often it has held back what it has
abbrev pub turns_held : MemoryInlet → ℕ
turns_held inlet = inlet.held

-- the numbers of the outlets that its parts wait for, as they were tied
abbrev pub outlets_tied : MemoryInlet → List ℕ
outlets_tied inlet = map (λ tie. tie.number) inlet.ties.items

-- It goes by the same script, and waits as often.
pub record IsSameInlet (old new : MemoryInlet) : Type 0 where
  pub script : inlet_script new ≡ inlet_script old
  pub turns : inlet_turns new ≡ inlet_turns old

-- These halves are those of a link that was not used.
abbrev pub IsUnused : MemoryInlet → MemoryOutlet → Type 0
IsUnused inlet outlet = IsNewLink inlet_faults inlet_ends (λ o. write_faults (outlet_sink o)) (λ o. Some (bytes_sent o)) inlet outlet
