-- What a source and a sink in memory hold, and the calls that each has had. This project's own.
use Rattle.std.specs.Prelude.{ℕ, ◌+◌, ◌≤◌, ◌⊎◌, List, drop, Contains, IsSomeAnd}
use Rattle.gate_outside.specs.declared.memory.MemorySource.{MemorySource}
use Rattle.gate_outside.specs.declared.memory.MemorySink.{MemorySink}
use Rattle.gate_outside.specs.declared.script.Calls.{Calls}
use Rattle.gate_outside.specs.declared.script.Script.{Script}

-- the script by which calls go, how many were made, which is the number of the next, and how many failed
abbrev pub call_script : Calls → Script
call_script calls = calls.script

-- how many calls were made
abbrev pub calls_made : Calls → ℕ
calls_made calls = calls.made

-- how many of them failed
abbrev pub calls_failed : Calls → ℕ
calls_failed calls = calls.failed

-- The script lets an inlet have nothing for now at the call with this number.
abbrev pub NamesWait : Script → ℕ → Type 0
NamesWait script call = Contains script.waits call ⊎ IsSomeAnd script.idle (λ first. first ≤ call)

-- the bytes that a source has still to give
abbrev pub bytes_left : MemorySource → List ℕ
bytes_left source = drop source.at source.bytes

-- the script of a source, and how often it was read: the number of its next call
abbrev pub read_script : MemorySource → Script
read_script source = source.calls.script

-- how often a source was read
abbrev pub reads_made : MemorySource → ℕ
reads_made source = source.calls.made

-- how often a source has failed
abbrev pub read_faults : MemorySource → ℕ
read_faults source = source.calls.failed

-- the bytes that a sink has taken
abbrev pub bytes_written : MemorySink → List ℕ
bytes_written sink = sink.bytes

-- the script of a sink, and how often it was written to: the number of its next call
abbrev pub write_script : MemorySink → Script
write_script sink = sink.calls.script

-- how often a sink was written to
abbrev pub writes_made : MemorySink → ℕ
writes_made sink = sink.calls.made

-- how often memory has refused a sink room
abbrev pub growths_refused : MemorySink → ℕ
growths_refused sink = sink.refused

-- how often a sink has failed
abbrev pub write_faults : MemorySink → ℕ
write_faults sink = sink.calls.failed + sink.refused
