-- What a world in memory may be made of. This project's own.
use Rattle.std.specs.Prelude.{Bool, true, false, Option, Some, None}
use Rattle.gate_outside.specs.MemoryDoors.{door_faults, door_ends}
use Rattle.gate_outside.specs.declared.memory_door.MemoryDoor.{MemoryDoor}
use Rattle.gate_transcript.specs.Recordings.{entries_recorded, note_faults}
use Rattle.gate_transcript.specs.declared.memory.MemoryRecorder.{MemoryRecorder}
use Rattle.serve_world.specs.Worlds.{IsNewDoor, IsNewRecorder}

-- The door was not used, as far as a world tells.
abbrev pub IsNewMemoryDoor : MemoryDoor → Type 0
IsNewMemoryDoor door = IsNewDoor (door_faults door) (door_ends door)

-- The recorder was not used.
abbrev pub IsNewMemoryRecorder : MemoryRecorder → Type 0
IsNewMemoryRecorder recorder = IsNewRecorder (note_faults recorder) (Some (entries_recorded recorder))

-- this, or nothing where that is said
abbrev pub unless : {A : Type 0} → Bool → Option A → Option A
unless false thing = thing
unless true thing = None
