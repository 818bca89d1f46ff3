-- What a world in memory holds. This project's own.
use Rattle.std.specs.Prelude.{◌≡◌, ℕ, List, length, Option}
use Rattle.std.specs.Option.{option_map}
use Rattle.gate_outside.specs.declared.memory_door.MemoryDoor.{MemoryDoor}
use Rattle.gate_outside.specs.MemoryDoors.{links_coming}
use Rattle.gate_outside.specs.declared.memory_link.MemoryLink.{MemoryLink}
use Rattle.gate_outside.specs.declared.new_link.NewLink.{NewLink}
use Rattle.gate_transcript.specs.Recordings.{entries_recorded}
use Rattle.gate_transcript.specs.declared.entry.Entry.{Entry}
use Rattle.gate_transcript.specs.declared.memory.MemoryRecorder.{MemoryRecorder}
use Rattle.serve_world.specs.declared.memory_world.MemoryWorld.{MemoryWorld}
use Rattle.serve_world.specs.declared.tally.WorldTally.{WorldTally}

-- what has happened to it
abbrev pub world_tally : MemoryWorld → WorldTally
world_tally world = world.tally

-- what it has still to hand out
abbrev pub door_ahead : MemoryWorld → Option MemoryDoor
door_ahead world = world.next_door

-- the link that is handed out next
abbrev pub link_ahead : MemoryWorld → Option NewLink
link_ahead world = world.next_link

-- the recorder that is handed out next
abbrev pub recorder_ahead : MemoryWorld → Option MemoryRecorder
recorder_ahead world = world.next_recorder

-- what came back last
abbrev pub door_back : MemoryWorld → Option MemoryDoor
door_back world = world.door

-- the link that came back
abbrev pub link_back : MemoryWorld → Option MemoryLink
link_back world = world.upstream

-- the recorder that came back
abbrev pub recorder_back : MemoryWorld → Option MemoryRecorder
recorder_back world = world.transcript

-- the entries of the recorder that came back last
abbrev pub world_recorded : MemoryWorld → Option (List Entry)
world_recorded world = option_map entries_recorded world.transcript

-- how many links the door that came back last had still to give
abbrev pub world_left : MemoryWorld → Option ℕ
world_left world = option_map (λ door. length (links_coming door)) world.door

-- What is still to be handed out is as it was.
pub record KeepsAhead (old new : MemoryWorld) : Type 0 where
  pub door : door_ahead new ≡ door_ahead old
  pub link : link_ahead new ≡ link_ahead old
  pub recorder : recorder_ahead new ≡ recorder_ahead old

-- What came back is as it was.
pub record KeepsBack (old new : MemoryWorld) : Type 0 where
  pub door : door_back new ≡ door_back old
  pub link : link_back new ≡ link_back old
  pub recorder : recorder_back new ≡ recorder_back old
