-- What a door in memory holds, and the calls that it has had. This project's own.
use Rattle.std.specs.Prelude.{ℕ, List}
use Rattle.std.specs.Vec.{vec_capacity}
use Rattle.gate_outside.specs.declared.inlet.MemoryInlet.{MemoryInlet}
use Rattle.gate_outside.specs.declared.outlet.MemoryOutlet.{MemoryOutlet}
use Rattle.gate_outside.specs.declared.memory_door.MemoryDoor.{MemoryDoor}
use Rattle.gate_outside.specs.declared.memory_link.MemoryLink.{MemoryLink}
use Rattle.gate_outside.specs.declared.script.Script.{Script}
use Rattle.gate_outside.specs.Memories.{call_script, calls_made, calls_failed}
use Rattle.gate_outside.specs.NewLinks.{all_halves}

-- the links that it has still to give, the next one first
abbrev pub links_coming : MemoryDoor → List (MemoryInlet × MemoryOutlet)
links_coming door = all_halves door.coming.items

-- the links that were given back, in the order of their return, and for how many it has room
abbrev pub links_returned : MemoryDoor → List MemoryLink
links_returned door = door.returned.items

-- how many links may be given back without memory
abbrev pub room_for_returns : MemoryDoor → ℕ
room_for_returns door = vec_capacity door.returned

-- its script, and how often it was asked: the number of its next call
abbrev pub door_script : MemoryDoor → Script
door_script door = call_script door.calls

-- how often a door was asked
abbrev pub door_calls : MemoryDoor → ℕ
door_calls door = calls_made door.calls

-- how often it has failed, had no link for now, and told that no link comes any more
abbrev pub door_faults : MemoryDoor → ℕ
door_faults door = calls_failed door.calls

-- how often it had nothing yet
abbrev pub door_waits : MemoryDoor → ℕ
door_waits door = door.waits

-- how often it told its end
abbrev pub door_ends : MemoryDoor → ℕ
door_ends door = door.ends
