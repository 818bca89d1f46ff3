-- The halves of links in memory that were not used yet. This project's own.
use Rattle.std.specs.Prelude.{List, map}
use Rattle.gate_outside.specs.declared.inlet.MemoryInlet.{MemoryInlet}
use Rattle.gate_outside.specs.declared.outlet.MemoryOutlet.{MemoryOutlet}
use Rattle.gate_outside.specs.declared.new_link.NewLink.{NewLink}

-- what comes in by a link, and what goes out
abbrev pub new_inlet : NewLink → MemoryInlet
new_inlet link = link.inlet

-- the outgoing half of a new link
abbrev pub new_outlet : NewLink → MemoryOutlet
new_outlet link = link.outlet

-- a link by its two halves
abbrev pub halves_of : NewLink → MemoryInlet × MemoryOutlet
halves_of link = (link.inlet, link.outlet)

-- links, each by its two halves
abbrev pub all_halves : List NewLink → List (MemoryInlet × MemoryOutlet)
all_halves links = map halves_of links
