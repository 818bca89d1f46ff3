-- A session that the server made (RFC 7826, 4.3).
use Rattle.std.specs.Prelude.{List, ℕ, Option}
use Rattle.std.specs.Option.{option_map, option_and_then}
use Rattle.client_slot.specs.declared.new_session.MadeParts.{MadeParts}
use Rattle.client_slot.specs.declared.new_session.MadeSession.{MadeSession}

-- the id that is kept of it
abbrev pub id_kept : Option MadeParts → Option (List ℕ)
id_kept made = option_map (λ one. one.id) made

-- what was described before
abbrev pub described_kept : Option MadeParts → Option (List ℕ)
described_kept made = option_and_then (λ one. one.described) made

-- without its room
abbrev pub parts_made : Option MadeSession → Option MadeParts
parts_made made = option_map (λ one. one.parts) made

-- its id
abbrev pub id_made : Option MadeSession → Option (List ℕ)
id_made made = id_kept (parts_made made)

-- what was described before it was made
abbrev pub described_made : Option MadeSession → Option (List ℕ)
described_made made = described_kept (parts_made made)
