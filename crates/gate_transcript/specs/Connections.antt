-- What a set of connections holds. This project's own.
use Rattle.std.specs.Prelude.{ℕ, Bool, false, ◌||◌, nat_eq, get_or}
use Rattle.std.specs.HashSet.{contains}
use Rattle.gate_transcript.specs.declared.connections.EnteredNumbers.{EnteredNumbers}

-- whether a connection has entered
abbrev pub has : EnteredNumbers → ℕ → Bool
has connections conn = get_or connections.low.items conn false || contains nat_eq connections.numbers conn
