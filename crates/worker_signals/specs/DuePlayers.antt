-- The players for whom something was put that is not yet written, and how their writers are to be woken (this project's own).
use Rattle.std.specs.Prelude.{ℕ, Bool, ◌==◌, ◌&&◌, ◌||◌, not, List, Option, Some, None, is_some, slice_index_or, slice_set, if◌then◌else◌}
use Rattle.worker_signals.specs.declared.due.DuePlayer.{DuePlayer}
use Rattle.worker_signals.specs.declared.signals.Ring.{Ring}
use Rattle.worker_signals.specs.declared.signals.Ring.TheVariants.{Loud, Soft}

-- the louder one of two rings
abbrev pub louder : Ring → Ring → Ring
louder Loud other = Loud
louder Soft other = other

-- who is due at a place
abbrev pub due_player_at : ℕ → List (Option DuePlayer) → Option DuePlayer
due_player_at place players = slice_index_or players place None

-- What is due of a player for whom something was put twice: the louder ring, and ripe where it was once.
abbrev pub due_twice : DuePlayer → DuePlayer → DuePlayer
due_twice before player = record { conn = player.conn; ring = louder before.ring player.ring; is_ripe = before.is_ripe || player.is_ripe }

-- who is due at a place once this player is too
abbrev pub due_beside : DuePlayer → Option DuePlayer → DuePlayer
due_beside player None = player
due_beside player (Some before) = if before.conn == player.conn then due_twice before player else player

-- who is due there no longer: another player
abbrev pub pushed_out : DuePlayer → Option DuePlayer → Option DuePlayer
pushed_out player None = None
pushed_out player (Some before) = if before.conn == player.conn then None else Some before

-- who is taken from a place, where perhaps ripe players alone are asked for
abbrev pub taken_if : Bool → Option DuePlayer → Option DuePlayer
taken_if only_ripe None = None
taken_if only_ripe (Some player) = if only_ripe && not player.is_ripe then None else Some player

-- who is due at all places once one was taken from this place, or none was
abbrev pub left_after : Option DuePlayer → ℕ → List (Option DuePlayer) → List (Option DuePlayer)
left_after taken place players = if is_some taken then slice_set players place None else players
