-- Tables in which nobody is due.
use Rattle.std.proofs.Common.{◌≡◌, ℕ, zero, suc, None, replicate, refl}
use Rattle.worker_signals.specs.DuePlayers.{due_player_at}

-- nobody is due at any place of a table of nobody
pub nobody_due : (size place : ℕ) → due_player_at place (replicate size None) ≡ None
nobody_due zero place = refl
nobody_due (suc size) zero = refl
nobody_due (suc size) (suc place) = nobody_due size place
