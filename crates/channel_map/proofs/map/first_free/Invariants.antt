-- No place before this one is free.
use Rattle.std.proofs.Common.{◌≡◌, ◌-◌, length}
use Rattle.channel_map.specs.Pairs.{held_at, is_free, kept, first_free}
use Rattle.channel_map.proofs.map.first_free.Given as goal

abbrev pub invariant-loop-place : goal.invariant-loop-place
invariant-loop-place l =
    first_free (length l.table) 0 (λ p. is_free (kept l.freed (held_at p l.table)))
    ≡ first_free (length l.table - l.place) l.place (λ p. is_free (kept l.freed (held_at p l.table)))
