use Rattle.std.proofs.Common.{◌≡◌, ◌<◌, ◌||◌, ℕ, drop}
use Rattle.channel_map.specs.declared.map.TheConstants.{PAIRS}
use Rattle.channel_map.specs.PairSets.{is_in_set}
use Rattle.gateway_mux.specs.Settlements.{has_pair}
use Rattle.gateway_mux.proofs.settlement.pairs_of.Given as goal

-- the pairs so far and those of the streams that are left are all
abbrev pub invariant-loop-track : goal.invariant-loop-track
invariant-loop-track l = (p : ℕ) → p < PAIRS → (is_in_set l.pairs p || has_pair p (drop l.track-index l.tracks)) ≡ has_pair p l.tracks
