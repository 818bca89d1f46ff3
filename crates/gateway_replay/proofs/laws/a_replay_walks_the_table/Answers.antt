use Rattle.gateway_replay.proofs.WalkLemmas.{replayed_seen}
use Rattle.gateway_replay.proofs.laws.a_replay_walks_the_table.Goals as goal

pub returns : goal.returns
returns c bases entries history i is told = replayed_seen bases entries history i is told
