use Rattle.gateway_claim.specs.Cores.{IsCoreHistory}
use Rattle.gateway_replay.proofs.SoundLemmas.{sound_replay}
use Rattle.gateway_replay.proofs.laws.a_sound_transcript_is_replayed.Goals as goal

pub returns : goal.returns
returns g c bases status all left before now = sound_replay (IsCoreHistory g.M.Core.follows) bases status all left before now
