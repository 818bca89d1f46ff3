use Rattle.gateway_replay.proofs.OneTranscriptLemmas.{one_transcript}
use Rattle.gateway_replay.proofs.laws.a_transcript_of_one_player_is_its_own.Goals as goal

pub returns : goal.returns
returns c bases entries history i is told alone = one_transcript bases entries history i is told alone
