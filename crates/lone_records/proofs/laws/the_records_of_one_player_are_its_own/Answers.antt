use Rattle.lone_records.proofs.RecordRunLemmas.{transcript_records}
use Rattle.lone_records.proofs.laws.the_records_of_one_player_are_its_own.Goals as goal

pub returns : goal.returns
returns c bases entries history i low is told alone = transcript_records bases entries history i low is told alone
