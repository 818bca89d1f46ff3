use Rattle.recording_law.proofs.RecordLemmas.{retold}
use Rattle.recording_law.proofs.laws.what_was_noted_tells_the_history.Goals as goal

pub returns : goal.returns
returns c history whole = retold history whole
