use Rattle.lone_records.proofs.UpRecordLemmas.{history_told, up_recorded}
use Rattle.lone_records.proofs.laws.what_goes_up_is_recorded.Goals as goal

pub returns-clause-entry : goal.returns-clause-entry
returns-clause-entry c up = up_recorded up

pub returns-clause-history : goal.returns-clause-history
returns-clause-history c history = history_told history
