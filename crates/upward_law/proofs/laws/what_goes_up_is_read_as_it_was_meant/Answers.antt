use Rattle.upward_law.proofs.EntryLemmas.{entry_read, history_read}
use Rattle.upward_law.proofs.laws.what_goes_up_is_read_as_it_was_meant.Goals as goal

pub returns-clause-entry : goal.returns-clause-entry
returns-clause-entry c bases earlier entry history follows taken = entry_read bases earlier entry history follows taken

pub returns-clause-stream : goal.returns-clause-stream
returns-clause-stream c bases history is taken = history_read bases history is taken
