use Rattle.gate_transcript.proofs.SpellLemmas.{spelled_read}
use Rattle.gate_transcript.proofs.entry_text.written_entries_are_read.Goals as goal

pub returns : goal.returns
returns c entries = spelled_read entries
