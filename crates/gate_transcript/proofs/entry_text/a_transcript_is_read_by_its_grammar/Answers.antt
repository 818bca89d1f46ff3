use Rattle.gate_transcript.proofs.GrammarLemmas.{read_so, spelled_so}
use Rattle.gate_transcript.proofs.entry_text.a_transcript_is_read_by_its_grammar.Goals as goal

pub returns-clause-read : goal.returns-clause-read
returns-clause-read c bytes read by = read_so bytes read by

pub returns-clause-spelled : goal.returns-clause-spelled
returns-clause-spelled c bytes are = spelled_so bytes are
