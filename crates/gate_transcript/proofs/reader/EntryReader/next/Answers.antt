use Rattle.gate_transcript.proofs.ReaderLemmas.{next_says}
use Rattle.gate_transcript.proofs.LessLemmas.{next_less}
use Rattle.gate_transcript.proofs.reader.EntryReader.next.Goals as goal

pub returns-in-Entries-clause-says : goal.returns-in-Entries-clause-says
returns-in-Entries-clause-says c = next_says c.args.self.now c.next_entry.new.self c.next_entry.result c.in-Entries.is c.next_entry.ensures

pub returns-in-Entries-clause-less : goal.returns-in-Entries-clause-less
returns-in-Entries-clause-less c = next_less c.args.self.now c.next_entry.new.self c.next_entry.result c.next_entry.ensures
