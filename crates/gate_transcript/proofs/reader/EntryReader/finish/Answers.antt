use Rattle.gate_transcript.proofs.ReaderLemmas.{entries_end, front_ends}
use Rattle.gate_transcript.proofs.reader.EntryReader.finish.Goals as goal

pub returns-in-Front : goal.returns-in-Front
returns-in-Front c = λ stream given reads. front_ends c.args.self.now stream given c.in-Front.is reads

pub returns-in-Entries : goal.returns-in-Entries
returns-in-Entries c = λ stream given reads. entries_end c.args.self.now stream given c.finish_entries.result c.in-Entries.is c.finish_entries.ensures reads
