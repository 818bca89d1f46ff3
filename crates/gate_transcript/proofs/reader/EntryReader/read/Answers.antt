use Rattle.std.proofs.Common.{ℕ, List, subst}
use Rattle.gate_transcript.specs.Steps.{PassesMagic}
use Rattle.gate_transcript.proofs.ReaderLemmas.{front_fed}
use Rattle.gate_transcript.proofs.reader.EntryReader.read.Goals as goal

pub returns-in-Front-clause-ok : goal.returns-in-Front-clause-ok
returns-in-Front-clause-ok g c =
    let old = c.args.self.now in
    let read = c.in_ok-count.ensures.bytes in
    record {
      piece = read.piece;
      size = read.size;
      taken = read.taken;
      fed = front_fed old c.pass_magic.new.self read.piece c.in-Front.is (subst (λ (left : List ℕ). PassesMagic (record old { left = left }) c.pass_magic.new.self) read.joined c.pass_magic.ensures);
    }
