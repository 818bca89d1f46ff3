use Rattle.std.proofs.lemmas.Result.{on_ok_weaker}
use Rattle.gate_transcript.proofs.ReaderLemmas.{front_fed}
use Rattle.gate_transcript.proofs.reader.EntryReader.feed.Goals as goal

pub returns-in-Front-clause-ok : goal.returns-in-Front-clause-ok
returns-in-Front-clause-ok c =
    on_ok_weaker c.feed_front.result (λ passes. front_fed c.args.self.now c.feed_front.new.self c.args.piece.now c.in-Front.is passes) c.feed_front.ensures.ok
