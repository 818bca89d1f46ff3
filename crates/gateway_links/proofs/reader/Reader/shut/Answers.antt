use Rattle.std.proofs.Common.{ℕ, List, Option, sym, subst}
use Rattle.client_ports.specs.Ends.{put_of}
use Rattle.gateway_links.specs.ReadItems.{ReadsItemsSo, PutAllSo}
use Rattle.gateway_links.proofs.reader.Reader.shut.Goals as goal

pub returns-clause-reads : goal.returns-clause-reads
returns-clause-reads g c = λ first reads.
    let old = c.args.self.now in
    subst (λ (left : Option (List ℕ)). ReadsItemsSo first left old.framer (put_of old.inward) old.waiting) (sym c.shut.ensures.rest) reads

pub returns-clause-all : goal.returns-clause-all
returns-clause-all g c = λ first all.
    let old = c.args.self.now in
    subst (λ (left : Option (List ℕ)). PutAllSo first left (put_of old.inward)) (sym c.shut.ensures.rest) all
