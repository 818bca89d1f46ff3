use Rattle.client_ports.specs.Ends.{put_of}
use Rattle.gateway_links.proofs.GaveLemmas.{reads_more, front_more, front_lost}
use Rattle.gateway_links.proofs.reader.Reader.read.Goals as goal

pub returns-in-Ok-clause-reads : goal.returns-in-Ok-clause-reads
returns-in-Ok-clause-reads g c = λ _ first.
    let old = c.args.self.now in
    reads_more first (g.I.Inlet.rest old.inlet) (g.I.Inlet.rest c.read.new.self) old.framer c.feed.new.self (put_of old.inward) old.waiting c.read.new.into c.in-Ok-Bytes.count
    (rw c.in-Ok-Bytes.field-0-is at c.in-Ok-Bytes.ensures.bytes) (rw c.before-in-Ok-Bytes.ensures at c.in-Ok.ensures.ok)

pub returns-in-Ok-clause-front : goal.returns-in-Ok-clause-front
returns-in-Ok-clause-front g c = λ first.
    let old = c.args.self.now in
    front_more first (g.I.Inlet.rest old.inlet) (g.I.Inlet.rest c.read.new.self) old.framer c.feed.new.self (put_of old.inward) old.waiting old.over old.over c.read.new.into c.in-Ok-Bytes.count
    c.if-self.false (rw c.in-Ok-Bytes.field-0-is at c.in-Ok-Bytes.ensures.bytes) (rw c.before-in-Ok-Bytes.ensures at c.in-Ok.ensures.ok)

pub returns-in-Err-feed-clause-front : goal.returns-in-Err-feed-clause-front
returns-in-Err-feed-clause-front g c = λ first.
    let old = c.args.self.now in
    front_lost first (g.I.Inlet.rest old.inlet) (g.I.Inlet.rest c.read.new.self) old.framer c.feed.new.self (put_of old.inward) old.waiting old.over c.read.new.into c.in-Ok-Bytes.count
    (rw c.in-Ok-Bytes.field-0-is at c.in-Ok-Bytes.ensures.bytes) c.in-Err-feed.ensures.err
