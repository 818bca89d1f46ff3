use Rattle.client_ports.specs.Ends.{put_of}
use Rattle.gateway_links.proofs.Puts.{puts_next, reads_by, front_by}
use Rattle.gateway_links.proofs.reader.Reader.next_is_frame.Goals as goal

pub returns-clause-reads : goal.returns-clause-reads
returns-clause-reads g c = λ first.
    let old = c.args.self.now in
    reads_by first (g.I.Inlet.rest old.inlet) old.framer c.next_item.new.framer (put_of old.inward) (put_of old.inward) old.waiting c.next_item.result
    (λ seen. puts_next old.framer c.next_item.new.framer seen (put_of old.inward) old.waiting c.next_item.result c.next_item.ensures.some c.next_item.ensures.none)

pub returns-clause-front : goal.returns-clause-front
returns-clause-front g c = λ first.
    let old = c.args.self.now in
    front_by first (g.I.Inlet.rest old.inlet) old.framer c.next_item.new.framer (put_of old.inward) (put_of old.inward) old.waiting c.next_item.result old.over
    (λ seen. puts_next old.framer c.next_item.new.framer seen (put_of old.inward) old.waiting c.next_item.result c.next_item.ensures.some c.next_item.ensures.none)
