use Rattle.std.proofs.Common.{◌≡◌, None, Some}
use Rattle.client_ports.specs.Ends.{put_of}
use Rattle.gateway_links.proofs.Puts.{puts_one, puts_later, puts_none, reads_by, front_by}
use Rattle.gateway_links.proofs.reader.Reader.push.Goals as goal

pub returns-in_default-clause-reads : goal.returns-in_default-clause-reads
returns-in_default-clause-reads g c = λ first.
    let old = c.args.self.now in
    rw c.next_item.ensures.waits
    (reads_by first (g.I.Inlet.rest old.inlet) old.framer c.next_item.new.framer (put_of old.inward) (put_of old.inward) old.waiting None
    (λ seen. puts_none old.framer c.next_item.new.framer seen (put_of old.inward) old.waiting c.in_default.ensures.none))

pub returns-in_default-clause-front : goal.returns-in_default-clause-front
returns-in_default-clause-front g c = λ first.
    let old = c.args.self.now in
    rw c.next_item.ensures.waits
    (front_by first (g.I.Inlet.rest old.inlet) old.framer c.next_item.new.framer (put_of old.inward) (put_of old.inward) old.waiting None old.over
    (λ seen. puts_none old.framer c.next_item.new.framer seen (put_of old.inward) old.waiting c.in_default.ensures.none))

pub returns-in-Ok-clause-reads : goal.returns-in-Ok-clause-reads
returns-in-Ok-clause-reads g c = λ first.
    let old = c.args.self.now in
    rw c.next_item.ensures.waits
    (reads_by first (g.I.Inlet.rest old.inlet) old.framer c.next_item.new.framer (put_of old.inward) (put_of c.put.new.self) old.waiting None
    (λ seen. puts_one old.framer c.next_item.new.framer seen (put_of old.inward) (put_of c.put.new.self) old.waiting c.in-Some.item c.in-Some.ensures.some c.in-Ok.ensures.put))

pub returns-in-Ok-clause-front : goal.returns-in-Ok-clause-front
returns-in-Ok-clause-front g c = λ first.
    let old = c.args.self.now in
    rw c.next_item.ensures.waits
    (front_by first (g.I.Inlet.rest old.inlet) old.framer c.next_item.new.framer (put_of old.inward) (put_of c.put.new.self) old.waiting None old.over
    (λ seen. puts_one old.framer c.next_item.new.framer seen (put_of old.inward) (put_of c.put.new.self) old.waiting c.in-Some.item c.in-Some.ensures.some c.in-Ok.ensures.put))

pub returns-in-Ok-clause-put : goal.returns-in-Ok-clause-put
returns-in-Ok-clause-put g c = λ _. record { item = c.in-Some.item; put_more = c.in-Ok.ensures.put }

pub returns-in-Err-Item-clause-reads : goal.returns-in-Err-Item-clause-reads
returns-in-Err-Item-clause-reads g c = λ first.
    let old = c.args.self.now in
    let same : c.in-Err-Item.item ≡ c.in-Some.item = cc c.in-Err-Item.ensures.back in
    rw same
    (reads_by first (g.I.Inlet.rest old.inlet) old.framer c.next_item.new.framer (put_of old.inward) (put_of c.put.new.self) old.waiting (Some c.in-Some.item)
    (λ seen. puts_later old.framer c.next_item.new.framer seen (put_of old.inward) (put_of c.put.new.self) old.waiting c.in-Some.item c.in-Some.ensures.some c.in-Err-Item.ensures.same))

pub returns-in-Err-Item-clause-front : goal.returns-in-Err-Item-clause-front
returns-in-Err-Item-clause-front g c = λ first.
    let old = c.args.self.now in
    let same : c.in-Err-Item.item ≡ c.in-Some.item = cc c.in-Err-Item.ensures.back in
    rw same
    (front_by first (g.I.Inlet.rest old.inlet) old.framer c.next_item.new.framer (put_of old.inward) (put_of c.put.new.self) old.waiting (Some c.in-Some.item) old.over
    (λ seen. puts_later old.framer c.next_item.new.framer seen (put_of old.inward) (put_of c.put.new.self) old.waiting c.in-Some.item c.in-Some.ensures.some c.in-Err-Item.ensures.same))
