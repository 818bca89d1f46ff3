use Rattle.std.proofs.Common.{ℕ, List, Option, sym, ap, subst}
use Rattle.client_ports.specs.declared.putter.Putter.{Putter}
use Rattle.client_ports.specs.Ends.{put_of}
use Rattle.gateway_links.specs.ReadItems.{PutAllSo}
use Rattle.server_link.proofs.LinkLemmas.{moved_front}
use Rattle.server_link.proofs.upstream.hear_link.Goals as goal

pub returns-clause-all : goal.returns-clause-all
returns-clause-all g c = λ ended first reads.
    subst (λ (left : Option (List ℕ)). PutAllSo first left (put_of c.collect.new.reader.inward)) (sym c.collect.ensures.rest)
    (subst (λ (end : Putter). PutAllSo first (g.I.Inlet.rest c.hear_on-end.new.reader.inlet) (put_of end)) (sym c.collect.ensures.inward) (c.hear_on-end.ensures.all ended first reads))

pub returns-clause-front : goal.returns-clause-front
returns-clause-front g c = λ first reads.
    let was = c.hear_on-end.new.reader in
    let is = c.collect.new.reader in
    moved_front first (g.I.Inlet.rest was.inlet) (g.I.Inlet.rest is.inlet) was.framer is.framer (put_of was.inward) (put_of is.inward) was.waiting is.waiting was.over is.over c.collect.ensures.rest
    c.collect.ensures.framer (ap put_of c.collect.ensures.inward) c.collect.ensures.waiting c.collect.ensures.over (c.hear_on-end.ensures.front first reads)
