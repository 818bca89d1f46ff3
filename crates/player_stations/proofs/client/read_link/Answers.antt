use Rattle.std.proofs.Common.{ℕ, List, Option, sym, subst}
use Rattle.client_ports.specs.declared.putter.Putter.{Putter}
use Rattle.client_ports.specs.Ends.{put_of}
use Rattle.gateway_links.specs.ReadItems.{PutAllSo}
use Rattle.player_stations.proofs.client.read_link.Goals as goal

pub returns-clause-all : goal.returns-clause-all
returns-clause-all g c = λ ended first reads.
    subst (λ (left : Option (List ℕ)). PutAllSo first left (put_of c.collect.new.reader.inward)) (sym c.collect.ensures.rest)
    (subst (λ (end : Putter). PutAllSo first (g.I.Inlet.rest c.read_on-end.new.reader.inlet) (put_of end)) (sym c.collect.ensures.inward) (c.read_on-end.ensures.all ended first reads))
