use Rattle.std.proofs.Common.{ap}
use Rattle.client_ports.specs.Ends.{put_of}
use Rattle.player_stations.proofs.LinkLemmas.{counts_all, moved_all}
use Rattle.player_stations.proofs.client.run_client.Goals as goal

pub returns-clause-all : goal.returns-clause-all
returns-clause-all g c = λ client_end.
    let reader = c.read_link-end.new.reader in
    counts_all (g.I.Inlet.rest c.args.inlet) (g.I.Inlet.rest c.into_ends-inlet.result.0) (put_of c.into_ends-inlet.result.1) c.retire-receipt.result.pushed
    (moved_all (g.I.Inlet.rest c.args.inlet) (g.I.Inlet.rest reader.inlet) (g.I.Inlet.rest c.into_ends-inlet.result.0) (put_of reader.inward) (put_of c.into_ends-inlet.result.1)
    (ap g.I.Inlet.rest c.into_ends-inlet.ensures.inlet) (ap put_of c.into_ends-inlet.ensures.inward)
    (c.read_link-end.ensures.all (c.why_of-why.ensures.end client_end) (g.I.Inlet.rest c.args.inlet) c.new-reader.ensures.reads))
    c.retire-receipt.ensures.pushed
