use Rattle.std.proofs.Common.{ap}
use Rattle.client_ports.specs.Ends.{put_of}
use Rattle.server_link.proofs.LinkLemmas.{begins_given, front_of, moved_all, moved_begins}
use Rattle.server_link.proofs.upstream.run_upstream.Goals as goal

pub returns-clause-put : goal.returns-clause-put
returns-clause-put g c =
    let first = g.I.Inlet.rest c.args.upstream.inlet in
    let new = c.new-reader.result in
    let reader = c.hear_link-end.new.reader in
    moved_begins first (g.I.Inlet.rest reader.inlet) (g.I.Inlet.rest c.into_ends-inlet.result.0) (put_of reader.inward) (put_of c.into_ends-inlet.result.1)
    (ap g.I.Inlet.rest c.into_ends-inlet.ensures.inlet) (ap put_of c.into_ends-inlet.ensures.inward)
    (begins_given first (g.I.Inlet.rest reader.inlet) reader.framer (put_of reader.inward) reader.waiting reader.over
    (c.hear_link-end.ensures.front first (front_of first (g.I.Inlet.rest new.inlet) new.framer (put_of new.inward) new.waiting new.over c.new-reader.ensures.reads)))

pub returns-clause-all : goal.returns-clause-all
returns-clause-all g c = λ ended.
    let first = g.I.Inlet.rest c.args.upstream.inlet in
    let reader = c.hear_link-end.new.reader in
    moved_all first (g.I.Inlet.rest reader.inlet) (g.I.Inlet.rest c.into_ends-inlet.result.0) (put_of reader.inward) (put_of c.into_ends-inlet.result.1)
    (ap g.I.Inlet.rest c.into_ends-inlet.ensures.inlet) (ap put_of c.into_ends-inlet.ensures.inward)
    (c.hear_link-end.ensures.all (c.run_of-run.ensures.end ended) first c.new-reader.ensures.reads)
