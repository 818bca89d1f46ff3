use Rattle.gateway_claim.specs.Follows.{IsHistory}
use Rattle.gateway_mux.specs.Stands.{bases_of}
use Rattle.drill_run.specs.Reports.{IsDrilledHistory}
use Rattle.drill_run.proofs.RunLemmas.{says_more}
use Rattle.drill_run.proofs.mux_drill.drill.Goals as goal

pub returns-in-Ok-clause-says : goal.returns-in-Ok-clause-says
returns-in-Ok-clause-says g c =
    says_more (IsHistory (bases_of c.in-Ok.mux)) IsDrilledHistory
    (λ T history. record { bases = bases_of c.in-Ok.mux; front = c.in-Ok.ensures.front; up = c.in-Ok.ensures.up; is_history = history })
    c.args.clients c.args.number c.drill_on.result (g.K.Sink.written c.args.sink.now) (g.K.Sink.written c.drill_on.new.sink) c.drill_on.ensures.says
