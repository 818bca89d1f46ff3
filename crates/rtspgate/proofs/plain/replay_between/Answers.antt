use Rattle.std.proofs.Common.{subst}
use Rattle.rtsp_uri.specs.declared.base.Bases.{Bases}
use Rattle.gateway_claim.specs.Follows.{IsHistory}
use Rattle.gateway_replay.specs.Replays.{ReplaySays}
use Rattle.rtspgate.proofs.plain.replay_between.Goals as goal

pub returns-in-Ok-clause-says : goal.returns-in-Ok-clause-says
returns-in-Ok-clause-says g c =
    subst
    (λ (bases : Bases). ReplaySays IsHistory bases c.replay.result (g.S.Source.rest c.args.source.now) (g.S.Source.rest c.replay.new.source) (g.K.Sink.written c.args.sink.now) (g.K.Sink.written c.replay.new.sink))
    c.in-Ok.ensures.bases c.replay.ensures.says
