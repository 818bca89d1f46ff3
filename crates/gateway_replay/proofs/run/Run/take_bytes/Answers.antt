use Rattle.std.proofs.Common.{refl, sym, ap, ◌∙◌}
use Rattle.gateway_claim.specs.Cores.{IsCoreHistory}
use Rattle.gateway_replay.specs.declared.streams.Streams.{Streams}
use Rattle.gateway_replay.specs.Streams.{framer_at}
use Rattle.gateway_replay.specs.CoreRecords.{Watches}
use Rattle.gateway_replay.proofs.FeedLemmas.{fed_framed}
use Rattle.gateway_replay.proofs.RunLemmas.{server_others, takes_bytes}
use Rattle.gateway_replay.proofs.run.Run.take_bytes.Goals as goal

pub returns-in-Server-clause-takes : goal.returns-in-Server-clause-takes
returns-in-Server-clause-takes g c =
    let old = c.args.self.now in
    let now : Streams = record { clients = old.streams.clients; server = c.take_piece.new.framer } in
    takes_bytes old.streams now old.streams.server c.take_piece.new.framer (IsCoreHistory g.M.Core.follows) (Watches g.M.Core.stands g.M.Core.bases old.watched.core old.watched.living) (Watches g.M.Core.stands g.M.Core.bases c.take_piece.new.watched.core c.take_piece.new.watched.living) c.args.speaker c.args.bytes
    (g.K.Sink.written c.args.sink.now) (g.K.Sink.written c.take_piece.new.sink) c.take_piece.result
    (fed_framed (framer_at old.streams c.args.speaker) old.streams.server (ap (framer_at old.streams) c.in-Server.is)) (ap (framer_at now) c.in-Server.is)
    (λ other apart. server_others old.streams now refl other (λ same. apart (same ∙ sym c.in-Server.is))) c.take_piece.ensures.takes
