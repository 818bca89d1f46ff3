use Rattle.std.proofs.Common.{sym, subst}
use Rattle.std.proofs.lemmas.Result.{on_ok_weaker}
use Rattle.rtsp_head.specs.Shapes.{shapes}
use Rattle.drill_server.specs.ServerSteps.{ServerDesk, Serves}
use Rattle.drill_server.proofs.MoveLemmas.{serves_fed}
use Rattle.drill_server.proofs.server.DrillServer.feed.Goals as goal

pub returns-clause-ok : goal.returns-clause-ok
returns-clause-ok c =
    on_ok_weaker c.feed_requests.result (λ moves serving serves.
    let h : Serves (record { framer = c.self.inside.framer; waiting = shapes c.self.inside.waiting.items; sessions = c.self.inside.sessions; tracks = c.self.inside.tracks.items; notifies = c.self.inside.notifies }) serving =
    subst (λ (desk : ServerDesk). Serves desk serving) (sym c.self.view_is) serves in
    serves_fed _ serving c.args.piece.now c.feed_requests.new.framer (shapes c.feed_requests.new.waiting.items) h moves) c.feed_requests.ensures.ok
