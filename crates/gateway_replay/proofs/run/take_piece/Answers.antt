use Rattle.std.proofs.Common.{Bool, true, ℕ, List, None, subst}
use Rattle.std.proofs.lemmas.Result.{err_from_is_err_and}
use Rattle.gateway_claim.specs.Cores.{IsCoreHistory}
use Rattle.rtsp_frame.specs.FramerState.{HoldsPiece}
use Rattle.gateway_replay.specs.CoreRecords.{Watches}
use Rattle.gateway_replay.proofs.RunLemmas.{takes_none, takes_all, takes_no_piece}
use Rattle.gateway_replay.proofs.WatchLemmas.{watch_sound}
use Rattle.gateway_replay.proofs.run.take_piece.Goals as goal

pub returns-in_err-hold-clause-takes : goal.returns-in_err-hold-clause-takes
returns-in_err-hold-clause-takes g c =
    let laws = g.met.M.Core g.world.𝓛 g.world.𝓜 g.world.𝓡 ((λ s x. x), (λ x. x), (λ x. x), λ x. x) in
    let p = err_from_is_err_and c.from_residual.result c.from_residual.ensures.1 in
    rw (p.1, p.2)
    (takes_no_piece c.args.framer.now c.hold.new.self (IsCoreHistory g.M.Core.follows) (Watches g.M.Core.stands g.M.Core.bases c.args.watched.now.core c.args.watched.now.living) (Watches g.M.Core.stands g.M.Core.bases c.args.watched.now.core c.args.watched.now.living) c.args.speaker c.args.piece.now (g.K.Sink.written c.args.sink.now)
    (watch_sound g.M.Core.stands g.M.Core.bases g.M.Core.follows laws.history c.args.watched.now.core c.args.watched.now.living))

pub returns-then-branch-clause-takes : goal.returns-then-branch-clause-takes
returns-then-branch-clause-takes g c =
    let stood = Watches g.M.Core.stands g.M.Core.bases c.args.watched.now.core c.args.watched.now.living in
    let held : HoldsPiece c.args.framer.now c.hold.new.self c.args.piece.now true =
    subst (λ (piece : List ℕ). HoldsPiece c.args.framer.now c.hold.new.self piece true) c.as_bytes.ensures
    (subst (λ (held : Bool). HoldsPiece c.args.framer.now c.hold.new.self c.as_bytes.result.now held) c.if-branch.true c.in_ok-hold.ensures.ok) in
    takes_all c.args.framer.now c.hold.new.self (IsCoreHistory g.M.Core.follows) stood stood c.args.speaker c.args.piece.now (g.K.Sink.written c.args.sink.now) (g.K.Sink.written c.args.sink.now)
    (takes_none c.args.framer.now c.hold.new.self None stood c.args.speaker c.args.piece.now (g.K.Sink.written c.args.sink.now) held)
