use Rattle.std.proofs.Common.{Option, Ok, Err, arith, subst}
use Rattle.std.proofs.lemmas.Result.{err_from_is_err_and}
use Rattle.rtsp_head.specs.declared.item.Item.{Item}
use Rattle.gateway_claim.specs.Happenings.{Happening}
use Rattle.gateway_claim.specs.Cores.{IsCoreHistory}
use Rattle.gateway_replay.specs.Runs.{TakesEvent, TakesSome}
use Rattle.gateway_replay.specs.CoreRecords.{Watches}
use Rattle.gateway_replay.proofs.RunLemmas.{takes_none, gives_next, takes_one_more, takes_to_fault, takes_all, takes_no_piece}
use Rattle.gateway_replay.proofs.WatchLemmas.{watch_sound}
use Rattle.gateway_replay.proofs.run.take_items.Goals as goal

pub returns-in_err-next-clause-takes : goal.returns-in_err-next-clause-takes
returns-in_err-next-clause-takes g c =
    let laws = g.met.M.Core g.world.𝓛 g.world.𝓜 g.world.𝓡 ((λ s x. x), (λ x. x), (λ x. x), λ x. x) in
    let p = err_from_is_err_and c.from_residual.result c.from_residual.ensures.1 in
    rw (p.1, p.2)
    (takes_no_piece c.args.framer.now c.take.new.self (IsCoreHistory g.M.Core.follows) (Watches g.M.Core.stands g.M.Core.bases c.args.watched.now.core c.args.watched.now.living) (Watches g.M.Core.stands g.M.Core.bases c.args.watched.now.core c.args.watched.now.living) c.args.speaker c.args.piece.now (g.K.Sink.written c.args.sink.now)
    (watch_sound g.M.Core.stands g.M.Core.bases g.M.Core.follows laws.history c.args.watched.now.core c.args.watched.now.living))

pub loop-next-init : goal.loop-next-init
loop-next-init g c = record {
  some = takes_none c.args.framer.now c.take.new.self c.in_ok-next.next (Watches g.M.Core.stands g.M.Core.bases c.args.watched.now.core c.args.watched.now.living) c.args.speaker c.args.piece.now (g.K.Sink.written c.args.sink.now) c.in_ok-next.ensures.ok;
  later = omega arith;
}

pub loop-next-preserved : goal.loop-next-preserved
loop-next-preserved g c =
    let before = (Watches g.M.Core.stands g.M.Core.bases c.args.watched.now.core c.args.watched.now.living) in
    let mid = (Watches g.M.Core.stands g.M.Core.bases c.loop-next.watched.core c.loop-next.watched.living) in
    let now = (Watches g.M.Core.stands g.M.Core.bases c.take-in-Some.new.self.core c.take-in-Some.new.self.living) in
    record {
      some =
          takes_one_more c.args.framer.now c.loop-next.framer c.next-next.new.self c.in-Some.item c.next-next.result (IsCoreHistory g.M.Core.follows) before mid now c.args.speaker c.args.piece.now
          (g.K.Sink.written c.args.sink.now) (g.K.Sink.written c.loop-next.sink) (g.K.Sink.written c.take-in-Some.new.sink)
          (subst (λ (next : Option Item). TakesSome c.args.framer.now c.loop-next.framer next before mid c.args.speaker c.args.piece.now (g.K.Sink.written c.args.sink.now) (g.K.Sink.written c.loop-next.sink)) c.in-Some.is c.loop-next.invariant.some)
          (gives_next c.next-next.result c.loop-next.framer c.next-next.new.self c.next-next.ensures.some c.next-next.ensures.none)
          (subst (λ (h : Happening). TakesEvent (IsCoreHistory g.M.Core.follows) mid now h (g.K.Sink.written c.loop-next.sink) (g.K.Sink.written c.take-in-Some.new.sink) (Ok tt)) c.said_by.ensures c.in_ok-take.ensures.takes);
      later = omega (arith, c.loop-next.invariant.later, c.take-in-Some.ensures.cause.later);
    }

pub returns-in_err-take-clause-takes : goal.returns-in_err-take-clause-takes
returns-in_err-take-clause-takes g c =
    let before = (Watches g.M.Core.stands g.M.Core.bases c.args.watched.now.core c.args.watched.now.living) in
    let mid = (Watches g.M.Core.stands g.M.Core.bases c.loop-next.watched.core c.loop-next.watched.living) in
    let now = (Watches g.M.Core.stands g.M.Core.bases c.take-in-Some.new.self.core c.take-in-Some.new.self.living) in
    let p = err_from_is_err_and c.from_residual-in_err-take.result c.from_residual-in_err-take.ensures.1 in
    rw (p.1, p.2)
    (takes_to_fault c.args.framer.now c.loop-next.framer c.in-Some.item (IsCoreHistory g.M.Core.follows) before mid now c.args.speaker c.args.piece.now
    (g.K.Sink.written c.args.sink.now) (g.K.Sink.written c.loop-next.sink) (g.K.Sink.written c.take-in-Some.new.sink) c.in_err-take.field-0.0
    (subst (λ (next : Option Item). TakesSome c.args.framer.now c.loop-next.framer next before mid c.args.speaker c.args.piece.now (g.K.Sink.written c.args.sink.now) (g.K.Sink.written c.loop-next.sink)) c.in-Some.is c.loop-next.invariant.some)
    (subst (λ (h : Happening). TakesEvent (IsCoreHistory g.M.Core.follows) mid now h (g.K.Sink.written c.loop-next.sink) (g.K.Sink.written c.take-in-Some.new.sink) (Err c.in_err-take.field-0.0)) c.said_by.ensures c.in_err-take.ensures.takes))

pub returns-clause-takes : goal.returns-clause-takes
returns-clause-takes g c =
    let before = (Watches g.M.Core.stands g.M.Core.bases c.args.watched.now.core c.args.watched.now.living) in
    let now = (Watches g.M.Core.stands g.M.Core.bases c.loop-next.watched.core c.loop-next.watched.living) in
    takes_all c.args.framer.now c.loop-next.framer (IsCoreHistory g.M.Core.follows) before now c.args.speaker c.args.piece.now (g.K.Sink.written c.args.sink.now) (g.K.Sink.written c.loop-next.sink)
    (subst (λ (next : Option Item). TakesSome c.args.framer.now c.loop-next.framer next before now c.args.speaker c.args.piece.now (g.K.Sink.written c.args.sink.now) (g.K.Sink.written c.loop-next.sink)) c.in_default.is c.loop-next.invariant.some)
