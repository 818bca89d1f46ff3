use Rattle.std.proofs.Common.{ℕ, List, subst}
use Rattle.std.proofs.lemmas.Result.{err_from_is_err_and}
use Rattle.gateway_claim.specs.Cores.{IsCoreHistory}
use Rattle.gate_transcript.specs.Bodies.{end_reason_in}
use Rattle.gate_transcript.specs.declared.entry.EntryKind.{EntryKind}
use Rattle.gateway_replay.specs.Runs.{TakesUpEnd}
use Rattle.gateway_replay.specs.CoreRecords.{Watches, EntersNew}
use Rattle.gateway_replay.proofs.RunLemmas.{takes_enter, takes_no_enter, takes_client, takes_server, takes_end, takes_slow, takes_up_end}
use Rattle.gateway_replay.proofs.run.Run.take.Goals as goal

pub enter-requires : goal.enter-requires
enter-requires g c = (
  c.type_bounds.send-M,
  record {
    history = c.requires.history;
    stood = c.requires.stands.0.stood;
    never = subst (λ (k : EntryKind). EntersNew k c.args.entry.conn c.requires.history) c.in-Enter.is c.requires.stands.1;
  },
)

pub returns-in_ok-enter-in-Enter-clause-takes : goal.returns-in_ok-enter-in-Enter-clause-takes
returns-in_ok-enter-in-Enter-clause-takes g c =
    let old = c.args.self.now in
    takes_enter old.streams (IsCoreHistory g.M.Core.follows) (Watches g.M.Core.stands g.M.Core.bases old.watched.core old.watched.living) (Watches g.M.Core.stands g.M.Core.bases c.enter.new.self.core c.enter.new.self.living)
    c.args.entry (g.K.Sink.written c.args.sink.now) c.in-Enter.is c.in_ok-enter-in-Enter.ensures.ok

pub returns-in_err-enter-in-Enter-clause-takes : goal.returns-in_err-enter-in-Enter-clause-takes
returns-in_err-enter-in-Enter-clause-takes g c =
    let old = c.args.self.now in
    let p = err_from_is_err_and c.from_residual.result c.from_residual.ensures.1 in
    rw (p.1, p.2)
    (takes_no_enter old.streams (IsCoreHistory g.M.Core.follows) (Watches g.M.Core.stands g.M.Core.bases old.watched.core old.watched.living) (Watches g.M.Core.stands g.M.Core.bases c.enter.new.self.core c.enter.new.self.living)
    c.args.entry (g.K.Sink.written c.args.sink.now) c.in_err-enter-in-Enter.ensures.err)

pub returns-in-Client-clause-takes : goal.returns-in-Client-clause-takes
returns-in-Client-clause-takes g c =
    let old = c.args.self.now in
    let stood = Watches g.M.Core.stands g.M.Core.bases old.watched.core old.watched.living in
    let now = Watches g.M.Core.stands g.M.Core.bases c.take_bytes.new.self.watched.core c.take_bytes.new.self.watched.living in
    takes_client old.streams c.take_bytes.new.self.streams (IsCoreHistory g.M.Core.follows) stood now c.args.entry (g.K.Sink.written c.args.sink.now) (g.K.Sink.written c.take_bytes.new.sink) c.take_bytes.result c.in-Client.is
    c.take_bytes.ensures.takes

pub returns-in-Upstream-clause-takes : goal.returns-in-Upstream-clause-takes
returns-in-Upstream-clause-takes g c =
    let old = c.args.self.now in
    let stood = Watches g.M.Core.stands g.M.Core.bases old.watched.core old.watched.living in
    let now = Watches g.M.Core.stands g.M.Core.bases c.take_bytes-in-Upstream.new.self.watched.core c.take_bytes-in-Upstream.new.self.watched.living in
    takes_server old.streams c.take_bytes-in-Upstream.new.self.streams (IsCoreHistory g.M.Core.follows) stood now c.args.entry (g.K.Sink.written c.args.sink.now) (g.K.Sink.written c.take_bytes-in-Upstream.new.sink) c.take_bytes-in-Upstream.result c.in-Upstream.is
    c.take_bytes-in-Upstream.ensures.takes

pub returns-in-End-clause-takes : goal.returns-in-End-clause-takes
returns-in-End-clause-takes g c =
    let old = c.args.self.now in
    takes_end old.streams (IsCoreHistory g.M.Core.follows) (Watches g.M.Core.stands g.M.Core.bases old.watched.core old.watched.living) (Watches g.M.Core.stands g.M.Core.bases c.take.new.self.core c.take.new.self.living)
    c.args.entry (g.K.Sink.written c.args.sink.now) (g.K.Sink.written c.take.new.sink) c.take.result c.in-End.is c.take.ensures.takes

pub returns-in-Slow-clause-takes : goal.returns-in-Slow-clause-takes
returns-in-Slow-clause-takes g c =
    let old = c.args.self.now in
    takes_slow old.streams (IsCoreHistory g.M.Core.follows) (Watches g.M.Core.stands g.M.Core.bases old.watched.core old.watched.living) (Watches g.M.Core.stands g.M.Core.bases c.take-in-Slow.new.self.core c.take-in-Slow.new.self.living)
    c.args.entry (g.K.Sink.written c.args.sink.now) (g.K.Sink.written c.take-in-Slow.new.sink) c.take-in-Slow.result c.in-Slow.is c.take-in-Slow.ensures.takes

pub returns-in-UpEnd-clause-takes : goal.returns-in-UpEnd-clause-takes
returns-in-UpEnd-clause-takes g c =
    let old = c.args.self.now in
    let stood = Watches g.M.Core.stands g.M.Core.bases old.watched.core old.watched.living in
    let now = Watches g.M.Core.stands g.M.Core.bases c.end_up.new.self.watched.core c.end_up.new.self.watched.living in
    takes_up_end old.streams c.end_up.new.self.streams (IsCoreHistory g.M.Core.follows) stood now c.args.entry (g.K.Sink.written c.args.sink.now) (g.K.Sink.written c.end_up.new.sink) c.end_up.result c.in-UpEnd.is c.end_up.ensures.streams
    (subst
    (λ (l : List ℕ). TakesUpEnd (IsCoreHistory g.M.Core.follows) stood now (end_reason_in l) (g.K.Sink.written c.args.sink.now) (g.K.Sink.written c.end_up.new.sink) c.end_up.result)
    c.as_bytes.ensures c.end_up.ensures.takes)
