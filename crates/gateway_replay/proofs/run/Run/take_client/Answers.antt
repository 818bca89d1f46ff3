use Rattle.std.proofs.Common.{rules, ◌≡◌, ◌≢◌, ℕ, Some, None, Ok, refl}
use Rattle.std.proofs.lemmas.Result.{err_from_is_err_and}
use Rattle.std.specs.Prelude.{nat_eq}
use Rattle.std.specs.HashMap.{get}
use Rattle.gateway_claim.specs.Cores.{IsCoreHistory}
use Rattle.gateway_replay.specs.declared.streams.Streams.{Streams}
use Rattle.gateway_replay.specs.declared.streams.Speaker.TheVariants.{Client}
use Rattle.gateway_replay.specs.CoreRecords.{Watches}
use Rattle.gateway_replay.proofs.FeedLemmas.{fed_framed, fresh_framed}
use Rattle.gateway_replay.proofs.RunLemmas.{client_others, takes_bytes, takes_in_part, takes_but_memory}
use Rattle.gateway_replay.proofs.WatchLemmas.{watch_sound}
use Rattle.gateway_replay.proofs.run.Run.take_client.Goals as goal

pub returns-in-Some-clause-takes : goal.returns-in-Some-clause-takes
returns-in-Some-clause-takes g c =
    let old = c.args.self.now in
    let now : Streams = record { clients = c.get_mut.follows.lender c.take_piece.new.framer; server = old.streams.server } in
    let was : get nat_eq old.streams.clients c.args.conn ≡ Some c.in-Some.framer.now = search rules in
    let here : get nat_eq now.clients c.args.conn ≡ Some c.take_piece.new.framer = search rules in
    let others : (i : ℕ) → i ≢ c.args.conn → get nat_eq now.clients i ≡ get nat_eq old.streams.clients i = search rules in
    takes_bytes old.streams now c.in-Some.framer.now c.take_piece.new.framer (IsCoreHistory g.M.Core.follows) (Watches g.M.Core.stands g.M.Core.bases old.watched.core old.watched.living) (Watches g.M.Core.stands g.M.Core.bases c.take_piece.new.watched.core c.take_piece.new.watched.living) (Client c.args.conn) c.args.self.now.spare
    (g.K.Sink.written c.args.sink.now) (g.K.Sink.written c.take_piece.new.sink) c.take_piece.result
    (fed_framed (get nat_eq old.streams.clients c.args.conn) c.in-Some.framer.now was) here (client_others c.args.conn old.streams now others refl) c.take_piece.ensures.takes

pub returns-in_err-take_piece-in-None-clause-takes : goal.returns-in_err-take_piece-in-None-clause-takes
returns-in_err-take_piece-in-None-clause-takes g c =
    let old = c.args.self.now in
    let none : get nat_eq old.streams.clients c.args.conn ≡ None = search rules in
    let p = err_from_is_err_and c.from_residual.result c.from_residual.ensures.1 in
    rw (p.1, p.2)
    (takes_in_part old.streams (record { clients = c.get_mut.follows.lender-at-none; server = old.streams.server }) c.new-framer.result c.take_piece-in-None.new.framer (IsCoreHistory g.M.Core.follows) (Watches g.M.Core.stands g.M.Core.bases old.watched.core old.watched.living) (Watches g.M.Core.stands g.M.Core.bases c.take_piece-in-None.new.watched.core c.take_piece-in-None.new.watched.living) (Client c.args.conn) c.args.self.now.spare
    (g.K.Sink.written c.args.sink.now) (g.K.Sink.written c.take_piece-in-None.new.sink) c.in_err-take_piece-in-None.field-0.0
    (fresh_framed (get nat_eq old.streams.clients c.args.conn) c.new-framer.result none c.new-framer.ensures) c.in_err-take_piece-in-None.ensures.takes)

pub returns-in-Ok-clause-takes : goal.returns-in-Ok-clause-takes
returns-in-Ok-clause-takes g c =
    let old = c.args.self.now in
    let now : Streams = record { clients = c.insert.new.self; server = old.streams.server } in
    let none : get nat_eq old.streams.clients c.args.conn ≡ None = search rules in
    let here : get nat_eq now.clients c.args.conn ≡ Some c.take_piece-in-None.new.framer = search rules in
    let others : (i : ℕ) → i ≢ c.args.conn → get nat_eq now.clients i ≡ get nat_eq old.streams.clients i = search rules in
    takes_bytes old.streams now c.new-framer.result c.take_piece-in-None.new.framer (IsCoreHistory g.M.Core.follows) (Watches g.M.Core.stands g.M.Core.bases old.watched.core old.watched.living) (Watches g.M.Core.stands g.M.Core.bases c.take_piece-in-None.new.watched.core c.take_piece-in-None.new.watched.living) (Client c.args.conn) c.args.self.now.spare
    (g.K.Sink.written c.args.sink.now) (g.K.Sink.written c.take_piece-in-None.new.sink) (Ok tt)
    (fresh_framed (get nat_eq old.streams.clients c.args.conn) c.new-framer.result none c.new-framer.ensures) here (client_others c.args.conn old.streams now others refl) c.in_ok-take_piece-in-None.ensures.takes

pub returns-clause-takes : goal.returns-clause-takes
returns-clause-takes g c =
    let laws = g.met.M.Core g.world.𝓛 g.world.𝓜 g.world.𝓡 ((λ s x. x), (λ x. x), (λ x. x), λ x. x) in
    let old = c.args.self.now in
    let none : get nat_eq old.streams.clients c.args.conn ≡ None = search rules in
    takes_but_memory old.streams (record { clients = c.insert.new.self; server = old.streams.server }) c.new-framer.result c.take_piece-in-None.new.framer (IsCoreHistory g.M.Core.follows) (Watches g.M.Core.stands g.M.Core.bases old.watched.core old.watched.living) (Watches g.M.Core.stands g.M.Core.bases c.take_piece-in-None.new.watched.core c.take_piece-in-None.new.watched.living) (Client c.args.conn) c.args.self.now.spare
    (g.K.Sink.written c.args.sink.now) (g.K.Sink.written c.take_piece-in-None.new.sink)
    (fresh_framed (get nat_eq old.streams.clients c.args.conn) c.new-framer.result none c.new-framer.ensures)
    (watch_sound g.M.Core.stands g.M.Core.bases g.M.Core.follows laws.history c.take_piece-in-None.new.watched.core c.take_piece-in-None.new.watched.living)
    c.in_ok-take_piece-in-None.ensures.takes
