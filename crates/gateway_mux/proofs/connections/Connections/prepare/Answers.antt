use Rattle.std.proofs.Common.{◌≡◌, ◌≤◌, ℕ, refl, sym, ap, subst, arith}
use Rattle.rtsp_uri.specs.declared.base.Bases.{Bases}
use Rattle.session_one.specs.declared.parts.TheConstants.{MOST_SESSIONS}
use Rattle.up_books.specs.Ids.{holder_in}
use Rattle.up_books.specs.Numbers.{asker_in}
use Rattle.gateway_mux.specs.declared.upstream.UpstreamBooks.{UpstreamBooks}
use Rattle.gateway_mux.proofs.CarryLemmas.{requests_grown, sessions_grown}
use Rattle.gateway_mux.proofs.ReadyLemmas.{IsKeptReady, IsPreparing, room_grown, preparing_first, preparing_more, preparing_kept, then_same, preparing_done}
use Rattle.gateway_mux.proofs.connections.Connections.prepare.Goals as goal

same_now : (n : ℕ) → n ≤ n
same_now n = grind arith

at_end : (n : ℕ) → n ≤ 4 → 4 ≤ n → n ≡ MOST_SESSIONS
at_end n low high = grind arith

-- src/connections.rt:56:9
pub invariant_of-self : goal.invariant_of-self
invariant_of-self c =
    let old : UpstreamBooks = c.args.self.now.upstream in
    let grown = requests_grown c.room.result old.requests c.room.new.self c.room.ensures.ok c.room.ensures.err in
    let keeps : IsKeptReady c.args.self.now.bases c.args.self.now.seats old = record { kept = c.args.self.now.kept; spare = c.args.self.now.spare; spare_session = c.args.self.now.spare_session } in
    let after = room_grown c.args.self.now.bases c.args.self.now.seats c.args.self.now.seats old (record { requests = c.room.new.self; sessions = old.sessions; channels = old.channels }) (sym c.if-is_ready.ensures) refl
    (record { clients = λ i. refl; asker = λ n. ap (asker_in n) grown.1; held = λ p. refl; holder = λ id. refl; issued = grown.0 }) grown.2 (same_now old.sessions.spare) keeps in
    record { kept = after.kept; spare = after.spare; spare_session = after.spare_session }

-- src/connections.rt:57:9
pub loop-place-init : goal.loop-place-init
loop-place-init c = (preparing_first c.args.self.now.seats c.args.self.now.upstream c.room.new.self (sym c.if-is_ready.ensures) c.in_ok-room.ensures.ok, refl)

-- src/connections.rt:58:13
pub invariant_of-self-in-loop-place : goal.invariant_of-self-in-loop-place
invariant_of-self-in-loop-place c =
    let now : UpstreamBooks = c.loop-place.self.upstream in
    let more = sessions_grown c.room-in-loop-place.result now.sessions c.room-in-loop-place.new.self c.room-in-loop-place.ensures.ok c.room-in-loop-place.ensures.err in
    let keeps : IsKeptReady c.loop-place.self.bases c.loop-place.self.seats now = record { kept = c.loop-place.self.kept; spare = c.loop-place.self.spare; spare_session = c.loop-place.self.spare_session } in
    let after = room_grown c.loop-place.self.bases c.loop-place.self.seats c.loop-place.self.seats now (record now { sessions = c.room-in-loop-place.new.self }) c.loop-place.invariant.0.idle refl
    (record { clients = λ i. refl; asker = λ n. refl; held = λ p. refl; holder = λ id. ap (holder_in id) more.0; issued = refl }) (same_now now.requests.spare) more.1 keeps in
    record { kept = after.kept; spare = after.spare; spare_session = after.spare_session }

-- src/connections.rt:58:13
pub returns-in_err-room-2-clause-same : goal.returns-in_err-room-2-clause-same
returns-in_err-room-2-clause-same c =
    let now : UpstreamBooks = c.loop-place.self.upstream in
    let more = sessions_grown c.room-in-loop-place.result now.sessions c.room-in-loop-place.new.self c.room-in-loop-place.ensures.ok c.room-in-loop-place.ensures.err in
    preparing_kept c.args.self.now.seats c.loop-place.self.seats c.args.self.now.upstream now c.loop-place._place c.room-in-loop-place.new.self more.0 c.loop-place.invariant.0

-- src/connections.rt:58:13
pub returns-in_err-room-2-clause-bases : goal.returns-in_err-room-2-clause-bases
returns-in_err-room-2-clause-bases c = c.loop-place.invariant.1

-- src/connections.rt:57:9
pub loop-place-preserved : goal.loop-place-preserved
loop-place-preserved c =
    (preparing_more c.args.self.now.seats c.loop-place.self.seats c.args.self.now.upstream c.loop-place.self.upstream c.loop-place._place c.room-in-loop-place.new.self c.in_ok-room-2.ensures.ok c.loop-place.invariant.0, c.loop-place.invariant.1)

-- src/connections.rt:60:9
pub invariant_of-self-2 : goal.invariant_of-self-2
invariant_of-self-2 c =
    let all : IsPreparing c.args.self.now.seats c.loop-place.self.seats c.args.self.now.upstream c.loop-place.self.upstream MOST_SESSIONS =
    subst (λ (n : ℕ). IsPreparing c.args.self.now.seats c.loop-place.self.seats c.args.self.now.upstream c.loop-place.self.upstream n) (at_end c.loop-place._place c.loop-place.auto._place-end c.loop-place-test.false) c.loop-place.invariant.0 in
    let keeps : IsKeptReady c.args.self.now.bases c.args.self.now.seats c.args.self.now.upstream = record { kept = c.args.self.now.kept; spare = c.args.self.now.spare; spare_session = c.args.self.now.spare_session } in
    let after = preparing_done c.args.self.now.bases c.args.self.now.seats c.loop-place.self.seats c.prepare.new.self c.args.self.now.upstream c.loop-place.self.upstream c.prepare.result (sym c.if-is_ready.ensures) c.prepare.ensures.ready c.prepare.ensures.err
    c.prepare.ensures.clients all keeps in
    let here = subst (λ (bases : Bases). IsKeptReady bases c.prepare.new.self c.loop-place.self.upstream) (sym c.loop-place.invariant.1) after in
    record { kept = here.kept; spare = here.spare; spare_session = here.spare_session }

-- src/connections.rt:46:5
pub returns-clause-same : goal.returns-clause-same
returns-clause-same c =
    then_same c.args.self.now.seats c.loop-place.self.seats c.prepare.new.self c.args.self.now.upstream c.loop-place.self.upstream c.prepare.ensures.clients c.loop-place.invariant.0.same

-- src/connections.rt:46:5
pub returns-clause-bases : goal.returns-clause-bases
returns-clause-bases c = c.loop-place.invariant.1
