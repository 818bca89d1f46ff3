use Rattle.gateway_mux.specs.Spare.{left}
use Rattle.session_one.specs.declared.parts.TheConstants.{MOST_SESSIONS}
use Rattle.std.proofs.Common.{Some}
use Rattle.gateway_mux.specs.Moves.{handed_by}
use Rattle.gateway_mux.specs.Pictures.{Picture, picture, books_in}
use Rattle.gateway_mux.proofs.ActLemmas.{turn_committed}
use Rattle.gateway_mux.proofs.CarryLemmas.{left_for, is_there, turned_result, committed_as}
use Rattle.gateway_mux.proofs.ForgetLemmas.{forgotten_ready, forgotten_commits}
use Rattle.gateway_mux.proofs.ReadyLemmas.{kept_in_all, keeps_ready}
use Rattle.gateway_claim.specs.OwnEvents.{final_in}
use Rattle.gateway_mux.proofs.UpkeepLemmas.{room_asked, settles_now, settled_within}
use Rattle.gateway_mux.proofs.connections.Connections.turn.Goals as goal

pub commit_turn-requires-clause-settles : goal.commit_turn-requires-clause-settles
commit_turn-requires-clause-settles c =
    settles_now c.args.self.now.bases (picture c.args.self.now.seats c.args.self.now.upstream) c.args.answer c.args.turn.now c.args.self.now.upstream.requests.spare c.args.self.now.upstream.sessions.spare c.requires.turn (kept_in_all c.args.self.now.bases c.args.self.now.seats c.args.self.now.upstream c.args.self.now.kept)

pub commit_turn-requires-clause-within : goal.commit_turn-requires-clause-within
commit_turn-requires-clause-within c =
    let planned = c.requires.turn.is_planned in
    settled_within (final_in (books_in (picture c.args.self.now.seats c.args.self.now.upstream)) c.requires.turn.happening) planned.client c.args.turn.now.settled planned.settles

pub commit_turn-requires-clause-room : goal.commit_turn-requires-clause-room
commit_turn-requires-clause-room c asks unsettled =
    room_asked c.args.self.now.bases (picture c.args.self.now.seats c.args.self.now.upstream) c.args.answer c.args.turn.now c.args.self.now.upstream.requests.spare c.args.self.now.upstream.sessions.spare c.requires.turn asks unsettled (kept_in_all c.args.self.now.bases c.args.self.now.seats c.args.self.now.upstream c.args.self.now.kept)

pub commit_turn-requires-clause-left : goal.commit_turn-requires-clause-left
commit_turn-requires-clause-left c asks = left_for c.args.self.now.bases (picture c.args.self.now.seats c.args.self.now.upstream) (left 1 c.args.self.now.upstream.requests.spare c.args.self.now.seats) (left MOST_SESSIONS c.args.self.now.upstream.sessions.spare c.args.self.now.seats) c.args.answer c.args.turn.now c.args.self.now.kept c.requires.turn asks

pub invariant_of-self : goal.invariant_of-self
invariant_of-self c =
    let there = is_there c.args.self.now.bases (picture c.args.self.now.seats c.args.self.now.upstream) c.args.answer c.args.turn.now c.requires.turn in
    let some = c.commit_turn.ensures.some there in
    let turned = keeps_ready c.args.self.now.bases c.args.self.now.seats c.commit_turn.new.seats c.args.self.now.upstream c.commit_turn.new.upstream c.args.answer c.args.turn.now c.commit_turn.result c.requires.turn some
    (turned_result (picture c.args.self.now.seats c.args.self.now.upstream) (picture c.commit_turn.new.seats c.commit_turn.new.upstream) c.args.turn.now c.commit_turn.result
    (c.commit_turn.ensures.done there)
    c.commit_turn.ensures.others c.commit_turn.ensures.issued c.commit_turn.ensures.asked c.commit_turn.ensures.held c.commit_turn.ensures.holder)
    (c.commit_turn.ensures.room some) (c.commit_turn.ensures.spare some) c.commit_turn.ensures.ready
    (record { kept = c.args.self.now.kept; spare = c.args.self.now.spare; spare_session = c.args.self.now.spare_session }) in
    let after = forgotten_ready c.args.self.now.bases c.args.turn.now.conn c.commit_turn.new.seats c.forget.new.self c.commit_turn.new.upstream
    (record { others = c.forget.ensures.others; here = c.forget.ensures.here }) c.forget.ensures.ready turned in
    record { kept = after.kept; spare = after.spare; spare_session = after.spare_session }

pub returns-clause-commits : goal.returns-clause-commits
returns-clause-commits c h planned =
    let one : Picture = picture c.args.self.now.seats c.args.self.now.upstream in
    let mid : Picture = picture c.commit_turn.new.seats c.commit_turn.new.upstream in
    forgotten_commits c.args.self.now.bases one c.args.turn.now.conn c.commit_turn.new.seats c.forget.new.self c.commit_turn.new.upstream h c.handed.result
    (record { others = c.forget.ensures.others; here = c.forget.ensures.here })
    (committed_as c.args.self.now.bases one mid h c.handed.result (handed_by c.args.turn.now.conn c.args.answer c.in-Some.done) c.handed.ensures.hands
    (turn_committed c.args.self.now.bases one mid h c.args.answer c.args.turn.now c.in-Some.done planned
    (turned_result one mid c.args.turn.now (Some c.in-Some.done)
    (c.in-Some.ensures.done (is_there c.args.self.now.bases one c.args.answer c.args.turn.now c.requires.turn))
    c.in-Some.ensures.others c.in-Some.ensures.issued c.in-Some.ensures.asked c.in-Some.ensures.held c.in-Some.ensures.holder)))
