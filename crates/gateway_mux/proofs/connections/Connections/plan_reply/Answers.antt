use Rattle.session_one.specs.declared.parts.TheConstants.{MOST_SESSIONS}
use Rattle.std.proofs.Common.{refl, ◌∙◌, ◌≡◌, ◌<◌, nat_lt, ℕ, true, Option, None, IfSome, sym, ap, subst, arith}
use Rattle.std.specs.Option.{option_copied, option_and_then}
use Rattle.rtsp_transport.specs.declared.grant.Grant.{Grant}
use Rattle.head_two.specs.ServerMessages.{ReplyParts}
use Rattle.client_slot.specs.declared.purpose.Purpose.{Purpose}
use Rattle.client_slot.specs.Purposes.{purpose_seen}
use Rattle.client_machine.specs.Plans.{replies}
use Rattle.gateway_claim.specs.Happenings.{hears}
use Rattle.gateway_mux.specs.Spare.{left}
use Rattle.gateway_mux.specs.declared.settlement.Settlement.{Settlement}
use Rattle.gateway_mux.specs.declared.turn_facts.TurnFacts.{TurnFacts}
use Rattle.gateway_mux.specs.Acts.{IsSaid}
use Rattle.gateway_mux.specs.WrongGrants.{IsLowPurpose}
use Rattle.gateway_mux.specs.Pictures.{picture}
use Rattle.gateway_mux.proofs.UpkeepLemmas.{open_asked, low_open}
use Rattle.gateway_mux.proofs.FactLemmas.{no_client, no_pending, right_here, early_settled, late_settled, reply_said}
use Rattle.gateway_mux.proofs.connections.Connections.plan_reply.Goals.{then-reply-lt200, else-reply-lt200+in_ok-what_settles}
use Rattle.gateway_mux.proofs.connections.Connections.plan_reply.Goals as goal

-- the facts of the turn that a reply with this number makes
abbrev numbered : ℕ → ℕ → Option Settlement → TurnFacts
numbered conn number settled = record { conn = conn; number = number; settled = settled; answer = None }

below : (n : ℕ) → n < 200 → nat_lt n 200 ≡ true
below n low = grind arith

pub unreachable-requires : goal.unreachable-requires
unreachable-requires c =
    no_client (picture c.args.self.now.seats c.args.self.now.upstream) c.in-Some.conn
    (open_asked c.args.self.now.bases (picture c.args.self.now.seats c.args.self.now.upstream) (left 1 c.args.self.now.upstream.requests.spare c.args.self.now.seats) (left MOST_SESSIONS c.args.self.now.upstream.sessions.spare c.args.self.now.seats) c.reply.inside.cseq c.in-Some.conn (sym c.in-Some.ensures) c.args.self.now.kept)
    c.in_default-seat.ensures

pub unreachable-requires-in_default-pending : goal.unreachable-requires-in_default-pending
unreachable-requires-in_default-pending c =
    no_pending (picture c.args.self.now.seats c.args.self.now.upstream) c.in-Some.conn c.in-Some-seat.seat.slot.now
    (open_asked c.args.self.now.bases (picture c.args.self.now.seats c.args.self.now.upstream) (left 1 c.args.self.now.upstream.requests.spare c.args.self.now.seats) (left MOST_SESSIONS c.args.self.now.upstream.sessions.spare c.args.self.now.seats) c.reply.inside.cseq c.in-Some.conn (sym c.in-Some.ensures) c.args.self.now.kept)
    c.in-Some-seat.ensures.1 (sym c.in_default-pending.ensures)

pub breach-requires-clause-low : goal.breach-requires-clause-low
breach-requires-clause-low c =
    subst (λ (pending : Option Purpose). IfSome pending IsLowPurpose) (sym c.in-Some-pending.ensures)
    (low_open c.args.self.now.bases (picture c.args.self.now.seats c.args.self.now.upstream) (left 1 c.args.self.now.upstream.requests.spare c.args.self.now.seats) (left MOST_SESSIONS c.args.self.now.upstream.sessions.spare c.args.self.now.seats) c.in-Some.conn c.in-Some-seat.seat.slot.now c.in-Some-seat.ensures.1 c.args.self.now.kept)

pub breach-requires-clause-grant : goal.breach-requires-clause-grant
breach-requires-clause-grant c = c.grant_said-grant.ensures

pub returns-clause-act : goal.returns-clause-act
returns-clause-act c shape says =
    c.plan_turn.ensures.act (hears shape)
    (subst (λ (it : TurnFacts). IsSaid c.args.self.now.bases (picture c.args.self.now.seats c.args.self.now.upstream) (hears shape) it (replies c.args.reply.now c.source_in-source.result))
    (ap (λ (reply : ReplyParts). numbered c.in-Some.conn reply.cseq c.if-reply-lt200.settled) (sym c.reply.view_is)
    ∙ ap (λ (alone : TurnFacts). record alone { number = c.reply.inside.cseq; settled = c.if-reply-lt200.settled }) (sym c.alone.ensures))
    (reply_said c.args.self.now.bases (picture c.args.self.now.seats c.args.self.now.upstream) shape c.args.reply.now c.source_in-source.result c.in-Some.conn c.in-Some-seat.seat.slot.now c.if-reply-lt200.settled (c.source_in-source.ensures ∙ ap (option_and_then (λ (grant : Grant). grant.ssrc)) c.grant_said-grant.ensures) says (ap (λ (reply : ReplyParts). (picture c.args.self.now.seats c.args.self.now.upstream).asker reply.cseq) (sym c.reply.view_is) ∙ sym c.in-Some.ensures) c.in-Some-seat.ensures.1
    (right_here (picture c.args.self.now.seats c.args.self.now.upstream) c.in-Some-seat.seat.slot.now (purpose_seen c.in-Some-pending.pending) (option_copied c.named_by.result) c.args.reply.now c.breach.result c.in-Some-pending.ensures c.named_by.ensures
    (c.breach.ensures c.in-Some-seat.seat.slot.now.sessions) c.in_default-breach.is)
    (elim c.if-reply-lt200.branch [
      | then-reply-lt200 w ↦ early_settled c.args.reply.now c.in-Some.conn c.in-Some-seat.seat.slot.now c.if-reply-lt200.settled (below c.args.reply.now.code (subst (λ (reply : ReplyParts). reply.code < 200) c.reply.view_is w.if-reply-lt200.true)) w.settled-is
      | else-reply-lt200+in_ok-what_settles w ↦
          late_settled c.args.reply.now c.in-Some.conn c.in-Some-seat.seat.slot.now c.if-reply-lt200.settled w.in_ok-what_settles.field-0 (w.in_ok-what_settles.ensures c.in-Some.conn c.in-Some-seat.seat.slot.now refl (sym c.in-Some-pending.ensures)) w.settled-is
    ])))
