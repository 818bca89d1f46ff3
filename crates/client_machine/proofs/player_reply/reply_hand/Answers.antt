-- The player's own request.
use Rattle.std.proofs.Common.{◌∙◌, [], cond, sym, subst, ap, arith}
use Rattle.std.specs.Option.{option_and_then, option_copied, option_map}
use Rattle.rtsp_small.specs.Sessions.{SessionParts}
use Rattle.std.proofs.lemmas.Result.{IfOk-weaker}
use Rattle.session_one.specs.declared.parts.Track.{Track}
use Rattle.translate_down.specs.Replies.{told_by}
use Rattle.client_slot.specs.Purposes.{purpose_seen}
use Rattle.client_slot.specs.declared.purpose.Pending.{Pending}
use Rattle.client_slot.specs.declared.purpose.Pending.TheVariants as lent
use Rattle.client_machine.specs.Step.{session_told, IsToldFor, reply_for, reply_hand}
use Rattle.client_machine.proofs.TimeoutLemmas.{text_alike}
use Rattle.client_machine.proofs.SeenReplyLemmas.{open_apart}
use Rattle.client_machine.proofs.player_reply.reply_hand.Goals as goal

pub reply_down-requires-clause-apart : goal.reply_down-requires-clause-apart
reply_down-requires-clause-apart c = grind (arith, open_apart)

pub returns-in-Client : goal.returns-in-Client
returns-in-Client c =
    let bases = c.args.bases.now in
    let told = told_by c.args.answer.reply.now in
    let id = option_copied c.args.id in
    let seconds = option_and_then (λ (one : SessionParts). one.timeout) in
    IfOk-weaker c.reply_down.result _ _
    (λ text is said matters same.
    is
    ∙ text_alike (record { front = bases.front.text; up = bases.up.text; session = id; client = option_map (λ (one : Track). one.client) (option_copied c.in-Client.track); ssrc = c.args.answer.source; timeout = c.args.timeout }) c.args.timeout (seconds (session_told told)) c.in-Client.asked.now told
    (λ sets. same ∙ ap seconds (subst (λ (pending : Pending). IsToldFor (purpose_seen pending) told said) c.in-Client.is matters sets))
    ∙ ap (λ b. cond b (reply_for bases (purpose_seen (lent.Client c.in-Client.asked c.in-Client.track)) told c.args.answer.source id) []) c.if-alive.ensures
    ∙ ap (λ (pending : Pending). reply_hand bases c.args.slot.now.alive (purpose_seen pending) told c.args.answer.source id) (sym c.in-Client.is))
    c.reply_down.ensures
