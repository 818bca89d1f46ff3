-- The success of a player's request.
use Rattle.std.proofs.Common.{◌∙◌, Bool, cond, sym, ap}
use Rattle.session_one.specs.declared.table.State.{State}
use Rattle.session_one.specs.Table.{state_after}
use Rattle.client_slot.specs.declared.purpose.Pending.{Pending}
use Rattle.client_slot.specs.Purposes.{purpose_seen}
use Rattle.client_slot.specs.SessionTurns.{moved_turn, granted_turn, reply_turn}
use Rattle.client_slot.proofs.session_turn.SessionTurn.of.Goals as goal

pub returns-in-Client : goal.returns-in-Client
returns-in-Client c =
    c.granted.ensures
    ∙ ap (λ (state : State). granted_turn c.in-Client.asked.now.method c.args.is_made state) c.after.ensures
    ∙ ap (λ (success : Bool). cond success (granted_turn c.in-Client.asked.now.method c.args.is_made (state_after c.args.state c.in-Client.asked.now.method c.args.code)) (moved_turn c.args.state)) (sym (sym c.is_success.ensures ∙ c.if-is_success.true))
    ∙ ap (λ (pending : Pending). reply_turn (purpose_seen pending) c.args.code c.args.is_made c.args.state) (sym c.in-Client.is)
