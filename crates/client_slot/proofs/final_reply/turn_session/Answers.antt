-- A session's turn is made of its parts.
use Rattle.client_slot.specs.Gains.{brought_seen}
use Rattle.client_slot.specs.Purposes.{purpose_seen}
use Rattle.client_slot.proofs.RoomLemmas.{turn_is}
use Rattle.client_slot.proofs.final_reply.turn_session.Goals as goal

pub returns : goal.returns
returns c =
    turn_is c.args.purpose (purpose_seen c.seen.result) c.args.reply.made c.args.reply.number c.args.reply.code c.args.session.now c.turn.new.self c.of-turn.result (brought_seen c.brings.result) c.is_some.result c.state.result
    c.turn.ensures c.of-turn.ensures c.seen.ensures c.is_some.ensures c.state.ensures c.brings.ensures.brought
