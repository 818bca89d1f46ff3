-- The pieces in a row are the request.
use Rattle.std.proofs.Common.{◌∙◌}
use Rattle.client_slot.proofs.TeardownLemmas.{teardown_pieces}
use Rattle.client_slot.proofs.closing_room.ClosingRoom.write.Goals as goal

pub returns-clause-text : goal.returns-clause-text
returns-clause-text c =
    c.from_vec.ensures
    ∙ teardown_pieces c.args.uri.now c.args.id.now c.as_bytes.result.now _ _ _ _ _ _ _ _ c.args.number c.args.self.empty c.put.ensures.items c.put-2.ensures.items
    c.put-3.ensures.items c.put-4.ensures.items c.put-5.ensures.items c.put-6.ensures.items c.put-7.ensures.items (c.as_bytes.ensures.value ∙ c.format.ensures.text)
