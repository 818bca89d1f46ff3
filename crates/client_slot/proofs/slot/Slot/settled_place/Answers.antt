-- The place of an open request is one of the four.
use Rattle.std.proofs.Common.{◌∙◌, rules, ap, List}
use Rattle.client_slot.specs.Session.{PlayerSession}
use Rattle.client_slot.specs.Changes.{settled_place}
use Rattle.client_slot.proofs.RoomLemmas.{settled_within, some_id, is_some_id, open_placed}
use Rattle.client_slot.proofs.slot.Slot.settled_place.Goals as goal

pub returns-in-Some-clause-within : goal.returns-in-Some-clause-within
returns-in-Some-clause-within c =
    settled_within c.in-Some.purpose (some_id c.args.is_made) c.self.inside.sessions.items c.settled_place.result
    (c.settled_place.ensures (some_id c.args.is_made) (is_some_id c.args.is_made) ∙ ap (λ (all : List PlayerSession). settled_place c.in-Some.purpose (some_id c.args.is_made) all) (search rules))
    (open_placed c.self.inside.pending c.in-Some.purpose c.self.inside.sessions.items (search rules) c.self.invariant.placed)
