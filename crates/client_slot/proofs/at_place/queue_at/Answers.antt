-- The session at the place is changed.
use Rattle.std.proofs.Common.{◌∙◌, rules, sym, ap}
use Rattle.session_one.specs.declared.parts.Play.{Play}
use Rattle.client_slot.specs.SessionChanges.{when_queued}
use Rattle.client_slot.proofs.PlaceLemmas.{set_where}
use Rattle.client_slot.proofs.at_place.queue_at.Goals as goal

pub returns-in-Some : goal.returns-in-Some
returns-in-Some c =
    set_where c.args.play.place c.in-Some.place c.from.result (when_queued c.args.play) c.args.sessions.now.items c.index_mut.result.now c.queue.new.self (ap (λ (play : Play). play.place) (sym c.play-2.ensures) ∙ c.in-Some.is) c.from.ensures (search rules) (search rules) c.queue.ensures
