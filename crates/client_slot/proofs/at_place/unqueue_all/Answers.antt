-- One session more has no PLAY that waits.
use Rattle.std.proofs.Common.{◌∙◌, rules, refl, ap}
use Rattle.client_slot.specs.SessionChanges.{when_unqueued}
use Rattle.client_slot.proofs.PlaceLemmas.{set_back, front_changed, front_next, front_all}
use Rattle.client_slot.proofs.at_place.unqueue_all.Goals as goal

pub loop-place-preserved : goal.loop-place-preserved
loop-place-preserved c =
    set_back c.loop-place.place c.loop-place.place when_unqueued c.loop-place.sessions.items c.index_mut.result.now c.unqueue.new.self refl (search rules) (search rules) c.unqueue.ensures
    ∙ front_next c.loop-place.place when_unqueued c.args.sessions.now.items c.loop-place.sessions.items c.loop-place.invariant

pub returns : goal.returns
returns c = c.loop-place.invariant ∙ ap (λ count. front_changed count when_unqueued c.args.sessions.now.items) (search rules) ∙ front_all when_unqueued c.args.sessions.now.items
