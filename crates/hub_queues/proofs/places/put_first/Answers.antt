use Rattle.std.proofs.Common.{length, refl}
use Rattle.std.proofs.lemmas.Option.{slice_get_read, slice_get_past}
use Rattle.hub_queues.specs.Places.{PutsFirst}
use Rattle.hub_queues.proofs.PlaceLemmas.{set_changes, none_changes}
use Rattle.hub_queues.proofs.places.put_first.Goals as goal

pub returns-in-Some : goal.returns-in-Some
returns-in-Some c =
    let places = c.args.places.now.items in
    set_changes (PutsFirst c.args.item) places c.args.conn c.in-Some.place.now c.put_first.new.self (slice_get_read places (length places) c.args.conn c.in-Some.place.now refl c.in-Some.ensures.item.3.0 c.in-Some.ensures.value)
    c.put_first.ensures.line c.put_first.ensures.receipt

pub returns-in_default : goal.returns-in_default
returns-in_default c = none_changes (PutsFirst c.args.item) c.args.places.now.items c.args.conn (slice_get_past c.args.places.now.items c.args.conn c.in_default.ensures.item.3)
