-- The hub's ends of its ports stay in place.
use Rattle.std.proofs.Common.{◌≡◌, ◌≢◌, ◌∙◌, ℕ, Bool, true, false, ◌==◌, List, length, Option, Some, None, refl, sym, ap, subst, inl, inr}
use Rattle.std.specs.Global.{Vec}
use Rattle.std.proofs.lemmas.Bool.{ne_eqb}
use Rattle.gate_transcript.specs.declared.recorder.NoteFault.{NoteFault}
use Rattle.gate_transcript.specs.declared.recorder.NoteFault.TheVariants as notes
use Rattle.rtsp_head.specs.declared.item.Item.{Item}
use Rattle.client_ports.specs.declared.putter.Putter.{Putter}
use Rattle.client_ports.specs.declared.taker.Taker.{Taker}
use Rattle.client_ports.specs.Ends.{put_of, taken_of, putters_port, takers_port, capacity_of}
use Rattle.gateway_claim.specs.declared.event.Closed.{Closed}
use Rattle.gateway_claim.specs.declared.event.Closed.TheVariants.{Nobody, One, All}
use Rattle.gateway_claim.specs.declared.event.Event.{Event}
use Rattle.gateway_claim.specs.declared.event.Event.TheVariants as events
use Rattle.gateway_claim.specs.declared.event.Outcome.{Outcome}
use Rattle.gateway_claim.specs.declared.event.ToClient.{ToClient}
use Rattle.hub_queues.specs.declared.ending.Ending.{Ending}
use Rattle.gateway_hub.specs.declared.fault.HubFault.{HubFault}
use Rattle.hub_queues.specs.declared.ending.StopWhy.{StopWhy}
use Rattle.hub_queues.specs.declared.line.HubConnection.{HubConnection}
use Rattle.hub_queues.specs.declared.line.Place.{Place}
use Rattle.hub_queues.specs.declared.line.Place.TheVariants.{Retired}
use Rattle.hub_queues.specs.declared.receipt.Receipt.{Receipt}
use Rattle.hub_queues.specs.declared.server.Server.{Server}
use Rattle.gateway_hub.specs.declared.desk.Desk.{Desk}
use Rattle.gateway_hub.specs.declared.desk.Delivery.{Delivery}
use Rattle.gateway_hub.specs.Ends.{KeepsTaker, KeepsPort, KeepsLine, EachLine, KeepsEnds, KeepsOtherEnds}
use Rattle.gateway_hub.specs.Enter.{Seats}
use Rattle.gateway_hub.specs.Retire.{RetiresBy, RetiresPlace}
use Rattle.hub_queues.specs.Room.{IsLookedAt}
use Rattle.gateway_hub.specs.Rooms.{LooksAt}
use Rattle.hub_queues.specs.Places.{line_of, line_at, Changes, LineChanges, CountsItem, FetchesLine, PutsFirst, PutsBytes, ClosesOne, HandsOut}
use Rattle.hub_queues.specs.Servers.{FetchesUp}
use Rattle.gateway_hub.specs.Desks.{CountsOne, HandsAll}
use Rattle.gateway_hub.specs.Take.{Stops}
use Rattle.gateway_hub.specs.Calls.{GivesBack, Refuses}
use Rattle.gateway_hub.proofs.EnterLemmas.{snoc_get}
use Rattle.hub_queues.proofs.PlaceLemmas.{found_other}
use Rattle.hub_queues.proofs.FrontLemmas.{begins_as, begins_twice, into_front}

-- One end.
taker_as : (before now : Taker) → now ≡ before → KeepsTaker before now
taker_as before now same = record { port = ap takers_port same; taken = begins_as (taken_of before) (taken_of now) (ap taken_of same) }

putter_as : (before now : Putter) → now ≡ before → KeepsPort before now
putter_as before now same = record { end = record { port = ap putters_port same; capacity = ap capacity_of same }; put = begins_as (put_of before) (put_of now) (ap put_of same) }

taker_twice : (before between now : Taker) → KeepsTaker before between → KeepsTaker between now → KeepsTaker before now
taker_twice before between now first next = record { port = next.port ∙ first.port; taken = begins_twice (taken_of before) (taken_of between) (taken_of now) first.taken next.taken }

putter_twice : (before between now : Putter) → KeepsPort before between → KeepsPort between now → KeepsPort before now
putter_twice before between now first next = record {
  end = record { port = next.end.port ∙ first.end.port; capacity = next.end.capacity ∙ first.end.capacity };
  put = begins_twice (put_of before) (put_of between) (put_of now) first.put next.put;
}

-- A line.
line_as : (before now : HubConnection) → now.inward ≡ before.inward → now.outward ≡ before.outward → KeepsLine before now
line_as before now inward outward = record { inward = taker_as before.inward now.inward inward; outward = putter_as before.outward now.outward outward }

line_same : (line : HubConnection) → KeepsLine line line
line_same line = line_as line line refl refl

line_twice : (before between now : HubConnection) → KeepsLine before between → KeepsLine between now → KeepsLine before now
line_twice before between now first next = record {
  inward = taker_twice before.inward between.inward now.inward first.inward next.inward;
  outward = putter_twice before.outward between.outward now.outward first.outward next.outward;
}

line_put : (bytes : List ℕ) (full : Bool) (before now : HubConnection) → PutsBytes bytes full before now → KeepsLine before now
line_put bytes full before now puts = record {
  inward = taker_as before.inward now.inward puts.inward;
  outward = record { end = puts.outward.end; put = into_front bytes full before.outward now.outward puts.outward };
}

line_fetched : (item : Option Item) (before now : HubConnection) → FetchesLine item before now → KeepsLine before now
line_fetched item before now fetches = record {
  inward = record { port = fetches.fetches.port; taken = fetches.fetches.taken };
  outward = putter_as before.outward now.outward fetches.outward;
}

-- Each line.
pub changes_weaker : (change whole : HubConnection → HubConnection → Type 0) → ((was now : HubConnection) → change was now → whole was now) → ((line : HubConnection) → whole line line)
    → (here : Bool) (before now : Option HubConnection) → Changes here change before now → Changes true whole before now
changes_weaker change whole weaker same false None now is = is
changes_weaker change whole weaker same false (Some line) now is = (line, is, same line)
changes_weaker change whole weaker same true None now is = is
changes_weaker change whole weaker same true (Some line) now is = (is.0, is.1, weaker line is.0 is.2)

pub changes_twice : (one other both : HubConnection → HubConnection → Type 0) → ((before between now : HubConnection) → one before between → other between now → both before now)
    → (before between now : Option HubConnection) → Changes true one before between → Changes true other between now → Changes true both before now
changes_twice one other both join None between now first next = subst (λ (o : Option HubConnection). Changes true other o now) first next
changes_twice one other both join (Some line) between now first next =
    let then = subst (λ (o : Option HubConnection). Changes true other o now) first.1 next in
    (then.0, then.1, join line first.0 then.0 first.2 then.2)

pub each_same : (whole : HubConnection → HubConnection → Type 0) → ((line : HubConnection) → whole line line) → (before now : List Place) → now ≡ before → EachLine whole before now
each_same whole same before now is i = changes_weaker whole whole (λ w n c. c) same false (line_at before i) (line_at now i) (ap (λ (l : List Place). line_at l i) is)

pub each_one : (conn : ℕ) (change whole : HubConnection → HubConnection → Type 0) → ((was now : HubConnection) → change was now → whole was now) → ((line : HubConnection) → whole line line) → (before now : List Place) → LineChanges conn change before now → EachLine whole before now
each_one conn change whole weaker same before now changes i = changes_weaker change whole weaker same (conn == i) (line_at before i) (line_at now i) (changes.lines i)

pub each_twice : (one other both : HubConnection → HubConnection → Type 0) → ((before between now : HubConnection) → one before between → other between now → both before now)
    → (before between now : List Place) → EachLine one before between → EachLine other between now → EachLine both before now
each_twice one other both join before between now first next i = changes_twice one other both join (line_at before i) (line_at between i) (line_at now i) (first i) (next i)

pub each_counted : (whole : HubConnection → HubConnection → Type 0) → ((was now : HubConnection) → CountsItem was now → whole was now) → ((line : HubConnection) → whole line line) → (asker : Option ℕ) (before now : List Place) → CountsOne asker before now → EachLine whole before now
each_counted whole weaker same None before now is = each_same whole same before now is
each_counted whole weaker same (Some conn) before now is = each_one conn CountsItem whole weaker same before now is

pub each_closed : (whole : HubConnection → HubConnection → Type 0) → ((was now : HubConnection) → now.inward ≡ was.inward → now.outward ≡ was.outward → whole was now) → ((line : HubConnection) → whole line line)
    → (heard : Bool) (closed : Closed) (before now : List Place) → ClosesOne heard closed before now → EachLine whole before now
each_closed whole weaker same heard Nobody before now is = each_same whole same before now is
each_closed whole weaker same heard (One conn why) before now is = each_one conn _ whole (λ w n c. weaker w n c.inward c.outward) same before now is
each_closed whole weaker same heard All before now is = each_same whole same before now is

each_handed : (piece : Option ToClient) (full : Option ℕ) (before now : List Place) → HandsOut piece full before now → EachLine KeepsLine before now
each_handed None full before now is = each_same KeepsLine line_same before now is.1
each_handed (Some piece) full before now is = each_one piece.conn (PutsBytes piece.bytes is.0) KeepsLine (line_put piece.bytes is.0) line_same before now is.2

-- All ends.
pub ends_same : (before now : Desk) → now.server ≡ before.server → now.places.items ≡ before.places.items → KeepsEnds before now
ends_same before now server places = record {
  inward = taker_as before.server.inward now.server.inward (ap (λ (s : Server). s.inward) server);
  outward = putter_as before.server.outward now.server.outward (ap (λ (s : Server). s.outward) server);
  lines = each_same KeepsLine line_same before.places.items now.places.items places;
}

pub ends_here : (desk : Desk) → KeepsEnds desk desk
ends_here desk = ends_same desk desk refl refl

pub ends_as : (before now : Desk) → now ≡ before → KeepsEnds before now
ends_as before now same = ends_same before now (ap (λ (d : Desk). d.server) same) (ap (λ (d : Desk). d.places.items) same)

pub ends_twice : (before between now : Desk) → KeepsEnds before between → KeepsEnds between now → KeepsEnds before now
ends_twice before between now first next = record {
  inward = taker_twice before.server.inward between.server.inward now.server.inward first.inward next.inward;
  outward = putter_twice before.server.outward between.server.outward now.server.outward first.outward next.outward;
  lines = each_twice KeepsLine KeepsLine KeepsLine line_twice before.places.items between.places.items now.places.items first.lines next.lines;
}

pub stop_ends : (why : StopWhy) (before now : Desk) → Stops why before now → KeepsEnds before now
stop_ends why before now stops = ends_same before now stops.server (ap (λ (v : Vec Place). v.items) stops.places)

pub refuse_ends : (fault : NoteFault) (answer : HubFault) (before now : Desk) → Refuses fault answer before now → KeepsEnds before now
refuse_ends notes.Memory answer before now is = ends_as before now is.1
refuse_ends notes.Failed answer before now is = stop_ends _ before now is.1

-- The first item in line is taken out of it, or put back.
pub fetch_ends : (conn : ℕ) (item : Option Item) (before now : Desk) → LineChanges conn (FetchesLine item) before.places.items now.places.items → now.server ≡ before.server → KeepsEnds before now
fetch_ends conn item before now changes server = record {
  inward = taker_as before.server.inward now.server.inward (ap (λ (s : Server). s.inward) server);
  outward = putter_as before.server.outward now.server.outward (ap (λ (s : Server). s.outward) server);
  lines = each_one conn (FetchesLine item) KeepsLine (line_fetched item) line_same before.places.items now.places.items changes;
}

pub fetch_up_ends : (item : Option Item) (before now : Desk) → FetchesUp item before.server now.server → now.places ≡ before.places → KeepsEnds before now
fetch_up_ends item before now fetches places = record {
  inward = record { port = fetches.fetches.port; taken = fetches.fetches.taken };
  outward = putter_as before.server.outward now.server.outward fetches.outward;
  lines = each_same KeepsLine line_same before.places.items now.places.items (ap (λ (v : Vec Place). v.items) places);
}

pub back_ends : (event : Event) (before now : Desk) → GivesBack event before now → KeepsEnds before now
back_ends (events.Client conn item) before now back = record {
  inward = taker_as before.server.inward now.server.inward (ap (λ (s : Server). s.inward) back.server);
  outward = putter_as before.server.outward now.server.outward (ap (λ (s : Server). s.outward) back.server);
  lines = each_one conn (PutsFirst item) KeepsLine (λ w n p. line_as w n p.inward p.outward) line_same before.places.items now.places.items back.lines;
}
back_ends (events.Up item) before now back = record {
  inward = taker_as before.server.inward now.server.inward back.server.inward;
  outward = putter_as before.server.outward now.server.outward back.server.outward;
  lines = each_same KeepsLine line_same before.places.items now.places.items (ap (λ (v : Vec Place). v.items) back.lines);
}
back_ends (events.End conn) before now back = ends_same before now back.server (ap (λ (v : Vec Place). v.items) back.lines)
back_ends (events.Slow conn) before now back = ends_same before now back.server (ap (λ (v : Vec Place). v.items) back.lines)
back_ends (events.UpEnd why) before now back = ends_same before now back.server (ap (λ (v : Vec Place). v.items) back.lines)

-- What an outcome asks for is done.
pub hand_ends : (asker : Option ℕ) (heard : Bool) (o : Outcome) (delivery : Delivery) (before now : Desk) → HandsAll asker heard o delivery before now → KeepsEnds before now
hand_ends asker heard o delivery before now hands = record {
  inward = taker_as before.server.inward now.server.inward hands.up.inward;
  outward = record { end = hands.up.outward.end; put = hands.up.outward.front };
  lines = each_twice KeepsLine KeepsLine KeepsLine line_twice before.places.items hands.counted now.places.items
      (each_counted KeepsLine (λ w n c. line_as w n c.inward c.outward) line_same asker before.places.items hands.counted hands.counts)
      (each_twice KeepsLine KeepsLine KeepsLine line_twice hands.counted hands.closed now.places.items (each_closed KeepsLine line_as line_same heard o.closed hands.counted hands.closed hands.closes)
      (each_handed o.to_client delivery.client hands.closed now.places.items hands.hands));
}

-- A line's port for its client was looked at.
line_looked : (before now : HubConnection) → IsLookedAt before now → KeepsLine before now
line_looked before now looked = record {
  inward = taker_as before.inward now.inward looked.inward;
  outward = record { end = looked.outward.end; put = begins_as (put_of before.outward) (put_of now.outward) looked.outward.put };
}

pub look_ends : (conn : ℕ) (before now : Desk) → LooksAt conn before now → KeepsEnds before now
look_ends conn before now looks = record {
  inward = taker_as before.server.inward now.server.inward (ap (λ (s : Server). s.inward) looks.server);
  outward = putter_as before.server.outward now.server.outward (ap (λ (s : Server). s.outward) looks.server);
  lines = each_one conn IsLookedAt KeepsLine line_looked line_same before.places.items now.places.items looks.lines;
}

-- All ends stay but one connection's.
pub other_ends : (conn : ℕ) (before now : Desk) → KeepsEnds before now → KeepsOtherEnds conn before now
other_ends conn before now ends = record { inward = ends.inward; outward = ends.outward; lines = λ i other. ends.lines i }

pub other_same : (conn : ℕ) (before now : Desk) → now.server ≡ before.server → now.places.items ≡ before.places.items → KeepsOtherEnds conn before now
other_same conn before now server places = other_ends conn before now (ends_same before now server places)

others_as : (conn : ℕ) (before now : Desk) → now.server ≡ before.server → ((i : ℕ) → i ≢ conn → line_at now.places.items i ≡ line_at before.places.items i) → KeepsOtherEnds conn before now
others_as conn before now server same = record {
  inward = taker_as before.server.inward now.server.inward (ap (λ (s : Server). s.inward) server);
  outward = putter_as before.server.outward now.server.outward (ap (λ (s : Server). s.outward) server);
  lines = λ i other. changes_weaker KeepsLine KeepsLine (λ w n c. c) line_same false (line_at before.places.items i) (line_at now.places.items i) (same i other);
}

pub seat_ends : (line : HubConnection) (before now : Desk) → Seats line before now → KeepsOtherEnds (length before.places.items) before now
seat_ends line before now seats = others_as (length before.places.items) before now seats.server (λ i other.
    ap (λ (l : List Place). line_at l i) seats.places ∙ elim (snoc_get before.places.items seats.place i) [ inl same ↦ ap line_of same | inr new ↦ absurd (other new.0) ])

retired_other : (conn pushed taken : ℕ) (fall : Option Bool) (ending : Option Ending) (receipt : Receipt) (before now : List Place) (line : Option HubConnection) → RetiresBy conn pushed taken fall ending receipt before now line → (i : ℕ) → i ≢ conn → line_at now i ≡ line_at before i
retired_other conn pushed taken fall ending receipt before now None retires i other = ap (λ (l : List Place). line_at l i) retires.0
retired_other conn pushed taken fall ending receipt before now (Some line) retires i other =
    ap (λ (l : List Place). line_at l i) retires.0 ∙ ap line_of (found_other before conn i (Retired receipt) (ne_eqb conn i (λ same. other (sym same))))

pub retire_ends : (conn pushed taken : ℕ) (fall : Option Bool) (ending : Option Ending) (receipt : Receipt) (before mid now : Desk) → KeepsEnds before mid → now.server ≡ mid.server → RetiresPlace conn pushed taken fall ending receipt mid.places.items now.places.items → KeepsOtherEnds conn before now
retire_ends conn pushed taken fall ending receipt before mid now first server retires =
    let next = others_as conn mid now server (retired_other conn pushed taken fall ending receipt mid.places.items now.places.items (line_at mid.places.items conn) retires) in
    record {
      inward = taker_twice before.server.inward mid.server.inward now.server.inward first.inward next.inward;
      outward = putter_twice before.server.outward mid.server.outward now.server.outward first.outward next.outward;
      lines = λ i other. changes_twice KeepsLine KeepsLine KeepsLine line_twice (line_at before.places.items i) (line_at mid.places.items i) (line_at now.places.items i) (first.lines i) (next.lines i other);
    }
