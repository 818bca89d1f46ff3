-- For whom bytes were put.
use Rattle.std.proofs.Common.{◌≡◌, ◌∙◌, ℕ, Bool, true, false, List, [], ◌∷◌, ◌++◌, Option, Some, None, refl, sym, ap, subst}
use Rattle.std.specs.Option.{option_or}
use Rattle.std.proofs.lemmas.Bool.{eq-eqb}
use Rattle.std.proofs.lemmas.List.{append-nil, append_assoc}
use Rattle.client_ports.specs.declared.parcel.Parcel.{Parcel}
use Rattle.client_ports.specs.declared.parcel.Parcel.TheVariants as parcels
use Rattle.client_ports.specs.Ends.{put_of}
use Rattle.gateway_claim.specs.declared.event.Outcome.{Outcome}
use Rattle.gateway_claim.specs.declared.event.ToClient.{ToClient}
use Rattle.hub_queues.specs.declared.line.HubConnection.{HubConnection}
use Rattle.hub_queues.specs.declared.line.Place.{Place}
use Rattle.gateway_hub.specs.declared.desk.Desk.{Desk}
use Rattle.gateway_hub.specs.declared.desk.Delivery.{Delivery}
use Rattle.gateway_hub.specs.Ends.{KeepsLine, EachLine, PutsNothing, PutsMore, PutsFor}
use Rattle.hub_queues.specs.Places.{line_at, Changes, LineChanges, PutsBytes, HandsOut, told_full}
use Rattle.gateway_hub.specs.Desks.{HandsAll, addressee_of, landed_for}
use Rattle.gateway_hub.proofs.EndLemmas.{changes_twice, each_same, each_one, each_twice, each_counted, each_closed}

nothing_twice : (before between now : HubConnection) → PutsNothing before between → PutsNothing between now → PutsNothing before now
nothing_twice before between now first next = next ∙ first

nothing_more : (before between now : HubConnection) → PutsNothing before between → PutsMore between now → PutsMore before now
nothing_more before between now first next = record { first = next.first; later = next.later; whole = ap (λ (l : List Parcel). l ++ next.first ∷ next.later) (sym first) ∙ next.whole }

more_nothing : (before between now : HubConnection) → PutsMore before between → PutsNothing between now → PutsMore before now
more_nothing before between now first next = record { first = first.first; later = first.later; whole = first.whole ∙ sym next }

kept_more : (before between now : HubConnection) → KeepsLine before between → PutsMore between now → PutsMore before now
kept_more before between now kept next = by kept.outward.put.0 kept.outward.put.1
  where
    by : (rest : List Parcel) → put_of before.outward ++ rest ≡ put_of between.outward → PutsMore before now
    by [] is = record { first = next.first; later = next.later; whole = ap (λ (l : List Parcel). l ++ next.first ∷ next.later) (sym (append-nil (put_of before.outward))) ∙ ap (λ (l : List Parcel). l ++ next.first ∷ next.later) is ∙ next.whole }
    by (parcel ∷ rest) is = record {
      first = parcel;
      later = rest ++ next.first ∷ next.later;
      whole = sym (append_assoc (put_of before.outward) (parcel ∷ rest) (next.first ∷ next.later)) ∙ ap (λ (l : List Parcel). l ++ next.first ∷ next.later) is ∙ next.whole;
    }

-- Nothing was put for any.
pub nothing_put : (places now : List Place) → now ≡ places → PutsFor None places now
nothing_put places now same = each_same PutsNothing (λ l. refl) places now same

pub nothings_put : (before between now : List Place) → EachLine PutsNothing before between → EachLine PutsNothing between now → EachLine PutsNothing before now
nothings_put before between now first next = each_twice PutsNothing PutsNothing PutsNothing nothing_twice before between now first next

-- Something is put, and then something more.
pub puts_twice : (first next : Option ℕ) (before between now : List Place) → EachLine KeepsLine before between → PutsFor first before between → PutsFor next between now → PutsFor (option_or next first) before now
puts_twice None None before between now kept was is = each_twice PutsNothing PutsNothing PutsNothing nothing_twice before between now was is
puts_twice (Some conn) None before between now kept was is = changes_twice PutsMore PutsNothing PutsMore more_nothing (line_at before conn) (line_at between conn) (line_at now conn) was (is conn)
puts_twice first (Some conn) before between now kept was is = changes_twice KeepsLine PutsMore PutsMore kept_more (line_at before conn) (line_at between conn) (line_at now conn) (kept conn) is

puts_after : (next : Option ℕ) (before between now : List Place) → EachLine PutsNothing before between → PutsFor next between now → PutsFor next before now
puts_after None before between now was is = each_twice PutsNothing PutsNothing PutsNothing nothing_twice before between now was is
puts_after (Some conn) before between now was is = changes_twice PutsNothing PutsMore PutsMore nothing_more (line_at before conn) (line_at between conn) (line_at now conn) (was conn) is

-- A client is handed bytes.
landed_more : (bytes : List ℕ) (before now : HubConnection) → PutsBytes bytes false before now → PutsMore before now
landed_more bytes before now puts = record { first = parcels.Bytes bytes; later = []; whole = sym puts.outward.put }

puts_piece : (piece : ToClient) (client : Option ℕ) (before now : List Place) (full : Bool) → client ≡ told_full full piece.conn → LineChanges piece.conn (PutsBytes piece.bytes full) before now → PutsFor (landed_for (Some piece.conn) client) before now
puts_piece piece client before now true is changes =
    subst (λ (o : Option ℕ). PutsFor (landed_for (Some piece.conn) o) before now) (sym is) (each_one piece.conn (PutsBytes piece.bytes true) PutsNothing (λ w n p. p.outward.put) (λ l. refl) before now changes)
puts_piece piece client before now false is changes =
    subst (λ (o : Option ℕ). PutsFor (landed_for (Some piece.conn) o) before now) (sym is) (forward (line_at before piece.conn) (line_at now piece.conn)
    (subst (λ (b : Bool). Changes b (PutsBytes piece.bytes false) (line_at before piece.conn) (line_at now piece.conn)) (eq-eqb piece.conn piece.conn refl) (changes.lines piece.conn)))
  where
    forward : (was after : Option HubConnection) → Changes true (PutsBytes piece.bytes false) was after → Changes true PutsMore was after
    forward None after c = c
    forward (Some line) after c = (c.0, c.1, landed_more piece.bytes line c.0 c.2)

puts_handed : (piece : Option ToClient) (client : Option ℕ) (before now : List Place) → HandsOut piece client before now → PutsFor (landed_for (addressee_of piece) client) before now
puts_handed None None before now is = each_same PutsNothing (λ l. refl) before now is.1
puts_handed None (Some conn) before now is = each_same PutsNothing (λ l. refl) before now is.1
puts_handed (Some piece) client before now is = puts_piece piece client before now is.0 is.1 is.2

-- What an outcome asks for is done.
pub hand_puts : (asker : Option ℕ) (heard : Bool) (o : Outcome) (delivery : Delivery) (before now : Desk) → HandsAll asker heard o delivery before now → PutsFor delivery.landed before.places.items now.places.items
hand_puts asker heard o delivery before now hands =
    subst (λ (landed : Option ℕ). PutsFor landed before.places.items now.places.items) (sym hands.landed)
    (puts_after (landed_for (addressee_of o.to_client) delivery.client) before.places.items hands.closed now.places.items
    (each_twice PutsNothing PutsNothing PutsNothing nothing_twice before.places.items hands.counted hands.closed
    (each_counted PutsNothing (λ w n c. ap put_of c.outward) (λ l. refl) asker before.places.items hands.counted hands.counts)
    (each_closed PutsNothing (λ w n inward outward. ap put_of outward) (λ l. refl) heard o.closed hands.counted hands.closed hands.closes))
    (puts_handed o.to_client delivery.client hands.closed now.places.items hands.hands))
