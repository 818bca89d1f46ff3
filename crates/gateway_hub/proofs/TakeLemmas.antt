-- One event is taken: all that a hub keeps stands with the longer history.
use Rattle.std.proofs.Common.{◌≡◌, ◌∙◌, ℕ, ◌<◌, ◌≤◌, Bool, true, false, ◌&&◌, ◌||◌, ◌==◌, List, [], ◌∷◌, ◌++◌, length, Option, Some, None, Result, Ok, Err, refl, sym, ap, subst, inl, inr, arith}
use Rattle.std.specs.Prelude.{is_some, ◌⊎◌}
use Rattle.std.specs.Option.{option_or}
use Rattle.std.proofs.lemmas.Bool.{eq-eqb}
use Rattle.std.specs.List.{slice_get}
use Rattle.std.proofs.lemmas.Option.{slice_get_cases, slice_get_past}
use Rattle.rtsp_head.specs.declared.item.Item.{Item}
use Rattle.client_machine.specs.Alone.{is_empty_list}
use Rattle.rtsp_uri.specs.declared.base.Bases.{Bases}
use Rattle.gate_transcript.specs.declared.entry.Entry.{Entry as Noted}
use Rattle.client_ports.specs.declared.parcel.Parcel.{Parcel}
use Rattle.client_ports.specs.declared.taker.Taker.{Taker}
use Rattle.client_ports.specs.declared.putter.Putter.{Putter}
use Rattle.client_ports.specs.Ends.{taken_of, fulls_of}
use Rattle.gateway_claim.specs.declared.event.Closed.{Closed}
use Rattle.gateway_claim.specs.declared.event.Closed.TheVariants.{Nobody, One, All}
use Rattle.gateway_claim.specs.declared.event.Event.{Event}
use Rattle.gateway_claim.specs.declared.event.Event.TheVariants as events
use Rattle.gateway_claim.specs.declared.event.Outcome.{Outcome}
use Rattle.gateway_claim.specs.declared.event.UpCause.{UpCause}
use Rattle.gateway_claim.specs.declared.event.ToClient.{ToClient}
use Rattle.gateway_claim.specs.Happenings.{Happening, HistoryEntry, happening_of, enters_here, fault_in, shut, is_alive}
use Rattle.gateway_claim.specs.Cores.{IsCoreHistory, IsOrderly}
use Rattle.gateway_claim.proofs.AskLemmas.{Following, FollowsOrderly, never_part}
use Rattle.hub_queues.specs.declared.ending.Ending.{Ending}
use Rattle.hub_queues.specs.declared.receipt.Close.{Close}
use Rattle.hub_queues.specs.declared.receipt.Receipt.{Receipt}
use Rattle.hub_queues.specs.declared.line.HubConnection.{HubConnection}
use Rattle.hub_queues.specs.declared.line.Place.{Place}
use Rattle.hub_queues.specs.declared.line.Place.TheVariants.{Seated, Retired}
use Rattle.hub_queues.specs.declared.server.Server.{Server}
use Rattle.gateway_hub.specs.declared.desk.Desk.{Desk}
use Rattle.gateway_hub.specs.declared.desk.Delivery.{Delivery}
use Rattle.hub_queues.specs.Closes.{is_heard, fall_by, fall_close, lags_here}
use Rattle.gateway_hub.specs.Endings.{fell_full}
use Rattle.gateway_hub.specs.Notes.{note_of, TellsNotes, StillTells, asker_noted}
use Rattle.gate_transcript.specs.declared.recorder.NoteFault.{NoteFault}
use Rattle.gate_transcript.specs.declared.recorder.NoteFault.TheVariants.{Failed, Memory}
use Rattle.gate_transcript.specs.Notes.{NotesSo}
use Rattle.hub_queues.specs.Parcels.{items_in, waiting, coming, heard_items, up_parcels}
use Rattle.hub_queues.specs.Places.{line_of, receipt_of, line_at, receipt_at, Changes, LineChanges, CountsItem, Closes, PutsBytes, ClosesOne, HandsOut, told_full, PutsAll, IsRefused}
use Rattle.gateway_hub.specs.declared.desk.Fall.{Fall}
use Rattle.gateway_hub.specs.Desks.{CountsOne, HandsAll, addressee_of, landed_for, ending_by, fall_heard, fallen}
use Rattle.gateway_hub.specs.Keeps.{Underway, AreNumbered, IsReceipt, EndsRightly, TookServerItems, is_server_excused}
use Rattle.gateway_hub.specs.Take.{may_hand, IsReadyToTake, owes, StepsOn, TakesOneEvent}
use Rattle.gateway_hub.proofs.OrderLemmas.{Orders, past, falls_down, goes_on, ordered, handed_living, asked_nothing, ended_full}
use Rattle.gateway_hub.proofs.HistoryLemmas.{entry, or_none}
use Rattle.gateway_hub.proofs.LineLemmas.{KeepsPart, part_twice, rest_twice, count_rest, count_part, close_rest, close_part, hand_rest, hand_part}
use Rattle.gateway_hub.proofs.StepLemmas.{incoming, took_same, arrived_more, closes_more}
use Rattle.gateway_hub.proofs.HandLemmas.{outgoing, lines_same, hands_more}
use Rattle.gateway_hub.proofs.UpLemmas.{ups_more}
use Rattle.gateway_hub.proofs.SettleLemmas.{excuses_more, up_excused_more, excused_as, receipt_as}
use Rattle.gateway_hub.proofs.ReceiptLemmas.{receipt_more, numbered_more, ended_dead, fall_some, cause_more, end_dies}

-- The recorder tells the longer history.
pub notes_more : (told tells : Option (List Noted)) (T : List HistoryEntry) (h : Happening) (o : Outcome) → TellsNotes told T → NotesSo told tells (note_of h) (Ok tt) → TellsNotes tells (entry h o ∷ T)
notes_more None tells T h o was is = subst (λ (t : Option (List Noted)). TellsNotes t (entry h o ∷ T)) (sym is) tt
notes_more (Some before) tells T h o was is = subst (λ (t : Option (List Noted)). TellsNotes t (entry h o ∷ T)) (sym is) (ap (λ (l : List Noted). note_of h ∷ l) was)

-- A recorder that did not note an entry tells the same history, or none any more.
pub notes_kept : (told tells : Option (List Noted)) (e : Noted) (fault : NoteFault) → NotesSo told tells e (Err fault) → StillTells told tells
notes_kept None tells e fault is T was = subst (λ (t : Option (List Noted)). TellsNotes t T) (sym is) tt
notes_kept (Some before) tells e Failed (inl same) T was = subst (λ (t : Option (List Noted)). TellsNotes t T) (sym same) was
notes_kept (Some before) tells e Failed (inr none) T was = subst (λ (t : Option (List Noted)). TellsNotes t T) (sym none) tt
notes_kept (Some before) tells e Memory same T was = subst (λ (t : Option (List Noted)). TellsNotes t T) (sym same) was

-- a note failed
abbrev pub IsNoteFault : NoteFault → Type 0
IsNoteFault fault = (let r : Result (Unit {0}) NoteFault = Err fault in r) ≡ (let r : Result (Unit {0}) NoteFault = Err Failed in r)

pub failed_note : (fault : NoteFault) → fault ≡ Failed → IsNoteFault fault
failed_note fault is = ap (λ (f : NoteFault). let r : Result (Unit {0}) NoteFault = Err f in r) is

-- An event is no entering.
pub no_entering : (event : Event) (i : ℕ) → enters_here i (happening_of event) ≡ false
no_entering (events.Client conn item) i = refl
no_entering (events.Up item) i = refl
no_entering (events.End conn) i = refl
no_entering (events.Slow conn) i = refl
no_entering (events.UpEnd why) i = refl

-- A line that is there has a number in use, and is no receipt.
place_within : (places : List Place) (i : ℕ) (line : HubConnection) → line_at places i ≡ Some line → i < length places
place_within places i line is =
    elim (slice_get_cases places i).1 [ inl w ↦ w.1 | inr w ↦ let none : line_at places i ≡ None = ap line_of w.1 in absurd (cc) ]

no_both : (found : Option Place) (line : HubConnection) (receipt : Receipt) → line_of found ≡ Some line → receipt_of found ≡ Some receipt → ⊥
no_both None line receipt at is = cc
no_both (Some (Seated l)) line receipt at is = cc
no_both (Some (Retired r)) line receipt at is = cc

retired_line : (found : Option Place) (receipt : Receipt) → receipt_of found ≡ Some receipt → line_of found ≡ None
retired_line None receipt is = refl
retired_line (Some (Seated line)) receipt is = cc
retired_line (Some (Retired other)) receipt is = refl

no_line : (places : List Place) (i : ℕ) (receipt : Receipt) → receipt_at places i ≡ Some receipt → line_at places i ≡ None
no_line places i receipt is = retired_line (slice_get places i) receipt is

beyond_line : (places : List Place) (i : ℕ) → length places ≤ i → line_at places i ≡ None
beyond_line places i beyond = ap line_of (slice_get_past places i beyond)

pub not_both : (places : List Place) (i : ℕ) (line : HubConnection) (receipt : Receipt) → line_at places i ≡ Some line → receipt_at places i ≡ Some receipt → ⊥
not_both places i line receipt at is = no_both (slice_get places i) line receipt at is

not_lagging : (i : ℕ) (h : Happening) (places : List Place) (receipt : Receipt) → (lags_here i h ≡ true → IsRefused i places) → receipt_at places i ≡ Some receipt → lags_here i h ≡ false
not_lagging i h places receipt slow is = by (lags_here i h) refl
  where
    by : (b : Bool) → lags_here i h ≡ b → lags_here i h ≡ false
    by false e = e
    by true e = let r = slow e in absurd (no_both (slice_get places i) r.0 receipt r.1 is)

same_line : (places : List Place) (i : ℕ) (one other : HubConnection) → line_at places i ≡ Some one → line_at places i ≡ Some other → other ≡ one
same_line places i one other first next = cc

-- A line that is there stays there, and so does what each change keeps of it.
abbrev HasLine : (HubConnection → Type 0) → ℕ → List Place → Type 0
HasLine fact i places = (line : HubConnection) × (line_at places i ≡ Some line) × fact line

still_by : (fact : HubConnection → Type 0) (change : HubConnection → HubConnection → Type 0) (here : Bool) (line : HubConnection) (now : Option HubConnection) → ((was new : HubConnection) → change was new → fact was → fact new) → Changes here change (Some line) now → fact line
    → (new : HubConnection) × (now ≡ Some new) × fact new
still_by fact change false line now keeps changes holds = (line, changes, holds)
still_by fact change true line now keeps changes holds = (changes.0, changes.1, keeps line changes.0 changes.2 holds)

still : (fact : HubConnection → Type 0) (change : HubConnection → HubConnection → Type 0) (conn i : ℕ) (before after : List Place) → ((was new : HubConnection) → change was new → fact was → fact new) → LineChanges conn change before after → HasLine fact i before → HasLine fact i after
still fact change conn i before after keeps changes has =
    still_by fact change (conn == i) has.0 (line_at after i) keeps (subst (λ (l : Option HubConnection). Changes (conn == i) change l (line_at after i)) has.1 (changes.lines i)) has.2

still_same : (fact : HubConnection → Type 0) (i : ℕ) (before after : List Place) → after ≡ before → HasLine fact i before → HasLine fact i after
still_same fact i before after same = subst (λ (l : List Place). HasLine fact i l) (sym same)

still_hand : (fact : HubConnection → Type 0) (piece : Option ToClient) (refused : Option ℕ) (i : ℕ) (before after : List Place) → ((bytes : List ℕ) (full : Bool) (was new : HubConnection) → PutsBytes bytes full was new → fact was → fact new) → HandsOut piece refused before after
    → HasLine fact i before → HasLine fact i after
still_hand fact None refused i before after keeps out has = still_same fact i before after out.1 has
still_hand fact (Some piece) refused i before after keeps out has = still fact _ piece.conn i before after (keeps piece.bytes out.0) out.2 has

still_count : (fact : HubConnection → Type 0) (asker : Option ℕ) (i : ℕ) (before after : List Place) → ((was new : HubConnection) → CountsItem was new → fact was → fact new) → CountsOne asker before after → HasLine fact i before → HasLine fact i after
still_count fact None i before after keeps same has = still_same fact i before after same has
still_count fact (Some conn) i before after keeps changes has = still fact CountsItem conn i before after keeps changes has

still_close : (fact : HubConnection → Type 0) (heard : Bool) (closed : Closed) (i : ℕ) (before after : List Place) → ((c : Close) (was new : HubConnection) → Closes c was new → fact was → fact new) → ClosesOne heard closed before after → HasLine fact i before → HasLine fact i after
still_close fact heard Nobody i before after keeps same has = still_same fact i before after same has
still_close fact heard (One conn why) i before after keeps changes has = still fact _ conn i before after (keeps _) changes has
still_close fact heard All i before after keeps same has = still_same fact i before after same has

abbrev WasFullOnce : HubConnection → Type 0
WasFullOnce line = 0 < fulls_of line.outward

full_line : (places : List Place) (i : ℕ) (line : HubConnection) → IsRefused i places → line_at places i ≡ Some line → 0 < fulls_of line.outward
full_line places i line refused is = subst WasFullOnce (sym (same_line places i refused.0 line refused.1 is)) refused.2

outward_full : (was new : HubConnection) → new.outward ≡ was.outward → WasFullOnce was → WasFullOnce new
outward_full was new same some = subst (λ (p : Putter). 0 < fulls_of p) (sym same) some

puts_full : (bytes : List ℕ) (full : Bool) (was new : HubConnection) → PutsBytes bytes full was new → WasFullOnce was → WasFullOnce new
puts_full bytes true was new puts some = puts.outward.refused refl
puts_full bytes false was new puts some = let same = puts.outward.landed refl in omega arith

-- The line of the client whose port was found full.
found_full : (piece : Option ToClient) (refused : Option ℕ) (before after : List Place) (T : List HistoryEntry) → HandsOut piece refused before after → ((p : ToClient) → piece ≡ Some p → (line : HubConnection) × (line_at before p.conn ≡ Some line))
    → (conn : ℕ) → refused ≡ Some conn → IsRefused conn after
found_full None refused before after T out there conn is = let none : refused ≡ None = out.0 in absurd (cc)
found_full (Some piece) refused before after T out there conn is = by out.0 out.1 out.2
  where
    by : (full : Bool) → refused ≡ told_full full piece.conn → LineChanges piece.conn (PutsBytes piece.bytes full) before after → IsRefused conn after
    by false told changes = absurd (cc)
    by true told changes =
        let same : piece.conn ≡ conn = cc in
        let line = there piece refl in
        let now = subst (λ (l : Option HubConnection). Changes (piece.conn == piece.conn) (PutsBytes piece.bytes true) l (line_at after piece.conn)) line.1 (changes.lines piece.conn) in
        let new = subst (λ b. Changes b (PutsBytes piece.bytes true) (Some line.0) (line_at after piece.conn)) (eq-eqb piece.conn piece.conn refl) now in
        subst (λ n. IsRefused n after) same (new.0, new.1, new.2.outward.refused refl)

none_beyond : (places : List Place) (i : ℕ) → slice_get places i ≡ None → length places ≤ i
none_beyond places i is = elim (slice_get_cases places i).1 [ inl w ↦ let some : slice_get places i ≡ Some w.0 = w.2 in absurd (cc) | inr w ↦ w.0 ]

-- whether an item of the server ended its connection, where that ends or did
heard_or : (fall : Option Fall) (heard : Option Bool) → fall_heard (option_or fall (fallen heard)) ≡ option_or (fall_heard fall) heard
heard_or None None = refl
heard_or None (Some heard) = refl
heard_or (Some fall) heard = refl

-- Who is alive has a line, unless the connection to the server has ended.
pub living_line : (places : List Place) (fall : Option Fall) (ending : Option Ending) (T : List HistoryEntry) (i : ℕ) → AreNumbered (length places) T → ((receipt : Receipt) → receipt_at places i ≡ Some receipt → IsReceipt i receipt fall ending T) → ending ≡ None → is_alive i T ≡ true
    → (line : HubConnection) × (line_at places i ≡ Some line)
living_line places fall ending T i numbered receipts none alive = by (slice_get places i) refl
  where
    by : (found : Option Place) → slice_get places i ≡ found → (line : HubConnection) × (line_at places i ≡ Some line)
    by None is =
        let beyond : length places ≤ i = none_beyond places i is in
        let unentered = never_part T i (numbered.new i beyond) in
        let dead : is_alive i T ≡ false = ap (λ b. b && is_empty_list (shut i T)) unentered in
        absurd (cc)
    by (Some (Seated line)) is = (line.value, ap line_of is)
    by (Some (Retired receipt)) is = let dead = (receipts receipt (ap receipt_of is)).over none in absurd (cc)

-- Where a client is handed something, the connection to the server stands.
standing_piece : (T : List HistoryEntry) (h : Happening) (o : Outcome) (piece : ToClient) → Orders T h o → o.to_client ≡ Some piece → is_some (fault_in T) ≡ false
standing_piece T h o piece (past cause fault same) is = let none : o.to_client ≡ None = ap (λ (x : Outcome). x.to_client) same in absurd (cc)
standing_piece T h o piece (falls_down cause fault may same) is = ap (λ (f : Option UpCause). is_some f) fault
standing_piece T h o piece (goes_on fault none event) is = ap (λ (f : Option UpCause). is_some f) fault

quiet_by : (piece : Option ToClient) (refused : Option ℕ) (before after : List Place) → piece ≡ None → HandsOut piece refused before after → refused ≡ None
quiet_by None refused before after is out = out.0
quiet_by (Some piece) refused before after is out = absurd (cc)

unlanded_by : (piece : Option ToClient) (refused landed : Option ℕ) → piece ≡ None → landed ≡ landed_for (addressee_of piece) refused → landed ≡ None
unlanded_by None None landed is told = told
unlanded_by None (Some conn) landed is told = told
unlanded_by (Some piece) refused landed is told = absurd (cc)

no_piece : (T : List HistoryEntry) (h : Happening) (o : Outcome) → Orders T h o → may_hand h ≡ false → (piece : Option ToClient) → o.to_client ≡ piece → piece ≡ None
no_piece T h o orders quiet None is = refl
no_piece T h o orders quiet (Some piece) is = let may = (handed_living T h o piece is orders).1 in absurd (cc)

full_now : (full : Bool) (parcels : List Parcel) (before after : Putter) → PutsAll parcels full before after → full ≡ true → 0 < fulls_of after
full_now full parcels before after puts is = (puts.refused is).1

silent_full : (o : Outcome) (delivery : Delivery) (piece : Option ToClient) (refused : Option ℕ) (closed now : List Place) (before after : Putter) → o.to_client ≡ piece → HandsOut piece refused closed now → PutsAll (up_parcels o.to_up) delivery.server before after
    → o.to_client ≡ None → up_parcels o.to_up ≡ [] → (delivery.server ≡ true) ⊎ (is_some refused ≡ true) → ⊥
silent_full o delivery piece refused closed now before after is out puts no_piece_now no_parcels (inl full) = let none = puts.none no_parcels in cc
silent_full o delivery piece refused closed now before after is out puts no_piece_now no_parcels (inr full) =
    let none : refused ≡ None = quiet_by piece refused closed now (sym is ∙ no_piece_now) out in
    let e : is_some refused ≡ false = ap (λ (r : Option ℕ). is_some r) none in
    cc

-- Where a port was full, the connection to the server did not end.
still_open : (T : List HistoryEntry) (h : Happening) (o : Outcome) (ending : Option Ending) → Orders T h o → (delivery : Delivery) (piece : Option ToClient) (refused : Option ℕ) (closed now : List Place) (before after : Putter) → o.to_client ≡ piece → HandsOut piece refused closed now
    → PutsAll (up_parcels o.to_up) delivery.server before after → (delivery.server ≡ true) ⊎ (is_some refused ≡ true) → option_or ending (ending_by o.fault) ≡ ending
still_open T h o ending (past cause fault same) delivery piece refused closed now before after is out puts full = absurd (silent_full o delivery piece refused closed now before after is out puts (ap (λ (x : Outcome). x.to_client) same) (ap (λ (x : Outcome). up_parcels x.to_up) same) full)
still_open T h o ending (falls_down cause fault may same) delivery piece refused closed now before after is out puts full = absurd (silent_full o delivery piece refused closed now before after is out puts (ap (λ (x : Outcome). x.to_client) same) (ap (λ (x : Outcome). up_parcels x.to_up) same) full)
still_open T h o ending (goes_on fault none event) delivery piece refused closed now before after is out puts full = ap (λ (f : Option UpCause). option_or ending (ending_by f)) none ∙ or_none ending

still_standing : (T : List HistoryEntry) (h : Happening) (o : Outcome) → Orders T h o → (delivery : Delivery) (piece : Option ToClient) (refused : Option ℕ) (closed now : List Place) (before after : Putter) → o.to_client ≡ piece → HandsOut piece refused closed now
    → PutsAll (up_parcels o.to_up) delivery.server before after → (delivery.server ≡ true) ⊎ (is_some refused ≡ true) → fault_in T ≡ None
still_standing T h o (past cause fault same) delivery piece refused closed now before after is out puts full = absurd (silent_full o delivery piece refused closed now before after is out puts (ap (λ (x : Outcome). x.to_client) same) (ap (λ (x : Outcome). up_parcels x.to_up) same) full)
still_standing T h o (falls_down cause fault may same) delivery piece refused closed now before after is out puts full = fault
still_standing T h o (goes_on fault none event) delivery piece refused closed now before after is out puts full = fault

took_up_same : (before now : Server) (h : Happening) (o : Outcome) (T : List HistoryEntry) → now.inward ≡ before.inward → now.first ≡ before.first → TookServerItems before (coming h ∷ T) → TookServerItems now (entry h o ∷ T)
took_up_same before now h o T inward first took =
    ap (λ (f : Option Item). heard_items (entry h o ∷ T) ++ waiting f) first ∙ took ∙ ap (λ (t : Taker). items_in (taken_of t)) (sym inward)

-- All parts of an event.
pub take_steps : (stood stands : List HistoryEntry → Type 0) (told tells : Option (List Noted)) (before now : Desk) (delivery : Delivery) (T : List HistoryEntry) (h : Happening) (o : Outcome) → IsOrderly T (entry h o) → stands (entry h o ∷ T)
    → NotesSo told tells (note_of h) (Ok tt) → ((i : ℕ) → enters_here i h ≡ false) → HandsAll (asker_noted h) (is_heard h) o delivery before now → IsReadyToTake h before T → Underway stood told before (coming h ∷ T) T → StepsOn h o delivery stands tells before now T
take_steps stood stands told tells before now delivery T h o orderly stood_now noted stranger hands ready was =
    let orders = ordered T h o orderly in
    let places = before.places.items in
    let rest = rest_twice places hands.counted now.places.items (count_rest (asker_noted h) places hands.counted hands.counts) (rest_twice hands.counted hands.closed now.places.items (close_rest (is_heard h) o.closed hands.counted hands.closed hands.closes) (hand_rest o.to_client delivery.client hands.closed now.places.items hands.hands)) in
    let kept_in : KeepsPart incoming places now.places.items =
    part_twice incoming places hands.counted now.places.items (count_part incoming (asker_noted h) places hands.counted (λ w n c. cc (c.inward, c.first)) hands.counts)
    (part_twice incoming hands.counted hands.closed now.places.items (close_part incoming (is_heard h) o.closed hands.counted hands.closed (λ x w n c. cc (c.inward, c.first)) hands.closes)
    (hand_part incoming o.to_client delivery.client hands.closed now.places.items (λ b f w n c. cc (c.inward, c.first)) hands.hands)) in
    let kept_out : KeepsPart outgoing places hands.closed =
    part_twice outgoing places hands.counted hands.closed (count_part outgoing (asker_noted h) places hands.counted (λ w n c. c.outward) hands.counts)
    (close_part outgoing (is_heard h) o.closed hands.counted hands.closed (λ x w n c. c.outward) hands.closes) in
    let line_full : (i : ℕ) → IsRefused i places → IsRefused i hands.closed = λ i r.
    still_close WasFullOnce (is_heard h) o.closed i hands.counted hands.closed (λ c w n x. outward_full w n x.outward) hands.closes
    (still_count WasFullOnce (asker_noted h) i places hands.counted (λ w n x. outward_full w n x.outward) hands.counts r) in
    let has : (i : ℕ) → HasLine (λ _. Unit {0}) i places → HasLine (λ _. Unit {0}) i hands.closed = λ i r.
    still_close (λ _. Unit {0}) (is_heard h) o.closed i hands.counted hands.closed (λ c w n x u. u) hands.closes
    (still_count (λ _. Unit {0}) (asker_noted h) i places hands.counted (λ w n x u. u) hands.counts r) in
    let there : (p : ToClient) → o.to_client ≡ Some p → (line : HubConnection) × (line_at hands.closed p.conn ≡ Some line) = λ p is.
    let standing = standing_piece T h o p orders is in
    let none : before.ending ≡ None = elim ready.open_or_over [ inl n ↦ n | inr ended ↦ absurd (cc) ] in
    let line = living_line places before.fall before.ending T p.conn was.numbered (was.receipts p.conn) none (handed_living T h o p is orders).0 in
    let now = has p.conn (line.0, line.1, tt) in
    (now.0, now.1) in
    let refused_now : (i : ℕ) → IsRefused i places → IsRefused i now.places.items = λ i r. still_hand WasFullOnce o.to_client delivery.client i hands.closed now.places.items puts_full hands.hands (line_full i r) in
    let close_kept : KeepsPart (λ (l : HubConnection). l.close) places hands.counted = count_part (λ (l : HubConnection). l.close) (asker_noted h) places hands.counted (λ w n c. c.close) hands.counts in
    let same_ending = hands.ending in
    let falls : fall_heard now.fall ≡ option_or (fall_heard before.fall) (fall_by (is_some o.fault) (is_heard h)) = ap fall_heard hands.fall ∙ heard_or before.fall (fall_by (is_some o.fault) (is_heard h)) in
    let fell = fallen (fall_by (is_some o.fault) (is_heard h)) in
    record {
      underway = record {
        stood = stood_now;
        noted = notes_more told tells T h o was.noted noted;
        took = took_same places now.places.items (entry h o ∷ T) kept_in was.took;
        took_up = took_up_same before.server now.server h o T hands.up.inward hands.up.first was.took_up;
        arrived = λ i line at.
            let w = (part_twice (λ (l : HubConnection). l.arrived) hands.counted hands.closed now.places.items (close_part (λ (l : HubConnection). l.arrived) (is_heard h) o.closed hands.counted hands.closed (λ x w n c. c.arrived) hands.closes)
            (hand_part (λ (l : HubConnection). l.arrived) o.to_client delivery.client hands.closed now.places.items (λ b f w n c. c.arrived) hands.hands)) i line at in
            w.2 ∙ arrived_more places hands.counted T h o was.took was.arrived hands.counts i w.0 w.1;
        closed = λ i line at.
            let w = hand_part (λ (l : HubConnection). l.close) o.to_client delivery.client hands.closed now.places.items (λ b f w n c. c.close) hands.hands i line at in
            closes_more hands.counted hands.closed (fall_heard before.fall) (fall_heard now.fall) T h o orders
            (λ j l there_now. let k = close_kept j l there_now in was.numbered.old j (place_within places j k.0 k.1)) was.fell
            (λ j l there_now. let k = close_kept j l there_now in was.closed j k.0 k.1 ∙ ap (λ (c : Option Close). option_or c (fall_close (fall_heard before.fall))) (sym k.2))
            hands.closes falls i w.0 w.1
            ∙ ap (λ (c : Option Close). option_or c (fall_close (fall_heard now.fall))) (sym w.2);
        fell = falls ∙ ap (λ (f : Option Bool). option_or f (fall_by (is_some o.fault) (is_heard h))) was.fell;
        handed = hands_more hands.closed now.places.items delivery.client T h o orders hands.hands (λ i l. (was.numbered.slow i l).1)
            (λ may i line at alive. let w = kept_out i line at in ap fulls_of w.2 ∙ ready.clients may i w.0 w.1 alive)
            (λ i line at lag. full_line hands.closed i line (line_full i (ready.slow i lag)) at)
            (lines_same places hands.closed T kept_out was.handed);
        up_handed = ups_more delivery.server before.server.outward now.server.outward T h o orders hands.up.outward ready.up ready.full was.up_handed;
        receipts = λ i receipt is.
            let at : receipt_at places i ≡ Some receipt = sym (rest.receipts i) ∙ is in
            receipt_as i receipt (option_or before.fall fell) now.fall (option_or before.ending (ending_by o.fault)) now.ending (entry h o ∷ T) hands.fall same_ending
            (receipt_more i receipt before.fall fell before.ending (ending_by o.fault) T h o orderly orders ready.open_or_over (stranger i) (ready.seated i (no_line places i receipt at)) (not_lagging i h places receipt (ready.slow i) at) (was.receipts i receipt at));
        numbered = subst (λ (n : ℕ). AreNumbered n (entry h o ∷ T)) (sym rest.size)
            (numbered_more (length places) T h o orderly orders stranger (λ i beyond. ready.seated i (beyond_line places i beyond)) (λ i l. let r = ready.slow i l in place_within places i r.0 r.1)
            (λ i l ended. let r = ready.slow i l in ended_dead i T (fall_heard before.fall) r.0.close (was.numbered.old i (place_within places i r.0 r.1)) (subst (λ (f : Option Bool). is_some f ≡ true) (sym was.fell) (fall_some T ended)) (was.closed i r.0 r.1))
            was.numbered);
      };
      settled = λ client server one s. record {
        clients = λ i line at some. excused_as i (owes delivery.client client) (option_or before.fall fell) now.fall (option_or before.ending (ending_by o.fault)) now.ending (entry h o ∷ T) hands.fall same_ending
            (excuses_more hands.closed now.places.items o.to_client delivery.client client before.fall fell before.ending (ending_by o.fault) T h o hands.hands one
            (λ j l there_now full. let w = kept_out j l there_now in s.clients j w.0 w.1 (subst (λ (p : Putter). 0 < fulls_of p) w.2 full)) i line at some);
        up = λ some. subst (λ (e : Option Ending). is_server_excused (delivery.server || server) e (entry h o ∷ T) ≡ true) (sym same_ending)
            (up_excused_more delivery.server server (up_parcels o.to_up) before.server.outward now.server.outward before.ending (ending_by o.fault) T h o hands.up.outward s.up some);
      };
      quiet = λ q. quiet_by o.to_client delivery.client hands.closed now.places.items (no_piece T h o orders q o.to_client refl) hands.hands;
      unlanded = λ q. unlanded_by o.to_client delivery.client delivery.landed (no_piece T h o orders q o.to_client refl) hands.landed;
      unasked = λ q. hands.up.outward.none (ap up_parcels (asked_nothing T h o q orders));
      ended = λ is standing. ap (λ (f : Option UpCause). fell_full (option_or f o.fault)) standing ∙ ap (λ (f : Option UpCause). fell_full f) (ended_full T h o is standing orders);
      client = found_full o.to_client delivery.client hands.closed now.places.items T hands.hands there;
      server = full_now delivery.server (up_parcels o.to_up) before.server.outward now.server.outward hands.up.outward;
      refused = refused_now;
      seats = λ i s. let r = still_hand (λ _. Unit {0}) o.to_client delivery.client i hands.closed now.places.items (λ b f w n x u. u) hands.hands (has i (s.0, s.1, tt)) in (r.0, r.1);
      dies = λ conn is standing. end_dies conn T h o orders is standing;
      size = rest.size;
      cause = λ faults count c. subst (λ (e : Option Ending). EndsRightly faults count e (entry h o ∷ T)) (sym same_ending) (cause_more faults count before.ending T h o c);
      open_still = λ refused. same_ending ∙ still_open T h o before.ending orders delivery o.to_client delivery.client hands.closed now.places.items before.server.outward now.server.outward refl hands.hands hands.up.outward refused;
      still_stands = still_standing T h o orders delivery o.to_client delivery.client hands.closed now.places.items before.server.outward now.server.outward refl hands.hands hands.up.outward;
      ending = same_ending;
    }

-- One event is taken by a core.
pub takes_one : {M : Type 0} (stands : M → List HistoryEntry → Type 0) (bases_of : M → Bases) (follows : Following) → ((core : M) (T : List HistoryEntry) → stands core T → IsCoreHistory follows (bases_of core) T) → FollowsOrderly follows
    → (old new : M) (event : Event) (o : Outcome) (told tells : Option (List Noted)) (before now : Desk) (delivery : Delivery) → ((T : List HistoryEntry) → stands old T → stands new (entry (happening_of event) o ∷ T))
    → NotesSo told tells (note_of (happening_of event)) (Ok tt) → HandsAll (asker_noted (happening_of event)) (is_heard (happening_of event)) o delivery before now
    → TakesOneEvent (happening_of event) delivery (stands old) (stands new) told tells before now
takes_one stands bases_of follows history orderly old new event o told tells before now delivery commits noted hands = record {
  outcome = o;
  steps = λ T ready was.
      let stood_now = commits T was.stood in
      let whole = history new (entry (happening_of event) o ∷ T) stood_now in
      take_steps (stands old) (stands new) told tells before now delivery T (happening_of event) o (orderly (bases_of new) T (entry (happening_of event) o) whole.0 whole.1) stood_now noted (no_entering event) hands ready was;
}
