-- What taking events does to a hub (this project's own).
use Rattle.std.specs.Prelude.{◌≡◌, ℕ, ◌<◌, ◌⊎◌, Bool, true, false, ◌||◌, is_some, List, [], ◌∷◌, ◌++◌, length, Option, Some, None}
use Rattle.gate_outside.specs.Causes.{Rose}
use Rattle.gate_transcript.specs.declared.entry.Entry.{Entry as Noted}
use Rattle.client_ports.specs.Ends.{fulls_of}
use Rattle.gateway_claim.specs.declared.event.Outcome.{Outcome}
use Rattle.gate_transcript.specs.declared.entry.UpWhy.TheVariants as whys
use Rattle.gateway_claim.specs.Happenings.{Happening, enters, takes, ends, lags, hears, up_ends, HistoryEntry, is_alive, fault_in}
use Rattle.gate_transcript.specs.declared.recorder.NoteFault.{NoteFault}
use Rattle.gate_transcript.specs.declared.recorder.NoteFault.TheVariants.{Failed, Memory}
use Rattle.gateway_hub.specs.declared.desk.Desk.{Desk}
use Rattle.gateway_hub.specs.declared.desk.Delivery.{Delivery}
use Rattle.hub_queues.specs.declared.line.HubConnection.{HubConnection}
use Rattle.hub_queues.specs.Closes.{lags_here}
use Rattle.gateway_hub.specs.Desks.{ending_by}
use Rattle.gateway_hub.specs.Ends.{EachLine, PutsNothing}
use Rattle.gateway_hub.specs.Endings.{fell_full}
use Rattle.gateway_hub.specs.Notes.{StillTells}
use Rattle.hub_queues.specs.Parcels.{arrival_here, coming}
use Rattle.hub_queues.specs.declared.ending.Ending.TheVariants.{Stopped}
use Rattle.hub_queues.specs.declared.ending.StopWhy.{StopWhy}
use Rattle.hub_queues.specs.declared.ending.StopWhy.TheVariants as stops
use Rattle.std.specs.Option.{option_or}
use Rattle.gate_transcript.specs.declared.entry.UpWhy.{UpWhy}
use Rattle.hub_queues.specs.Places.{line_at, IsRefused, IsSeated}
use Rattle.gateway_hub.specs.Keeps.{Underway, ArePortsSettled, EndsRightly, KeepsOwing}

-- whether an event may hand bytes to a client, and whether it may hand any to the server
abbrev pub may_hand : Happening → Bool
may_hand (enters conn) = false
may_hand (takes conn shape) = true
may_hand (ends conn) = false
may_hand (lags conn) = false
may_hand (hears shape) = true
may_hand (up_ends why) = false

-- whether a request may go up at an event
abbrev pub may_ask : Happening → Bool
may_ask (enters conn) = false
may_ask (takes conn shape) = true
may_ask (ends conn) = true
may_ask (lags conn) = true
may_ask (hears shape) = true
may_ask (up_ends why) = false

-- The ports to which an event may hand bytes were never full, unless the connection to the server has ended; only where a
-- port was full its client is found too slow, and so is the server; and an item is that of a connection that is not retired.
pub record IsReadyToTake (happening : Happening) (desk : Desk) (history : List HistoryEntry) : Type 0 where
  pub open_or_over : (desk.ending ≡ None) ⊎ (is_some (fault_in history) ≡ true)
  pub clients : may_hand happening ≡ true → (i : ℕ) (line : HubConnection) → line_at desk.places.items i ≡ Some line → is_alive i history ≡ true → fulls_of line.outward ≡ 0
  pub up : may_ask happening ≡ true → is_some (fault_in history) ≡ false → fulls_of desk.server.outward ≡ 0
  pub slow : (i : ℕ) → lags_here i happening ≡ true → IsRefused i desk.places.items
  pub full : happening ≡ up_ends whys.UpFull → 0 < fulls_of desk.server.outward
  pub seated : (i : ℕ) → line_at desk.places.items i ≡ None → arrival_here i happening ≡ []

-- the client that is owed to be found too slow
abbrev pub owes : Option ℕ → Option ℕ → Option ℕ
owes None owed = owed
owes (Some conn) owed = Some conn

-- The history has an entry more, and all stands with the longer one.
pub record StepsOn (happening : Happening) (outcome : Outcome) (delivery : Delivery) (stands : List HistoryEntry → Type 0) (tells : Option (List Noted)) (before now : Desk) (history : List HistoryEntry) : Type 0 where
  pub underway : Underway stands tells now (record { happening = happening; outcome = outcome } ∷ history) (record { happening = happening; outcome = outcome } ∷ history)
  pub settled : (client : Option ℕ) (server : Bool) → (client ≡ None) ⊎ (delivery.client ≡ None) → ArePortsSettled client server before history
      → ArePortsSettled (owes delivery.client client) (delivery.server || server) now (record { happening = happening; outcome = outcome } ∷ history)
  pub quiet : may_hand happening ≡ false → delivery.client ≡ None
  pub unlanded : may_hand happening ≡ false → delivery.landed ≡ None
  pub unasked : may_ask happening ≡ false → delivery.server ≡ false
  pub ended : happening ≡ up_ends whys.UpFull → fault_in history ≡ None → fell_full (fault_in (record { happening = happening; outcome = outcome } ∷ history)) ≡ true
  pub client : (conn : ℕ) → delivery.client ≡ Some conn → IsRefused conn now.places.items
  pub server : delivery.server ≡ true → 0 < fulls_of now.server.outward
  pub refused : (i : ℕ) → IsRefused i before.places.items → IsRefused i now.places.items
  pub seats : (i : ℕ) → IsSeated i before.places.items → IsSeated i now.places.items
  pub dies : (conn : ℕ) → happening ≡ ends conn → fault_in history ≡ None → is_alive conn (record { happening = happening; outcome = outcome } ∷ history) ≡ false
  pub size : length now.places.items ≡ length before.places.items
  pub cause : (faults count : ℕ) → EndsRightly faults count before.ending history → EndsRightly faults count now.ending (record { happening = happening; outcome = outcome } ∷ history)
  pub open_still : (delivery.server ≡ true) ⊎ (is_some delivery.client ≡ true) → now.ending ≡ before.ending
  pub still_stands : (delivery.server ≡ true) ⊎ (is_some delivery.client ≡ true) → fault_in history ≡ None
  pub ending : now.ending ≡ option_or before.ending (ending_by outcome.fault)

-- An event was taken: the history grew by it.
pub record TakesOneEvent (happening : Happening) (delivery : Delivery) (stood stands : List HistoryEntry → Type 0) (told tells : Option (List Noted)) (before now : Desk) : Type 0 where
  pub outcome : Outcome
  pub steps : (history : List HistoryEntry) → IsReadyToTake happening before history → Underway stood told before (coming happening ∷ history) history
      → StepsOn happening outcome delivery stands tells before now history

-- An event was not taken: all is as before.
pub record IsUntaken (fault : NoteFault) (stood stands : List HistoryEntry → Type 0) (told tells : Option (List Noted)) (faults_before faults_now : ℕ) (before now : Desk) : Type 0 where
  pub stays : (history : List HistoryEntry) → stood history → stands history
  pub notes : StillTells told tells
  pub rose : fault ≡ Failed → Rose faults_before faults_now
  pub same_desk : now ≡ before

-- The hub was stopped, unless an ending was kept.
pub record Stops (why : StopWhy) (before now : Desk) : Type 0 where
  pub server : now.server ≡ before.server
  pub places : now.places ≡ before.places
  pub fall : now.fall ≡ before.fall
  pub ending : now.ending ≡ option_or before.ending (Some (Stopped why))

-- why a hub is stopped when an event could not be noted
abbrev pub stop_of : NoteFault → StopWhy
stop_of Failed = stops.Record
stop_of Memory = stops.Memory

-- Only events that a full port asks for.
abbrev pub is_full_reason : UpWhy → Bool
is_full_reason whys.Ended = false
is_full_reason whys.ReadFault = false
is_full_reason whys.WriteFault = false
is_full_reason whys.UpFull = true

-- whether an event says that somebody was too slow
abbrev pub is_late : Happening → Bool
is_late (enters conn) = false
is_late (takes conn shape) = false
is_late (ends conn) = false
is_late (lags conn) = true
is_late (hears shape) = false
is_late (up_ends why) = is_full_reason why

-- all these events say that somebody was too slow
abbrev pub AreLate : List HistoryEntry → Type 0
AreLate [] = Unit {0}
AreLate (entry ∷ earlier) = (is_late entry.happening ≡ true) × AreLate earlier

-- What was owed is settled, by events that a full port asks for. They hand nothing to a client.
pub record SettlesOwed (client : Option ℕ) (server : Bool) (client_now : Option ℕ) (server_now : Bool) (stood stands : List HistoryEntry → Type 0) (told tells : Option (List Noted)) (faults_before faults_now : ℕ) (before now : Desk) : Type 0 where
  pub later : List HistoryEntry
  pub late : AreLate later
  pub keeps : (history : List HistoryEntry) → KeepsOwing client server stood told faults_before before history → KeepsOwing client_now server_now stands tells faults_now now (later ++ history)
  pub seats : (history : List HistoryEntry) → KeepsOwing client server stood told faults_before before history → (i : ℕ) → IsSeated i before.places.items → IsSeated i now.places.items
  pub unhanded : (history : List HistoryEntry) → KeepsOwing client server stood told faults_before before history → EachLine PutsNothing before.places.items now.places.items

-- What stands when an event is about to be taken: the hub keeps what it keeps, and the event is in hand.
pub record HasInHand (happening : Happening) (stands : List HistoryEntry → Type 0) (told : Option (List Noted)) (faults : ℕ) (desk : Desk) (history : List HistoryEntry) : Type 0 where
  pub underway : Underway stands told desk (coming happening ∷ history) history
  pub settled : ArePortsSettled None false desk history
  pub cause : EndsRightly faults (length desk.places.items) desk.ending history
  pub still_open : desk.ending ≡ None
  pub early : is_late happening ≡ false
  pub seated : (i : ℕ) → line_at desk.places.items i ≡ None → arrival_here i happening ≡ []

-- An event was taken, and those that full ports asked for.
pub record TakesHubEvent (happening : Happening) (stood stands : List HistoryEntry → Type 0) (told tells : Option (List Noted)) (faults_before faults_now : ℕ) (before now : Desk) : Type 0 where
  pub outcome : Outcome
  pub later : List HistoryEntry
  pub late : AreLate later
  pub keeps : (history : List HistoryEntry) → HasInHand happening stood told faults_before before history → KeepsOwing None false stands tells faults_now now (later ++ record { happening = happening; outcome = outcome } ∷ history)
  pub seats : (history : List HistoryEntry) → HasInHand happening stood told faults_before before history → (i : ℕ) → IsSeated i before.places.items → IsSeated i now.places.items
  pub unhanded : (history : List HistoryEntry) → HasInHand happening stood told faults_before before history → may_hand happening ≡ false → EachLine PutsNothing before.places.items now.places.items
  pub dies : (history : List HistoryEntry) → HasInHand happening stood told faults_before before history → (conn : ℕ) → happening ≡ ends conn → is_alive conn (later ++ record { happening = happening; outcome = outcome } ∷ history) ≡ false
