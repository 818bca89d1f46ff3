-- Whichever answer a call gives, the hub keeps what it keeps.
use Rattle.std.proofs.Common.{ℕ, Bool, true, false, List, ◌∷◌, ◌++◌, Option, Some, None, Result, Ok, Err}
use Rattle.gateway_claim.specs.Happenings.{Happening, HistoryEntry, takes, ends, hears, up_ends}
use Rattle.hub_queues.specs.declared.ending.Ending.{Ending}
use Rattle.gateway_hub.specs.declared.fault.HubFault.{HubFault}
use Rattle.gateway_hub.specs.declared.fault.HubFault.TheVariants as faults
use Rattle.hub_queues.specs.declared.line.HubConnection.{HubConnection}
use Rattle.gateway_hub.specs.declared.desk.Desk.{Desk}
use Rattle.gateway_hub.specs.declared.seat.Taken.{Taken}
use Rattle.gateway_hub.specs.declared.seat.Taken.TheVariants.{Done, Empty, Busy, Closed}
use Rattle.gate_transcript.specs.declared.entry.UpWhy.{UpWhy}
use Rattle.gateway_hub.specs.Calls.{GrowsBy, Fails, TakesFirst, TakesFirstUp, Shuts, ShutsUp}

-- Whichever answer a call of a hub gives, there is a history with which the hub keeps what it keeps.
abbrev pub Goes : (List HistoryEntry → Type 0) → (List HistoryEntry → Type 0) → Type 0
Goes kept keeps = (history : List HistoryEntry) → kept history → (next : List HistoryEntry) × keeps next

fails_go : (fault : HubFault) (kept keeps : List HistoryEntry → Type 0) (before now : Option Ending) → Fails fault kept keeps before now → Goes kept keeps
fails_go (faults.Ended cause) kept keeps before now f T k = (T, f.1 T k)
fails_go (faults.Stopped why) kept keeps before now f T k = (T, f.1 T k)
fails_go faults.RecordFault kept keeps before now f T k = (T, f.1 T k)
fails_go faults.Memory kept keeps before now f T k = (T, f.1 T k)

grows_go : (h : Happening) (kept keeps : List HistoryEntry → Type 0) → GrowsBy h kept keeps → Goes kept keeps
grows_go h kept keeps g T k = (g.later ++ record { happening = h; outcome = g.outcome } ∷ T, g.grows T k)

pub takes_go : (conn : ℕ) (busy : List HistoryEntry → Bool) (result : Result Taken HubFault) (kept keeps : List HistoryEntry → Type 0) (before now : Desk) → TakesFirst conn busy result kept keeps before now → Goes kept keeps
takes_go conn busy (Ok Done) kept keeps before now t = grows_go (takes conn t.2.0) kept keeps t.2.1
takes_go conn busy (Ok Empty) kept keeps before now t = λ T k. (T, t.2 T k)
takes_go conn busy (Ok Busy) kept keeps before now t = λ T k. (T, t.2 T k)
takes_go conn busy (Ok Closed) kept keeps before now t = λ T k. (T, t.2 T k)
takes_go conn busy (Err fault) kept keeps before now t = fails_go fault kept keeps before.ending now.ending t

pub takes_up_go : (result : Result Bool HubFault) (kept keeps : List HistoryEntry → Type 0) (before now : Desk) → TakesFirstUp result kept keeps before now → Goes kept keeps
takes_up_go (Ok true) kept keeps before now t = grows_go (hears t.1.0) kept keeps t.1.1
takes_up_go (Ok false) kept keeps before now t = λ T k. (T, t.1 T k)
takes_up_go (Err fault) kept keeps before now t = fails_go fault kept keeps before.ending now.ending t

shuts_ok_go : (conn : ℕ) (line : Option HubConnection) (kept keeps : List HistoryEntry → Type 0) (before now : Desk) → Shuts conn line (Ok tt) kept keeps before now → Goes kept keeps
shuts_ok_go conn None kept keeps before now t = λ T k. (T, t.1 T k)
shuts_ok_go conn (Some line) kept keeps before now t = grows_go (ends conn) kept keeps t.1

shuts_err_go : (conn : ℕ) (line : Option HubConnection) (fault : HubFault) (kept keeps : List HistoryEntry → Type 0) (before now : Desk) → Shuts conn line (Err fault) kept keeps before now → Goes kept keeps
shuts_err_go conn None fault kept keeps before now t = fails_go fault kept keeps before.ending now.ending t
shuts_err_go conn (Some line) fault kept keeps before now t = fails_go fault kept keeps before.ending now.ending t

pub shuts_go : (conn : ℕ) (line : Option HubConnection) (result : Result (Unit {0}) HubFault) (kept keeps : List HistoryEntry → Type 0) (before now : Desk) → Shuts conn line result kept keeps before now → Goes kept keeps
shuts_go conn line (Ok u) kept keeps before now t = shuts_ok_go conn line kept keeps before now t
shuts_go conn line (Err fault) kept keeps before now t = shuts_err_go conn line fault kept keeps before now t

pub shuts_up_go : (why : UpWhy) (result : Result (Unit {0}) HubFault) (kept keeps : List HistoryEntry → Type 0) (before now : Desk) → ShutsUp why result kept keeps before now → Goes kept keeps
shuts_up_go why (Ok u) kept keeps before now t = grows_go (up_ends why) kept keeps t.1
shuts_up_go why (Err fault) kept keeps before now t = fails_go fault kept keeps before.ending now.ending t
