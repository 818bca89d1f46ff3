-- The histories of a core: a thing that takes events, one after another, and hands out what each asks for; and what one
-- entry may hand out and close, after those before it (this project's own). What follows is each core's own; what a history
-- is stands here, once for all.
use Rattle.std.specs.Prelude.{◌≡◌, ℕ, Bool, false, ◌||◌, ◌&&◌, ◌==◌, not, List, [], ◌∷◌, true, Option, Some, None, if◌then◌else◌, IfSome}
use Rattle.rtsp_uri.specs.declared.base.Bases.{Bases}
use Rattle.gateway_claim.specs.declared.event.Closed.{Closed}
use Rattle.gateway_claim.specs.declared.event.Closed.TheVariants.{Nobody, One, All}
use Rattle.gateway_claim.specs.Happenings.{Happening, takes, HistoryEntry, enters_here, enters, ends, lags, hears, up_ends, cause_of, fault_in, is_alive, nothing_up, silent}
use Rattle.client_machine.specs.declared.why.CloseWhy.{CloseWhy}
use Rattle.client_machine.specs.declared.why.CloseWhy.TheVariants as closes
use Rattle.gateway_claim.specs.declared.event.ToClient.{ToClient}
use Rattle.gateway_claim.specs.declared.event.UpCause.{UpCause}
use Rattle.gateway_claim.specs.declared.event.UpCause.TheVariants.{UpFull, Ended, ReadFault, WriteFault}
use Rattle.gateway_claim.specs.declared.event.Outcome.{Outcome}
use Rattle.gateway_claim.specs.declared.event.Event.{Event}
use Rattle.gateway_claim.specs.declared.event.Event.TheVariants as events
use Rattle.gateway_claim.specs.declared.connection.ConnectionKey.{ConnectionKey}
use Rattle.gateway_claim.specs.declared.connection.Standing.{Standing}
use Rattle.gateway_claim.specs.declared.connection.Standing.TheVariants as standings

-- each entry follows those before it
abbrev pub IsCoreHistory : (Bases → List HistoryEntry → HistoryEntry → Type 0) → Bases → List HistoryEntry → Type 0
IsCoreHistory follows bases [] = Unit {0}
IsCoreHistory follows bases (entry ∷ earlier) = IsCoreHistory follows bases earlier × follows bases earlier entry

-- whether connection i ever entered, also after the end of the connection to the server
abbrev pub ever_entered : ℕ → List HistoryEntry → Bool
ever_entered i [] = false
ever_entered i (entry ∷ earlier) = enters_here i entry.happening || ever_entered i earlier

-- A core that stands for such histories stands for one in which this number never entered.
pub record IsNewTo (stands : List HistoryEntry → Type 0) (conn : ℕ) : Type 0 where
  pub history : List HistoryEntry
  pub stood : stands history
  pub never : ever_entered conn history ≡ false

-- whether connection i is alive after an event that closed these, by whether it was before
abbrev pub stays_alive : ℕ → Closed → Bool → Bool
stays_alive i Nobody was = was
stays_alive i (One conn why) was = not (conn == i) && was
stays_alive i All was = false

-- No request waits, of any connection.
abbrev pub NoneWaits : (ℕ → List HistoryEntry → ℕ) → List HistoryEntry → Type 0
NoneWaits waits history = (i : ℕ) → waits i history ≡ 0

-- This is no item of a client that is busy, whose request would wait.
abbrev pub IsTimely : (ℕ → List HistoryEntry → Bool) → List HistoryEntry → Happening → Type 0
IsTimely busy history (takes conn shape) = busy conn history ≡ false
IsTimely busy history happening = Unit {0}

-- what is handed to a client goes to a connection that is alive
abbrev pub HandsToLiving : List HistoryEntry → Option ToClient → Type 0
HandsToLiving earlier piece = IfSome piece (λ one. is_alive one.conn earlier ≡ true)

-- One connection at most is closed: one that is alive, and where that is allowed.
abbrev pub ClosesAtMostOne : List HistoryEntry → (ℕ → CloseWhy → Type 0) → Closed → Type 0
ClosesAtMostOne earlier allowed Nobody = Unit {0}
ClosesAtMostOne earlier allowed (One conn why) = (is_alive conn earlier ≡ true) × allowed conn why
ClosesAtMostOne earlier allowed All = ⊥

-- this connection is closed, where it is alive, and no other one
abbrev pub closed_if_alive : List HistoryEntry → ℕ → CloseWhy → Closed
closed_if_alive earlier conn why = if is_alive conn earlier then One conn why else Nobody

-- An event that does not end the connection to the server. An entering hands out and closes nothing. An item of a client
-- may close that client's connection, as a bad item. The end of a client, and its full queue, hand nothing to a client,
-- and close the connection. An item of the server may close one connection, as ended. The end of the connection to the
-- server is no such event.
abbrev pub IsOrderlyEvent : List HistoryEntry → Happening → Outcome → Type 0
IsOrderlyEvent earlier (enters conn) outcome = outcome ≡ silent
IsOrderlyEvent earlier (takes conn shape) outcome = HandsToLiving earlier outcome.to_client × ClosesAtMostOne earlier (λ i why. (i ≡ conn) × (why ≡ closes.BadItem)) outcome.closed
IsOrderlyEvent earlier (ends conn) outcome = (outcome.to_client ≡ None) × (outcome.closed ≡ closed_if_alive earlier conn closes.Ended)
IsOrderlyEvent earlier (lags conn) outcome = (outcome.to_client ≡ None) × (outcome.closed ≡ closed_if_alive earlier conn closes.Slow)
IsOrderlyEvent earlier (hears shape) outcome = HandsToLiving earlier outcome.to_client × ClosesAtMostOne earlier (λ i why. why ≡ closes.Ended) outcome.closed
IsOrderlyEvent earlier (up_ends why) outcome = ⊥

-- nothing is handed out, and each connection that is alive is closed
abbrev pub closing_all : UpCause → Outcome
closing_all cause = record { to_client = None; to_up = nothing_up; closed = All; fault = Some cause }

-- the causes that no item has: the connection to the server ended by itself, or took its bytes too slowly
abbrev pub is_from_outside : UpCause → Bool
is_from_outside UpFull = true
is_from_outside Ended = true
is_from_outside ReadFault = true
is_from_outside WriteFault = true
is_from_outside cause = false

-- Why an event may end the connection to the server. The end of that connection has its reason as the cause.
abbrev pub MayEndServer : Happening → UpCause → Type 0
MayEndServer (enters conn) cause = ⊥
MayEndServer (up_ends why) cause = cause ≡ cause_of why
MayEndServer happening cause = is_from_outside cause ≡ false

-- an entry while the connection to the server stands, by whether it ends it
abbrev pub IsOrderlyBy : Option UpCause → List HistoryEntry → HistoryEntry → Type 0
IsOrderlyBy None earlier entry = IsOrderlyEvent earlier entry.happening entry.outcome
IsOrderlyBy (Some cause) earlier entry = MayEndServer entry.happening cause × (entry.outcome ≡ closing_all cause)

-- and after its end, where every entry hands out and closes nothing and has no cause
abbrev pub IsOrderlyAfter : Option UpCause → List HistoryEntry → HistoryEntry → Type 0
IsOrderlyAfter None earlier entry = IsOrderlyBy entry.outcome.fault earlier entry
IsOrderlyAfter (Some cause) earlier entry = entry.outcome ≡ silent

-- an entry keeps the order, after those before it
abbrev pub IsOrderly : List HistoryEntry → HistoryEntry → Type 0
IsOrderly earlier entry = IsOrderlyAfter (fault_in earlier) earlier entry

-- A connection stands so: it is closed, or busy, or neither, by whether it is alive and whether a request of it would wait.
abbrev pub TellsStanding : Bool → Bool → Standing → Type 0
TellsStanding alive busy standings.Closed = alive ≡ false
TellsStanding alive busy standings.Busy = (alive ≡ true) × (busy ≡ true)
TellsStanding alive busy (standings.Ready key) = (alive ≡ true) × (busy ≡ false)

-- The key that is told with it, where one is, is that of the connection.
abbrev pub GivesKey : (ConnectionKey → Type 0) → Standing → Type 0
GivesKey has_key standings.Closed = Unit {0}
GivesKey has_key standings.Busy = Unit {0}
GivesKey has_key (standings.Ready key) = has_key key

-- The event is one of a player, and its connection is kept under this key.
abbrev pub IsOwnKey : (ℕ → ConnectionKey → Type 0) → Event → ConnectionKey → Type 0
IsOwnKey has_key (events.Client conn item) key = has_key conn key
IsOwnKey has_key (events.End conn) key = has_key conn key
IsOwnKey has_key (events.Slow conn) key = has_key conn key
IsOwnKey has_key (events.Up item) key = ⊥
IsOwnKey has_key (events.UpEnd why) key = ⊥
