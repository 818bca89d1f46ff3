-- How a history closes a connection, and whether at an item of the server (this project's own).
use Rattle.std.specs.Prelude.{ℕ, Bool, true, false, ◌==◌, ◌||◌, is_some, List, [], ◌∷◌, Option, Some, None, if◌then◌else◌}
use Rattle.std.specs.Option.{option_or}
use Rattle.client_machine.specs.declared.why.CloseWhy.{CloseWhy}
use Rattle.client_machine.specs.declared.why.CloseWhy.TheVariants as whys
use Rattle.gateway_claim.specs.declared.event.Closed.{Closed}
use Rattle.gateway_claim.specs.declared.event.Closed.TheVariants.{Nobody, One, All}
use Rattle.gateway_claim.specs.Happenings.{Happening, enters, takes, ends, lags, hears, up_ends, HistoryEntry, is_alive}
use Rattle.hub_queues.specs.declared.receipt.Close.{Close}

-- whether an item of the server happened
abbrev pub is_heard : Happening → Bool
is_heard (enters conn) = false
is_heard (takes conn shape) = false
is_heard (ends conn) = false
is_heard (lags conn) = false
is_heard (hears shape) = true
is_heard (up_ends why) = false

-- how a connection was closed
abbrev pub closing : CloseWhy → Bool → Close
closing why heard = record { why = why; by_upstream = heard }

-- how these are a close of connection i, by whether it was alive
abbrev pub close_by : ℕ → Bool → Bool → Closed → Option Close
close_by i alive heard Nobody = None
close_by i alive heard (One conn why) = if conn == i then Some (closing why heard) else None
close_by i alive heard All = if alive then Some (closing whys.Upstream heard) else None

-- the first close of connection i in a history, the newest entry being first
abbrev pub close_in : ℕ → List HistoryEntry → Option Close
close_in i [] = None
close_in i (entry ∷ earlier) = option_or (close_in i earlier) (close_by i (is_alive i earlier) (is_heard entry.happening) entry.outcome.closed)

-- whether the connection to the server ended at an item of the server, where it ended
abbrev pub fall_by : Bool → Bool → Option Bool
fall_by fell heard = if fell then Some heard else None

-- how the connection to the server ended in a history, where it did
abbrev pub fall_in : List HistoryEntry → Option Bool
fall_in [] = None
fall_in (entry ∷ earlier) = option_or (fall_in earlier) (fall_by (is_some entry.outcome.fault) (is_heard entry.happening))

-- how it closed those that were alive
abbrev pub fall_close : Option Bool → Option Close
fall_close None = None
fall_close (Some heard) = Some (closing whys.Upstream heard)

-- whether connection i was too slow in a history
abbrev pub lags_here : ℕ → Happening → Bool
lags_here i (enters conn) = false
lags_here i (takes conn shape) = false
lags_here i (ends conn) = false
lags_here i (lags conn) = conn == i
lags_here i (hears shape) = false
lags_here i (up_ends why) = false

-- whether a connection was too slow
abbrev pub lagged : ℕ → List HistoryEntry → Bool
lagged i [] = false
lagged i (entry ∷ earlier) = lags_here i entry.happening || lagged i earlier
