-- What can be told of a history: which connections are alive or busy, how many requests wait, and how many frames were
-- dropped (this project's own).
use Rattle.std.specs.Prelude.{◌≡◌, ℕ, ◌+◌, ◌-◌, ◌^◌, ◌≤◌, ◌<◌, min, Bool, true, false, ◌&&◌, not, is_some, is_none, List, [], ◌∷◌, length, Option, Some, None, if◌then◌else◌}
use Rattle.rtsp_head.specs.declared.item.ItemKind.{ItemKind}
use Rattle.rtsp_head.specs.declared.item.ItemKind.TheVariants.{Frame}
use Rattle.rtsp_uri.specs.declared.base.Bases.{Bases}
use Rattle.client_machine.specs.Alone.{Private}
use Rattle.gateway_claim.specs.declared.event.Outcome.{Outcome}
use Rattle.gateway_claim.specs.Happenings.{Happening, takes, hears, HistoryEntry, fault_in, is_alive}
use Rattle.gateway_claim.specs.Follows.{private_in}
use Rattle.std.specs.Option.{option_map_or}

-- the first number from this one on of a connection that is alive; none where there is none of 32 bits
abbrev pub IsFirstAlive : ℕ → List HistoryEntry → Option ℕ → Type 0
IsFirstAlive from earlier None = (i : ℕ) → from ≤ i → i < 2 ^ 32 → is_alive i earlier ≡ false
IsFirstAlive from earlier (Some conn) = (from ≤ conn) × (is_alive conn earlier ≡ true) × ((i : ℕ) → from ≤ i → i < conn → is_alive i earlier ≡ false)

-- whether a request of a connection would wait: the server's connection stands, it is alive, and a request of it is open
abbrev pub is_busy_private : Option Private → Bool
is_busy_private None = false
is_busy_private (Some private) = not private.over && (private.client.alive && is_some private.client.pending)

-- whether a request of a connection is open
abbrev pub is_busy : Bases → ℕ → List HistoryEntry → Bool
is_busy bases i earlier = is_busy_private (private_in bases i earlier)

-- How many requests of a connection wait. At the end of the server's connection that stays as it is.
abbrev pub waiting_private : Option Private → ℕ
waiting_private private = option_map_or (λ one. length one.client.waiting) private 0

-- how many requests of a connection wait
abbrev pub requests_waiting : Bases → ℕ → List HistoryEntry → ℕ
requests_waiting bases i earlier = waiting_private (private_in bases i earlier)

-- whether an item is a frame
abbrev pub is_frame : ItemKind → Bool
is_frame Frame = true
is_frame kind = false

-- whether an event brings a frame
abbrev pub is_frame_item : Happening → Bool
is_frame_item (takes conn shape) = is_frame shape.kind
is_frame_item (hears shape) = is_frame shape.kind
is_frame_item happening = false

-- Whether a frame came of which nothing was handed out.
abbrev pub is_dropped : Happening → Outcome → Bool
is_dropped happening outcome = is_frame_item happening && (is_none outcome.to_client && is_none outcome.to_up.message)

-- how many frames were dropped while the server's connection stood
abbrev pub frames_in : List HistoryEntry → ℕ
frames_in [] = 0
frames_in (entry ∷ earlier) = (if is_dropped entry.happening entry.outcome && is_none (fault_in earlier) then 1 else 0) + frames_in earlier

-- the same as a number of 64 bits, which stops at the greatest
abbrev pub dropped_frames : List HistoryEntry → ℕ
dropped_frames history = min (frames_in history) (2 ^ 64 - 1)
