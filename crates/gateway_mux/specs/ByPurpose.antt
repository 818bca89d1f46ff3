-- What a final reply settles, by what the request is for that is open (this project's own).
use Rattle.std.specs.Prelude.{◌≡◌, ℕ, Bool, ◌&&◌, is_none, is_some, List, Option, Some, None, if◌then◌else◌}
use Rattle.std.specs.Option.{option_map}
use Rattle.rtsp_small.specs.declared.method.Method.TheVariants as methods
use Rattle.channel_map.specs.declared.map.Freed.{Freed}
use Rattle.channel_map.specs.declared.map.Freed.TheVariants.{Nothing, Pair}
use Rattle.session_one.specs.Table.{same_method}
use Rattle.client_slot.specs.declared.purpose.Purpose.{Purpose}
use Rattle.client_slot.specs.declared.purpose.Purpose.TheVariants as purposes
use Rattle.client_slot.specs.Session.{PlayerSession}
use Rattle.client_slot.specs.Places.{session_at}
use Rattle.gateway_mux.specs.Settlements.{IsFreedSet}

-- the pair that a SETUP asks for
abbrev pub pair_named : Purpose → Option ℕ
pair_named (purposes.Client asked track) = option_map (λ one. one.pair) track
pair_named (purposes.Released play) = None
pair_named (purposes.Closing place) = None

-- the place whose session is to end: that of a TEARDOWN with a success, and that of a connection that closed with any
abbrev pub ending_place : Purpose → Bool → Option ℕ
ending_place (purposes.Client asked (Some track)) success = None
ending_place (purposes.Client asked None) success = if success && same_method asked.method methods.Teardown then asked.place else None
ending_place (purposes.Released play) success = None
ending_place (purposes.Closing place) success = Some place

-- the place, where a session is there
abbrev pub torn_at : List PlayerSession → Option ℕ → Option ℕ
torn_at sessions None = None
torn_at sessions (Some place) = if is_some (session_at place sessions).id then Some place else None

-- The pair of a SETUP that failed is freed, or those of the session that ends.
abbrev pub IsFreedAt : Option ℕ → Option ℕ → List PlayerSession → Freed → Type 0
IsFreedAt (Some pair) torn sessions freed = freed ≡ Pair pair
IsFreedAt None None sessions freed = freed ≡ Nothing
IsFreedAt None (Some place) sessions freed = IsFreedSet (session_at place sessions).tracks freed

-- the id of a new session: that which the success of a SETUP says that named none
abbrev pub bound_at : Purpose → Bool → Option (List ℕ) → Option (List ℕ)
bound_at (purposes.Client asked (Some track)) success id = if success && is_none asked.place then id else None
bound_at (purposes.Client asked None) success id = None
bound_at (purposes.Released play) success id = None
bound_at (purposes.Closing place) success id = None
