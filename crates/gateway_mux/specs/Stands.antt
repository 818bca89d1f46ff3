-- When a multiplexer stands for a history (this project's own).
use Rattle.std.specs.Prelude.{◌≡◌, ℕ, Bool, ◌||◌, is_some, List, Option, Some, None}
use Rattle.rtsp_uri.specs.declared.base.Bases.{Bases}
use Rattle.gateway_claim.specs.declared.event.UpCause.{UpCause}
use Rattle.gateway_claim.specs.declared.event.Event.{Event}
use Rattle.gateway_claim.specs.declared.connection.ConnectionKey.{ConnectionKey}
use Rattle.gateway_claim.specs.Happenings.{HistoryEntry, happening_of, fault_in, standing}
use Rattle.gateway_claim.specs.Cores.{IsNewTo}
use Rattle.gateway_claim.specs.Follows.{IsHistory}
use Rattle.gateway_claim.specs.Tells.{dropped_frames}
use Rattle.gateway_mux.specs.declared.act.Act.{Act}
use Rattle.gateway_mux.specs.declared.connections.Connections.{Connections}
use Rattle.gateway_mux.specs.declared.mux.Mux.{Mux}
use Rattle.gateway_mux.specs.declared.mux.Plan.{Plan}
use Rattle.gateway_mux.specs.Acts.{IsAct, IsShortAct, IsKeyed}
use Rattle.gateway_mux.specs.Pictures.{Picture, picture, IsPictureOf}
use Rattle.connection_table.specs.Tables.{IsKeyOf, is_ready}

-- what the multiplexer has
abbrev pub picture_of : Connections → Picture
picture_of connections = picture connections.seats connections.upstream

-- The list is a history; what the multiplexer has of its connections is what it has before the connection to the server
-- ended; and its end and the count of dropped frames are the history's.
pub record Stands (mux : Mux) (history : List HistoryEntry) : Type 0 where
  pub is_history : IsHistory mux.connections.bases history
  pub has_ended : mux.ended ≡ fault_in history
  pub counts : mux.dropped ≡ dropped_frames history
  pub is_picture : IsPictureOf mux.connections.bases (picture_of mux.connections) (standing history)

-- What was planned for an event is what it does.
abbrev pub IsActFor : Option UpCause → Mux → Event → Act → Type 0
IsActFor (Some cause) mux event act = Unit {0}
IsActFor None mux event act = IsAct mux.connections.bases (picture_of mux.connections) (happening_of event) act × IsShortAct act × IsKeyed mux.connections.seats act

-- the plan is what the event does
abbrev pub IsPlanFor : Mux → Event → Plan → Type 0
IsPlanFor mux event plan = IsActFor mux.ended mux event plan.act

-- it keeps connection i under that key
abbrev pub HasKey : Mux → ℕ → ConnectionKey → Type 0
HasKey mux i key = IsKeyOf mux.connections.seats i key.place

-- It stands for a history in which the number never entered.
abbrev pub IsFresh : Mux → ℕ → Type 0
IsFresh mux conn = ∥ IsNewTo (Stands mux) conn ∥₁

-- between which addresses it stands
abbrev pub bases_of : Mux → Bases
bases_of mux = mux.connections.bases

-- A connection can enter without memory, as it can after the end of the connection to the server.
abbrev pub is_prepared : Mux → Bool
is_prepared mux = is_some mux.ended || is_ready mux.connections.seats

-- why the connection to the server ended, where it did
abbrev pub end_of : Mux → Option UpCause
end_of mux = mux.ended
