-- The players of a drill (this project's own).
use Rattle.std.specs.Prelude.{ℕ, ◌+◌, ◌-◌, ◌==◌, ◌&&◌, is_some, codes, Bool, true, false, List, [], ◌∷◌, take, slice_set, slice_index_or, Option, Some, None, unwrap_or, option_and_then, option_map, Result, Ok, Err}
use Rattle.rtsp_head.specs.Headers.{field_of}
use Rattle.rtsp_head.specs.Heads.{head_of}
use Rattle.rtsp_head.specs.Items.{Shape, items_of}
use Rattle.rtsp_head.specs.declared.fault.HeadFault.{HeadFault}
use Rattle.rtsp_head.specs.declared.head.Head.{Head}
use Rattle.rtsp_head.specs.declared.item.ItemKind.{ItemKind}
use Rattle.rtsp_head.specs.declared.item.ItemKind.TheVariants as kind
use Rattle.rtsp_small.specs.Sessions.{session_of}
use Rattle.gateway_claim.specs.declared.event.ToClient.{ToClient}
use Rattle.drill_run.specs.declared.step.PlayerStep.{PlayerStep}
use Rattle.drill_run.specs.declared.step.PlayerStep.TheVariants.{Options}
use Rattle.drill_run.specs.declared.player.Player.{Player}
use Rattle.drill_run.specs.declared.script.PlayerWords.{PlayerWords}
use Rattle.drill_run.specs.Steps.{step_after, requests_of_step, said_at}

-- a player that has sent nothing
abbrev pub new_player : Player
new_player = record { next = Some Options; owed = 0; session = [] }

-- It has a step left, and a reply to each request that it sent.
abbrev pub is_ready_player : Player → Bool
is_ready_player player = is_some player.next && player.owed == 0

-- whether an item is a reply
abbrev pub is_response_kind : ItemKind → Bool
is_response_kind kind.Request = false
is_response_kind kind.Response = true
is_response_kind kind.Frame = false
is_response_kind (kind.Bad fault) = false

-- the session that a head names
abbrev pub session_in_head : Result Head HeadFault → Option (List ℕ)
session_in_head (Ok head) = option_and_then (λ value. option_map (λ session. session.id) (session_of value)) (field_of head.headers (codes "Session"))
session_in_head (Err fault) = None

-- the session that a reply names (RFC 2326, 12.37)
abbrev pub session_replied : Shape → Option (List ℕ)
session_replied shape = session_in_head (head_of (take shape.head shape.bytes))

-- A reply came: one is owed less, and the player is in the session that it names.
abbrev pub replied_player : Player → Shape → Player
replied_player player shape = record { next = player.next; owed = player.owed - 1; session = unwrap_or (session_replied shape) player.session }

-- what a player is told moves it where it is a reply
abbrev pub heard_kind : Bool → Player → Shape → Player
heard_kind true player shape = replied_player player shape
heard_kind false player shape = player

-- what a player is after some items, the first of them first
abbrev pub heard_player : Player → List Shape → Player
heard_player player [] = player
heard_player player (shape ∷ shapes) = heard_player (heard_kind (is_response_kind shape.kind) player shape) shapes

-- player i of these
abbrev pub player_at : ℕ → List Player → Player
player_at i players = slice_index_or players i new_player

-- player i hears the items of a piece
abbrev pub handed_players : Option ToClient → List Player → List Player
handed_players None players = players
handed_players (Some piece) players = slice_set players piece.conn (heard_player (player_at piece.conn players) (items_of piece.bytes))

-- a player that took its step, where it had one
abbrev pub stepped_by : Option PlayerStep → Player → Player
stepped_by None player = player
stepped_by (Some step) player = record { next = step_after step; owed = player.owed + requests_of_step step; session = player.session }

-- a player after its next step
abbrev pub stepped_player : Player → Player
stepped_player player = stepped_by player.next player

-- what player i says at its next step
abbrev pub player_said : ℕ → Player → PlayerWords
player_said i player = said_at player.next i player.session
