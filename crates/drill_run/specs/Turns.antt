-- The turns of a drill (this project's own).
use Rattle.std.specs.Prelude.{◌≡◌, ℕ, suc, zero, ◌+◌, List, [], ◌∷◌, ◌++◌, length, map, replicate, slice_get, slice_set, Option, Some, None, if◌then◌else◌}
use Rattle.rtsp_head.specs.Items.{Shape, items_of}
use Rattle.gateway_claim.specs.declared.event.ToUp.{ToUp}
use Rattle.gateway_claim.specs.declared.event.UpMessage.{UpMessage}
use Rattle.gateway_claim.specs.declared.event.UpMessage.TheVariants.{Request, Frame}
use Rattle.gateway_claim.specs.Happenings.{Happening, hears, HistoryEntry, entering, happened}
use Rattle.drill_server.specs.Draws.{next_draw, drawn_below}
use Rattle.drill_server.specs.ServerSteps.{Serving, idle_server, serving_fed, serving_answered, next_answer}
use Rattle.drill_run.specs.declared.player.Player.{Player}
use Rattle.drill_run.specs.declared.turn.Who.{Who}
use Rattle.drill_run.specs.declared.turn.Who.TheVariants.{Client, Server}
use Rattle.drill_run.specs.Players.{new_player, is_ready_player, player_at, handed_players, stepped_player, player_said}
use Rattle.drill_run.specs.Steps.{said_told}

-- How far a drill is: its players, the number that the next draw follows, the server, what happened so far, the newest
-- first, and how many turns that were.
pub record Drilled : Type 0 where
  pub players : List Player
  pub draw : ℕ
  pub server : Serving
  pub history : List HistoryEntry
  pub turns : ℕ

-- so many connections have entered, by rising number
abbrev pub entered_below : ℕ → List HistoryEntry
entered_below zero = []
entered_below (suc i) = entering i ∷ entered_below i

-- the beginning of a drill with so many players, from this number
abbrev pub started : ℕ → ℕ → Drilled
started players number = record { players = replicate players new_player; draw = number; server = idle_server; history = entered_below players; turns = 0 }

-- a player among those that may take a turn
abbrev pub ready_one : ℕ → Player → List Who
ready_one i player = if is_ready_player player then Client i ∷ [] else []

-- the players that are ready, by rising number, where the first of these has number i
abbrev pub ready_from : ℕ → List Player → List Who
ready_from i [] = []
ready_from i (player ∷ players) = ready_one i player ++ ready_from (i + 1) players

-- the server, where a request waits for its answer
abbrev pub server_ready : List Shape → List Who
server_ready [] = []
server_ready (shape ∷ waiting) = Server ∷ []

-- Who can have the next turn: the players that are ready, and then the server.
abbrev pub candidates_among : List Player → List Shape → List Who
candidates_among players waiting = ready_from 0 players ++ server_ready waiting

-- who may take a turn
abbrev pub candidates : Drilled → List Who
candidates drilled = candidates_among drilled.players drilled.server.waiting

-- who of these is drawn, where this number follows
abbrev pub drawn_among : List Who → ℕ → Option Who
drawn_among whos draw = slice_get whos (drawn_below draw (length whos))

-- who has the next turn
abbrev pub chosen : Drilled → Option Who
chosen drilled = drawn_among (candidates drilled) (next_draw drilled.draw)

-- A turn was drawn.
abbrev pub after_draw : Drilled → Drilled
after_draw drilled = record { players = drilled.players; draw = next_draw drilled.draw; server = drilled.server; history = drilled.history; turns = drilled.turns + 1 }

-- what happens at a turn
abbrev pub turn_told : Who → Drilled → List Happening
turn_told (Client i) drilled = said_told i (player_said i (player_at i drilled.players))
turn_told Server drilled = map (λ shape. hears shape) (items_of (next_answer drilled.server).text)

-- Who has the turn has said what it says.
abbrev pub after_saying : Who → Drilled → Drilled
after_saying (Client i) drilled = record {
  players = slice_set drilled.players i (stepped_player (player_at i drilled.players));
  draw = drilled.draw;
  server = drilled.server;
  history = drilled.history;
  turns = drilled.turns;
}
after_saying Server drilled = record { players = drilled.players; draw = drilled.draw; server = serving_answered drilled.server; history = drilled.history; turns = drilled.turns }

-- the server hears the answer to its request
abbrev pub fed_answer : Option (List ℕ) → Serving → Serving
fed_answer None serving = serving
fed_answer (Some text) serving = serving_fed serving text

-- the server hears a request; frames it drops
abbrev pub fed_message : Option UpMessage → Serving → Serving
fed_message None serving = serving
fed_message (Some (Request text)) serving = serving_fed serving text
fed_message (Some (Frame text)) serving = serving_fed serving text

-- the server takes the answer, and then the message
abbrev pub fed_up : ToUp → Serving → Serving
fed_up up serving = fed_message up.message (fed_answer up.answer serving)

-- What an event hands out reaches a player and the server.
abbrev pub after_entry : Drilled → HistoryEntry → Drilled
after_entry drilled entry = record {
  players = handed_players entry.outcome.to_client drilled.players;
  draw = drilled.draw;
  server = fed_up entry.outcome.to_up drilled.server;
  history = entry ∷ drilled.history;
  turns = drilled.turns;
}

-- what several events hand out, the newest first
abbrev pub after_entries : List HistoryEntry → Drilled → Drilled
after_entries [] drilled = drilled
after_entries (entry ∷ more) drilled = after_entry (after_entries more drilled) entry

-- One turn: the one that is drawn says what it says, and each item of that is an event, one after another, whose outcome
-- is handed out before the next.
pub record Turn (drilled next : Drilled) : Type 0 where
  pub who : Who
  pub drawn : chosen drilled ≡ Some who
  pub more : List HistoryEntry
  pub told : happened more ≡ turn_told who drilled
  pub after : next ≡ after_entries more (after_saying who (after_draw drilled))

-- A drill with so many players from this number, turn by turn.
pub data DrillRun (players number : ℕ) : Drilled → Type 0 where
  begins : DrillRun players number (started players number)
  goes_on : (drilled next : Drilled) → DrillRun players number drilled → Turn drilled next → DrillRun players number next
