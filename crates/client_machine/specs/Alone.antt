-- The machine of one connection, as a gateway would run it that has a connection to the server for it alone (this
-- project's own). It knows no number of a connection, and counts its own requests from 1 on.
use Rattle.std.specs.Prelude.{ℕ, ◌+◌, ◌==◌, Bool, true, false, ◌&&◌, not, List, [], ◌∷◌, ◌++◌, length, Option, Some, None, if◌then◌else◌}
use Rattle.std.specs.Option.{option_to_list}
use Rattle.rtsp_uri.specs.declared.base.Bases.{Bases}
use Rattle.client_slot.specs.Client.{Client, new_client}
use Rattle.client_machine.specs.declared.why.CloseWhy.{CloseWhy}
use Rattle.client_machine.specs.declared.why.CloseWhy.TheVariants.{Upstream}
use Rattle.client_machine.specs.Events.{Outgoing, asks, Effect, stays, PrivateEvent, arrive, answer, up_end}
use Rattle.client_machine.specs.Step.{step}

-- the connection; whether the connection to the server has ended; and how many requests went up
pub record Private : Type 0 where
  pub client : Client
  pub over : Bool
  pub count : ℕ

-- a connection that entered
abbrev pub new_private : Private
new_private = record { client = new_client; over = false; count = 0 }

-- it is alive, and the connection to the server stands
abbrev pub is_live : Private → Bool
is_live private = not private.over && private.client.alive

-- A SETUP has its own number as the number of its pair. None is free where the event says so.
abbrev pub pair_unless : Bool → ℕ → Option ℕ
pair_unless true number = None
pair_unless false number = Some number

-- the lowest free pair of a player alone; none where all are said to be held
abbrev pub pair_alone : PrivateEvent → ℕ → Option ℕ
pair_alone (arrive shape full) number = pair_unless full number
pair_alone (answer told ssrc full) number = pair_unless full number
pair_alone event number = Some number

-- The end of the server's connection closes a connection that is alive.
abbrev pub over_effect : Client → Effect
over_effect client = record { client = client; hand = []; message = None; close = if client.alive then Some Upstream else None }

-- what an event does, while the connection to the server stands
abbrev pub effect_while : Bool → Bases → Private → PrivateEvent → Effect
effect_while true bases private event = stays private.client
effect_while false bases private up_end = over_effect private.client
effect_while false bases private event = step bases private.count (pair_alone event (private.count + 1)) private.client event

-- What one event does. The open request is the last one that went up.
abbrev pub effect_alone : Bases → Private → PrivateEvent → Effect
effect_alone bases private event = effect_while private.over bases private event

-- whether it is the end of the connection to the server
abbrev pub is_up_end : PrivateEvent → Bool
is_up_end up_end = true
is_up_end event = false

-- one request more, where a message is one
abbrev pub asked_in : Option Outgoing → ℕ
asked_in (Some (asks request pair)) = 1
asked_in message = 0

-- either of two
abbrev pub or_else : Bool → Bool → Bool
or_else true other = true
or_else false other = other

-- the private state after an event
abbrev pub private_next : Private → PrivateEvent → Effect → Private
private_next private event effect = record {
  client = effect.client;
  over = or_else (is_up_end event) private.over;
  count = private.count + asked_in effect.message;
}

-- Whole runs, with the newest event first: the connection after them, the pieces of bytes that the client was handed,
-- what was sent up, and the closes, the newest first.
abbrev pub private_after : Bases → List PrivateEvent → Private
private_after bases [] = new_private
private_after bases (event ∷ events) = private_next (private_after bases events) event (effect_alone bases (private_after bases events) event)

-- what an event does after those before it
abbrev pub effect_after : Bases → List PrivateEvent → PrivateEvent → Effect
effect_after bases events event = effect_alone bases (private_after bases events) event

-- no bytes are no piece
abbrev pub piece : List ℕ → List (List ℕ)
piece bytes = if length bytes == 0 then [] else bytes ∷ []

-- all that a player alone is handed, newest first
abbrev pub hand : Bases → List PrivateEvent → List (List ℕ)
hand bases [] = []
hand bases (event ∷ events) = piece (effect_after bases events event).hand ++ hand bases events

-- how a player alone was closed
abbrev pub shut_alone : Bases → List PrivateEvent → List CloseWhy
shut_alone bases [] = []
shut_alone bases (event ∷ events) = option_to_list (effect_after bases events event).close ++ shut_alone bases events

-- whether there is no close
abbrev pub is_empty_list : List CloseWhy → Bool
is_empty_list [] = true
is_empty_list (why ∷ more) = false
