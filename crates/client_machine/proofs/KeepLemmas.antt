-- A connection is alive exactly where it was not closed, and nothing happens to it once the connection to the server has
-- ended.
use Rattle.std.proofs.Common.{◌≡◌, ℕ, ◌+◌, Bool, true, cond, ◌&&◌, not, List, [], ◌∷◌, ◌++◌, Option, None, refl, ap, arith}
use Rattle.std.specs.Prelude.{is_none}
use Rattle.std.specs.Option.{option_to_list}
use Rattle.rtsp_uri.specs.declared.base.Bases.{Bases}
use Rattle.session_one.specs.declared.parts.Play.{Play}
use Rattle.client_slot.specs.Client.{Client}
use Rattle.client_machine.specs.declared.why.CloseWhy.{CloseWhy}
use Rattle.client_machine.specs.declared.why.CloseWhy.TheVariants as why
use Rattle.client_machine.specs.Events.{Effect, stays, PrivateEvent, end, up_end}
use Rattle.client_machine.specs.Step as going
use Rattle.client_machine.specs.Step.{Hearing, step}
use Rattle.client_machine.specs.Alone.{Private, is_live, effect_while, effect_alone, or_else, private_next, private_after, shut_alone, is_empty_list}
use Rattle.client_machine.proofs.WayLemmas.{going_as, alone_by}
use Rattle.client_machine.proofs.HoldLemmas.{plays_kept}

-- What goes up closes nothing.
record IsQuiet (was : Bool) (effect : Effect) : Type 0 where
  alive : effect.client.alive ≡ was
  close : effect.close ≡ None

pub plays_alive : (plays : List Play) (client : Client) → (going.after_plays plays client).alive ≡ client.alive
plays_alive plays client = ap (λ (one : Client). one.alive) (plays_kept plays client)

-- What an event does by itself leaves a connection alive exactly where it does not close it.
abbrev IsKept : Bool → Hearing → Type 0
IsKept alive heard = heard.effect.client.alive ≡ (alive && is_none heard.effect.close)

pub step_alive : (bases : Bases) (number : ℕ) (pair : Option ℕ) (client : Client) (event : PrivateEvent)
    → (step bases number pair client event).client.alive ≡ (client.alive && is_none (step bases number pair client event).close)
step_alive bases number pair client event = grind (arith, going_as, plays_alive)

-- So it is for a connection alone.
pub alone_live : (bases : Bases) (p : Private) (event : PrivateEvent)
    → is_live (private_next p event (effect_alone bases p event)) ≡ (is_live p && is_none (effect_alone bases p event).close)
alone_live bases p event = alone_by (λ effect. is_live (private_next p event effect) ≡ (is_live p && is_none effect.close)) bases p event (λ over. grind arith) (λ over up. grind arith) (λ over other. grind (arith, step_alive))

pub close_append : (one : Option CloseWhy) (closed : List CloseWhy) → is_empty_list (option_to_list one ++ closed) ≡ (is_empty_list closed && is_none one)
close_append one closed = grind arith

pub live_unclosed : (bases : Bases) (events : List PrivateEvent) → is_live (private_after bases events) ≡ is_empty_list (shut_alone bases events)
live_unclosed bases [] = refl
live_unclosed bases (event ∷ events) = grind (arith, alone_live, close_append, live_unclosed bases events)

-- After the end of the connection to the server nothing happens to a connection.
abbrev pub IsOver : Bases → List PrivateEvent → Type 0
IsOver bases events = (private_after bases events).over ≡ true

pub over_stays : (bases : Bases) (p : Private) (event : PrivateEvent) → p.over ≡ true → effect_alone bases p event ≡ stays p.client
over_stays bases p event over = ap (λ b. effect_while b bases p event) over

pub or_true : (b : Bool) → or_else b true ≡ true
or_true b = grind arith

pub over_client : (bases : Bases) (events : List PrivateEvent) (one : Option PrivateEvent) → IsOver bases events
    → (private_after bases (option_to_list one ++ events)).client ≡ (private_after bases events).client
over_client bases events one over = grind arith

-- That end closes a connection that is alive.
pub ends_shut : (bases : Bases) (events : List PrivateEvent) → shut_alone bases (up_end ∷ events) ≡ cond (is_live (private_after bases events)) (why.Upstream ∷ []) [] ++ shut_alone bases events
ends_shut bases events = ap (λ (closed : List CloseWhy). closed ++ shut_alone bases events) (grind arith)
