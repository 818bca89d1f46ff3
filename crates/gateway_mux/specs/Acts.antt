-- When what was planned is what an event does (this project's own).
use Rattle.std.specs.Prelude.{◌≡◌, ℕ, ◌+◌, ◌*◌, ◌/◌, ◌%◌, ◌^◌, ◌<◌, true, is_some, IsSome, length, List, Option, Some, None}
use Rattle.rtsp_head.specs.Items.{Shape}
use Rattle.rtsp_head.specs.declared.item.ItemKind.{ItemKind}
use Rattle.rtsp_head.specs.declared.item.ItemKind.TheVariants as kinds
use Rattle.rtsp_uri.specs.declared.base.Bases.{Bases}
use Rattle.client_slot.specs.Places.{tracks_of}
use Rattle.client_slot.specs.Client.{Client}
use Rattle.client_machine.specs.declared.why.CloseWhy.{CloseWhy}
use Rattle.client_machine.specs.declared.why.CloseWhy.TheVariants.{Ended, BadItem, Slow}
use Rattle.client_machine.specs.Events.{PrivateEvent}
use Rattle.client_machine.specs.Frames.{channel_in, Half, half_for, channel_for}
use Rattle.client_machine.specs.Step.{hear}
use Rattle.client_machine.specs.Plans.{Comes, shuts, CanCome, heard_by, effect_by, IsPlan, IsShortPlan}
use Rattle.gateway_claim.specs.declared.event.Event.{Event}
use Rattle.gateway_claim.specs.declared.event.Event.TheVariants as events
use Rattle.gateway_claim.specs.Happenings.{Happening, enters, takes, ends, lags, hears, up_ends}
use Rattle.gateway_claim.specs.OwnEvents.{owner_of, turn, final_in}
use Rattle.gateway_claim.specs.Follows.{answer_due}
use Rattle.gateway_claim.specs.Turns.{raw_event, number_heard}
use Rattle.gateway_mux.specs.declared.act.FramePath.{FramePath}
use Rattle.gateway_mux.specs.declared.act.Act.{Act}
use Rattle.gateway_mux.specs.declared.act.PlannedClose.{PlannedClose}
use Rattle.gateway_mux.specs.declared.act.Act.TheVariants.{Nothing, Rises, Falls, Answers, Turns, Closes, Ends}
use Rattle.gateway_mux.specs.declared.turn_facts.TurnFacts.{TurnFacts}
use Rattle.gateway_mux.specs.declared.turn.PlannedTurn.{PlannedTurn}
use Rattle.gateway_mux.specs.Moves.{wrong_in, TakesTurn, IsIdle, IsEndAt}
use Rattle.gateway_mux.specs.Pictures.{Picture, books_in}
use Rattle.connection_table.specs.declared.table.ConnectionTable.{ConnectionTable}
use Rattle.connection_table.specs.declared.table.KeyedSlot.{KeyedSlot}
use Rattle.connection_table.specs.Tables.{IsKeyOf, IsSeatAt}
use Rattle.gateway_mux.specs.Settlements.{AreSettled}
use Rattle.gateway_mux.specs.Short.{IsShortAnswer}
use Rattle.gateway_mux.specs.Turn.{free_once}
use Rattle.up_books.specs.Numbers.{next_number}

-- the item is Bad
abbrev pub IsBadKind : ItemKind → Type 0
IsBadKind kinds.Request = ⊥
IsBadKind kinds.Response = ⊥
IsBadKind kinds.Frame = ⊥
IsBadKind (kinds.Bad kind) = Unit {0}

-- A connection has its turn: what comes to it is planned, for the next number and the lowest pair that is free then, and
-- what a final reply settles. The server is due this answer.
pub record IsPlannedTurn (bases : Bases) (one : Picture) (happening : Happening) (answer : Option (List ℕ)) (it : PlannedTurn) : Type 0 where
  pub client : Client
  pub raw : PrivateEvent
  pub comes : Comes
  pub its_turn : TakesTurn bases one happening it.conn client raw
  pub answers : answer ≡ answer_due (books_in one) happening
  pub is_sound : CanCome comes
  pub says : heard_by bases it.number client comes ≡ hear bases (number_heard happening) client raw
  pub next : it.next ≡ one.issued + 1
  pub settles : AreSettled (final_in (books_in one) happening) client it.settled
  pub plan : IsPlan bases it.next (free_once it.settled one.held) client comes it.plan
  pub asks : it.asks ≡ is_some (effect_by bases it.number (free_once it.settled one.held) client comes).message

-- a planned turn is that of some event
pub record IsTurnOfSome (bases : Bases) (one : Picture) (answer : Option (List ℕ)) (it : PlannedTurn) : Type 0 where
  pub happening : Happening
  pub is_planned : IsPlannedTurn bases one happening answer it

-- What is said of a turn before its plan: what comes to the connection, and what is settled where that entered.
pub record IsSaid (bases : Bases) (one : Picture) (happening : Happening) (it : TurnFacts) (comes : Comes) : Type 0 where
  pub raw : PrivateEvent
  pub turns : turn (books_in one) happening ≡ Some it.conn
  pub is_raw : raw_event (books_in one) happening ≡ Some raw
  pub right : wrong_in one happening ≡ None
  pub answers : it.answer ≡ answer_due (books_in one) happening
  pub is_sound : CanCome comes
  pub says : (client : Client) → heard_by bases it.number client comes ≡ hear bases (number_heard happening) client raw
  pub settles : (client : Client) → one.clients it.conn ≡ Some client → AreSettled (final_in (books_in one) happening) client it.settled
  pub absent : one.clients it.conn ≡ None → final_in (books_in one) happening ≡ None

-- An event closes a connection.
abbrev pub IsClosing : ℕ → CloseWhy → Happening → Type 0
IsClosing conn why (enters i) = ⊥
IsClosing conn why (takes i shape) = (i ≡ conn) × (why ≡ BadItem) × IsBadKind shape.kind
IsClosing conn why (ends i) = (i ≡ conn) × (why ≡ Ended)
IsClosing conn why (lags i) = (i ≡ conn) × (why ≡ Slow)
IsClosing conn why (hears shape) = ⊥
IsClosing conn why (up_ends cause) = ⊥

-- A connection closes that is kept, and where its TEARDOWN is due, a number is left for that.
pub record IsPlannedClose (bases : Bases) (one : Picture) (happening : Happening) (it : PlannedClose) : Type 0 where
  pub closes : IsClosing it.conn it.why happening
  pub client : Client
  pub here : one.clients it.conn ≡ Some client
  pub left : is_some (effect_by bases 0 (free_once None one.held) client (shuts it.why)).message ≡ true → IsSome (next_number one.issued)

-- a planned close is that of some event
pub record IsCloseOfSome (bases : Bases) (one : Picture) (it : PlannedClose) : Type 0 where
  pub happening : Happening
  pub is_planned : IsPlannedClose bases one happening it

-- A frame of a player that is alive goes up, on the channel that its own channel stands for.
pub record IsRise (one : Picture) (happening : Happening) (channel : ℕ) : Type 0 where
  pub i : ℕ
  pub shape : Shape
  pub client : Client
  pub half : Half
  pub comes : happening ≡ takes i shape
  pub is_frame : shape.kind ≡ kinds.Frame
  pub is_short : length shape.bytes < 2 ^ 31
  pub here : one.clients i ≡ Some client
  pub alive : client.alive ≡ true
  pub found : half_for (channel_in shape) (tracks_of client.sessions) ≡ Some half
  pub is : channel ≡ 2 * half.pair + half.half

-- A frame of the server goes to the connection that its pair was granted to, which is alive, on its player's channel.
pub record IsFall (one : Picture) (happening : Happening) (conn channel : ℕ) : Type 0 where
  pub shape : Shape
  pub client : Client
  pub comes : happening ≡ hears shape
  pub is_frame : shape.kind ≡ kinds.Frame
  pub is_short : length shape.bytes < 2 ^ 31
  pub owner : owner_of ((books_in one).held (channel_in shape / 2)) ≡ Some conn
  pub here : one.clients conn ≡ Some client
  pub alive : client.alive ≡ true
  pub found : channel_for (channel_in shape / 2) (channel_in shape % 2) (tracks_of client.sessions) ≡ Some channel

-- A frame of a player goes up on this channel; or it is dropped.
abbrev pub RisesOn : Bases → Picture → Happening → Option ℕ → Type 0
RisesOn bases one happening None = IsIdle bases one happening None
RisesOn bases one happening (Some channel) = IsRise one happening channel

-- A frame of the server goes there; or it is dropped.
abbrev pub FallsTo : Bases → Picture → Happening → Option FramePath → Type 0
FallsTo bases one happening None = IsIdle bases one happening None
FallsTo bases one happening (Some fall) = IsFall one happening fall.conn fall.channel

-- the act is what the event does
abbrev pub IsAct : Bases → Picture → Happening → Act → Type 0
IsAct bases one happening Nothing = IsIdle bases one happening None
IsAct bases one happening (Rises channel) = IsRise one happening channel
IsAct bases one happening (Falls fall) = IsFall one happening fall.conn fall.channel
IsAct bases one happening (Answers answer) = IsIdle bases one happening (Some answer)
IsAct bases one happening (Turns answer it) = IsPlannedTurn bases one happening answer it.value
IsAct bases one happening (Closes it) = IsPlannedClose bases one happening it
IsAct bases one happening (Ends cause) = IsEndAt bases one happening (wrong_in one happening) cause

-- the answer to the server alone
abbrev pub answers_alone : Option (List ℕ) → Act
answers_alone None = Nothing
answers_alone (Some answer) = Answers answer

-- The connection that has its turn is kept under the key that was planned.
abbrev pub IsKeyed : ConnectionTable → Act → Type 0
IsKeyed seats Nothing = Unit {0}
IsKeyed seats (Rises channel) = Unit {0}
IsKeyed seats (Falls fall) = Unit {0}
IsKeyed seats (Answers answer) = Unit {0}
IsKeyed seats (Turns answer it) = IsKeyOf seats it.value.conn it.value.key
IsKeyed seats (Closes it) = IsKeyOf seats it.conn it.key
IsKeyed seats (Ends cause) = Unit {0}

-- The connection whose own the event is is kept there; nothing where it isn't kept.
abbrev pub IsEventSeat : ConnectionTable → Event → Option KeyedSlot → Type 0
IsEventSeat seats (events.Client conn item) seat = IsSeatAt seats conn seat
IsEventSeat seats (events.End conn) seat = IsSeatAt seats conn seat
IsEventSeat seats (events.Slow conn) seat = IsSeatAt seats conn seat
IsEventSeat seats (events.Up item) seat = Unit {0}
IsEventSeat seats (events.UpEnd why) seat = Unit {0}

-- What it hands out is short enough.
abbrev pub IsShortAct : Act → Type 0
IsShortAct Nothing = Unit {0}
IsShortAct (Rises channel) = Unit {0}
IsShortAct (Falls fall) = Unit {0}
IsShortAct (Answers answer) = IsShortAnswer (Some answer)
IsShortAct (Turns answer it) = IsShortAnswer answer × IsShortPlan it.value.plan
IsShortAct (Closes it) = Unit {0}
IsShortAct (Ends cause) = Unit {0}
