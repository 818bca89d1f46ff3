-- What a player sees of its connection: replies to its requests, first with first, that walk the table of states of each of
-- its sessions (RFC 2326, A.2), with frames of media between them (RFC 2326, 10.12).
use Rattle.std.specs.Prelude.{◌≡◌, ℕ, zero, suc, ◌==◌, Bool, true, ◌&&◌, ◌||◌, codes, List, [], ◌∷◌, ◌++◌, length, drop, map, filter, Option, Some, None, Result, Ok, Err, if◌then◌else◌}
use Rattle.std.specs.Option.{option_and_then, option_map}
use Rattle.rtsp_head.specs.Headers.{field_of}
use Rattle.gate_bytes.specs.Ascii.{dollar}
use Rattle.rtsp_head.specs.Items.{Shape, frame_span}
use Rattle.rtsp_head.specs.Messages.{Front, first_message}
use Rattle.rtsp_head.specs.declared.item.ItemKind.{ItemKind}
use Rattle.rtsp_head.specs.declared.item.ItemKind.TheVariants.{Request}
use Rattle.head_one.specs.declared.reply.Reply1.{Reply1}
use Rattle.head_one.specs.declared.request.Request1.{Request1}
use Rattle.head_one.specs.declared.refusal.Refusal.{Refusal}
use Rattle.head_one.specs.Requests.{request_of_item}
use Rattle.head_one.specs.Replies.{client_reply}
use Rattle.rtsp_small.specs.declared.method.Method.{Method}
use Rattle.session_one.specs.declared.table.State.{State}
use Rattle.session_one.specs.declared.table.State.TheVariants.{Init, Ready, Playing}
use Rattle.session_one.specs.Table.{same_state, is_success}
use Rattle.translate_up.specs.Fields.{field, is_setup}
use Rattle.translate_up.specs.Ids.{id_of}
use Rattle.translate_up.specs.Leads.{method_asked, number_asked, led_by}
use Rattle.client_slot.specs.Places.{is_session}
use Rattle.client_machine.specs.Treatment.{fits_memory}
use Rattle.std.specs.List.{AllByRecursion}

-- what stands behind the frame at the front of some bytes, where it is whole (RFC 2326, 10.12)
abbrev pub behind_frame : List ℕ → Option (List ℕ)
behind_frame bytes = option_map (λ span. drop span.len bytes) (frame_span bytes)

-- a message that is a reply, before the replies behind it (RFC 2326, 7)
abbrev pub reply_before : Option Front → (List ℕ → Option (List Reply1)) → Option (List Reply1)
reply_before None again = None
reply_before (Some front) again = option_and_then (λ reply. option_map (λ replies. reply ∷ replies) (again front.rest)) (client_reply front.message)

-- at most so many frames and replies
abbrev pub replies_by : ℕ → List ℕ → Option (List Reply1)
replies_by most [] = Some []
replies_by zero (b ∷ bytes) = None
replies_by (suc most) (b ∷ bytes) =
    if b == dollar then option_and_then (replies_by most) (behind_frame (b ∷ bytes)) else reply_before (first_message (b ∷ bytes)) (replies_by most)

-- The replies in a piece of bytes that a player was handed, which it reads as a stream: whole frames are passed over, and
-- all else is replies, also behind a frame. Nothing where it is anything else.
abbrev pub replies_in : List ℕ → Option (List Reply1)
replies_in piece = replies_by (length piece) piece

-- those of earlier pieces and those of one more
abbrev pub and_replies : Option (List Reply1) → Option (List Reply1) → Option (List Reply1)
and_replies earlier here = option_and_then (λ before. option_map (λ replies. before ++ replies) here) earlier

-- the replies in pieces, the newest piece first; the oldest reply comes first
abbrev pub replies_handed : List (List ℕ) → Option (List Reply1)
replies_handed [] = Some []
replies_handed (piece ∷ earlier) = and_replies (replies_handed earlier) (replies_in piece)

-- a request with its reply
pub record SeenStep : Type 0 where
  pub request : Shape
  pub reply : Reply1

-- the id of the session that a reply tells by its Session field (RFC 2326, 12.37) where it made one: a success of a SETUP
abbrev pub id_brought : Method → Reply1 → Option (List ℕ)
id_brought method reply = if is_setup method && is_success reply.code then option_and_then id_of (field_of reply.headers (codes "Session")) else None

-- the id that a request names by its Session field, or else the one that its reply brings
abbrev pub id_by : Option (List ℕ) → Method → Reply1 → Option (List ℕ)
id_by None method reply = id_brought method reply
id_by (Some value) method reply = id_of value

-- The id of the session that a reply is about: the one that its request names, or that the server made for a SETUP which
-- names none (RFC 2326, 10.4).
abbrev pub id_about : Result Request1 Refusal → Reply1 → Option (List ℕ)
id_about (Ok request) reply = id_by (field request (codes "Session")) request.method reply
id_about (Err refusal) reply = None

-- whether a reply is about the session with an id
abbrev pub is_about : List ℕ → SeenStep → Bool
is_about id step = is_session id (id_about (request_of_item step.request) step.reply)

-- those that are about it, in their order
abbrev pub steps_about : List ℕ → List SeenStep → List SeenStep
steps_about id steps = filter (is_about id) steps

-- Whether a session can be in the second state while it was in the first one, without a reply: it is the same, or what
-- played has ended (RFC 2326, A.2).
abbrev pub may_become : State → State → Bool
may_become first second = same_state first second || (same_state first Playing && same_state second Ready)

-- A reply leads from a state that the session can be in to another.
pub record IsSeenStep (step : SeenStep) (from to : State) : Type 0 where
  pub before : State
  pub reached : may_become from before ≡ true
  pub leads : led_by before (method_asked (request_of_item step.request)) step.reply.code ≡ Some to

-- a walk of the table from a state to another, the oldest step first
abbrev pub IsWalk : State → List SeenStep → State → Type 0
IsWalk from [] to = to ≡ from
IsWalk from (step ∷ more) to = (after : State) × IsSeenStep step from after × IsWalk after more to

-- each reply tells the number of its request
abbrev pub TellNumbers : List SeenStep → Type 0
TellNumbers steps = AllByRecursion (λ step. step.reply.cseq ≡ number_asked (request_of_item step.request)) steps

-- By a player's requests, the oldest first, and the pieces of bytes that it was handed, the newest first: the replies in
-- the pieces answer the first of the requests, each one request in order and with its number; and for each id, a walk of
-- the table from Init goes through the replies that are about the session with that id.
pub record IsTableRun (requests : List Shape) (pieces : List (List ℕ)) : Type 0 where
  pub steps : List SeenStep
  pub unanswered : List Shape
  pub requests_are : requests ≡ map (λ step. step.request) steps ++ unanswered
  pub replies_are : replies_handed pieces ≡ Some (map (λ step. step.reply) steps)
  pub numbers : TellNumbers steps
  pub walk : (id : List ℕ) → (last : State) × IsWalk Init (steps_about id steps) last

-- The item of a player, where it is a request. One that no memory holds never comes.
abbrev pub request_among : ItemKind → Shape → List Shape
request_among Request shape = if fits_memory shape then shape ∷ [] else []
request_among kind shape = []

-- the request that an item is, where it is one
abbrev pub request_taken : Shape → List Shape
request_taken shape = request_among shape.kind shape
