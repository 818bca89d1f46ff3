-- The server of a drill (this project's own).
use Rattle.std.specs.Prelude.{◌≡◌, ℕ, ◌+◌, Bool, true, false, List, [], ◌∷◌, ◌++◌, length, drop, if◌then◌else◌}
use Rattle.std.specs.Option.{option_to_list}
use Rattle.std.specs.List.{filter}
use Rattle.rtsp_head.specs.declared.item.ItemKind.{ItemKind}
use Rattle.rtsp_head.specs.declared.item.ItemKind.TheVariants.{Request, Response, Frame, Bad}
use Rattle.rtsp_head.specs.Items.{Shape, items_of}
use Rattle.rtsp_frame.specs.FramerState.{HeldBytes, Framed}
use Rattle.head_two.specs.Replies.{ask_of_item}
use Rattle.drill_server.specs.declared.answer.DrillAnswer.{DrillAnswer}
use Rattle.drill_server.specs.declared.track.DrillTrack.{DrillTrack}
use Rattle.drill_server.specs.Answers.{plain_answer, answer_read}

-- The server: all bytes that came, the requests that wait for an answer, the oldest first, how many sessions it made, the
-- tracks of all sessions in the order of their SETUPs, and how many notifies it sent.
pub record Serving : Type 0 where
  pub heard : List ℕ
  pub waiting : List Shape
  pub sessions : ℕ
  pub tracks : List DrillTrack
  pub notifies : ℕ

-- before anything came
abbrev pub idle_server : Serving
idle_server = record { heard = []; waiting = []; sessions = 0; tracks = []; notifies = 0 }

-- whether an item is a request
abbrev pub is_request_kind : ItemKind → Bool
is_request_kind Request = true
is_request_kind Response = false
is_request_kind Frame = false
is_request_kind (Bad fault) = false

-- the requests among some items
abbrev pub requests_among : List Shape → List Shape
requests_among items = filter (λ shape. is_request_kind shape.kind) items

-- the items that a piece completes in a stream
abbrev pub items_added : List ℕ → List ℕ → List Shape
items_added stream piece = drop (length (items_of stream)) (items_of (stream ++ piece))

-- A piece came: its requests wait behind the others. Its other items are passed over.
abbrev pub serving_fed : Serving → List ℕ → Serving
serving_fed serving piece = record {
  heard = serving.heard ++ piece;
  waiting = serving.waiting ++ requests_among (items_added serving.heard piece);
  sessions = serving.sessions;
  tracks = serving.tracks;
  notifies = serving.notifies;
}

-- the answer to the first request in line
abbrev pub answer_first : Serving → List Shape → DrillAnswer
answer_first serving [] = plain_answer []
answer_first serving (shape ∷ more) = answer_read serving.sessions serving.tracks serving.notifies (ask_of_item shape)

-- the answer to the oldest request
abbrev pub next_answer : Serving → DrillAnswer
next_answer serving = answer_first serving serving.waiting

-- a count, with one more or not
abbrev pub counted : Bool → ℕ → ℕ
counted more count = if more then count + 1 else count

-- The oldest request was answered so.
abbrev pub serving_after : Serving → DrillAnswer → Serving
serving_after serving answer = record {
  heard = serving.heard;
  waiting = drop 1 serving.waiting;
  sessions = counted answer.session serving.sessions;
  tracks = serving.tracks ++ option_to_list answer.track;
  notifies = counted answer.notify serving.notifies;
}

-- the server once it has answered the first in line
abbrev pub serving_answered : Serving → Serving
serving_answered serving = serving_after serving (next_answer serving)

-- what a server has: its framer, and what it knows but for the bytes that came
pub record ServerDesk : Type 0 where
  pub framer : HeldBytes
  pub waiting : List Shape
  pub sessions : ℕ
  pub tracks : List DrillTrack
  pub notifies : ℕ

-- A framer was fed some stream, and gave all its items.
pub record IsDrained (held : HeldBytes) : Type 0 where
  pub stream : List ℕ
  pub framed : Framed held stream (items_of stream)

-- A server has what the definition says: its framer was fed all bytes, and gave all their items.
pub record Serves (desk : ServerDesk) (serving : Serving) : Type 0 where
  pub framed : Framed desk.framer serving.heard (items_of serving.heard)
  pub waiting : desk.waiting ≡ serving.waiting
  pub sessions : desk.sessions ≡ serving.sessions
  pub tracks : desk.tracks ≡ serving.tracks
  pub notifies : desk.notifies ≡ serving.notifies

-- A framer gave some items of its stream, and the requests among them wait behind those that waited.
pub record Moved (old new : HeldBytes) (waited now : List Shape) : Type 0 where
  pub more : List Shape
  pub framed : (stream : List ℕ) (given : List Shape) → Framed old stream given → Framed new stream (given ++ more)
  pub waits : now ≡ waited ++ requests_among more
