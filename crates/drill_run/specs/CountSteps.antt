-- What a drill counts in its history (this project's own).
use Rattle.std.specs.Prelude.{ℕ, ◌+◌, codes, nat_eq, Bool, true, false, List, [], ◌∷◌, count_by, Option, Some, None, if◌then◌else◌}
use Rattle.std.specs.List.{starts_with}
use Rattle.rtsp_head.specs.Items.{Shape, items_of}
use Rattle.rtsp_head.specs.declared.item.ItemKind.{ItemKind}
use Rattle.rtsp_head.specs.declared.item.ItemKind.TheVariants as kind
use Rattle.gateway_claim.specs.Happenings.{Happening, enters, takes, ends, lags, hears, up_ends, HistoryEntry, up_length}
use Rattle.gateway_claim.specs.declared.event.ToClient.{ToClient}
use Rattle.gateway_claim.specs.declared.event.UpMessage.{UpMessage}
use Rattle.gateway_claim.specs.declared.event.UpMessage.TheVariants.{Request, Frame}
use Rattle.gateway_claim.specs.declared.event.Outcome.{Outcome}
use Rattle.drill_server.specs.ServerSteps.{is_request_kind}
use Rattle.drill_run.specs.declared.counts.Counts.{Counts}
use Rattle.drill_run.specs.Players.{is_response_kind}

-- 1 where it is so
abbrev pub count_if : Bool → ℕ
count_if test = if test then 1 else 0

-- whether an item is a frame
abbrev pub is_frame_kind : ItemKind → Bool
is_frame_kind kind.Request = false
is_frame_kind kind.Response = false
is_frame_kind kind.Frame = true
is_frame_kind (kind.Bad fault) = false

-- a request of a client
abbrev pub requests_told : Happening → ℕ
requests_told (enters conn) = 0
requests_told (takes conn shape) = count_if (is_request_kind shape.kind)
requests_told (ends conn) = 0
requests_told (lags conn) = 0
requests_told (hears shape) = 0
requests_told (up_ends cause) = 0

-- the items that a client is handed
abbrev pub piece_items : Option ToClient → List Shape
piece_items None = []
piece_items (Some piece) = items_of piece.bytes

-- how many of these items are replies
abbrev pub replies_counted : List Shape → ℕ
replies_counted items = count_by (λ shape. is_response_kind shape.kind) items

-- how many of these items are frames
abbrev pub frames_among : List Shape → ℕ
frames_among items = count_by (λ shape. is_frame_kind shape.kind) items

-- how many requests go up
abbrev pub requests_up : Option UpMessage → ℕ
requests_up None = 0
requests_up (Some (Request text)) = 1
requests_up (Some (Frame text)) = 0

-- how many frames go up
abbrev pub frames_up : Option UpMessage → ℕ
frames_up None = 0
frames_up (Some (Request text)) = 0
frames_up (Some (Frame text)) = 1

-- an answer 200 to the server
abbrev pub is_success_answer : List ℕ → Bool
is_success_answer text = starts_with nat_eq text (codes "RTSP/2.0 200 ")

-- whether the server is answered with success
abbrev pub successes_up : Option (List ℕ) → ℕ
successes_up None = 0
successes_up (Some text) = count_if (is_success_answer text)

-- what an event adds to the counts, where so many requests came with it
abbrev pub counts_with : ℕ → List Shape → Outcome → Counts
counts_with requests items outcome = record {
  requests = requests;
  replies = replies_counted items;
  frames_down = frames_among items;
  frames_up = frames_up outcome.to_up.message;
  notifies = successes_up outcome.to_up.answer;
  upstream = requests_up outcome.to_up.message;
  bytes = up_length outcome.to_up;
}

-- what one entry counts
abbrev pub counts_in : HistoryEntry → Counts
counts_in entry = counts_with (requests_told entry.happening) (piece_items entry.outcome.to_client) entry.outcome

-- nothing was counted
abbrev pub counts_none : Counts
counts_none = record { requests = 0; replies = 0; frames_down = 0; frames_up = 0; notifies = 0; upstream = 0; bytes = 0 }

-- both counts together
abbrev pub counts_sum : Counts → Counts → Counts
counts_sum one other = record {
  requests = one.requests + other.requests;
  replies = one.replies + other.replies;
  frames_down = one.frames_down + other.frames_down;
  frames_up = one.frames_up + other.frames_up;
  notifies = one.notifies + other.notifies;
  upstream = one.upstream + other.upstream;
  bytes = one.bytes + other.bytes;
}

-- the counts over a history
abbrev pub counts_of : List HistoryEntry → Counts
counts_of [] = counts_none
counts_of (entry ∷ earlier) = counts_sum (counts_of earlier) (counts_in entry)
