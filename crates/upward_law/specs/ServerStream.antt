-- What the server reads of the bytes that it is handed (RFC 7826, 7, 8 and 14): a message is a head, of any size, and as many
-- bytes as its Content-Length names (18.17), and a frame says its length itself.
use Rattle.std.specs.Prelude.{◌≡◌, ℕ, ◌+◌, ◌*◌, nat_lt, List, [], ◌∷◌, length, take, drop, Option, Some, None, if◌then◌else◌}
use Rattle.std.specs.Option.{option_map, option_and_then}
use Rattle.rtsp_head.specs.HeadParts.{Start, Request, Status}
use Rattle.rtsp_head.specs.Items.{blank_lines}
use Rattle.rtsp_head.specs.Spellings.{begins_frame}
use Rattle.rtsp_head.specs.Messages.{Message, Front, message_at}
use Rattle.head_two.specs.Requests.{Numbered, server_request}
use Rattle.head_two.specs.Answers.{AnswerParts, server_answer}

-- an answer to a request of the server, a request with its number, or a frame with its channel and its load
pub data ServerRead : Type 0 where
  reads_answer : (answer : AnswerParts) → ServerRead
  reads_request : (asked : Numbered) → ServerRead
  reads_frame : (channel : ℕ) → (load : List ℕ) → ServerRead

-- what is read first, and what stands behind it
pub record ReadFront : Type 0 where
  pub item : ServerRead
  pub rest : List ℕ

-- a message, by how it begins
abbrev pub message_item : Start → Message → Option ServerRead
message_item (Request method uri version) message = option_map reads_request (server_request message)
message_item (Status version code reason) message = option_map reads_answer (server_answer message)

-- a message at the front
abbrev pub message_front : Front → Option ReadFront
message_front front = option_map (λ item. record { item = item; rest = front.rest }) (message_item front.message.head.start front.message)

-- a frame with a load of so many bytes, where all have come
abbrev pub load_front : ℕ → ℕ → List ℕ → Option ReadFront
load_front channel len bytes = if nat_lt (length bytes) len then None else Some (record { item = reads_frame channel (take len bytes); rest = drop len bytes })

-- a frame at the front: `$`, the channel, the length of the load with its greater byte first, and the load
abbrev pub frame_front : List ℕ → Option ReadFront
frame_front [] = None
frame_front (mark ∷ []) = None
frame_front (mark ∷ channel ∷ []) = None
frame_front (mark ∷ channel ∷ high ∷ []) = None
frame_front (mark ∷ channel ∷ high ∷ low ∷ bytes) = load_front channel (256 * high + low) bytes

-- what begins with the first byte
abbrev pub front_at : List ℕ → Option ReadFront
front_at bytes = if begins_frame bytes then frame_front bytes else option_and_then message_front (message_at bytes)

-- what stands first in a stream, behind its empty lines
abbrev pub server_front : List ℕ → Option ReadFront
server_front stream = front_at (drop (blank_lines stream) stream)

-- A stream is these, one behind another, and nothing more.
abbrev pub AreRead : List ℕ → List ServerRead → Type 0
AreRead stream [] = stream ≡ []
AreRead stream (item ∷ items) = (rest : List ℕ) × (server_front stream ≡ Some (record { item = item; rest = rest })) × AreRead rest items
