-- How a whole message is written, and what messages some bytes are that were handed out.
use Rattle.std.specs.Prelude.{◌≡◌, ℕ, zero, suc, ◌<◌, ◌^◌, nat_lt, Bool, true, false, ◌==◌, ◌||◌, not, if◌then◌else◌, List, [], ◌∷◌, ◌++◌, length, take, drop, codes, decimal, Option, Some, None, Result, Ok, Err}
use Rattle.std.specs.Option.{option_and_then, option_map}
use Rattle.std.specs.List.{filter, list_all}
use Rattle.gate_bytes.specs.Numbers.{number_in}
use Rattle.gate_bytes.specs.Tokens.{equal_fold}
use Rattle.rtsp_head.specs.declared.header.Header.{Header}
use Rattle.rtsp_head.specs.HeadParts.{Start}
use Rattle.rtsp_head.specs.declared.head.Head.{Head}
use Rattle.rtsp_head.specs.declared.fault.HeadFault.{HeadFault}
use Rattle.rtsp_head.specs.Headers.{field_of}
use Rattle.rtsp_head.specs.Heads.{head_within}
use Rattle.rtsp_head.specs.Items.{blank_lines, head_len}
use Rattle.rtsp_head.specs.Spellings.{begins_frame}
use Rattle.rtsp_head.specs.HeadText.{start_text, head_text, CanBeWritten}

-- the header with a message's number, where it has one (RFC 2326, 12.17; RFC 7826, 18.20)
abbrev pub number_headers : Option ℕ → List Header
number_headers None = []
number_headers (Some number) = record { name = codes "CSeq"; value = decimal number } ∷ []

-- the header with the length of a body that has a byte (RFC 2326, 12.14; RFC 7826, 18.17)
abbrev pub length_headers : List ℕ → List Header
length_headers body = if length body == 0 then [] else record { name = codes "Content-Length"; value = decimal (length body) } ∷ []

-- The number stands first, and the length last (this project's own).
abbrev pub message_headers : Option ℕ → List Header → List ℕ → List Header
message_headers number headers body = number_headers number ++ headers ++ length_headers body

-- the two fields that are written for every message by its number and its body
abbrev pub is_added : Header → Bool
is_added header = equal_fold header.name (codes "CSeq") || equal_fold header.name (codes "Content-Length")

-- all other fields of a message
abbrev pub own_fields : List Header → List Header
own_fields headers = filter (λ header. not (is_added header)) headers

-- a message: its head, and then its body
abbrev pub message_text : Start → Option ℕ → List Header → List ℕ → List ℕ
message_text start number headers body = head_text start (message_headers number headers body) ++ body

-- a head with the body that it names
pub record Message : Type 0 where
  pub head : Head
  pub body : List ℕ

-- the message that is written of these parts
abbrev pub message : Start → Option ℕ → List Header → List ℕ → Message
message start number headers body = record { head = record { start = start; headers = message_headers number headers body }; body = body }

-- The length that a head names for its body, in any number of digits: 0 where it names none, and nothing where that is
-- no number (RFC 2326, 12.14; RFC 7826, 18.17).
abbrev pub named_length : Option (List ℕ) → Option ℕ
named_length None = Some 0
named_length (Some value) = number_in (length value) value

-- A message at the front of some bytes, and what stands behind it.
pub record Front : Type 0 where
  pub message : Message
  pub rest : List ℕ

-- a message with its body, where that is whole
abbrev pub with_body : Head → List ℕ → ℕ → Option Front
with_body head bytes n =
    if nat_lt (length bytes) n then None else Some (record { message = record { head = head; body = take n bytes }; rest = drop n bytes })

-- the message behind a head, where the head has no fault
abbrev pub with_head : Result Head HeadFault → List ℕ → Option Front
with_head (Ok head) bytes = option_and_then (with_body head bytes) (named_length (field_of head.headers (codes "Content-Length")))
with_head (Err fault) bytes = None

-- a head up to and with its first empty line, and the body that it names; a frame is no message
abbrev pub message_at : List ℕ → Option Front
message_at bytes = if begins_frame bytes then None else option_and_then (λ n. with_head (head_within None (take n bytes)) (drop n bytes)) (head_len bytes)

-- the first message of a stream, behind its empty lines
abbrev pub first_message : List ℕ → Option Front
first_message stream = message_at (drop (blank_lines stream) stream)

-- a message before those behind it
abbrev pub messages_with : Option Front → (List ℕ → Option (List Message)) → Option (List Message)
messages_with None again = None
messages_with (Some front) again = option_map (λ more. front.message ∷ more) (again front.rest)

-- at most so many messages
abbrev pub messages_by : ℕ → List ℕ → Option (List Message)
messages_by most [] = Some []
messages_by zero (b ∷ bytes) = None
messages_by (suc most) (b ∷ bytes) = messages_with (first_message (b ∷ bytes)) (messages_by most)

-- The messages that bytes which were handed out are, one behind another, as the other side reads its stream: each is a
-- head, of any size, and as many bytes as that names. Nothing where the bytes are anything else. (Each message has a
-- byte, so there are no more messages than bytes.)
abbrev pub messages_of : List ℕ → Option (List Message)
messages_of bytes = messages_by (length bytes) bytes

-- the one message of a list
abbrev pub only_message : Option (List Message) → Option Message
only_message None = None
only_message (Some []) = None
only_message (Some (one ∷ [])) = Some one
only_message (Some (one ∷ two ∷ more)) = None

-- The one message that these bytes are.
abbrev pub message_of : List ℕ → Option Message
message_of bytes = only_message (messages_of bytes)

-- What a message needs to be read back from the bytes that are written of it: it can be written, it does not begin as a
-- frame does, and none of its headers is one that is added.
pub record IsReadable (start : Start) (number : Option ℕ) (headers : List Header) (body : List ℕ) : Type 0 where
  pub writable : CanBeWritten start (message_headers number headers body)
  pub no_frame : begins_frame (start_text start) ≡ false
  pub own : list_all (λ header. not (is_added header)) headers ≡ true
  pub short : length body < 2 ^ 64
