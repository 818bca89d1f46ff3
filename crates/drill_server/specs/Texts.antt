-- The texts that the server of a drill writes (this project's own choice of what RFC 7826 allows).
use Rattle.std.specs.Prelude.{ℕ, ◌+◌, codes, decimal, List, [], ◌∷◌, ◌++◌, drop, Some, if◌then◌else◌}
use Rattle.std.specs.List.{flat_map}
use Rattle.std.specs.Str.{bytes_eq}
use Rattle.gate_bytes.specs.Ascii.{dollar}
use Rattle.rtsp_head.specs.declared.header.Header.{Header}
use Rattle.rtsp_head.specs.HeadParts.{Status}
use Rattle.rtsp_head.specs.Messages.{message_text}
use Rattle.head_two.specs.Messages.{version_two}
use Rattle.head_two.specs.Requests.{request_text}
use Rattle.head_two.specs.declared.request.Request2.{Request2}
use Rattle.drill_server.specs.declared.track.DrillTrack.{DrillTrack}
use Rattle.drill_server.specs.declared.track.TheConstants.{ID_BASE}

-- a header of an answer
abbrev pub answer_field : List ℕ → List ℕ → Header
answer_field name value = record { name = name; value = value }

-- a success with these fields
abbrev pub success_text : ℕ → List Header → List ℕ → List ℕ
success_text number fields body = message_text (Status version_two 200 (codes "OK")) (Some number) fields body

-- the description that the server has of everything
abbrev pub description : List ℕ
description = codes "v=0\r\n"

-- The id of the session with this number, from 1: `d` and seven digits.
abbrev pub drill_session : ℕ → List ℕ
drill_session number = codes "d" ++ drop 1 (decimal (ID_BASE + number))

-- a frame with the byte 0 on a channel (RFC 7826, 14)
abbrev pub frame_on : ℕ → List ℕ
frame_on channel = dollar ∷ channel ∷ 0 ∷ 1 ∷ 0 ∷ []

-- the frame of a track, where it is one of this session
abbrev pub frame_in : List ℕ → DrillTrack → List ℕ
frame_in id track = if bytes_eq track.session id then frame_on track.channel else []

-- a frame on the first channel of each track of a session, in their order
abbrev pub frames_of : List ℕ → List DrillTrack → List ℕ
frames_of id tracks = flat_map (frame_in id) tracks

-- the value that tells which PLAY ended (RFC 7826, 18.45)
abbrev pub status_told : ℕ → List ℕ
status_told number = codes "cseq=" ++ decimal number ++ codes " status=200 reason=\"OK\""

-- the request that tells that the PLAY with this number has reached its end (RFC 7826, 13.5.1)
abbrev pub end_request : List ℕ → List ℕ → ℕ → Request2
end_request uri id number = record {
  method = codes "PLAY_NOTIFY";
  uri = uri;
  headers = answer_field (codes "Session") id ∷ answer_field (codes "Notify-Reason") (codes "end-of-stream") ∷ answer_field (codes "Request-Status") (status_told number) ∷ [];
  body = [];
}

-- the notify with its own number
abbrev pub end_notify : ℕ → List ℕ → List ℕ → ℕ → List ℕ
end_notify own uri id number = request_text own (end_request uri id number)
