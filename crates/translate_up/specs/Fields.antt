-- What a player's request says of its session, its stream and its range.
use Rattle.std.specs.Prelude.{ℕ, Bool, true, false, codes, List, Option, Some, None, is_some, option_map, ◌||◌, if◌then◌else◌, Result}
use Rattle.std.specs.List.{list_any}
use Rattle.std.specs.Str.{bytes_eq}
use Rattle.rtsp_head.specs.Headers.{field_of}
use Rattle.rtsp_head.specs.Optional.{said_where}
use Rattle.rtsp_small.specs.declared.method.Method.{Method}
use Rattle.rtsp_small.specs.declared.method.Method.TheVariants.{Options, Describe, Setup, Play, Pause, Teardown, GetParameter, SetParameter}
use Rattle.rtsp_small.specs.Scales.{is_scale}
use Rattle.head_one.specs.declared.request.Request1.{Request1}
use Rattle.session_one.specs.declared.parts.Track.{Track}
use Rattle.rtsp_range.specs.declared.range.Range.{Range}
use Rattle.rtsp_range.specs.declared.fault.RangeFault.{RangeFault}
use Rattle.rtsp_range.specs.Meaning.{One, meaning}
use Rattle.rtsp_transport.specs.declared.channels.Pair.{Pair}
use Rattle.session_one.specs.Table.{same_method}
use Rattle.translate_up.specs.Channels.{client_pair}

-- the value of a request's field
abbrev pub field : Request1 → List ℕ → Option (List ℕ)
field request name = field_of request.head.headers name

-- whether it is DESCRIBE
abbrev pub is_describe : Method → Bool
is_describe method = same_method method Describe

-- whether it is SETUP
abbrev pub is_setup : Method → Bool
is_setup method = same_method method Setup

-- whether it is PLAY
abbrev pub is_play : Method → Bool
is_play method = same_method method Play

-- whether it is PAUSE
abbrev pub is_pause : Method → Bool
is_pause method = same_method method Pause

-- What a request says of its session, its channels and its range, each read once: the value of its Session field (RFC
-- 2326, 12.37); the channels that the player of a SETUP gets (RFC 2326, 12.39); and what the Range of a PLAY or a PAUSE
-- means (RFC 2326, 12.29).
pub record Said : Type 0 where
  pub session : Option (List ℕ)
  pub channels : Option Pair
  pub range : Option (Result Range RangeFault)

-- what a request says, each field where its method has it
abbrev pub said_of : List Track → Request1 → Said
said_of tracks request = record {
  session = field request (codes "Session");
  channels = if is_setup request.method then client_pair tracks (field request (codes "Transport")) else None;
  range = if is_play request.method || is_pause request.method then option_map (meaning One) (field request (codes "Range")) else None;
}

-- whether a request names a session
abbrev pub is_named : Said → Bool
is_named said = is_some said.session

-- whether a method is for a session that is there (RFC 2326, 10.5 to 10.7)
abbrev pub needs_session : Method → Bool
needs_session Options = false
needs_session Describe = false
needs_session Setup = false
needs_session Play = true
needs_session Pause = true
needs_session Teardown = true
needs_session GetParameter = false
needs_session SetParameter = false

-- whether a method may bring a body up (RFC 2326, 10.8 and 10.9)
abbrev pub brings_body_up : Method → Bool
brings_body_up Options = false
brings_body_up Describe = false
brings_body_up Setup = false
brings_body_up Play = false
brings_body_up Pause = false
brings_body_up Teardown = false
brings_body_up GetParameter = true
brings_body_up SetParameter = true

-- whether a URI is that of a stream that was set up
abbrev pub is_track : List Track → List ℕ → Bool
is_track tracks uri = list_any (λ track. bytes_eq track.uri uri) tracks

-- a value that passes a test
abbrev pub passing : (List ℕ → Bool) → Option (List ℕ) → Option (List ℕ)
passing test None = None
passing test (Some value) = said_where (test value) (Some value)

-- the scale of a request, where it has one in the grammar (RFC 2326, 12.34)
abbrev pub scale_of : Request1 → Option (List ℕ)
scale_of request = passing is_scale (field request (codes "Scale"))
