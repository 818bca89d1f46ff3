-- What a request that goes up says, by what it is for, and what the books keep of it (RFC 7826, 13.3, 13.4, 13.7, 18.49 and
-- 18.54; the rest is this project's own).
use Rattle.std.specs.Prelude.{◌≡◌, ℕ, Bool, codes, List, ◌∷◌, Option, Some, None, if◌then◌else◌}
use Rattle.std.specs.Option.{option_map}
use Rattle.std.specs.Str.{bytes_eq}
use Rattle.rtsp_head.specs.Headers.{field_of}
use Rattle.rtsp_head.specs.Optional.{said_where}
use Rattle.rtsp_small.specs.Methods.{method_name}
use Rattle.rtsp_uri.specs.declared.base.Bases.{Bases}
use Rattle.head_two.specs.declared.request.Request2.{Request2}
use Rattle.head_two.specs.Requests.{Numbered, request_in}
use Rattle.session_one.specs.declared.parts.Asked.{Asked}
use Rattle.session_one.specs.declared.parts.Track.{Track}
use Rattle.translate_up.specs.QueuedPlay.{play_up}
use Rattle.translate_up.specs.Upward.{method_up, with_transport}
use Rattle.client_slot.specs.declared.purpose.Purpose.{Purpose}
use Rattle.client_slot.specs.declared.purpose.Purpose.TheVariants as purposes
use Rattle.client_slot.specs.ClosingRequest.{closing_request}
use Rattle.client_slot.specs.Places.{session_at, session_where}
use Rattle.client_slot.specs.Session.{PlayerSession}
use Rattle.client_machine.specs.UpTexts.{channels}
use Rattle.gateway_claim.specs.Books.{RequestKind, plain, setup_kind, teardown_kind, free_in}
use Rattle.gateway_claim.specs.Happenings.{HistoryEntry}
use Rattle.gateway_claim.specs.OwnEvents.{turn, settled_by, has_shut, books_of}
use Rattle.gateway_claim.specs.Turns.{client_alone}

-- A player's request has its method on its way up, the URI that is kept of it, and the id of the session at its place, where
-- it names one.
pub record IsAskOf (sessions : List PlayerSession) (asked : Asked) (request : Request2) : Type 0 where
  pub method : request.method ≡ method_name (method_up asked.method)
  pub uri : request.uri ≡ asked.uri
  pub session : field_of request.headers (codes "Session") ≡ said_where asked.named (session_where asked.place sessions).id

-- A SETUP asks for the channels of its stream's pair.
abbrev pub AsksForPair : (ℕ → ℕ) → Option Track → Request2 → Type 0
AsksForPair pairs None request = Unit {0}
AsksForPair pairs (Some track) request = (bare : Request2) × (request ≡ with_transport (channels (pairs track.pair)) bare)

-- By what is open: a player's request; the PLAY that waited, for its session; or the TEARDOWN of the session at a place.
abbrev pub IsRequestFor : (ℕ → ℕ) → List PlayerSession → Purpose → Request2 → Type 0
IsRequestFor pairs sessions (purposes.Client asked track) request = IsAskOf sessions asked request × AsksForPair pairs track request
IsRequestFor pairs sessions (purposes.Released play) request = request ≡ play_up (session_where play.place sessions).id play
IsRequestFor pairs sessions (purposes.Closing place) request = option_map (closing_request (session_at place sessions).control) (session_at place sessions).id ≡ Some request

-- The kind of a request, by its method and the session that it names: a SETUP has the pair that is free, and a TEARDOWN is a
-- closing one where its connection has shut.
abbrev pub kind_read : Request2 → Option ℕ → Bool → RequestKind
kind_read request pair shut =
    if bytes_eq request.method (codes "SETUP") then setup_kind pair
    else (if bytes_eq request.method (codes "TEARDOWN") then teardown_kind shut (field_of request.headers (codes "Session")) else plain)

-- A text is one request with the last number that was given, in the turn of a connection. The books have it open for this
-- connection, as a request of its kind; and it says what the connection has open.
pub record IsOpenRequest (bases : Bases) (earlier : List HistoryEntry) (entry : HistoryEntry) (text : List ℕ) : Type 0 where
  pub asked : Numbered
  pub read : request_in text ≡ Some asked
  pub number : asked.number ≡ (books_of (entry ∷ earlier)).issued
  pub conn : ℕ
  pub turns : turn (books_of earlier) entry.happening ≡ Some conn
  pub opened : (books_of (entry ∷ earlier)).opened asked.number
      ≡ Some (record { conn = conn; kind = kind_read asked.request (free_in (settled_by (books_of earlier) entry.happening)) (has_shut (Some conn) (entry ∷ earlier)) })
  pub purpose : Purpose
  pub is_open : (client_alone bases (entry ∷ earlier) conn).pending ≡ Some purpose
  pub says : IsRequestFor ((books_of (entry ∷ earlier)).pair_of conn) (client_alone bases (entry ∷ earlier) conn).sessions purpose asked.request
