-- What a reply tells of the player's session: Session and Transport.
use Rattle.std.specs.Prelude.{ℕ, Bool, true, false, List, Option, None, option_map}
use Rattle.rtsp_small.specs.declared.method.Method.{Method}
use Rattle.rtsp_small.specs.declared.method.Method.TheVariants.{Setup, Teardown}
use Rattle.rtsp_small.specs.Sessions.{session_text}
use Rattle.rtsp_transport.specs.GrantText.{grant_text}
use Rattle.session_one.specs.declared.parts.Asked.{Asked}
use Rattle.rtsp_head.specs.Optional.{said_where}
use Rattle.translate_down.specs.Settings.{Setting}

-- whether a request begins a session or adds a stream to it (RFC 2326, 10.4)
abbrev pub sets_up : Method → Bool
sets_up Setup = true
sets_up method = false

-- Whether a reply tells the session (RFC 2326, 12.37): that to SETUP does, that to TEARDOWN doesn't, since the session
-- is gone, and any other does where the request named it.
abbrev pub tells_session_of : Method → Bool → Bool
tells_session_of Setup named = true
tells_session_of Teardown named = false
tells_session_of method named = named

-- whether the reply tells the session
abbrev pub tells_session : Asked → Bool
tells_session asked = tells_session_of asked.method asked.named

-- the timeout is told with SETUP alone (this project's own)
abbrev pub told_timeout : Method → Option ℕ → Option ℕ
told_timeout Setup timeout = timeout
told_timeout method timeout = None

-- Session: the id, and with SETUP the timeout where the server tells one (RFC 2326, 12.37)
abbrev pub session_value : Setting → Asked → Option (List ℕ)
session_value setting asked =
    said_where (tells_session asked) (option_map (λ id. session_text (record { id = id; timeout = told_timeout asked.method setting.timeout })) setting.session)

-- Transport: the player's own channels, and the source of the packets where the server tells it (RFC 2326, 12.39)
abbrev pub transport_value : Setting → Method → Option (List ℕ)
transport_value setting method =
    said_where (sets_up method) (option_map (λ pair. grant_text (record { pair = pair; ssrc = setting.ssrc })) setting.client)
