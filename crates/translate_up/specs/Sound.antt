-- What goes up can be written under every number, and read back (RFC 7826, 7 and 20.2).
use Rattle.std.specs.Prelude.{◌≡◌, ℕ, ◌<◌, ◌^◌, Bool, true, ◌&&◌, List, [], ◌∷◌, IfSome, IsTrue}
use Rattle.rtsp_head.specs.HeadText.{is_part, is_line_text, is_value}
use Rattle.rtsp_small.specs.Sessions.{is_session_id}
use Rattle.rtsp_small.specs.declared.cseq.TheConstants.{CSEQ_TWO_DIGITS}
use Rattle.rtsp_range.specs.Writable.{can_be_written}
use Rattle.rtsp_transport.specs.declared.channels.Pair.{Pair}
use Rattle.rtsp_transport.specs.Channels.{AreApart}
use Rattle.rtsp_uri.specs.BaseTexts.{is_base_text}
use Rattle.head_two.specs.declared.request.Request2.{Request2}
use Rattle.head_two.specs.Requests.{IsRequest}
use Rattle.session_one.specs.declared.parts.Play.{Play}
use Rattle.translate_up.specs.declared.decision.Decision.{Decision}
use Rattle.translate_up.specs.declared.decision.Decision.TheVariants.{Answer, Forward, Queue, Setup}
use Rattle.translate_up.specs.Views.{SeenSession, Given, Judged}
use Rattle.translate_up.specs.Upward.{with_transport}

-- a URI that fits into a request line
abbrev pub is_target : List ℕ → Bool
is_target uri = is_part uri && is_line_text uri

-- What is known of a session: its id is in the grammar, and the URI of what it is about fits into a request line.
pub record IsFitSession (session : SeenSession) : Type 0 where
  pub id : IfSome session.id (λ id. is_session_id id ≡ true)
  pub control : IfSome session.control (λ uri. is_target uri ≡ true)

-- so for each
abbrev pub AreFitSessions : List SeenSession → Type 0
AreFitSessions [] = Unit {0}
AreFitSessions (session ∷ more) = IsFitSession session × AreFitSessions more

-- Each session of a connection is fit; the server's address is one; and the URI that was described fits into a request
-- line.
pub record AreFit (given : Given) : Type 0 where
  pub up : is_base_text given.up ≡ true
  pub sessions : AreFitSessions given.sessions
  pub described : IfSome given.described (λ uri. is_target uri ≡ true)

-- the same of the session that a request is for
pub record IsFit (judged : Judged) : Type 0 where
  pub up : is_base_text judged.up ≡ true
  pub session : IfSome judged.session (λ id. is_session_id id ≡ true)
  pub control : IfSome judged.control (λ uri. is_target uri ≡ true)

-- a request that can be written under every number, and read back
abbrev pub IsSound : Request2 → Type 0
IsSound request = (number : ℕ) → number < 10 ^ CSEQ_TWO_DIGITS → IsRequest number request

-- a SETUP that is so with every pair of channels
abbrev pub IsSoundSetup : Request2 → Type 0
IsSoundSetup request = (pair : Pair) → pair.rtp < 256 → pair.rtcp < 256 → IsSound (with_transport pair request)

-- a PLAY whose parts can be written
pub record IsSoundPlay (play : Play) : Type 0 where
  pub uri : is_target play.uri ≡ true
  pub range : IsTrue (can_be_written play.range)
  pub scale : IfSome play.scale (λ scale. is_value scale ≡ true)

-- what a decision sends up, at once or later, and the channels that it gives
abbrev pub SendsSound : Decision → Type 0
SendsSound (Answer text) = Unit {0}
SendsSound (Forward request asked) = IsSound request × (is_target asked.uri ≡ true)
SendsSound (Queue play text) = IsSoundPlay play
SendsSound (Setup request asked pair) = IsSoundSetup request × (is_target asked.uri ≡ true) × AreApart pair
