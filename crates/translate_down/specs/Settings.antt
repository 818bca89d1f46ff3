-- What a reply is written for: the addresses of the two sides, and what the player's session is. This project's own.
use Rattle.std.specs.Prelude.{◌≡◌, ◌≢◌, ℕ, ◌<◌, ◌^◌, true, List, Option, IfSome}
use Rattle.std.specs.Option.{option_copied}
use Rattle.rtsp_small.specs.Sessions.{is_session_id}
use Rattle.rtsp_transport.specs.declared.channels.Pair.{Pair}
use Rattle.rtsp_small.specs.declared.session.TheConstants.{TIMEOUT_DIGITS}
use Rattle.translate_down.specs.declared.context.Context.{Context}

-- the addresses of the front and of the server, the session's id, the player's channels, and what the server's reply
-- grants beside them: the source of the packets, and after how many seconds the session may be closed
pub record Setting : Type 0 where
  pub front : List ℕ
  pub up : List ℕ
  pub session : Option (List ℕ)
  pub client : Option Pair
  pub ssrc : Option ℕ
  pub timeout : Option ℕ

-- what a context says, without where it lies in memory
abbrev pub setting_of : Context → Setting
setting_of context = record {
  front = context.bases.now.front.text;
  up = context.bases.now.up.text;
  session = option_copied context.session;
  client = option_copied context.client;
  ssrc = context.ssrc;
  timeout = context.timeout;
}

-- What can be written: where they are there, a session's id, a timeout of at most ten digits and two different
-- channels.
pub record CanBeTold (setting : Setting) : Type 0 where
  pub session : IfSome setting.session (λ id. is_session_id id ≡ true)
  pub timeout : IfSome setting.timeout (λ seconds. seconds < 10 ^ TIMEOUT_DIGITS)
  pub client : IfSome setting.client (λ pair. pair.rtp ≢ pair.rtcp)
