-- Requests that go up, and what a reply says, on the one connection to the server: numbers of requests and channels are
-- those of all players there (this project's own).
use Rattle.std.specs.Prelude.{ℕ, ◌+◌, ◌*◌, codes, List, Option, Some, None}
use Rattle.std.specs.Option.{option_and_then}
use Rattle.std.specs.Result.{result_ok}
use Rattle.rtsp_head.specs.Headers.{field_of}
use Rattle.rtsp_transport.specs.declared.channels.Pair.{Pair}
use Rattle.rtsp_transport.specs.declared.grant.Grant.{Grant}
use Rattle.rtsp_transport.specs.Grants.{grant_of}
use Rattle.head_two.specs.declared.reply.Reply2.{Reply2}
use Rattle.head_two.specs.declared.request.Request2.{Request2}
use Rattle.head_two.specs.Requests.{request_text}
use Rattle.translate_up.specs.Upward.{with_transport}
use Rattle.client_machine.specs.Events.{Outgoing, asks, carries}

-- the channels of a pair
abbrev pub channels : ℕ → Pair
channels pair = record { rtp = 2 * pair; rtcp = 2 * pair + 1 }

-- a SETUP with the pair that it asks for
abbrev pub over_pair : Option ℕ → Option ℕ → Request2 → Request2
over_pair (Some number) (Some pair) request = with_transport (channels pair) request
over_pair named free request = request

-- The text of a request with its number: a SETUP has the lowest pair that is free.
abbrev pub text_up : ℕ → Option ℕ → Option ℕ → Request2 → List ℕ
text_up number free named request = request_text number (over_pair named free request)

-- the text of a message that is a request
abbrev pub text_of : ℕ → Option ℕ → Outgoing → Option (List ℕ)
text_of number free (asks request named) = Some (text_up number free named request)
text_of number free (carries pair half rest) = None

-- the text of what goes up, where something does
abbrev pub spelled : ℕ → Option ℕ → Option Outgoing → Option (List ℕ)
spelled number free message = option_and_then (text_of number free) message

-- What a reply's Transport grants, and the source that it names (RFC 7826, 18.54).
abbrev pub grant_said : Reply2 → Option Grant
grant_said reply = option_and_then (λ value. result_ok (grant_of value)) (field_of reply.head.headers (codes "Transport"))

-- the source of RTP packets that a reply names
abbrev pub source_said : Reply2 → Option ℕ
source_said reply = option_and_then (λ grant. grant.ssrc) (grant_said reply)
