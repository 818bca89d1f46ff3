-- The TEARDOWN of a session of a connection that closed (this project's own).
use Rattle.std.specs.Prelude.{ℕ, codes, List, Option, unwrap_or}
use Rattle.std.specs.Option.{option_map, option_and_then}
use Rattle.head_two.specs.declared.request.Request2.{Request2}
use Rattle.head_two.specs.Requests.{request_text}
use Rattle.client_slot.specs.Session.{PlayerSession}
use Rattle.client_slot.specs.Places.{session_at}
use Rattle.client_slot.specs.Client.{Client}
use Rattle.client_slot.specs.Changes.{closing_place}
use Rattle.client_slot.specs.Teardown.{teardown_request}

-- of what the session is about, or of `*` where nothing stands for that
abbrev pub closing_request : Option (List ℕ) → List ℕ → Request2
closing_request control id = teardown_request (unwrap_or control (codes "*")) id

-- its text under a number, for a session that has an id
abbrev pub session_closing : ℕ → PlayerSession → Option (List ℕ)
session_closing number session = option_map (λ id. request_text number (closing_request session.control id)) session.id

-- its text, where one goes up
abbrev pub closing_text : ℕ → Client → Option (List ℕ)
closing_text number client = option_and_then (λ place. session_closing number (session_at place client.sessions)) (closing_place client)
