-- The rules by which a player's request is refused before its session is looked at. Their order is this project's own.
use Rattle.std.specs.Prelude.{ℕ, Bool, true, false, ◌==◌, ◌&&◌, ◌||◌, not, is_some, is_none, codes, List, [], ◌∷◌, length, Option, Some, None, Result, Ok, Err, if◌then◌else◌}
use Rattle.std.specs.Option.{option_and_then, option_or}
use Rattle.std.specs.Str.{bytes_eq}
use Rattle.gate_bytes.specs.Tokens.{is_token}
use Rattle.gate_bytes.specs.Numbers.{number_in}
use Rattle.rtsp_head.specs.declared.header.Header.{Header}
use Rattle.rtsp_head.specs.Headers.{field_of}
use Rattle.rtsp_small.specs.declared.cseq.TheConstants.{CSEQ_ONE_DIGITS}
use Rattle.rtsp_small.specs.declared.method.Method.{Method}
use Rattle.rtsp_small.specs.declared.method.Method.TheVariants.{Options, Describe, Setup, Play, Pause, Teardown, GetParameter, SetParameter}
use Rattle.rtsp_small.specs.Methods.{method_of}
use Rattle.rtsp_uri.specs.Uris.{places_of}
use Rattle.head_one.specs.declared.refusal.Refusal.{Refusal}

-- the version that players speak (RFC 2326, 3.1)
abbrev pub version_one : List ℕ
version_one = codes "RTSP/1.0"

-- the number of a player's request (RFC 2326, 12.17)
abbrev pub client_cseq : List Header → Option ℕ
client_cseq headers = option_and_then (number_in CSEQ_ONE_DIGITS) (field_of headers (codes "CSeq"))

-- a value with a byte
abbrev pub said : Option (List ℕ) → Option (List ℕ)
said None = None
said (Some value) = if length value == 0 then None else Some value

-- what a request requires of the server, or else of a proxy (RFC 2326, 12.32 and 12.27): no option is supported
abbrev pub required : List Header → Option (List ℕ)
required headers = option_or (said (field_of headers (codes "Require"))) (said (field_of headers (codes "Proxy-Require")))

-- What the rules look at. Each part is read once: the method, its name where it is known, the URI, the version, the
-- number, and what is required.
pub record RequestFields : Type 0 where
  pub method : List ℕ
  pub known : Option Method
  pub uri : List ℕ
  pub version : List ℕ
  pub cseq : Option ℕ
  pub required : Option (List ℕ)

-- what the rules ask of a request
abbrev pub request_parts : List ℕ → List ℕ → List ℕ → List Header → RequestFields
request_parts method uri version headers =
    record { method = method; known = method_of method; uri = uri; version = version; cseq = client_cseq headers; required = required headers }

-- whether a method may be asked of the server itself (RFC 2326, 10.1, 10.8 and 10.9)
abbrev pub may_ask_server : Option Method → Bool
may_ask_server None = false
may_ask_server (Some Options) = true
may_ask_server (Some Describe) = false
may_ask_server (Some Setup) = false
may_ask_server (Some Play) = false
may_ask_server (Some Pause) = false
may_ask_server (Some Teardown) = false
may_ask_server (Some GetParameter) = true
may_ask_server (Some SetParameter) = true

-- a URI, or `*` for the server itself
abbrev pub names_resource : List ℕ → Option Method → Bool
names_resource uri method = is_some (places_of uri) || (bytes_eq uri (codes "*") && may_ask_server method)

-- a rule: whether it applies, and the code that it answers with
pub record Rule : Type 0 where
  pub applies : Bool
  pub code : ℕ

-- a rule that applies or not, with its code
abbrev pub rule : Bool → ℕ → Rule
rule applies code = record { applies = applies; code = code }

-- the rules on a request's head, in their order
abbrev pub head_rules : RequestFields → List Rule
head_rules parts =
    rule (not (is_token parts.method)) 400
    ∷ rule (not (bytes_eq parts.version version_one)) 505
    ∷ rule (is_none parts.cseq) 400
    ∷ rule (is_none parts.known) 501
    ∷ rule (is_some parts.required) 551
    ∷ rule (not (names_resource parts.uri parts.known)) 400
    ∷ []

-- the code of the first rule that applies
abbrev pub first_code : List Rule → Option ℕ
first_code [] = None
first_code (one ∷ more) = if one.applies then Some one.code else first_code more

-- The method and the number of a request that no rule refuses. Where one of them could not be read, a rule applies.
abbrev pub method_and_number : Option Method → Option ℕ → Result (Method × ℕ) ℕ
method_and_number (Some method) (Some cseq) = Ok (method, cseq)
method_and_number (Some method) None = Err 400
method_and_number None cseq = Err 501

-- method and number, where no rule applied before
abbrev pub unless_refused : Option ℕ → RequestFields → Result (Method × ℕ) ℕ
unless_refused None parts = method_and_number parts.known parts.cseq
unless_refused (Some code) parts = Err code

-- the method and the number of a request, or the code of the first rule that applies
abbrev pub parts_checked : RequestFields → Result (Method × ℕ) ℕ
parts_checked parts = unless_refused (first_code (head_rules parts)) parts

-- a refusal with this code: the number where it could be read, and with 551 what is not supported (RFC 2326, 12.41)
abbrev pub refusal : RequestFields → ℕ → Refusal
refusal parts code = record { code = code; cseq = parts.cseq; unsupported = if code == 551 then parts.required else None }

-- what has no request line is no request
abbrev pub no_request : Refusal
no_request = record { code = 400; cseq = None; unsupported = None }
