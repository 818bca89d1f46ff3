-- The field Session.
use Rattle.std.specs.Prelude.{ℕ, Bool, ◌==◌, ◌&&◌, ◌||◌, not, nat_le, codes, decimal, if◌then◌else◌, List, [], ◌∷◌, ◌++◌, length, Option, Some, None, option_and_then}
use Rattle.std.specs.Option.{option_or}
use Rattle.std.specs.List.{list_all}
use Rattle.std.specs.Char.{is_ascii_alphanumeric}
use Rattle.std.specs.Str.{bytes_eq}
use Rattle.gate_bytes.specs.Ascii.{dollar, plus_sign, hyphen, dot, semicolon, equals_sign, underscore}
use Rattle.gate_bytes.specs.Tokens.{trimmed}
use Rattle.gate_bytes.specs.Numbers.{number_in}
use Rattle.gate_bytes.specs.Places.{cut_at, parts_at}
use Rattle.rtsp_small.specs.declared.session.TheConstants.{LONGEST_SESSION_ID, TIMEOUT_DIGITS}

-- what a Session field says: an id, and after how many seconds the server may close it
pub record SessionParts : Type 0 where
  pub id : List ℕ
  pub timeout : Option ℕ

-- a letter, a digit, or one of $-_.+ (RFC 2326, 15.1; RFC 7826, 20.1)
abbrev pub is_session_byte : ℕ → Bool
is_session_byte b = is_ascii_alphanumeric b || (b == dollar || b == hyphen || b == underscore || b == dot || b == plus_sign)

-- a session id: one or more such bytes, up to the most (RFC 7826, 20.2; RFC 2326, 3.4, asks for eight at least,
-- which is not asked here)
abbrev pub is_session_id : List ℕ → Bool
is_session_id text = not (length text == 0) && nat_le (length text) LONGEST_SESSION_ID && list_all is_session_byte text

-- the seconds of a parameter `timeout=`, of one or more digits up to the most (RFC 2326, 12.37)
abbrev pub timeout_in : List ℕ → Option ℕ
timeout_in parameter = option_and_then (λ parts. if bytes_eq parts.0 (codes "timeout") then number_in TIMEOUT_DIGITS parts.1 else None) (cut_at equals_sign parameter)

-- The first parameter counts that is such a timeout, and all others are ignored.
abbrev pub first_timeout : List (List ℕ) → Option ℕ
first_timeout [] = None
first_timeout (parameter ∷ more) = option_or (timeout_in (trimmed parameter)) (first_timeout more)

-- a session with an id that may be one
abbrev pub session_with : List ℕ → Option ℕ → Option SessionParts
session_with id timeout = if is_session_id id then Some (record { id = id; timeout = timeout }) else None

-- Semicolons part the id and the parameters. The parameters are trimmed, and the id is not.
abbrev pub session_in : List (List ℕ) → Option SessionParts
session_in [] = None
session_in (id ∷ parameters) = session_with id (first_timeout parameters)

-- what a Session field with this value says (RFC 2326, 12.37; RFC 7826, 18.49)
abbrev pub session_of : List ℕ → Option SessionParts
session_of value = session_in (parts_at semicolon value)

-- how a timeout is written, where there is one
abbrev pub timeout_text : Option ℕ → List ℕ
timeout_text None = []
timeout_text (Some seconds) = codes ";timeout=" ++ decimal seconds

-- how a Session field is written
abbrev pub session_text : SessionParts → List ℕ
session_text session = session.id ++ timeout_text session.timeout
