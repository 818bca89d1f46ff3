-- The reasons of the codes that a player or the server is told.
use Rattle.std.specs.Prelude.{ℕ, Bool, ◌==◌, ◌&&◌, nat_le, length, List, [], ◌∷◌, Option, Some, None, is_some, codes, if◌then◌else◌}
use Rattle.std.specs.List.{list_all}
use Rattle.gate_bytes.specs.Ascii.{space, tilde}
use Rattle.rtsp_status.specs.declared.text.TheConstants.{LONGEST_REASON}

-- a code with its reason
pub record Reason : Type 0 where
  pub code : ℕ
  pub text : List ℕ

-- a code and its reason
abbrev pub reads : ℕ → List ℕ → Reason
reads code text = record { code = code; text = text }

-- The codes that the gateway answers with, and their reasons as RFC 2326 (7.1.1) has them; 465 is told to
-- the server alone, and is of RFC 7826 (17.4).
abbrev pub reasons : List Reason
reasons =
    reads 200 (codes "OK")
    ∷ reads 400 (codes "Bad Request")
    ∷ reads 403 (codes "Forbidden")
    ∷ reads 404 (codes "Not Found")
    ∷ reads 405 (codes "Method Not Allowed")
    ∷ reads 406 (codes "Not Acceptable")
    ∷ reads 408 (codes "Request Time-out")
    ∷ reads 410 (codes "Gone")
    ∷ reads 411 (codes "Length Required")
    ∷ reads 412 (codes "Precondition Failed")
    ∷ reads 413 (codes "Request Entity Too Large")
    ∷ reads 414 (codes "Request-URI Too Large")
    ∷ reads 415 (codes "Unsupported Media Type")
    ∷ reads 451 (codes "Parameter Not Understood")
    ∷ reads 452 (codes "Conference Not Found")
    ∷ reads 453 (codes "Not Enough Bandwidth")
    ∷ reads 454 (codes "Session Not Found")
    ∷ reads 455 (codes "Method Not Valid in This State")
    ∷ reads 456 (codes "Header Field Not Valid for Resource")
    ∷ reads 457 (codes "Invalid Range")
    ∷ reads 458 (codes "Parameter Is Read-Only")
    ∷ reads 459 (codes "Aggregate operation not allowed")
    ∷ reads 460 (codes "Only aggregate operation allowed")
    ∷ reads 461 (codes "Unsupported transport")
    ∷ reads 462 (codes "Destination unreachable")
    ∷ reads 465 (codes "Notification Reason Unknown")
    ∷ reads 500 (codes "Internal Server Error")
    ∷ reads 501 (codes "Not Implemented")
    ∷ reads 502 (codes "Bad Gateway")
    ∷ reads 503 (codes "Service Unavailable")
    ∷ reads 504 (codes "Gateway Time-out")
    ∷ reads 505 (codes "RTSP Version not supported")
    ∷ reads 551 (codes "Option not supported")
    ∷ []

-- the reason of a code in such a list
abbrev pub reason_in : List Reason → ℕ → Option (List ℕ)
reason_in [] code = None
reason_in (one ∷ more) code = if code == one.code then Some one.text else reason_in more code

-- the bytes of a code's reason
abbrev pub reason_of : ℕ → Option (List ℕ)
reason_of code = reason_in reasons code

-- whether a code has a reason
abbrev pub has_reason : ℕ → Bool
has_reason code = is_some (reason_of code)

-- a space or a visible byte of ASCII
abbrev pub is_reason_byte : ℕ → Bool
is_reason_byte b = nat_le space b && nat_le b tilde

-- what stands in a status line: a code of three digits, and a reason of such bytes, no more than the most
abbrev pub fits_line : ℕ → List ℕ → Bool
fits_line code text = (nat_le 100 code && nat_le code 999) && (nat_le (length text) LONGEST_REASON && list_all is_reason_byte text)
