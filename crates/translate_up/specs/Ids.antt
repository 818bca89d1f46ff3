-- The ids of sessions (RFC 2326, 12.37).
use Rattle.std.specs.Prelude.{ℕ, Bool, false, List, Option, Some, None}
use Rattle.std.specs.Option.{option_map}
use Rattle.std.specs.Str.{bytes_eq}
use Rattle.rtsp_small.specs.Sessions.{session_of}

-- the id in a Session field
abbrev pub id_of : List ℕ → Option (List ℕ)
id_of value = option_map (λ session. session.id) (session_of value)

-- both are there, and they are one
abbrev pub are_same : Option (List ℕ) → Option (List ℕ) → Bool
are_same None other = false
are_same (Some one) None = false
are_same (Some one) (Some other) = bytes_eq one other
