-- What is known of the world over TCP: how often its parts failed and ended, and what errors of the system mean. This
-- project's own; the numbers of errors are those of Linux.
use Rattle.std.specs.Prelude.{◌≡◌, ℕ, ℤ, ◌+◌, ◌^◌, ◌-◌, min, unsigned_abs, ◌⊎◌, ◌==◌, Bool, true, false, Option, None, Some, List, if◌then◌else◌}
use Rattle.std.specs.List.{list_any}
use Rattle.std.specs.declared.io.ErrorKind.{ErrorKind}
use Rattle.std.specs.declared.io.ErrorKind.TheVariants.{Interrupted, TimedOut, WouldBlock}
use Rattle.gate_outside.specs.Doors.{IsNewLink}
use Rattle.serve_world_tcp.specs.declared.link.TcpInlet.{TcpInlet}
use Rattle.serve_world_tcp.specs.declared.link.TcpOutlet.{TcpOutlet}
use Rattle.serve_world_tcp.specs.declared.trouble.TheConstants.{LINK_ERRORS, HOST_ERRORS}
use Rattle.serve_world_tcp.specs.declared.trouble.Row.{Row}
use Rattle.serve_world_tcp.specs.declared.trouble.Trouble.{Trouble}
use Rattle.serve_world_tcp.specs.declared.trouble.Trouble.TheVariants.{Link, Host}

-- A link that was not used. It tells no content.
abbrev pub IsNewTcpLink : TcpInlet → TcpOutlet → Type 0
IsNewTcpLink inlet outlet = IsNewLink (λ (i : TcpInlet). i.faults) (λ (i : TcpInlet). i.ends) (λ (o : TcpOutlet). o.faults) (λ (o : TcpOutlet). let untold : Option (List ℕ) = None in untold) inlet outlet

-- The system had nothing for now, and may be asked again.
abbrev pub MeansNotYet : ErrorKind → Type 0
MeansNotYet kind = (kind ≡ WouldBlock) ⊎ ((kind ≡ TimedOut) ⊎ (kind ≡ Interrupted))

-- the trouble of a door that an error with this number tells: none where the door itself has failed
abbrev pub trouble_by : ℕ → Option Trouble
trouble_by code = if list_any (λ c. c == code) LINK_ERRORS then Some Link else if list_any (λ c. c == code) HOST_ERRORS then Some Host else None

-- the same of an error that may have no number
abbrev pub trouble_meant : Option ℤ → Option Trouble
trouble_meant None = None
trouble_meant (Some code) = trouble_by (unsigned_abs code)

-- whether the trouble is the same
abbrev pub is_same : Trouble → Trouble → Bool
is_same Link Link = true
is_same Host Host = true
is_same Link Host = false
is_same Host Link = false

-- how often a trouble has come in a row, with this one
abbrev pub times_borne : Option Row → Trouble → ℕ
times_borne None trouble = 1
times_borne (Some row) trouble = if is_same row.trouble trouble then min (row.times + 1) (2 ^ 32 - 1) else 1
