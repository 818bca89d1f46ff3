-- Which end of stream counts (RFC 7826, 13.5.1, has the notify that tells it; that one which names no request counts is
-- this project's own).
use Rattle.std.specs.Prelude.{ℕ, Bool, true, false, ◌==◌, List, Option, Some, None, if◌then◌else◌}
use Rattle.std.specs.Option.{option_and_then}
use Rattle.rtsp_small.specs.Notices.{request_status_of}
use Rattle.session_two.specs.declared.names.Names.{Names}
use Rattle.session_two.specs.declared.names.Names.TheVariants.{Unsaid, This}

-- the request that a notify names, where it names one
abbrev pub names_at : Option ℕ → Names
names_at None = Unsaid
names_at (Some number) = This number

-- what a field Request-Status names: nothing, where it is missing or can't be read
abbrev pub names_in : Option (List ℕ) → Names
names_in value = names_at (option_and_then request_status_of value)

-- whether an end of stream counts: a PLAY runs, and it is the one that is named, or none is named
abbrev pub end_counts : Option ℕ → Names → Bool
end_counts None names = false
end_counts (Some running) Unsaid = true
end_counts (Some running) (This number) = number == running

-- the PLAY that runs then
abbrev pub after_end : Option ℕ → Names → Option ℕ
after_end running names = if end_counts running names then None else running
