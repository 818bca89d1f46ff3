-- What is left of a value that is read part by part, and what it says together with what was read.
use Rattle.std.proofs.Common.{ℕ, List, ◌++◌, Option}
use Rattle.std.specs.Option.{option_map, option_or}
use Rattle.gate_bytes.specs.Ascii.{comma, semicolon}
use Rattle.gate_bytes.specs.Tokens.{trimmed}
use Rattle.rtp_info.specs.declared.entry.InfoEntry.{InfoEntry}
use Rattle.rtp_info.specs.Parts.{remaining_parts, each_read}
use Rattle.rtp_info.specs.Parameters.{Says, Notes, first_seq, first_time, parameter_of}
use Rattle.rtp_info.specs.Groups.{first_note}
use Rattle.rtp_info.specs.Specs.{spec_of}

-- what the parameters say that are left
abbrev pub parameters_left : Option (List ℕ) → Option (List Says)
parameters_left left = each_read (λ part. parameter_of (trimmed part)) (remaining_parts semicolon left)

-- what was noted, and then these parameters
abbrev pub joined : Notes → List Says → Notes
joined notes parameters = record { seq = option_or notes.seq (first_seq parameters); rtptime = option_or notes.rtptime (first_time parameters) }

-- what was first so far, or the first of these
abbrev pub first_among : Option Notes → List Notes → Option Notes
first_among first groups = option_or first (first_note groups)

-- the entries so far, and then those of the specs that are left
abbrev pub entries_with : List InfoEntry → Option (List ℕ) → Option (List InfoEntry)
entries_with entries left = option_map (λ more. entries ++ more) (each_read (λ part. spec_of (trimmed part)) (remaining_parts comma left))
