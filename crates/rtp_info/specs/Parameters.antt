-- The parameters of a group (RFC 7826, 18.45 and 20.2.3).
use Rattle.std.specs.Prelude.{ℕ, ◌&&◌, not, nat_le, codes, if◌then◌else◌, List, [], ◌∷◌, Option, Some, None, option_map, option_and_then}
use Rattle.std.specs.Option.{option_or}
use Rattle.std.specs.Str.{bytes_eq}
use Rattle.gate_bytes.specs.Ascii.{semicolon, equals_sign}
use Rattle.gate_bytes.specs.Tokens.{is_token, trimmed}
use Rattle.gate_bytes.specs.Places.{cut_at, parts_at}
use Rattle.gate_bytes.specs.Numbers.{number_in}
use Rattle.rtp_info.specs.declared.parameter.TheConstants.{SEQ_DIGITS, LAST_SEQ, RTPTIME_DIGITS, LAST_RTPTIME}
use Rattle.rtp_info.specs.Parts.{each_read}

-- what a parameter says: a sequence number, an RTP time, or something that is passed over
pub data Says : Type 0 where
  Seq : ℕ → Says
  Time : ℕ → Says
  Other : Says

-- a sequence number of one or more digits, up to the most, that 16 bits hold (RFC 7826, 20.2.3)
abbrev pub seq_of : List ℕ → Option Says
seq_of value = option_and_then (λ n. if nat_le n LAST_SEQ then Some (Seq n) else None) (number_in SEQ_DIGITS value)

-- an RTP time of one or more digits, up to the most, that 32 bits hold (RFC 7826, 20.2.3)
abbrev pub time_of : List ℕ → Option Says
time_of value = option_and_then (λ n. if nat_le n LAST_RTPTIME then Some (Time n) else None) (number_in RTPTIME_DIGITS value)

-- `name=value`: two tokens, but for the two names that have numbers
abbrev pub valued_parameter : List ℕ → List ℕ → Option Says
valued_parameter name value =
    if bytes_eq name (codes "seq") then seq_of value
    else if bytes_eq name (codes "rtptime") then time_of value
    else if is_token name && is_token value then Some Other else None

-- a token alone, which is neither of those names
abbrev pub lone_parameter : List ℕ → Option Says
lone_parameter name = if is_token name && (not (bytes_eq name (codes "seq")) && not (bytes_eq name (codes "rtptime"))) then Some Other else None

-- what a parameter says, with a value or without
abbrev pub parameter_with : List ℕ → Option (List ℕ × List ℕ) → Option Says
parameter_with text None = lone_parameter text
parameter_with text (Some parts) = valued_parameter parts.0 parts.1

-- what a parameter says; nothing for a text that is none
abbrev pub parameter_of : List ℕ → Option Says
parameter_of text = parameter_with text (cut_at equals_sign text)

-- the first sequence number and the first RTP time of a group
pub record Notes : Type 0 where
  pub seq : Option ℕ
  pub rtptime : Option ℕ

-- nothing was said
abbrev pub no_notes : Notes
no_notes = record { seq = None; rtptime = None }

-- the same with one more parameter, which counts where it is the first of its name
abbrev pub notes_with : Notes → Says → Notes
notes_with notes (Seq n) = record { seq = option_or notes.seq (Some n); rtptime = notes.rtptime }
notes_with notes (Time n) = record { seq = notes.seq; rtptime = option_or notes.rtptime (Some n) }
notes_with notes Other = notes

-- the first sequence number among parameters
abbrev pub first_seq : List Says → Option ℕ
first_seq [] = None
first_seq (Seq n ∷ more) = Some n
first_seq (Time n ∷ more) = first_seq more
first_seq (Other ∷ more) = first_seq more

-- the first RTP time among them
abbrev pub first_time : List Says → Option ℕ
first_time [] = None
first_time (Seq n ∷ more) = first_time more
first_time (Time n ∷ more) = Some n
first_time (Other ∷ more) = first_time more

-- the first seq and the first rtptime
abbrev pub notes_of : List Says → Notes
notes_of parameters = record { seq = first_seq parameters; rtptime = first_time parameters }

-- what the parameters say that semicolons part, with blanks round them; nothing where one of them is none
abbrev pub read_parameters : List ℕ → Option Notes
read_parameters text = option_map notes_of (each_read (λ part. parameter_of (trimmed part)) (parts_at semicolon text))
