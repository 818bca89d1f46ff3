-- What a check of the headers keeps in place of them: enough for the length of the body.
use Rattle.std.specs.Prelude.{ℕ, ◌+◌, ◌==◌, nat_lt, codes, if◌then◌else◌, List, [], ◌∷◌, length, Option, Some, None, Result, Ok, Err}
use Rattle.std.specs.Option.{option_or}
use Rattle.gate_bytes.specs.Tokens.{equal_fold}
use Rattle.gate_bytes.specs.Numbers.{number_in}
use Rattle.rtsp_head.specs.declared.facts.TheConstants.{LENGTH_DIGITS}
use Rattle.rtsp_head.specs.declared.headers.TheConstants.{MOST_HEADERS}
use Rattle.rtsp_head.specs.declared.header.Header.{Header}
use Rattle.rtsp_head.specs.declared.facts.Length.{Length}
use Rattle.rtsp_head.specs.declared.facts.Length.TheVariants as lengths
use Rattle.rtsp_head.specs.declared.fault.HeadFault.{HeadFault}
use Rattle.rtsp_head.specs.declared.fault.HeadFault.TheVariants.{Colon, Many}
use Rattle.rtsp_head.specs.declared.tally.LengthPart.{LengthPart}
use Rattle.rtsp_head.specs.declared.tally.LengthPart.TheVariants as parts
use Rattle.rtsp_head.specs.declared.tally.Last.{Last}
use Rattle.rtsp_head.specs.declared.tally.Last.TheVariants as lasts
use Rattle.rtsp_head.specs.declared.tally.Tally.{Tally}
use Rattle.rtsp_head.specs.Lines.{and_then}
use Rattle.rtsp_head.specs.Headers.{Further, More, Begins, further_of}

-- a number, or what is none
abbrev pub number_part : Option ℕ → LengthPart
number_part None = parts.Other
number_part (Some n) = parts.Number n

-- what a text says, where it may be a part of a length's text
abbrev pub part_of : List ℕ → LengthPart
part_of text = if length text == 0 then parts.Blank else number_part (number_in LENGTH_DIGITS text)

-- what two texts say that are joined by a space: two that aren't empty are no number
abbrev pub joined : LengthPart → LengthPart → LengthPart
joined part parts.Blank = part
joined parts.Blank (parts.Number n) = parts.Number n
joined parts.Blank parts.Other = parts.Other
joined (parts.Number m) (parts.Number n) = parts.Other
joined (parts.Number m) parts.Other = parts.Other
joined parts.Other (parts.Number n) = parts.Other
joined parts.Other parts.Other = parts.Other

-- what the last header says of the length
abbrev pub last_part : Last → Option LengthPart
last_part lasts.Missing = None
last_part lasts.Other = None
last_part (lasts.Length part) = Some part

-- whether a header is Content-Length, and what it says
abbrev pub last_of : List ℕ → List ℕ → Last
last_of name value = if equal_fold name (codes "Content-Length") then lasts.Length (part_of value) else lasts.Other

-- a line that goes on with the last header
abbrev pub tally_more : Tally → Last → LengthPart → Result Tally HeadFault
tally_more tally lasts.Missing more = Err Colon
tally_more tally lasts.Other more = Ok tally
tally_more tally (lasts.Length part) more = Ok (record { count = tally.count; found = tally.found; last = lasts.Length (joined part more) })

-- one header more, where there is room
abbrev pub tally_header : Tally → Header → Result Tally HeadFault
tally_header tally header =
    if nat_lt tally.count MOST_HEADERS then Ok (record { count = tally.count + 1; found = option_or tally.found (last_part tally.last); last = last_of header.name header.value }) else Err Many

-- a line that goes on or begins a header
abbrev pub tally_with : Tally → Further → Result Tally HeadFault
tally_with tally (More text) = tally_more tally tally.last (part_of text)
tally_with tally (Begins header) = tally_header tally header

-- one line more, or its fault
abbrev pub tally_line : Tally → List ℕ → Result Tally HeadFault
tally_line tally line = and_then (tally_with tally) (further_of line)

-- all lines, or the first fault
abbrev pub tally_lines : Tally → List (List ℕ) → Result Tally HeadFault
tally_lines tally [] = Ok tally
tally_lines tally (line ∷ lines) = and_then (λ next. tally_lines next lines) (tally_line tally line)

-- the length of the body by what the first Content-Length says
abbrev pub part_length : Option LengthPart → Length
part_length None = lengths.Absent
part_length (Some parts.Blank) = lengths.Bad
part_length (Some (parts.Number n)) = lengths.Bytes n
part_length (Some parts.Other) = lengths.Bad

-- the length that the headers give
abbrev pub tally_length : Tally → Length
tally_length tally = part_length (option_or tally.found (last_part tally.last))

-- no header yet
abbrev pub empty_tally : Tally
empty_tally = record { count = 0; found = None; last = lasts.Missing }
