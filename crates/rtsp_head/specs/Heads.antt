-- A head, and what a framer needs of it.
use Rattle.std.specs.Prelude.{ℕ, Bool, true, false, codes, List, [], ◌∷◌, Option, Some, None, Result, Err}
use Rattle.gate_bytes.specs.Numbers.{number_in}
use Rattle.rtsp_head.specs.HeadParts.{Start, Request, Status}
use Rattle.rtsp_head.specs.declared.header.Header.{Header}
use Rattle.rtsp_head.specs.declared.head.Head.{Head}
use Rattle.rtsp_head.specs.declared.facts.Facts.{Facts}
use Rattle.rtsp_head.specs.declared.facts.Length.{Length}
use Rattle.rtsp_head.specs.declared.facts.Length.TheVariants as lengths
use Rattle.rtsp_head.specs.declared.fault.HeadFault.{HeadFault}
use Rattle.rtsp_head.specs.declared.fault.HeadFault.TheVariants as faults
use Rattle.rtsp_head.specs.Lines.{and_then, result_map, head_lines}
use Rattle.rtsp_head.specs.Starts.{start_of}
use Rattle.rtsp_head.specs.Headers.{header_limit, headers_of, field_of}
use Rattle.rtsp_head.specs.declared.facts.TheConstants.{LENGTH_DIGITS}

-- The first line is looked at first, then each further line in order, and the first fault counts.
abbrev pub head_of_lines : Option ℕ → List (List ℕ) → Result Head HeadFault
head_of_lines limit [] = Err faults.Start
head_of_lines limit (line ∷ lines) =
    and_then (λ start. result_map (λ headers. record { start = start; headers = headers }) (headers_of limit lines)) (start_of line)

-- The head that these bytes spell, up to the first empty line, or its first fault, in a head of any number of headers
-- or of at most so many (RFC 2326, 4; RFC 7826, 5).
abbrev pub head_within : Option ℕ → List ℕ → Result Head HeadFault
head_within limit bytes = head_of_lines limit (head_lines bytes)

-- the head that is read of these bytes
abbrev pub head_of : List ℕ → Result Head HeadFault
head_of bytes = head_within header_limit bytes

-- whether a head is a request's
abbrev pub is_request : Start → Bool
is_request (Request method uri version) = true
is_request (Status version code reason) = false

-- a length of 1 to LENGTH_DIGITS digits
abbrev pub length_in : Option ℕ → Length
length_in None = lengths.Bad
length_in (Some n) = lengths.Bytes n

-- what Content-Length says, where it is there (RFC 7826, 18.17)
abbrev pub length_of : Option (List ℕ) → Length
length_of None = lengths.Absent
length_of (Some value) = length_in (number_in LENGTH_DIGITS value)

-- the length of the body, by the first Content-Length (RFC 2326, 12.14; RFC 7826, 18.17)
abbrev pub length_in_headers : List Header → Length
length_in_headers headers = length_of (field_of headers (codes "Content-Length"))

-- whether it is a request, and the length of the body
abbrev pub facts : Head → Facts
facts head = record { request = is_request head.start; length = length_in_headers head.headers }

-- the facts of the head that these bytes spell, or its first fault
abbrev pub facts_of : List ℕ → Result Facts HeadFault
facts_of bytes = result_map facts (head_of bytes)
