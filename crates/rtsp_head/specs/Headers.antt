-- The headers of a head, line by line.
use Rattle.std.specs.Prelude.{ℕ, Bool, true, false, nat_lt, if◌then◌else◌, List, [], ◌∷◌, ◌++◌, length, Option, Some, None, Result, Ok, Err, option_map}
use Rattle.std.specs.List.{find}
use Rattle.gate_bytes.specs.Ascii.{space, colon}
use Rattle.gate_bytes.specs.Tokens.{is_token, is_blank, trimmed, equal_fold}
use Rattle.gate_bytes.specs.Places.{cut_at}
use Rattle.rtsp_head.specs.declared.header.Header.{Header}
use Rattle.rtsp_head.specs.declared.fault.HeadFault.{HeadFault}
use Rattle.rtsp_head.specs.declared.fault.HeadFault.TheVariants.{Control, Colon, Name, Many}
use Rattle.rtsp_head.specs.declared.headers.TheConstants.{MOST_HEADERS}
use Rattle.rtsp_head.specs.Lines.{and_then, result_map, has_control}

-- What stands before the first colon is the name, a token, and the rest without the blanks round it is
-- the value (RFC 2326, 4.2; RFC 7826, 5.2).
abbrev pub header_from : Option (List ℕ × List ℕ) → Result Header HeadFault
header_from None = Err Colon
header_from (Some parts) = if is_token parts.0 then Ok (record { name = parts.0; value = trimmed parts.1 }) else Err Name

-- the header that a line is (RFC 7826, 5.2)
abbrev pub header_of : List ℕ → Result Header HeadFault
header_of line = header_from (cut_at colon line)

-- The headers of the lines so far: the last one apart, since the next line may go on with it.
pub record SoFar : Type 0 where
  pub above : List Header
  pub last : Option Header

-- A value has no blanks at its ends, once all of it is there.
abbrev pub closed : Option Header → List Header
closed None = []
closed (Some header) = record { name = header.name; value = trimmed header.value } ∷ []

-- all headers so far
abbrev pub headers_in : SoFar → List Header
headers_in so_far = so_far.above ++ closed so_far.last

-- A line that begins with a blank goes on with the header above.
abbrev pub goes_on : List ℕ → Bool
goes_on [] = false
goes_on (b ∷ line) = is_blank b

-- Its text is joined to the value by one space (RFC 2326, 15.1; RFC 7826, 5.2).
abbrev pub continued : SoFar → List ℕ → Option Header → Result SoFar HeadFault
continued so_far text None = Err Colon
continued so_far text (Some header) =
    Ok (record { above = so_far.above; last = Some (record { name = header.name; value = header.value ++ (space ∷ text) }) })

-- Whether one header more may stand behind so many, in a head that has at most so many or, without a limit, any number.
abbrev pub has_room : Option ℕ → ℕ → Bool
has_room None count = true
has_room (Some most) count = nat_lt count most

-- the limit on a head that is read (this project's own)
abbrev pub header_limit : Option ℕ
header_limit = Some MOST_HEADERS

-- one header more, where there is room
abbrev pub with_header : Option ℕ → SoFar → Header → Result SoFar HeadFault
with_header limit so_far header =
    if has_room limit (length (headers_in so_far)) then Ok (record { above = headers_in so_far; last = Some header }) else Err Many

-- what a line after the first one is: more text of the header above, or a header
pub data Further : Type 0 where
  More : List ℕ → Further
  Begins : Header → Further

-- The order of the tests is the order of the faults.
abbrev pub further_of : List ℕ → Result Further HeadFault
further_of line =
    if has_control line then Err Control
    else (if goes_on line then Ok (More (trimmed line)) else result_map Begins (header_of line))

-- a line that goes on with the last header, or begins one
abbrev pub with_further : Option ℕ → SoFar → Further → Result SoFar HeadFault
with_further limit so_far (More text) = continued so_far text so_far.last
with_further limit so_far (Begins header) = with_header limit so_far header

-- the headers with one more line
abbrev pub with_line : Option ℕ → SoFar → List ℕ → Result SoFar HeadFault
with_line limit so_far line = and_then (with_further limit so_far) (further_of line)

-- the headers after these lines, or the first fault
abbrev pub after_lines : Option ℕ → SoFar → List (List ℕ) → Result SoFar HeadFault
after_lines limit so_far [] = Ok so_far
after_lines limit so_far (line ∷ lines) = and_then (λ next. after_lines limit next lines) (with_line limit so_far line)

-- no line was read
abbrev pub no_headers : SoFar
no_headers = record { above = []; last = None }

-- The headers of these lines, or the first fault of the first faulty line.
abbrev pub headers_of : Option ℕ → List (List ℕ) → Result (List Header) HeadFault
headers_of limit lines = result_map headers_in (after_lines limit no_headers lines)

-- the value of the first header of that name, without ASCII case (RFC 7826, 5.2)
abbrev pub field_of : List Header → List ℕ → Option (List ℕ)
field_of headers name = option_map (λ header. header.value) (find (λ header. equal_fold header.name name) headers)
