-- How a head is written, and which heads can be.
use Rattle.std.specs.Prelude.{ℕ, Bool, ◌==◌, ◌&&◌, not, nat_le, ◌≤◌, IsTrue, List, [], ◌∷◌, ◌++◌, length, decimal}
use Rattle.std.specs.List.{list_all, flat_map}
use Rattle.gate_bytes.specs.Ascii.{nul, lf, cr, space, colon}
use Rattle.gate_bytes.specs.Tokens.{is_token, trimmed}
use Rattle.rtsp_head.specs.declared.headers.TheConstants.{MOST_HEADERS}
use Rattle.rtsp_head.specs.declared.start.TheConstants.{LEAST_CODE, GREATEST_CODE}
use Rattle.rtsp_head.specs.declared.header.Header.{Header}
use Rattle.rtsp_head.specs.HeadParts.{Start, Request, Status}
use Rattle.rtsp_head.specs.Starts.{is_unspaced, names_protocol}

-- a line with its end, CR LF
abbrev pub ended : List ℕ → List ℕ
ended line = line ++ (cr ∷ lf ∷ [])

-- a first line (RFC 2326, 6.1 and 7.1): its parts with one space between them
abbrev pub start_text : Start → List ℕ
start_text (Request method uri version) = method ++ (space ∷ (uri ++ (space ∷ version)))
start_text (Status version code reason) = version ++ (space ∷ (decimal code ++ (space ∷ reason)))

-- a header's line: the name, a colon, a space and the value
abbrev pub header_text : Header → List ℕ
header_text header = header.name ++ (colon ∷ space ∷ header.value)

-- a head: its first line, its headers' lines in order, and an empty line
abbrev pub head_text : Start → List Header → List ℕ
head_text start headers = ended (start_text start) ++ flat_map (λ header. ended (header_text header)) headers ++ ended []

-- a text that fits into one line: it holds no LF, no CR and no byte 0
abbrev pub is_line_text : List ℕ → Bool
is_line_text text = list_all (λ b. not (b == lf) && (not (b == cr) && not (b == nul))) text

-- a part of a first line: it has a byte, and holds no space
abbrev pub is_part : List ℕ → Bool
is_part text = not (length text == 0) && is_unspaced text

-- the starts that a head's first line can give
abbrev pub is_start : Start → Bool
is_start (Request method uri version) =
    (is_part method && not (names_protocol method)) && is_part uri && (is_part version && names_protocol version)
    && (is_line_text method && is_line_text uri && is_line_text version)
is_start (Status version code reason) =
    is_part version && names_protocol version && (nat_le LEAST_CODE code && nat_le code GREATEST_CODE) && (is_line_text version && is_line_text reason)

-- a text without blanks at its ends: trimming takes nothing off
abbrev pub is_trimmed : List ℕ → Bool
is_trimmed text = length (trimmed text) == length text

-- a value: it has no blanks at its ends, and fits into one line
abbrev pub is_value : List ℕ → Bool
is_value text = is_trimmed text && is_line_text text

-- a header that can be written: its name is a token (RFC 2326, 15.1)
abbrev pub is_header : Header → Bool
is_header header = is_token header.name && is_value header.value

-- What can be written: a start that a first line can give, and no more headers than a head may have, each of them sound.
pub record CanBeWritten (first : Start) (fields : List Header) : Type 0 where
  pub start : IsTrue (is_start first)
  pub few : length fields ≤ MOST_HEADERS
  pub headers : IsTrue (list_all is_header fields)
