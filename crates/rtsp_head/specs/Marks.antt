-- Where the first line of a head stands, and its headers, each on a line of its own (this project's own).
use Rattle.std.specs.Prelude.{◌≡◌, ℕ, ◌+◌, ◌-◌, ◌<◌, ◌&&◌, nat_le, nat_lt, Bool, if◌then◌else◌, List, [], ◌∷◌, ◌++◌, length, take, drop, Option, Some, None, IfSome}
use Rattle.std.specs.List.{list_all}
use Rattle.gate_bytes.specs.Tokens.{trimmed}
use Rattle.rtsp_head.specs.declared.header.Header.{Header}
use Rattle.rtsp_head.specs.HeadParts.{Start, Request, Status}
use Rattle.rtsp_head.specs.declared.marks.HeaderMark.{HeaderMark}
use Rattle.rtsp_head.specs.declared.marks.HeadMarks.{HeadMarks}
use Rattle.rtsp_head.specs.declared.marks.StartMark.{StartMark}
use Rattle.rtsp_head.specs.declared.marks.TheConstants.{MOST_MARKS}

-- the marks of all headers, where they are known
abbrev pub marks_known : HeadMarks → Option (List HeaderMark)
marks_known it = if nat_le it.count MOST_MARKS then Some (take it.count it.marks) else None

-- the header whose line stands first in these bytes
abbrev pub header_marked : List ℕ → HeaderMark → Header
header_marked lines mark = record { name = take mark.name lines; value = trimmed (drop (mark.name + 1) (take mark.line lines)) }

-- the headers whose lines stand first in these bytes, one behind another, each with CRLF at its end
abbrev pub headers_marked : List ℕ → List HeaderMark → List Header
headers_marked lines [] = []
headers_marked lines (mark ∷ marks) = header_marked lines mark ∷ headers_marked (drop (mark.line + 2) lines) marks

-- how many bytes these lines have
abbrev pub marked_len : List HeaderMark → ℕ
marked_len [] = 0
marked_len (mark ∷ marks) = mark.line + 2 + marked_len marks

-- Whether these lines are there, each longer than its name.
abbrev pub has_marked : List ℕ → List HeaderMark → Bool
has_marked lines marks = nat_le (marked_len marks) (length lines) && list_all (λ mark. nat_lt mark.name mark.line) marks

-- One mark more is known: that of a line of so many bytes, which takes so many with its end.
pub record IsMarkPut (old : Option (List HeaderMark)) (now : List HeaderMark) (line taken name : ℕ) : Type 0 where
  pub marks : List HeaderMark
  pub was : old ≡ Some marks
  pub is : now ≡ marks ++ record { line = line; name = name } ∷ []
  pub ends : taken ≡ line + 2
  pub few : length marks < MOST_MARKS

-- what three parts say: those of a request line, or the first and the last of a status line with a code
abbrev pub start_with : List ℕ → List ℕ → List ℕ → Option ℕ → Start
start_with first middle last None = Request first middle last
start_with first middle last (Some code) = Status first code last

-- what a first line says whose parts stand there
abbrev pub start_marked : List ℕ → StartMark → Start
start_marked line mark = start_with (take mark.first line) (drop (mark.first + 1) (take (mark.last - 1) line)) (drop mark.last line) mark.code

-- where the parts stand in a first line of so many bytes that says this
abbrev pub mark_of : ℕ → Start → StartMark
mark_of line (Request method uri version) = record { line = line; first = length method; last = line - length version; code = None }
mark_of line (Status version code reason) = record { line = line; first = length version; last = line - length reason; code = Some code }

-- whether its first part and its last are no longer than so many bytes
abbrev pub has_ends : ℕ → Start → Bool
has_ends line (Request method uri version) = nat_le (length method) line && nat_le (length version) line
has_ends line (Status version code reason) = nat_le (length version) line && nat_le (length reason) line

-- A head begins without headers, whose first line is marked: it has so many bytes, and takes so many with its end.
pub record IsStartPut (now : List HeaderMark) (mark : StartMark) (line taken : ℕ) (start : Start) : Type 0 where
  pub none : now ≡ []
  pub is : mark ≡ mark_of line start
  pub ends : taken ≡ line + 2

-- Where marks are known now, none were before, and the first line's is the same.
abbrev pub IsBegun : Option (List HeaderMark) → StartMark → Option (List HeaderMark) → StartMark → Type 0
IsBegun old was now is = IfSome now (λ known. (old ≡ Some []) × (is ≡ was))
