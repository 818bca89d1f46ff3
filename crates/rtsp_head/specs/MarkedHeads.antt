-- The marks of a head's first line and headers (this project's own).
use Rattle.std.specs.Prelude.{◌≡◌, ℕ, ◌+◌, ◌<◌, ◌≤◌, nat_le, Bool, true, List, length, take, drop, Option, Some, None, Ok, IfSome}
use Rattle.rtsp_head.specs.declared.header.Header.{Header}
use Rattle.rtsp_head.specs.declared.marks.HeaderMark.{HeaderMark}
use Rattle.rtsp_head.specs.declared.marks.HeadMarks.{HeadMarks}
use Rattle.rtsp_head.specs.declared.marks.StartMark.{StartMark}
use Rattle.rtsp_head.specs.Starts.{start_of}
use Rattle.rtsp_head.specs.Lines.{first_line, head_lines}
use Rattle.rtsp_head.specs.Headers.{header_limit, headers_of, Begins, further_of}
use Rattle.rtsp_head.specs.Items.{head_len}
use Rattle.rtsp_head.specs.Marks.{marks_known, start_marked, headers_marked, marked_len, has_marked, IsMarkPut}

-- whether so many bytes end before a head does, if it ends
abbrev pub is_short_of : Option ℕ → ℕ → Bool
is_short_of None len = true
is_short_of (Some end) len = nat_le len end

-- The marks are those of all headers in the lines of a head behind its first, up to its empty line.
pub record AreMarks (lines : List ℕ) (marks : List HeaderMark) : Type 0 where
  pub headers : headers_of header_limit (head_lines lines) ≡ Ok (headers_marked lines marks)
  pub there : has_marked lines marks ≡ true

-- The mark is that of the first line of a head, which ends with CRLF. Other bytes may stand behind the head.
pub record IsStartMark (bytes : List ℕ) (mark : StartMark) : Type 0 where
  pub line : (first_line bytes).0 ≡ take mark.line bytes
  pub rest : (first_line bytes).1 ≡ drop (mark.line + 2) bytes
  pub says : start_of (take mark.line bytes) ≡ Ok (start_marked (take mark.line bytes) mark)
  pub apart : mark.first + 1 < mark.last
  pub within : mark.last ≤ mark.line
  pub there : mark.line + 2 ≤ length bytes

-- The marks are those of a whole head.
pub record AreHeadMarks (head : List ℕ) (mark : StartMark) (marks : List HeaderMark) : Type 0 where
  pub start : IsStartMark head mark
  pub lines : AreMarks (first_line head).1 marks

-- The same of a head behind which other bytes may stand.
pub record AreFrontMarks (bytes : List ℕ) (mark : StartMark) (marks : List HeaderMark) : Type 0 where
  pub start : IsStartMark bytes mark
  pub lines : AreMarks (first_line bytes).1 marks
  pub short : is_short_of (head_len (first_line bytes).1) (marked_len marks) ≡ true

-- the marks of a head, where they are known
abbrev pub IsMarkedHead : List ℕ → HeadMarks → Type 0
IsMarkedHead head marks = IfSome (marks_known marks) (AreHeadMarks head marks.start)

-- One mark more is known, since this line begins a header.
pub record IsLineMarked (old : Option (List HeaderMark)) (now : List HeaderMark) (line : List ℕ) (taken : ℕ) : Type 0 where
  pub header : Header
  pub begins : further_of line ≡ Ok (Begins header)
  pub put : IsMarkPut old now (length line) taken (length header.name)

-- what is known of the marks has one proof at most
pub known_prop : (head : List ℕ) (mark : StartMark) (marks : Option (List HeaderMark)) → IsProp (Unit {0}) → ((known : List HeaderMark) → IsProp (AreHeadMarks head mark known)) → IsProp (IfSome marks (AreHeadMarks head mark))
known_prop head mark None none each = none
known_prop head mark (Some known) none each = each known
