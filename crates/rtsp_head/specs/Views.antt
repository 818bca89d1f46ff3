-- What the private types of this crate say, without where it lies in memory.
use Rattle.std.specs.Prelude.{◌≡◌, false, List}
use Rattle.gate_bytes.specs.Tokens.{trimmed}
use Rattle.rtsp_head.specs.HeadParts.{Start, Request, Status}
use Rattle.rtsp_head.specs.declared.start.StartLine.{StartLine}
use Rattle.rtsp_head.specs.declared.start.StartLine.TheVariants as start_lines
use Rattle.rtsp_head.specs.declared.further.FurtherLine.{FurtherLine}
use Rattle.rtsp_head.specs.declared.further.FurtherLine.TheVariants as further_lines
use Rattle.rtsp_head.specs.declared.header_lines.Reading.{Reading}
use Rattle.rtsp_head.specs.declared.header.Header.{Header}
use Rattle.rtsp_head.specs.declared.head_fields.HeadFields.{HeadFields}
use Rattle.rtsp_head.specs.declared.head_fields.HeadFields.TheVariants.{Marked, Listed}
use Rattle.rtsp_head.specs.Marks.{headers_marked}
use Rattle.rtsp_head.specs.Headers.{Further, More, Begins, SoFar, headers_in}
use Rattle.rtsp_head.specs.LastHeader.{apart}

-- what a first line says whose parts are borrowed
abbrev pub start_seen : StartLine → Start
start_seen (start_lines.Request method uri version) = Request method.now uri.now version.now
start_seen (start_lines.Status version code reason) = Status version.now code reason.now

-- what a further line says whose parts are borrowed, with blanks round its text or value
abbrev pub further_seen : FurtherLine → Further
further_seen (further_lines.More text) = More (trimmed text.now)
further_seen (further_lines.Begins name value) = Begins (record { name = name.now; value = trimmed value.now })

-- the headers that were read so far
abbrev pub so_far : Reading → SoFar
so_far reading = apart reading.headers

-- the last value has no blanks at its ends, where it was not joined of several lines
abbrev pub IsClosed : Reading → Type 0
IsClosed reading = reading.folded ≡ false → headers_in (apart reading.headers) ≡ reading.headers

-- the headers, wherever they are looked up
abbrev pub fields_seen : HeadFields → List Header
fields_seen (Marked it) = headers_marked it.lines.now it.marks.now
fields_seen (Listed headers) = headers
