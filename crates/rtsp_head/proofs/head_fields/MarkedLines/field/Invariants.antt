use Rattle.std.proofs.Common.{◌≡◌, ◌≤◌, true, length, drop}
use Rattle.rtsp_head.specs.Headers.{field_of}
use Rattle.rtsp_head.specs.Marks.{headers_marked, has_marked}
use Rattle.rtsp_head.proofs.head_fields.MarkedLines.field.Given as goal

-- the field is among those of the lines that are left, and these are there
abbrev pub invariant-loop-mark : goal.invariant-loop-mark
invariant-loop-mark l = record {
  field : field_of (headers_marked (drop l.at l.self.lines.now) (drop l.mark-index l.mark-items)) l.name ≡ field_of (headers_marked l.self.lines.now l.self.marks.now) l.name;
  there : has_marked (drop l.at l.self.lines.now) (drop l.mark-index l.mark-items) ≡ true;
  within : l.at ≤ length l.self.lines.now;
}
