use Rattle.std.proofs.Common.{◌≡◌, drop}
use Rattle.rtsp_head.specs.Headers.{field_of}
use Rattle.rtsp_head.proofs.headers.Headers.find.Given as goal

-- the field is among those that are left
abbrev pub invariant-loop-header : goal.invariant-loop-header
invariant-loop-header l = field_of (drop l.header-index l.header-items) l.name ≡ field_of l.header-items l.name
