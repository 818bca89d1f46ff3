use Rattle.std.proofs.Common.{◌≡◌, ◌++◌, take}
use Rattle.std.specs.List.{flat_map}
use Rattle.rtsp_head.specs.HeadText.{ended, header_text}
use Rattle.rtsp_head.proofs.message.push_headers.Given as goal

-- the lines of the headers so far
abbrev pub invariant-loop-header : goal.invariant-loop-header
invariant-loop-header l = l.text ≡ l.fn.text ++ flat_map (λ header. ended (header_text header)) (take l.header-index l.headers)
