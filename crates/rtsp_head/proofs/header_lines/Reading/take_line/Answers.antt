use Rattle.std.proofs.Common.{sym, ◌∙◌, ap}
use Rattle.gate_bytes.specs.Tokens.{trimmed}
use Rattle.rtsp_head.proofs.TrimLemmas.{trimmed_twice}
use Rattle.rtsp_head.proofs.header_lines.Reading.take_line.Goals as goal

pub begin-requires-clause-tidy : goal.begin-requires-clause-tidy
begin-requires-clause-tidy c = ap trimmed c.trim-2.ensures ∙ trimmed_twice c.in-Some.value.now ∙ sym c.trim-2.ensures
