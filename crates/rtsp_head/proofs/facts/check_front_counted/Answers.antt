use Rattle.std.proofs.Common.{◌≡◌, ℕ, ◌-◌, length, true, sym, subst, arith}
use Rattle.rtsp_head.specs.Lines.{head_lines}
use Rattle.rtsp_head.proofs.FaultLemmas.{start_needs_none, length_needs_none}
use Rattle.rtsp_head.specs.Marks.{marks_known, has_ends}
use Rattle.rtsp_head.specs.Views.{start_seen}
use Rattle.rtsp_head.proofs.StartMarkLemmas.{start_places}
use Rattle.rtsp_head.proofs.MarkLemmas.{put_none, known_behind}
use Rattle.rtsp_head.proofs.facts.check_front_counted.Goals as goal

pub returns-in-Ok-clause-never : goal.returns-in-Ok-clause-never
returns-in-Ok-clause-never g c = λ wants.
    length_needs_none (head_lines c.in-Some.rest.now) (grind (arith, wants, c.map.ensures.cases, c.check_headers-length.ensures.length))

pub returns-in-Err-clause-never : goal.returns-in-Err-clause-never
returns-in-Err-clause-never g c = λ wants. start_needs_none c.in-Some.line (grind (arith, wants, c.in-Err.ensures))

pub begin-requires : goal.begin-requires
begin-requires g c =
    subst (λ (n : ℕ). has_ends n (start_seen c.in-Ok.start) ≡ true) (sym c.len-len.ensures) (start_places c.in-Some.line (start_seen c.in-Ok.start) (sym c.in-Ok.ensures)).ends

pub check_headers-length-requires : goal.check_headers-length-requires
check_headers-length-requires g c = put_none (marks_known c.begin.new.self) c.begin.new.self.start c.len-len.result (length c.args.bytes.now - length c.in-Some.rest.now) (start_seen c.in-Ok.start) c.begin.ensures

pub returns-in-Ok-clause-marks : goal.returns-in-Ok-clause-marks
returns-in-Ok-clause-marks g c =
    known_behind c.args.bytes.now c.in-Some.line c.in-Some.rest.now (marks_known c.begin.new.self) (marks_known c.check_headers-length.new.marks) c.len-len.result c.begin.new.self.start c.check_headers-length.new.marks.start
    (start_seen c.in-Ok.start) c.in-Some.ensures.first (sym c.in-Ok.ensures) c.len-len.ensures c.begin.ensures c.check_headers-length.ensures.begun c.check_headers-length.ensures.marks c.check_headers-length.ensures.short
