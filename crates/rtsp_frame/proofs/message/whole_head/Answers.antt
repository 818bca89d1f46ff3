use Rattle.std.proofs.Common.{◌+◌, ◌-◌, length, ◌∙◌, sym, ap}
use Rattle.std.specs.Option.{option_map}
use Rattle.rtsp_head.specs.Marks.{marks_known}
use Rattle.rtsp_head.proofs.PassLemmas.{head_alone}
use Rattle.rtsp_head.proofs.MarkLemmas.{known_front}
use Rattle.rtsp_frame.proofs.ReachLemmas.{line_endless}
use Rattle.rtsp_frame.proofs.WholeHeadLemmas.{rest_ends}
use Rattle.rtsp_frame.proofs.message.whole_head.Goals as goal

pub unreachable-requires : goal.unreachable-requires
unreachable-requires g c =
    let rest = c.check_front_counted-front.result.rest.now in
    rest_ends c.args.bytes.now rest c.requires c.check_front_counted-front.ensures.passed (line_endless rest c.in-Err.field-0 c.in-Err.ensures.err)

pub returns-clause-facts : goal.returns-clause-facts
returns-clause-facts g c =
    let passed = c.check_front_counted-front.ensures.passed in
    c.check_front_counted-front.ensures.facts
    ∙ sym (head_alone c.args.bytes.now _ (passed.ends ∙ ap (option_map (λ k. length c.args.bytes.now - length c.check_front_counted-front.result.rest.now + k)) c.in-Ok.ensures.ok))

pub returns-clause-marks : goal.returns-clause-marks
returns-clause-marks g c =
    let passed = c.check_front_counted-front.ensures.passed in
    known_front c.args.bytes.now _ c.check_front_counted-front.new.marks.start (marks_known c.check_front_counted-front.new.marks)
    (passed.ends ∙ ap (option_map (λ k. length c.args.bytes.now - length c.check_front_counted-front.result.rest.now + k)) c.in-Ok.ensures.ok) c.check_front_counted-front.ensures.marks
