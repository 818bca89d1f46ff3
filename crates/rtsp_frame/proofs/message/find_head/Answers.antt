use Rattle.std.proofs.Common.{◌≡◌, ◌+◌, ◌*◌, ◌≤◌, ℕ, List, length, take, ap, ◌∙◌, subst, arith}
use Rattle.std.proofs.lemmas.List.{length-take-le}
use Rattle.rtsp_head.specs.LineWalk.{IsPassed}
use Rattle.rtsp_frame.proofs.WholeHeadLemmas.{head_long, end_left, looks_paid, looks_paid_on}
use Rattle.rtsp_head.specs.Marks.{marks_known}
use Rattle.rtsp_head.specs.MarkedHeads.{IsMarkedHead}
use Rattle.rtsp_head.proofs.MarkLemmas.{known_whole}
use Rattle.rtsp_frame.proofs.message.find_head.Goals as goal

pub returns-then-ends_head-clause-cost : goal.returns-then-ends_head-clause-cost
returns-then-ends_head-clause-cost g c =
    let first = c.ends_head.ensures.none c.if-ends_head.true in
    let long = head_long c.args.bytes.now c.whole_head.result.len c.requires.begins c.whole_head.ensures.ends in
    omega (arith, first, long, c.ends_head.ensures.few, c.whole_head.ensures.steps)

pub before-requires : goal.before-requires
before-requires g c = c.in-Ok.ensures.within

pub returns-in-Ok-clause-cost : goal.returns-in-Ok-clause-cost
returns-in-Ok-clause-cost g c =
    let len = c.in-Ok.len in
    let rest = c.check_front_counted-facts.result.rest.now in
    let long = head_long c.args.bytes.now len c.requires.begins c.in-Ok.ensures.ok in
    let passed : IsPassed (take len c.args.bytes.now) rest = subst (λ (l : List ℕ). IsPassed l rest) c.before-in-Ok.ensures c.check_front_counted-facts.ensures.passed in
    let some = end_left c.args.bytes.now rest len c.in-Ok.ensures.ok passed in
    let all : length c.before-in-Ok.result.now ≡ len = ap length c.before-in-Ok.ensures ∙ length-take-le len c.args.bytes.now c.in-Ok.ensures.within in
    let check : c.check_front_counted-facts.new.steps + 2 ≤ c.head_end.new.steps + 4 * len = omega (arith, some, all, c.check_front_counted-facts.ensures.steps) in
    looks_paid c.args.searched c.args.line c.args.steps.now c.ends_head.new.steps c.head_end.new.steps c.check_front_counted-facts.new.steps len c.ends_head.ensures.few c.ends_head.ensures.later c.in-Ok.ensures.cost
    c.in-Ok.ensures.lines check long

pub returns-in-Ok-clause-marks : goal.returns-in-Ok-clause-marks
returns-in-Ok-clause-marks g c =
    let marks = c.check_front_counted-facts.new.marks in
    subst (λ (head : List ℕ). IsMarkedHead head marks) c.before-in-Ok.ensures (known_whole c.before-in-Ok.result.now marks.start (marks_known marks) c.check_front_counted-facts.ensures.marks)

pub returns-in-Err-clause-err_cost : goal.returns-in-Err-clause-err_cost
returns-in-Err-clause-err_cost g c =
    looks_paid_on c.args.searched c.args.line c.args.steps.now c.ends_head.new.steps c.head_end.new.steps (length c.args.bytes.now) c.ends_head.ensures.paid c.ends_head.ensures.later c.in-Err.ensures.err_cost
    c.in-Err.ensures.err_lines
