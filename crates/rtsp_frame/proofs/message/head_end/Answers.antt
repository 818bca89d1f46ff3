use Rattle.std.proofs.Common.{◌≡◌, ◌+◌, ◌≤◌, ◌<◌, length, take, drop, sym, ap, ◌∙◌, arith}
use Rattle.gate_bytes.specs.Ascii.{lf}
use Rattle.gate_bytes.specs.Places.{place_of}
use Rattle.rtsp_head.specs.Lines.{is_empty_line}
use Rattle.std.proofs.lemmas.List.{length-drop, length-take-le}
use Rattle.rtsp_frame.proofs.WholeHeadLemmas.{full_some}
use Rattle.rtsp_frame.proofs.ReachLemmas.{line_ends, line_next, line_last}
use Rattle.rtsp_frame.proofs.message.head_end.Goals as goal

pub returns-then-is_empty_line-clause-ok : goal.returns-then-is_empty_line-clause-ok
returns-then-is_empty_line-clause-ok g c =
    line_ends c.args.bytes.now c.loop-end.begin c.loop-end.from c.in-Some.end c.loop-end.invariant.reached
    (ap (place_of lf) (sym c.after.ensures) ∙ sym c.in-Some.ensures.place)
    (ap is_empty_line (sym (c.after-in-Some.ensures ∙ ap (drop c.loop-end.begin) c.before-in-Some.ensures)) ∙ sym c.is_empty_line.ensures.empty ∙ c.if-is_empty_line.true)

pub loop-end-preserved : goal.loop-end-preserved
loop-end-preserved g c =
    let fits : c.in-Some.end < length (drop c.loop-end.from c.args.bytes.now) = omega (arith, c.in-Some.ensures.within, ap length c.after.ensures) in
    let further : c.args.searched ≤ c.loop-end.from = c.loop-end.invariant.further in
    record {
      reached =
          line_next c.args.bytes.now c.loop-end.begin c.loop-end.from c.in-Some.end c.loop-end.invariant.reached fits
          (ap (place_of lf) (sym c.after.ensures) ∙ sym c.in-Some.ensures.place)
          (ap is_empty_line (sym (c.after-in-Some.ensures ∙ ap (drop c.loop-end.begin) c.before-in-Some.ensures)) ∙ sym c.is_empty_line.ensures.empty ∙ c.if-is_empty_line.false);
      further = omega arith;
      steps =
          let sought : c.seek.new.steps ≡ c.loop-end.steps + (c.in-Some.end + 1) = grind (arith, c.in-Some.ensures.steps, c.in-Some.ensures.place) in
          omega (arith, sought, c.is_empty_line.ensures.steps, c.loop-end.invariant.steps);
      lines =
          let sought : c.seek.new.steps ≡ c.loop-end.steps + (c.in-Some.end + 1) = grind (arith, c.in-Some.ensures.steps, c.in-Some.ensures.place) in
          let some = full_some c.after-in-Some.result.now (sym c.is_empty_line.ensures.empty ∙ c.if-is_empty_line.false) in
          let line_len = ap length (c.after-in-Some.ensures ∙ ap (drop c.loop-end.begin) c.before-in-Some.ensures) in
          let rest_len = length-drop c.loop-end.begin (take (c.loop-end.from + c.in-Some.end) c.args.bytes.now) in
          let front_len = length-take-le (c.loop-end.from + c.in-Some.end) c.args.bytes.now (omega (arith, fits, length-drop c.loop-end.from c.args.bytes.now)) in
          let order = c.loop-end.invariant.reached.order in
          omega (arith, sought, some, line_len, rest_len, front_len, order, c.is_empty_line.ensures.steps, c.loop-end.invariant.lines);
    }

pub returns-then-is_empty_line-clause-lines : goal.returns-then-is_empty_line-clause-lines
returns-then-is_empty_line-clause-lines g c =
    let sought : c.seek.new.steps ≡ c.loop-end.steps + (c.in-Some.end + 1) = grind (arith, c.in-Some.ensures.steps, c.in-Some.ensures.place) in
    omega (arith, sought, c.loop-end.invariant.reached.order, c.is_empty_line.ensures.steps, c.loop-end.invariant.lines)

pub returns-clause-err_lines : goal.returns-clause-err_lines
returns-clause-err_lines g c =
    let sought : c.seek.new.steps ≡ c.loop-end.steps + length c.after.result.now = grind (arith, c.in_default.ensures.steps, c.in_default.ensures.place) in
    let left = ap length c.after.ensures in
    omega (arith, sought, left, length-drop c.loop-end.from c.args.bytes.now, c.loop-end.invariant.reached.order, c.loop-end.invariant.reached.within, c.loop-end.invariant.lines)

pub returns-clause-err : goal.returns-clause-err
returns-clause-err g c =
    line_last c.args.bytes.now c.loop-end.begin c.loop-end.from c.loop-end.invariant.reached
    (ap (place_of lf) (sym c.after.ensures) ∙ sym c.in_default.ensures.place)
