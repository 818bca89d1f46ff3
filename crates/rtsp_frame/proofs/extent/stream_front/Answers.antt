use Rattle.std.proofs.Common.{ℕ, length, drop, ap, ◌∙◌, arith, length-drop}
use Rattle.rtsp_head.specs.Items.{begins_blank}
use Rattle.rtsp_frame.proofs.HeadLemmas.{blank_lines_fit}
use Rattle.rtsp_frame.proofs.ExtentLemmas.{span_is}
use Rattle.rtsp_frame.proofs.AloneLemmas.{none_behind}
use Rattle.rtsp_frame.proofs.extent.stream_front.Goals as goal

pub after-requires : goal.after-requires
after-requires g c = omega (arith, blank_lines_fit c.args.stream.now, c.blank_lines-skipped.ensures.count)

pub first_span-requires : goal.first_span-requires
first_span-requires g c =
    ap begins_blank (c.after.ensures ∙ ap (λ (n : ℕ). drop n c.args.stream.now) c.blank_lines-skipped.ensures.count) ∙ none_behind c.args.stream.now

pub returns-in-Ok-clause-steps : goal.returns-in-Ok-clause-steps
returns-in-Ok-clause-steps g c =
    let is = span_is c.after.result.now c.in-Ok.span c.in-Ok.ensures.found in
    let some = is.not_empty in
    let fits = is.fits in
    omega (
      arith,
      c.in-Ok.ensures.steps,
      c.blank_lines-skipped.ensures.steps,
      blank_lines_fit c.args.stream.now,
      c.blank_lines-skipped.ensures.count,
      ap length c.after.ensures,
      length-drop c.blank_lines-skipped.result c.args.stream.now,
    )
