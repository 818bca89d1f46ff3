use Rattle.std.proofs.Common.{ℕ, List, sym, ◌∙◌, ap, take}
use Rattle.std.proofs.Math.Seq.{drop-length}
use Rattle.rtsp_head.proofs.CutLemmas.{no_control}
use Rattle.rtsp_head.proofs.SearchLemmas.{line_alone, line_found}
use Rattle.rtsp_head.specs.Lines.{has_control}
use Rattle.rtsp_head.proofs.line.first_line.Goals as goal

pub clean-requires : goal.clean-requires
clean-requires c = no_control c.args.bytes.now c.in_default.ensures.clear

pub returns-in_default : goal.returns-in_default
returns-in_default c =
    ap (λ (t : List ℕ). (t, c.after.result.now)) c.clean.ensures ∙ ap (λ (t : List ℕ). (c.args.bytes.now, t)) (c.after.ensures ∙ drop-length c.args.bytes.now)
    ∙ sym (line_alone c.args.bytes.now c.in_default.ensures.clear)

pub clean-requires-in-Some-after_end : goal.clean-requires-in-Some-after_end
clean-requires-in-Some-after_end c =
    ap has_control c.before-in-Some-after_end.ensures
    ∙ no_control (take c.in-Some.at c.args.bytes.now) c.in-Some.ensures.clear

pub returns-in-Some-after_end : goal.returns-in-Some-after_end
returns-in-Some-after_end c =
    let bytes = c.args.bytes.now in
    let rest = c.in-Some-after_end.rest.now in
    let found = line_found bytes c.in-Some.at c.after-2.result.now rest c.after-2.ensures c.in-Some.ensures.clear c.in-Some-after_end.ensures in
    ap (λ (t : List ℕ). (t, rest)) (c.clean-in-Some-after_end.ensures ∙ c.before-in-Some-after_end.ensures) ∙ sym found
