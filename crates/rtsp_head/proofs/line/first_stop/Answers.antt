use Rattle.std.proofs.Common.{length, None, Some, sym, ap, ◌∙◌, arith}
use Rattle.std.proofs.lemmas.List.{length-drop}
use Rattle.rtsp_head.specs.declared.line.TheConstants.{SHORT_LINE}
use Rattle.rtsp_head.proofs.SearchLemmas.{found_near, found_far}
use Rattle.rtsp_head.proofs.line.first_stop.Goals as goal

pub returns-then-is_some-clause-clear : goal.returns-then-is_some-clause-clear
returns-then-is_some-clause-clear c =
    (found_near c.args.bytes.now c.before-2.result.now SHORT_LINE c.stop_in-near.result c.before-2.ensures
    (sym c.is_some.ensures ∙ c.if-is_some.true) c.stop_in-near.ensures.clear c.stop_in-near.ensures.within).0

pub returns-then-is_some-clause-within : goal.returns-then-is_some-clause-within
returns-then-is_some-clause-within c =
    (found_near c.args.bytes.now c.before-2.result.now SHORT_LINE c.stop_in-near.result c.before-2.ensures
    (sym c.is_some.ensures ∙ c.if-is_some.true) c.stop_in-near.ensures.clear c.stop_in-near.ensures.within).1

pub returns-in-None-clause-clear : goal.returns-in-None-clause-clear
returns-in-None-clause-clear c =
    found_far c.args.bytes.now c.before-2.result.now c.after.result.now SHORT_LINE c.stop_in-near.result None (omega arith) c.before-2.ensures c.after.ensures
    (sym c.is_some.ensures ∙ c.if-is_some.false) c.stop_in-near.ensures.clear c.in-None.ensures.clear

pub returns-in-Some-clause-clear : goal.returns-in-Some-clause-clear
returns-in-Some-clause-clear c =
    found_far c.args.bytes.now c.before-2.result.now c.after.result.now SHORT_LINE c.stop_in-near.result (Some c.in-Some.far) (omega arith) c.before-2.ensures c.after.ensures
    (sym c.is_some.ensures ∙ c.if-is_some.false) c.stop_in-near.ensures.clear c.in-Some.ensures.clear

pub returns-in-Some-clause-within : goal.returns-in-Some-clause-within
returns-in-Some-clause-within c = omega (arith, c.in-Some.ensures.within, ap length c.after.ensures, length-drop SHORT_LINE c.args.bytes.now)
