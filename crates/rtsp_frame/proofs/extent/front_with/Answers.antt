use Rattle.std.proofs.Common.{length, take, sym, ap, ◌∙◌, subst, arith}
use Rattle.rtsp_frame.specs.declared.item_front.ItemFront.{ItemFront}
use Rattle.rtsp_frame.specs.declared.item_front.StreamFront.{StreamFront}
use Rattle.rtsp_frame.specs.Fronts.{IsKnownFront, head_held}
use Rattle.rtsp_frame.specs.StreamFronts.{IsStreamFront, at_once, owed}
use Rattle.rtsp_frame.proofs.FrontLemmas.{begins_full}
use Rattle.rtsp_frame.proofs.RestLemmas.{begins_known, reached_known, end_known, stream_of_span, paid_once}
use Rattle.rtsp_frame.proofs.extent.front_with.Goals as goal

pub message_span-requires-clause-begins : goal.message_span-requires-clause-begins
message_span-requires-clause-begins g c =
    begins_known c.args.bytes.now c.args.held c.in-Line.line (subst (λ (f : ItemFront). IsKnownFront (take c.args.held c.args.bytes.now) f) c.in-Line.is c.requires.known)

pub message_span-requires-clause-reached : goal.message_span-requires-clause-reached
message_span-requires-clause-reached g c =
    reached_known c.args.bytes.now c.args.held c.in-Line.line c.requires.within (subst (λ (f : ItemFront). IsKnownFront (take c.args.held c.args.bytes.now) f) c.in-Line.is c.requires.known)

pub returns-in-Line-clause-front : goal.returns-in-Line-clause-front
returns-in-Line-clause-front g c =
    let begins = begins_known c.args.bytes.now c.args.held c.in-Line.line (subst (λ (f : ItemFront). IsKnownFront (take c.args.held c.args.bytes.now) f) c.in-Line.is c.requires.known) in
    subst (λ (f : StreamFront). IsStreamFront c.args.bytes.now f) (sym c.at_once-in-Line.ensures)
    (stream_of_span c.args.bytes.now c.message_span.result (begins_full c.args.bytes.now begins) c.message_span.ensures.found)

pub returns-in-Line-clause-steps : goal.returns-in-Line-clause-steps
returns-in-Line-clause-steps g c =
    let paid = paid_once c.args.bytes.now c.message_span.result c.args.held c.requires.within c.message_span.ensures.found c.message_span.ensures.more in
    let due = ap (λ (f : StreamFront). owed f (length c.args.bytes.now)) c.at_once-in-Line.ensures in
    let credit = ap (λ (f : ItemFront). head_held f c.args.held) c.in-Line.is in
    omega (arith, paid, due, credit, c.message_span.ensures.steps, c.requires.within)

pub returns-in-End-clause-front : goal.returns-in-End-clause-front
returns-in-End-clause-front g c =
    subst (λ (f : StreamFront). IsStreamFront c.args.bytes.now f) (sym (c.at_once-in-End.ensures ∙ ap at_once c.when_come.ensures))
    (end_known c.args.bytes.now c.args.held c.in-End.span (subst (λ (f : ItemFront). IsKnownFront (take c.args.held c.args.bytes.now) f) c.in-End.is c.requires.known))
