use Rattle.std.proofs.Common.{◌∙◌}
use Rattle.rtsp_uri.specs.Descriptions.{rewritten}
use Rattle.rtsp_uri.proofs.LineLemmas.{line_written, last_written, line_ended}
use Rattle.rtsp_uri.proofs.description.rewrite_sdp.Goals as goal

pub before-requires : goal.before-requires
before-requires c = (line_ended c.loop-line.rest.now c.in-Some.line.now c.in-Some.left.now c.in-Some.ensures.parts).0

pub push_ended-requires : goal.push_ended-requires
push_ended-requires c =
    c.before-in-Some.ensures ∙ (line_ended c.loop-line.rest.now c.in-Some.line.now c.in-Some.left.now c.in-Some.ensures.parts).1

pub loop-line-preserved : goal.loop-line-preserved
loop-line-preserved c =
    line_written c.args.from.now.text c.args.to.now.text c.loop-line.text c.loop-line.rest.now c.in-Some.line.now c.in-Some.left.now c.push_ended.new.text
    (rewritten c.args.from.now.text c.args.to.now.text c.args.body.now) c.in-Some.ensures.parts c.in_ok-push_ended.ensures c.loop-line.invariant

pub returns : goal.returns
returns c =
    last_written c.args.from.now.text c.args.to.now.text c.loop-line.text c.loop-line.rest.now c.push_line.new.text (rewritten c.args.from.now.text c.args.to.now.text c.args.body.now)
    c.in_default.ensures.parts c.in_ok-push_line.ensures c.loop-line.invariant
