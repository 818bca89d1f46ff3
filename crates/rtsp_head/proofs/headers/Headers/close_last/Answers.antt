use Rattle.rtsp_head.proofs.LastLemmas.{weaker, closes}
use Rattle.rtsp_head.proofs.headers.Headers.close_last.Goals as goal

pub returns : goal.returns
returns c =
    weaker c.push.result _ _ (closes c.args.self.now c.pop.new.self c.push.new.self c.in-Some.header c.header.inside.name.now c.header.inside.value c.in_ok-closed.field-0
    c.in-Some.ensures c.header.view_is c.in_ok-closed.ensures) c.push.ensures.ok
