use Rattle.rtsp_head.proofs.LastLemmas.{goes}
use Rattle.rtsp_head.proofs.header_lines.Reading.go_on.Goals as goal

pub returns-clause-ok : goal.returns-clause-ok
returns-clause-ok c =
    goes c.args.self.now.headers c.pop.new.self c.push.new.self c.in-Some.field c.field.inside.name.now c.field.inside.value c.args.text.now c.in_ok-with_more.field-0
    c.in-Some.ensures c.field.view_is c.in_ok-with_more.ensures c.in_ok-push.ensures.ok
