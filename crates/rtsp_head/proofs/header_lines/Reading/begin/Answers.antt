use Rattle.std.proofs.Common.{length, ap, arith}
use Rattle.rtsp_head.specs.Views.{so_far}
use Rattle.rtsp_head.proofs.LastLemmas.{begun, tidy_last, has_place}
use Rattle.rtsp_head.proofs.header_lines.Reading.begin.Goals as goal

pub returns-clause-ok : goal.returns-clause-ok
returns-clause-ok c =
    begun (so_far c.args.self.now) c.close_last.new.self.headers c.push_read.new.self c.args.name.now c.args.value.now c.new.result
    c.in_ok-close_last.ensures.headers (omega (arith, has_place (so_far c.args.self.now) _ c.requires.room, ap length (c.in_ok-close_last.ensures.headers))) c.in_ok-push_read.ensures.ok c.new.ensures

pub returns-clause-closed : goal.returns-clause-closed
returns-clause-closed c = λ unfolded.
    tidy_last c.close_last.new.self.headers c.push_read.new.self c.args.name.now c.args.value.now c.new.result c.in_ok-push_read.ensures.ok c.new.ensures c.requires.tidy
