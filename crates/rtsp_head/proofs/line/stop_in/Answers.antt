use Rattle.rtsp_head.proofs.SearchLemmas.{passed_over}
use Rattle.rtsp_head.proofs.line.stop_in.Goals as goal

pub returns-clause-clear : goal.returns-clause-clear
returns-clause-clear c = passed_over c.args.bytes.now c.memchr3.result c.memchr3.ensures
