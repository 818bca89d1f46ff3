use Rattle.rtsp_transport.proofs.ApartLemmas.{pick_apart}
use Rattle.rtsp_transport.proofs.alternative.pick.Goals as goal

pub returns-clause-apart : goal.returns-clause-apart
returns-clause-apart c = pick_apart c.args.value.now c.first_fit.result c.ok_or.result c.first_fit.ensures c.ok_or.ensures.value
