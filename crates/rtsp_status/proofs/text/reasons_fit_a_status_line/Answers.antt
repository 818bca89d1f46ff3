use Rattle.rtsp_status.proofs.ReasonLemmas.{reason_fits}
use Rattle.rtsp_status.proofs.text.reasons_fit_a_status_line.Goals as goal

pub returns : goal.returns
returns c = reason_fits
