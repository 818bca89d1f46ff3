use Rattle.rtsp_status.proofs.RowLemmas.{told_has_reason}
use Rattle.rtsp_status.proofs.code.told_codes_have_reasons.Goals as goal

pub returns : goal.returns
returns c = told_has_reason
