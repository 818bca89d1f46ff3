use Rattle.rtsp_uri.proofs.ControlLemmas.{description_kept}
use Rattle.rtsp_uri.proofs.laws.other_descriptions_stay.Goals as goal

pub returns : goal.returns
returns c = description_kept
