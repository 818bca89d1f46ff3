use Rattle.rtsp_range.proofs.MeaningSpelling.{meaning_spelled}
use Rattle.rtsp_range.proofs.MeaningMeans.{spelled_means}
use Rattle.rtsp_range.proofs.laws.spelled_so.Goals as goal

pub returns : goal.returns
returns c version value range = (meaning_spelled version value range, spelled_means version value range)
