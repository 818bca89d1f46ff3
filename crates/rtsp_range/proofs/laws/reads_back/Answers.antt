use Rattle.rtsp_range.proofs.WrittenMeans.{written_means}
use Rattle.rtsp_range.proofs.laws.reads_back.Goals as goal

pub returns : goal.returns
returns c = written_means
