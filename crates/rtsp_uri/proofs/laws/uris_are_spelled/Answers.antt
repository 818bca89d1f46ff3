use Rattle.rtsp_uri.proofs.CutLemmas.{cut_is_spelled}
use Rattle.rtsp_uri.proofs.GrammarLemmas.{spelled_is_cut}
use Rattle.rtsp_uri.proofs.laws.uris_are_spelled.Goals as goal

pub returns-clause-cut : goal.returns-clause-cut
returns-clause-cut c = cut_is_spelled

pub returns-clause-all : goal.returns-clause-all
returns-clause-all c = spelled_is_cut
