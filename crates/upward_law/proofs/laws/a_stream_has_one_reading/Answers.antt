use Rattle.upward_law.proofs.ReadLemmas.{one_reading}
use Rattle.upward_law.proofs.laws.a_stream_has_one_reading.Goals as goal

pub returns : goal.returns
returns c stream one other read also = one_reading stream one other read also
