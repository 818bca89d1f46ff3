use Rattle.head_two.proofs.ReadLemmas.{requests_read}
use Rattle.head_two.proofs.law.requests_in_a_row.Goals as goal

pub returns : goal.returns
returns c = requests_read
