use Rattle.head_one.proofs.ReadLemmas.{replies_read}
use Rattle.head_one.proofs.law.replies_in_a_row.Goals as goal

pub returns : goal.returns
returns c reply rest is = replies_read reply rest is
