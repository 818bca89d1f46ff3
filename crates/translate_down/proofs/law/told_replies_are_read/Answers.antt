use Rattle.translate_down.proofs.ReadLemmas.{down_read, down_row}
use Rattle.translate_down.proofs.law.told_replies_are_read.Goals as goal

pub returns : goal.returns
returns c = record { one = down_read; row = down_row }
