use Rattle.head_one.proofs.ReadLemmas.{reply_read, reply_told}
use Rattle.head_one.proofs.law.written_replies.Goals as goal

pub returns : goal.returns
returns c = record { one = reply_read; told = reply_told }
