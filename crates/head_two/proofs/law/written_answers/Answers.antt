use Rattle.std.proofs.Common.{refl}
use Rattle.head_two.proofs.AnswerLemmas.{answer_read, answer_told}
use Rattle.head_two.proofs.law.written_answers.Goals as goal

pub returns : goal.returns
returns c = record { one = answer_read; told = λ code cseq session known short value. answer_told code cseq session short; no_request = λ code cseq session. refl }
