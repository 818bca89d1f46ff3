use Rattle.head_two.proofs.AnswerLemmas.{answers_read}
use Rattle.head_two.proofs.law.answers_in_a_row.Goals as goal

pub returns : goal.returns
returns c = answers_read
