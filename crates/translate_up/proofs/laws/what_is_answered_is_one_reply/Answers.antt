use Rattle.translate_up.proofs.AnswerLemmas.{decide_answers}
use Rattle.translate_up.proofs.laws.what_is_answered_is_one_reply.Goals as goal

pub returns : goal.returns
returns c given shape fit short = decide_answers given shape fit short
