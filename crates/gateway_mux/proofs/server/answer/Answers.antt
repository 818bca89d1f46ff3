-- It is short.
use Rattle.std.proofs.Common.{List, ℕ, Some, sym, subst}
use Rattle.std.specs.Option.{option_copied}
use Rattle.std.proofs.lemmas.Result.{IfOk-weaker}
use Rattle.gateway_mux.specs.Short.{IsShortAnswer}
use Rattle.gateway_mux.proofs.AnswerLengthLemmas.{lent_valid, answer_short}
use Rattle.gateway_mux.proofs.server.answer.Goals as goal

pub returns-clause-short : goal.returns-clause-short
returns-clause-short c =
    IfOk-weaker c.write_answer.result _ _
    (λ text is.
    subst (λ (bytes : List ℕ). IsShortAnswer (Some bytes)) (sym is)
    (answer_short c.args.code c.args.cseq (option_copied c.args.session) c.ranges.code.fits c.ranges.cseq.fits (lent_valid c.args.session c.requires.session)))
    c.write_answer.ensures
