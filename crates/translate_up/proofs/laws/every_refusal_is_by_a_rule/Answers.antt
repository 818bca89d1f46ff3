use Rattle.translate_up.proofs.RuleLemmas.{refused_by_rule}
use Rattle.translate_up.proofs.laws.every_refusal_is_by_a_rule.Goals as goal

pub returns : goal.returns
returns c judged method said uri code refused = refused_by_rule judged method said uri code refused
