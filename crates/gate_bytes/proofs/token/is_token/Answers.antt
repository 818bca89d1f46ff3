use Rattle.std.proofs.Common.{◌∙◌}
use Rattle.gate_bytes.proofs.TokenLemmas.{same_token}
use Rattle.gate_bytes.proofs.token.is_token.Goals as goal

pub returns : goal.returns
returns c = c.is_token.ensures ∙ same_token c.args.text.now
