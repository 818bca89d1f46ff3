use Rattle.std.proofs.Common.{◌∙◌}
use Rattle.gate_bytes.proofs.PlaceLemmas.{finds_any}
use Rattle.gate_bytes.proofs.place.holds_either.Goals as goal

pub returns : goal.returns
returns c = c.is_some.ensures ∙ finds_any _ _ _ c.memchr2.ensures
