-- A channel is that of a stream of one of the sessions.
use Rattle.std.proofs.Common.{◌∙◌}
use Rattle.translate_up.proofs.ViewLemmas.{any_taken}
use Rattle.translate_up.proofs.channels.is_taken.Goals as goal

pub returns : goal.returns
returns c = c.is_taken_among.ensures ∙ any_taken c.args.sessions.now c.args.pair
