-- The session is there.
use Rattle.std.proofs.Common.{arith}
use Rattle.client_machine.proofs.TreatLemmas.{counted_where, named_at, named_there}
use Rattle.client_machine.proofs.treat.count_play.Goals as goal

pub returns-in-Some-sessions : goal.returns-in-Some-sessions
returns-in-Some-sessions c = grind (arith, counted_where, named_at)

pub returns-in_default-sessions : goal.returns-in_default-sessions
returns-in_default-sessions c = absurd (named_there c.args.sessions.now c.args.place c.in-Some.place c.from.result _ c.in-Some.is c.from.ensures c.requires.named c.in_default-sessions.is)
