-- A session is left, or none is.
use Rattle.std.proofs.Common.{sym}
use Rattle.std.specs.Option.{option_copied}
use Rattle.client_machine.specs.Outlooks.{sights_of}
use Rattle.client_machine.proofs.SightLemmas.{left_described}
use Rattle.client_machine.proofs.after.described_left.Goals as goal

pub returns-then-has_session : goal.returns-then-has_session
returns-then-has_session c = λ sessions shows. sym (left_described _ sessions (sights_of c.args.after.now) (option_copied c.args.after.now.described) shows c.if-has_session.ensures)

pub returns-else-has_session : goal.returns-else-has_session
returns-else-has_session c = λ sessions shows. sym (left_described _ sessions (sights_of c.args.after.now) (option_copied c.args.after.now.described) shows c.if-has_session.ensures)
