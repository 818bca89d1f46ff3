use Rattle.std.proofs.Common.{arith}
use Rattle.client_machine.proofs.SeenReplyLemmas.{session_is, session_short}
use Rattle.client_machine.proofs.player_reply.session_told.Goals as goal

pub returns-in_err-field-clause-said : goal.returns-in_err-field-clause-said
returns-in_err-field-clause-said c = grind (arith, session_is)

pub returns-clause-said : goal.returns-clause-said
returns-clause-said c = grind (arith, session_is)

pub returns-clause-timeout : goal.returns-clause-timeout
returns-clause-timeout c = session_short c.read_session.result c.in_ok-field.field-0.now c.read_session.ensures
