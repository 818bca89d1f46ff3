use Rattle.client_machine.proofs.KeepLemmas.{step_alive, live_unclosed}
use Rattle.client_machine.proofs.laws.what_is_not_closed_is_alive.Goals as goal

pub returns-clause-step : goal.returns-clause-step
returns-clause-step c bases number pair client event = step_alive bases number pair client event

pub returns-clause-run : goal.returns-clause-run
returns-clause-run c bases events = live_unclosed bases events
