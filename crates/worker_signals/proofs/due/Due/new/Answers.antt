use Rattle.worker_signals.specs.declared.flow.TheConstants.{PLACES}
use Rattle.worker_signals.proofs.DueLemmas.{nobody_due}
use Rattle.worker_signals.proofs.due.Due.new.Goals as goal

pub returns : goal.returns
returns c = λ place. nobody_due PLACES place
