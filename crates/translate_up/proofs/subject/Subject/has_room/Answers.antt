-- A place that shows no session is empty.
use Rattle.std.proofs.Common.{◌∙◌}
use Rattle.translate_up.proofs.ViewLemmas.{any_empty}
use Rattle.translate_up.proofs.subject.Subject.has_room.Goals as goal

pub returns : goal.returns
returns c = c.has_empty.ensures ∙ any_empty c.args.self.now.view.now.sessions.now
