-- A session that is there has what it is about.
use Rattle.std.proofs.Common.{◌∙◌, rules, ap}
use Rattle.std.specs.Prelude.{is_some}
use Rattle.client_slot.specs.Client.{Client}
use Rattle.client_slot.specs.Session.{PlayerSession}
use Rattle.client_slot.specs.Places.{session_at}
use Rattle.client_slot.proofs.PlaceLemmas.{lent_at}
use Rattle.client_slot.proofs.TidyLemmas.{tidy_at, control_there}
use Rattle.client_slot.proofs.slot.Slot.control.Goals as goal

pub returns-clause-there : goal.returns-clause-there
returns-clause-there c = λ filled.
    control_there (λ uri. uri.now) (session_at c.args.place c.self.inside.sessions.items) c.control.result (tidy_at c.args.place c.self.inside.sessions.items c.self.invariant.tidy)
    (c.control.ensures ∙ ap (λ (session : PlayerSession). session.control) (lent_at c.args.place c.from.result c.self.inside.sessions.items c.index.result.now c.from.ensures (search rules) c.index.ensures))
    (ap (λ (client : Client). is_some (session_at c.args.place client.sessions).id) c.self.view_is ∙ filled)
