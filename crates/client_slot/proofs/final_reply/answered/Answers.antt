-- A reply to DESCRIBE leaves the sessions.
use Rattle.std.proofs.Common.{sym}
use Rattle.client_slot.specs.NewSessions.{id_kept, described_kept}
use Rattle.client_slot.proofs.PlaceLemmas.{nothing_changed_where}
use Rattle.client_slot.proofs.QuietLemmas.{described_same}
use Rattle.client_slot.proofs.final_reply.answered.Goals as goal

pub returns-then-is_granted-clause-sessions : goal.returns-then-is_granted-clause-sessions
returns-then-is_granted-clause-sessions c =
    sym (nothing_changed_where c.args.place _ c.args.sessions.now.items
    (described_same c.args.reply.number c.args.reply.code (described_kept c.args.reply.made) (id_kept c.args.reply.made) c.args.asked c.args.track c.in-Describe.is))

pub returns-else-is_granted-clause-sessions : goal.returns-else-is_granted-clause-sessions
returns-else-is_granted-clause-sessions c =
    sym (nothing_changed_where c.args.place _ c.args.sessions.now.items
    (described_same c.args.reply.number c.args.reply.code (described_kept c.args.reply.made) (id_kept c.args.reply.made) c.args.asked c.args.track c.in-Describe.is))
