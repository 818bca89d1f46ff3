-- The session at the place is changed.
use Rattle.std.proofs.Common.{rules}
use Rattle.client_slot.specs.NewSessions.{id_kept, described_kept}
use Rattle.client_slot.specs.Changes.{session_after}
use Rattle.client_slot.proofs.PlaceLemmas.{set_where}
use Rattle.client_slot.proofs.final_reply.turn_at.Goals as goal

pub returns-in-Some : goal.returns-in-Some
returns-in-Some c =
    set_where c.args.place c.in-Some.place c.from.result (session_after c.args.purpose c.args.reply.number c.args.reply.code (described_kept c.args.reply.made) (id_kept c.args.reply.made)) c.args.sessions.now.items c.index_mut.result.now c.turn_session.new.session c.in-Some.is c.from.ensures (search rules) (search rules) c.turn_session.ensures
