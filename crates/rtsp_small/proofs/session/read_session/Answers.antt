-- The first byte that no id has tells whether parameters follow.
use Rattle.std.proofs.Common.{◌∙◌, sym, arith}
use Rattle.std.proofs.lemmas.Bool.{ne_eqb}
use Rattle.rtsp_small.proofs.SessionLemmas.{id_front, id_alone, session_whole, session_cut, session_refused}
use Rattle.rtsp_small.proofs.session.read_session.Goals as goal

pub session-requires : goal.session-requires
session-requires c = id_alone c.args.value.now (sym c.foreign_byte.ensures.place ∙ c.in_default.is)

pub returns-in_default : goal.returns-in_default
returns-in_default c = c.session.ensures ∙ session_whole c.args.value.now (id_alone c.args.value.now (sym c.foreign_byte.ensures.place ∙ c.in_default.is))

pub returns-then-value-end-ne59 : goal.returns-then-value-end-ne59
returns-then-value-end-ne59 c = sym (session_refused c.args.value.now c.in-Some.end 0 (sym c.foreign_byte.ensures.place ∙ c.in-Some.is) (ne_eqb _ 59 c.if-value-end-ne59.true))

pub session-requires-2 : goal.session-requires-2
session-requires-2 c = rw c.before-2.ensures (id_front c.args.value.now c.in-Some.end (sym c.foreign_byte.ensures.place ∙ c.in-Some.is))

pub returns : goal.returns
returns c =
    c.session-2.ensures ∙ rw (c.before-2.ensures, c.first_timeout.ensures, c.after.ensures)
    (session_cut c.args.value.now c.in-Some.end 0 (sym c.foreign_byte.ensures.place ∙ c.in-Some.is) (omega (arith, c.if-value-end-ne59.false)))
