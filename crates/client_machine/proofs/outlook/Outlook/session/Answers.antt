-- The session that changes, or another one.
use Rattle.std.proofs.Common.{sym, arith}
use Rattle.client_machine.proofs.SightLemmas.{here_is, apart_is, same_is}
use Rattle.client_machine.proofs.outlook.Outlook.session.Goals.{in_default-via-in_default}
use Rattle.client_machine.proofs.outlook.Outlook.session.Goals as goal

pub returns-in-Some : goal.returns-in-Some
returns-in-Some c = sym (here_is c.args.self.now c.in-Some.changed c.args.place c.in-Some.is c.if-changed-place.true c.requires)

pub returns-in_default : goal.returns-in_default
returns-in_default c = grind (arith, apart_is, in_default-via-in_default, same_is)
