use Rattle.std.proofs.Common.{◌∙◌, sym, ap}
use Rattle.std.specs.Prelude.{nat_eq}
use Rattle.std.specs.HashSet.{contains}
use Rattle.gateway_claim.specs.declared.event.Outcome.{Outcome}
use Rattle.test_transcripts.proofs.RefuserLemmas.{item_fault}
use Rattle.test_transcripts.proofs.refuser.Refuser.give.Goals as goal

pub returns-in-Client-clause-over : goal.returns-in-Client-clause-over
returns-in-Client-clause-over c =
    c.take.ensures.over ∙ c.requires.standing ∙ sym (ap (λ (o : Outcome). o.fault) c.take.ensures.outcome ∙ item_fault (contains nat_eq c.args.self.now.numbers c.in-Client.conn) c.in-Client.item.kind c.in-Client.conn)
