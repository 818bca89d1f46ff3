use Rattle.std.proofs.Common.{sym, ◌∙◌}
use Rattle.gateway_links.proofs.Puts.{some_gives, none_gives}
use Rattle.gateway_links.proofs.next.next_item.Goals as goal

pub returns-in-None-clause-some : goal.returns-in-None-clause-some
returns-in-None-clause-some c =
    some_gives c.args.framer.now c.next.new.self c.args.waiting.now c.next.result (sym c.take.ensures.value ∙ c.in-None.is) c.next.ensures.some

pub returns-in-None-clause-none : goal.returns-in-None-clause-none
returns-in-None-clause-none c =
    none_gives c.args.framer.now c.next.new.self c.args.waiting.now c.next.result (sym c.take.ensures.value ∙ c.in-None.is) c.next.ensures.none
