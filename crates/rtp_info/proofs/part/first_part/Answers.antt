use Rattle.rtp_info.proofs.PartLemmas.{first_apart, one_part, some_part}
use Rattle.rtp_info.proofs.part.first_part.Goals as goal

pub returns-in-Some-clause-parts : goal.returns-in-Some-clause-parts
returns-in-Some-clause-parts c = first_apart c.args.byte c.args.text.now c.in-Some.part.now c.in-Some.rest.now c.in-Some.ensures.parts

pub returns-in-Some-clause-last : goal.returns-in-Some-clause-last
returns-in-Some-clause-last c = some_part c.args.byte c.in-Some.rest.now

pub returns-in-None-clause-parts : goal.returns-in-None-clause-parts
returns-in-None-clause-parts c = one_part c.args.byte c.args.text.now c.in-None.ensures.parts
