use Rattle.rtsp_transport.proofs.SplitLemmas.{first_apart, parts_whole}
use Rattle.rtsp_transport.proofs.split.first_part.Goals as goal

pub returns-in-Some-clause-parts : goal.returns-in-Some-clause-parts
returns-in-Some-clause-parts c =
    first_apart c.args.byte c.args.text.now c.before-in-Some.result.now c.after.result.now c.in-Some.at c.in-Some.ensures.place c.before-in-Some.ensures c.after.ensures

pub returns-in-None-clause-parts : goal.returns-in-None-clause-parts
returns-in-None-clause-parts c = parts_whole c.args.byte c.args.text.now c.in-None.ensures.place
