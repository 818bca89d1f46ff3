use Rattle.std.proofs.Common.{arith}
use Rattle.gate_bytes.specs.Ascii.{lf}
use Rattle.rtsp_head.specs.declared.line.TheConstants.{SHORT_LINE}
use Rattle.rtsp_head.proofs.SearchLemmas.{cut_near, near_within}
use Rattle.rtsp_head.proofs.line.cut_line.Goals as goal

pub before-requires-2 : goal.before-requires-2
before-requires-2 c =
    let less = near_within c.args.bytes.now SHORT_LINE c.before-2.result.now c.in-Some.at c.before-2.ensures c.in-Some.ensures.within in
    omega (arith, less)

pub after-requires : goal.after-requires
after-requires c =
    let less = near_within c.args.bytes.now SHORT_LINE c.before-2.result.now c.in-Some.at c.before-2.ensures c.in-Some.ensures.within in
    omega (arith, less)

pub returns-clause-parts : goal.returns-clause-parts
returns-clause-parts c =
    cut_near lf c.args.bytes.now SHORT_LINE c.before-2.result.now c.in-Some.at c.before-3.result.now c.after.result.now
    c.before-2.ensures c.in-Some.ensures.place c.before-3.ensures c.after.ensures
