use Rattle.std.proofs.Common.{◌∙◌, ap, sym}
use Rattle.rtsp_small.specs.Sessions.{timeout_in}
use Rattle.rtsp_small.proofs.SessionLemmas.{timeout_found, timeout_later, timeout_last}
use Rattle.rtsp_small.proofs.session.first_timeout.Goals as goal

pub returns-then-is_some : goal.returns-then-is_some
returns-then-is_some c =
    timeout_found c.loop-parameter.rest.now c.in-Some.parameter.now c.in-Some.more.now c.read_timeout-timeout.result c.in-Some.ensures.parts
    (c.read_timeout-timeout.ensures ∙ ap timeout_in c.trim.ensures) (sym c.is_some.ensures ∙ c.if-is_some.true) ∙ c.loop-parameter.invariant

pub loop-parameter-preserved : goal.loop-parameter-preserved
loop-parameter-preserved c =
    timeout_later c.loop-parameter.rest.now c.in-Some.parameter.now c.in-Some.more.now c.read_timeout-timeout.result c.in-Some.ensures.parts
    (c.read_timeout-timeout.ensures ∙ ap timeout_in c.trim.ensures) (sym c.is_some.ensures ∙ c.if-is_some.false) ∙ c.loop-parameter.invariant

pub returns : goal.returns
returns c =
    timeout_last c.loop-parameter.rest.now c.read_timeout.result c.in_default.ensures.parts (c.read_timeout.ensures ∙ ap timeout_in c.trim-2.ensures) ∙ c.loop-parameter.invariant
