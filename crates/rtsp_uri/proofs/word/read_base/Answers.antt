use Rattle.std.proofs.Common.{sym, ◌∙◌, arith}
use Rattle.rtsp_uri.proofs.WordLemmas.{base_read, made_some, made_none}
use Rattle.rtsp_uri.proofs.word.read_base.Goals as goal

pub returns-in-Some-clause-ok : goal.returns-in-Some-clause-ok
returns-in-Some-clause-ok c =
    let names = sym c.names_base.ensures ∙ c.if-not-names_base.false in
    let read = base_read c.args.word.now c.in-Ok.url c.as_bytes.result.now (omega arith) c.in-Ok.ensures names (c.as_bytes.ensures.value ∙ c.authority.ensures) in
    made_some c.as_bytes.result.now _ c.in-Some.base _ c.in_ok-base.ensures c.in-Some.is read

pub returns-clause-refused : goal.returns-clause-refused
returns-clause-refused c = λ refused.
    let names = sym c.names_base.ensures ∙ c.if-not-names_base.false in
    let read = base_read c.args.word.now c.in-Ok.url c.as_bytes.result.now (omega arith) c.in-Ok.ensures names (c.as_bytes.ensures.value ∙ c.authority.ensures) in
    made_none c.as_bytes.result.now _ _ c.in_ok-base.ensures c.in-None.is read
