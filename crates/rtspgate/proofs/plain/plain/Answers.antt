use Rattle.std.proofs.Common.{◌+◌, map}
use Rattle.std.specs.Prelude.{string_bytes}
use Rattle.gateway_replay.specs.Replays.{limit}
use Rattle.rtspgate.proofs.UsageLemmas.{usage_says, unknown_told, named_usage, refusal_says, plain_says}
use Rattle.gateway_replay.proofs.SourceLemmas.{nothing_taken}
use Rattle.rtspgate.proofs.plain.plain.Goals as goal

pub returns-in-Err-clause-usage : goal.returns-in-Err-clause-usage
returns-in-Err-clause-usage g c = rw c.refusal.ensures (usage_says c.in-Err.fault _ c.in-Err.ensures)

pub returns-in-Err-clause-unknown : goal.returns-in-Err-clause-unknown
returns-in-Err-clause-unknown g c = rw c.refusal.ensures (unknown_told c.in-Err.fault (map string_bytes c.args.words.now) c.in-Err.ensures)

pub returns-in-Ok-clause-usage : goal.returns-in-Ok-clause-usage
returns-in-Ok-clause-usage g c =
    named_usage (map string_bytes c.args.words.now) c.in-Ok.command c.obey.result (g.S.Source.rest c.args.source.now) (g.S.Source.rest c.obey.new.source)
    (g.K.Sink.written c.args.sink.now) (g.K.Sink.written c.obey.new.sink) c.in-Ok.ensures.0 c.in-Ok.ensures.1 c.obey.ensures.says

pub returns-in-Err-clause-says : goal.returns-in-Err-clause-says
returns-in-Err-clause-says g c =
    rw c.refusal.ensures (refusal_says (map string_bytes c.args.words.now) c.in-Err.fault (g.S.Source.rest c.args.source.now) (g.K.Sink.written c.args.sink.now) c.in-Err.ensures)

pub returns-in-Ok-clause-says : goal.returns-in-Ok-clause-says
returns-in-Ok-clause-says g c =
    plain_says (map string_bytes c.args.words.now) c.in-Ok.command c.obey.result (g.S.Source.rest c.args.source.now) (g.S.Source.rest c.obey.new.source)
    (g.K.Sink.written c.args.sink.now) (g.K.Sink.written c.obey.new.sink) c.in-Ok.ensures.0 c.obey.ensures.says

pub returns-in-Err-clause-taken : goal.returns-in-Err-clause-taken
returns-in-Err-clause-taken g c = nothing_taken (limit + 1) (g.S.Source.rest c.args.source.now)
