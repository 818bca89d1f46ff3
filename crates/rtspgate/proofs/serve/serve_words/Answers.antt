use Rattle.std.proofs.Common.{map}
use Rattle.std.specs.Prelude.{string_bytes}
use Rattle.command_line.specs.declared.words.Command.TheVariants.{Serve}
use Rattle.command_line.specs.Words.{NamesCommand}
use Rattle.gateway_run.specs.WholeRun.{RunSeen}
use Rattle.rtspgate.proofs.ServeLemmas.{serves_named}
use Rattle.rtspgate.proofs.UsageLemmas.{unknown_told}
use Rattle.rtspgate.proofs.serve.serve_words.Goals as goal

pub returns-in-Ok-Serve-clause-serves : goal.returns-in-Ok-Serve-clause-serves
returns-in-Ok-Serve-clause-serves g c =
    let names : NamesCommand (Serve c.in-Ok-Serve.options) (map string_bytes c.args.words.now) = (rw c.in-Ok-Serve.field-0-is at c.in-Ok-Serve.ensures).0 in
    let seen : RunSeen = record {
      recorded = g.W.World.recorded c.serve_players.new.world;
      left = g.W.World.links_left c.serve_players.new.world;
      opened = g.W.World.tally c.args.world.now;
      closed = g.W.World.tally c.serve_players.new.world;
      before = g.K.Sink.written c.args.sink.now;
      now = g.K.Sink.written c.serve_players.new.sink;
      faults = g.K.Sink.faults c.args.sink.now;
      later = g.K.Sink.faults c.serve_players.new.sink;
    } in
    serves_named (map string_bytes c.args.words.now) c.in-Ok-Serve.options c.serve_players.result seen names c.serve_players.ensures.says

pub returns-in-Err-clause-unknown : goal.returns-in-Err-clause-unknown
returns-in-Err-clause-unknown g c = rw c.refusal.ensures (unknown_told c.in-Err.fault (map string_bytes c.args.words.now) c.in-Err.ensures)
