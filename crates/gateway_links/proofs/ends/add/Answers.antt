use Rattle.std.proofs.Common.{[], ◌∙◌}
use Rattle.gateway_links.proofs.MoveLemmas.{moves_then, moves_all}
use Rattle.gateway_links.proofs.ends.add.Goals as goal

pub returns-clause-moves : goal.returns-clause-moves
returns-clause-moves g c =
    moves_then (g.O.Sink.written c.args.outlet.now) (g.O.Sink.written c.write_out.new.outlet) (g.O.Sink.written c.write_all.new.sink)
    c.args.held.now c.write_out.new.held c.add-2.new.self [] c.args.bytes.now c.write_all.result
    (rw c.if-add.ensures.same at c.in_ok-write_out.ensures.moves)
    (moves_all (g.O.Sink.written c.write_out.new.outlet) (g.O.Sink.written c.write_all.new.sink) c.write_out.new.held c.add-2.new.self c.args.bytes.now c.write_all.result
    c.in_ok-write_out.ensures.empty (c.if-add-2.ensures.same ∙ c.in_ok-write_out.ensures.empty) c.write_all.ensures.bytes)
