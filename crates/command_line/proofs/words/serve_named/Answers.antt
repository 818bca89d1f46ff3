use Rattle.std.proofs.Common.{◌∙◌, sym}
use Rattle.gate_bytes.specs.Numbers.{number_in}
use Rattle.command_line.specs.declared.options.TheConstants.{MOST_STATIONS}
use Rattle.command_line.specs.declared.kinds.TheConstants.{STATIONS_DIGITS}
use Rattle.command_line.proofs.CountLemmas.{one_to_bounds}
use Rattle.command_line.proofs.words.serve_named.Goals as goal

pub invariant_of-result : goal.invariant_of-result
invariant_of-result c = record {
  some = one_to_bounds MOST_STATIONS (number_in STATIONS_DIGITS c.args.words.stations.now) c.unwrap-stations.result (sym c.read_stations.ensures ∙ c.unwrap-stations.ensures);
}
