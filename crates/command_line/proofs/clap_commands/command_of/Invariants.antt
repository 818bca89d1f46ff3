use Rattle.std.proofs.Common.{◌≡◌, length, map}
use Rattle.clap.specs.Words.{app_of, new_app}
use Rattle.command_line.specs.ClapCommands.{with_needed}
use Rattle.command_line.proofs.clap_commands.command_of.Given as goal

-- with the words that are left, the command comes to the same
abbrev pub invariant-loop-ids : goal.invariant-loop-ids
invariant-loop-ids l = with_needed (app_of l.command) (map (λ id. id.now) l.ids) ≡ with_needed (new_app l.fn.name) (map (λ id. id.now) l.fn.ids)

abbrev pub decreases-loop-ids : goal.decreases-loop-ids
decreases-loop-ids l = length l.ids
