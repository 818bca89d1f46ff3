use Rattle.command_line.proofs.ArgumentLemmas.{checked}
use Rattle.command_line.proofs.arguments.words_are_checked_as_arguments.Goals as goal

pub returns : goal.returns
returns c = checked
