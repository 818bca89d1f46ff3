-- The arguments of commands.
use Rattle.std.proofs.Common.{◌≡◌, map, Some, refl}
use Rattle.std.specs.Prelude.{option_map}
use Rattle.command_line.specs.declared.arguments.Form.{Form}
use Rattle.command_line.specs.declared.arguments.Form.TheVariants.{Replay, Drill, Serve}
use Rattle.command_line.specs.Words.{kinds_after}
use Rattle.command_line.specs.Arguments.{form_word, arguments_of, argument_kind}

-- the kinds behind a command are those of its arguments
pub checked : (form : Form) → option_map (map Some) (kinds_after (form_word form)) ≡ Some (map argument_kind (arguments_of form))
checked Replay = refl
checked Drill = refl
checked Serve = refl
