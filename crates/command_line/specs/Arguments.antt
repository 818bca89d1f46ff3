-- The commands and their arguments by name, as people are told of them (this project's own).
use Rattle.std.specs.Prelude.{ℕ, ◌-◌, ◌==◌, List, [], ◌∷◌, Option, Some, None, slice_get, if◌then◌else◌}
use Rattle.std.specs.Str.{bytes_eq}
use Rattle.command_line.specs.declared.arguments.Argument.{Argument}
use Rattle.command_line.specs.declared.arguments.Argument.TheVariants.{Command, Front, Up, Clients, Number, Listen, Stations, Record}
use Rattle.command_line.specs.declared.arguments.Form.{Form}
use Rattle.command_line.specs.declared.arguments.Form.TheVariants.{Replay, Drill, Serve}
use Rattle.command_line.specs.declared.kinds.Kind.{Kind}
use Rattle.command_line.specs.declared.kinds.Kind.TheVariants as kind
use Rattle.command_line.specs.Words.{replay_word, drill_word, serve_word}

-- the first word of a command
abbrev pub form_word : Form → List ℕ
form_word Replay = replay_word
form_word Drill = drill_word
form_word Serve = serve_word

-- what stands behind it, in order
abbrev pub arguments_of : Form → List Argument
arguments_of Replay = Front ∷ Up ∷ []
arguments_of Drill = Clients ∷ Number ∷ []
arguments_of Serve = Front ∷ Up ∷ Listen ∷ Stations ∷ Record ∷ []

-- the kind by which the word of an argument is checked; the command itself is of none
abbrev pub argument_kind : Argument → Option Kind
argument_kind Command = None
argument_kind Front = Some kind.Base
argument_kind Up = Some kind.Base
argument_kind Clients = Some kind.Clients
argument_kind Number = Some kind.Number
argument_kind Listen = Some kind.Name
argument_kind Stations = Some kind.Stations
argument_kind Record = Some kind.Name

-- the command with this first word
abbrev pub form_named : List ℕ → Option Form
form_named name =
    if bytes_eq name replay_word then Some Replay
    else (if bytes_eq name drill_word then Some Drill
    else (if bytes_eq name serve_word then Some Serve else None))

-- the command that words begin with
abbrev pub form_of : List (List ℕ) → Option Form
form_of [] = None
form_of (command ∷ words) = form_named command

-- the argument at a place behind the command
abbrev pub argument_behind : Option Form → ℕ → Option Argument
argument_behind None place = None
argument_behind (Some form) place = slice_get (arguments_of form) place

-- the argument at a place of the words, the command itself at the first; nothing where none belongs
abbrev pub argument_at : List (List ℕ) → ℕ → Option Argument
argument_at words place = if place == 0 then Some Command else argument_behind (form_of words) (place - 1)
