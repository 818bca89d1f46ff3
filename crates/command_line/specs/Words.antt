-- The words of a command, without the program's name. This project's own.
use Rattle.std.specs.Prelude.{◌≡◌, ℕ, Bool, false, List, [], ◌∷◌, Option, Some, None, Result, Ok, Err, codes, ◌⊎◌, if◌then◌else◌}
use Rattle.std.specs.Str.{bytes_eq}
use Rattle.rtsp_uri.specs.declared.base.Bases.{Bases}
use Rattle.rtsp_uri.specs.Words.{base_in}
use Rattle.command_line.specs.declared.kinds.Kind.{Kind}
use Rattle.command_line.specs.declared.kinds.Kind.TheVariants as kind
use Rattle.command_line.specs.declared.kinds.WordsFault.{WordsFault}
use Rattle.command_line.specs.declared.kinds.WordsFault.TheVariants.{Place, Memory}
use Rattle.command_line.specs.declared.options.ServeOptions.{ServeOptions}
use Rattle.command_line.specs.declared.words.Command.{Command}
use Rattle.command_line.specs.declared.words.Command.TheVariants.{Replay, Drill, Serve}
use Rattle.command_line.specs.Kinds.{clients_in, drill_number_in, stations_in, first_fault}

-- the first word of a replay
abbrev pub replay_word : List ℕ
replay_word = codes "replay"

-- the first word of a drill
abbrev pub drill_word : List ℕ
drill_word = codes "drill"

-- the first word of a run that serves players
abbrev pub serve_word : List ℕ
serve_word = codes "serve"

-- two addresses
abbrev pub replay_kinds : List Kind
replay_kinds = kind.Base ∷ kind.Base ∷ []

-- the first word is that of `serve`
abbrev pub asks_to_serve : List (List ℕ) → Bool
asks_to_serve [] = false
asks_to_serve (command ∷ words) = bytes_eq command serve_word

-- how many players, and a number
abbrev pub drill_kinds : List Kind
drill_kinds = kind.Clients ∷ kind.Number ∷ []

-- two addresses, where to listen, how many stations, and the recording
abbrev pub serve_kinds : List Kind
serve_kinds = kind.Base ∷ kind.Base ∷ kind.Name ∷ kind.Stations ∷ kind.Name ∷ []

-- the kinds of the words after a command; nothing for an unknown one
abbrev pub kinds_after : List ℕ → Option (List Kind)
kinds_after command =
    if bytes_eq command replay_word then Some replay_kinds
    else (if bytes_eq command drill_word then Some drill_kinds
    else (if bytes_eq command serve_word then Some serve_kinds else None))

-- the first word behind a command that is wrong
abbrev pub fault_after : Option (List Kind) → List (List ℕ) → Option ℕ
fault_after None words = Some 0
fault_after (Some kinds) words = first_fault 1 kinds words

-- the place of the first word that is refused: 0 where there is no word or the command is unknown
abbrev pub word_fault : List (List ℕ) → Option ℕ
word_fault [] = Some 0
word_fault (command ∷ words) = fault_after (kinds_after command) words

-- The words name a replay between these bases.
pub record NamesReplay (bases : Bases) (words : List (List ℕ)) : Type 0 where
  pub front : List ℕ
  pub up : List ℕ
  pub words_are : words ≡ replay_word ∷ front ∷ up ∷ []
  pub front_base : base_in front ≡ Some bases.front.text
  pub up_base : base_in up ≡ Some bases.up.text

-- The words name a drill with so many players from this number.
pub record NamesDrill (clients number : ℕ) (words : List (List ℕ)) : Type 0 where
  pub clients_word : List ℕ
  pub number_word : List ℕ
  pub words_are : words ≡ drill_word ∷ clients_word ∷ number_word ∷ []
  pub clients_told : clients_in clients_word ≡ Some clients
  pub number_told : drill_number_in number_word ≡ Some number

-- The words name a run that serves players, with these options.
pub record NamesServe (options : ServeOptions) (words : List (List ℕ)) : Type 0 where
  pub front : List ℕ
  pub up : List ℕ
  pub listen : List ℕ
  pub stations : List ℕ
  pub recorder : List ℕ
  pub words_are : words ≡ serve_word ∷ front ∷ up ∷ listen ∷ stations ∷ recorder ∷ []
  pub front_base : base_in front ≡ Some options.bases.front.text
  pub up_base : base_in up ≡ Some options.bases.up.text
  pub listen_bytes : options.listen ≡ listen
  pub stations_told : stations_in stations ≡ Some options.stations
  pub recorder_bytes : options.recorder ≡ recorder

-- the words name this command
abbrev pub NamesCommand : Command → List (List ℕ) → Type 0
NamesCommand (Replay bases) words = NamesReplay bases words
NamesCommand (Drill clients number) words = NamesDrill clients number words
NamesCommand (Serve options) words = NamesServe options words

-- The words ask for a replay or to serve, and name an address at least.
pub record NamesAddress (words : List (List ℕ)) : Type 0 where
  pub command : List ℕ
  pub front : List ℕ
  pub more : List (List ℕ)
  pub words_are : words ≡ command ∷ front ∷ more
  pub between_two : (command ≡ replay_word) ⊎ (command ≡ serve_word)

-- Where memory can be wanting: an address is named, which takes memory to read; or no word is refused, and clap hands
-- them out.
abbrev pub MayLackMemory : List (List ℕ) → Type 0
MayLackMemory words = NamesAddress words ⊎ (word_fault words ≡ None)

-- A command is what the words name, and none of them is refused. A place is that of the first word that is refused.
abbrev pub ReadsWords : Result Command WordsFault → List (List ℕ) → Type 0
ReadsWords (Ok command) words = NamesCommand command words × (word_fault words ≡ None)
ReadsWords (Err (Place place)) words = word_fault words ≡ Some place
ReadsWords (Err Memory) words = MayLackMemory words
