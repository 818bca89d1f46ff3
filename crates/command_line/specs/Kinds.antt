-- What words after a command are. This project's own.
use Rattle.std.specs.Prelude.{◌≡◌, ℕ, ◌+◌, ◌==◌, ◌||◌, ◌&&◌, not, nat_lt, nat_le, Bool, true, false, List, [], ◌∷◌, length, Option, Some, None, is_some, Result, Ok, Err, if◌then◌else◌}
use Rattle.gate_bytes.specs.Ascii.{hyphen}
use Rattle.gate_bytes.specs.Numbers.{number_in}
use Rattle.rtsp_uri.specs.Uris.{begins_with}
use Rattle.rtsp_uri.specs.Words.{base_in}
use Rattle.command_line.specs.declared.options.TheConstants.{MOST_STATIONS}
use Rattle.command_line.specs.declared.kinds.TheConstants.{CLIENTS_DIGITS, MOST_CLIENTS, NUMBER_DIGITS, STATIONS_DIGITS, LONGEST_NAME}
use Rattle.command_line.specs.declared.kinds.Kind.{Kind}
use Rattle.command_line.specs.declared.kinds.Kind.TheVariants.{Base, Clients, Number, Name, Stations}
use Rattle.command_line.specs.declared.kinds.WordsFault.{WordsFault}
use Rattle.command_line.specs.declared.kinds.WordsFault.TheVariants.{Place, Memory}

-- the word names a base
abbrev pub is_base_word : List ℕ → Bool
is_base_word word = is_some (base_in word)

-- at least one, and no more than the most
abbrev pub one_to : ℕ → Option ℕ → Option ℕ
one_to most None = None
one_to most (Some count) = if count == 0 || nat_lt most count then None else Some count

-- the number of players that a word tells
abbrev pub clients_in : List ℕ → Option ℕ
clients_in word = one_to MOST_CLIENTS (number_in CLIENTS_DIGITS word)

-- the number of a drill that a word tells
abbrev pub drill_number_in : List ℕ → Option ℕ
drill_number_in word = number_in NUMBER_DIGITS word

-- the number of stations that a word tells
abbrev pub stations_in : List ℕ → Option ℕ
stations_in word = one_to MOST_STATIONS (number_in STATIONS_DIGITS word)

-- the word can name an address to listen at or a recording: it has some bytes, not too many, and no `-` at its front
abbrev pub is_name_word : List ℕ → Bool
is_name_word word = nat_lt 0 (length word) && nat_le (length word) LONGEST_NAME && not (begins_with hyphen word)

-- the word is of this kind
abbrev pub is_of : Kind → List ℕ → Bool
is_of Base word = is_base_word word
is_of Clients word = is_some (clients_in word)
is_of Number word = is_some (drill_number_in word)
is_of Name word = is_name_word word
is_of Stations word = is_some (stations_in word)

-- the first place, counted on from this one, whose word is missing, not of its kind, or one too many
abbrev pub first_fault : ℕ → List Kind → List (List ℕ) → Option ℕ
first_fault place [] [] = None
first_fault place [] (word ∷ words) = Some place
first_fault place (kind ∷ kinds) [] = Some place
first_fault place (kind ∷ kinds) (word ∷ words) = if is_of kind word then first_fault (place + 1) kinds words else Some place

-- the kind of an address
abbrev pub is_address_kind : Kind → Bool
is_address_kind Base = true
is_address_kind other = false

-- a word stands where an address belongs
abbrev pub meets_address : List Kind → List (List ℕ) → Bool
meets_address [] words = false
meets_address (kind ∷ kinds) [] = false
meets_address (kind ∷ kinds) (word ∷ words) = is_address_kind kind || meets_address kinds words

-- What the check of words by their kinds answers: that each is right, or the first place that is not, or that memory
-- was wanting to read an address.
abbrev pub ChecksWords : Result (Unit {0}) WordsFault → List Kind → List (List ℕ) → Type 0
ChecksWords (Ok done) kinds words = first_fault 1 kinds words ≡ None
ChecksWords (Err (Place place)) kinds words = first_fault 1 kinds words ≡ Some place
ChecksWords (Err Memory) kinds words = meets_address kinds words ≡ true
