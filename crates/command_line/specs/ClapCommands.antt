-- The commands as clap knows them, and their words by name (this project's own).
use Rattle.std.specs.Prelude.{◌≡◌, ℕ, true, codes, List, [], ◌∷◌}
use Rattle.clap.specs.Words.{App, Rule, new_app, new_rule, with_rule}
use Rattle.command_line.specs.Words.{replay_word, drill_word, serve_word}

-- a word that a command needs
abbrev pub needed_word : List ℕ → Rule
needed_word id = record (new_rule id) { required = true }

-- the command with such words of these names added, one after the other
abbrev pub with_needed : App → List (List ℕ) → App
with_needed app [] = app
with_needed app (id ∷ ids) = with_needed (with_rule app (needed_word id)) ids

-- replay, as clap knows it
abbrev pub replay_app : App
replay_app = with_needed (new_app replay_word) (codes "FRONT" ∷ codes "UP" ∷ [])

-- drill, as clap knows it
abbrev pub drill_app : App
drill_app = with_needed (new_app drill_word) (codes "CLIENTS" ∷ codes "NUMBER" ∷ [])

-- serve, as clap knows it
abbrev pub serve_app : App
serve_app = with_needed (new_app serve_word) (codes "FRONT" ∷ codes "UP" ∷ codes "LISTEN" ∷ codes "STATIONS" ∷ codes "RECORD" ∷ [])

-- What clap is handed: the command's name, the mark behind which nothing is an option, and the two words.
abbrev pub clap_line : List ℕ → List ℕ → List ℕ → List (List ℕ)
clap_line name one other = name ∷ codes "--" ∷ one ∷ other ∷ []

-- some two words behind this name
pub record IsClapLine (name : List ℕ) (line : List (List ℕ)) : Type 0 where
  pub one : List ℕ
  pub other : List ℕ
  pub words_are : line ≡ clap_line name one other

-- what it is handed of `serve`, with five words
abbrev pub serve_line : List ℕ → List ℕ → List ℕ → List ℕ → List ℕ → List (List ℕ)
serve_line front up listen stations recorder = serve_word ∷ codes "--" ∷ front ∷ up ∷ listen ∷ stations ∷ recorder ∷ []

-- some five words behind `serve`
pub record IsServeLine (line : List (List ℕ)) : Type 0 where
  pub front : List ℕ
  pub up : List ℕ
  pub listen : List ℕ
  pub stations : List ℕ
  pub recorder : List ℕ
  pub words_are : line ≡ serve_line front up listen stations recorder
