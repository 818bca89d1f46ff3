-- What clap takes, and what it hands out.
use Rattle.std.proofs.Common.{◌≡◌, ℕ, refl, codes, true, List, Option, Some, None, IsSome, ◌∙◌, ap, ap₂, sym, rules}
use Rattle.clap.specs.Words.{App, first_of, first_value, found_of, matches_of, HasMatchesOf, is_simple, takes}
use Rattle.clap.specs.declared.parser.matches.ArgMatches.{ArgMatches}
use Rattle.clap.proofs.OnLiterals.{clap_on_literals}
use Rattle.clap.proofs.WalkLemmas.{first_value-rows}
use Rattle.command_line.specs.Words.{replay_word, drill_word}
use Rattle.command_line.specs.ClapCommands.{replay_app, drill_app, serve_app, clap_line, serve_line}

pub replay_taken : (one other : List ℕ) → takes replay_app (clap_line replay_word one other) ≡ true
unfolding clap_on_literals
replay_taken one other = refl

pub drill_taken : (one other : List ℕ) → takes drill_app (clap_line drill_word one other) ≡ true
unfolding clap_on_literals
drill_taken one other = refl

pub serve_taken : (front up listen stations recorder : List ℕ) → takes serve_app (serve_line front up listen stations recorder) ≡ true
unfolding clap_on_literals
serve_taken front up listen stations recorder = refl

-- the value that matches have by a name
value_named : (app known : App) (words line : List (List ℕ)) (matches : ArgMatches) (id value : List ℕ) → app ≡ known → words ≡ line → is_simple known ≡ true
    → HasMatchesOf app words matches → first_of id (matches_of known line) ≡ Some value → first_value (found_of matches) id ≡ Some value
value_named app known words line matches id value app_is words_are simple has named =
    first_value-rows (found_of matches) id
    ∙ ap (first_of id) ((has (ap is_simple app_is ∙ simple)).0 ∙ ap₂ matches_of app_is words_are)
    ∙ named

-- two words by these names
pub record FindsTwo (matches : ArgMatches) (first second one other : List ℕ) : Type 0 where
  pub one_is : first_value (found_of matches) first ≡ Some one
  pub other_is : first_value (found_of matches) second ≡ Some other

pub replay_found : (app : App) (words : List (List ℕ)) (matches : ArgMatches) (one other : List ℕ) → app ≡ replay_app → words ≡ clap_line replay_word one other → HasMatchesOf app words matches →
    FindsTwo matches (codes "FRONT") (codes "UP") one other
unfolding clap_on_literals
replay_found app words matches one other app_is words_are has = record {
  one_is = value_named app replay_app words (clap_line replay_word one other) matches (codes "FRONT") one app_is words_are refl has refl;
  other_is = value_named app replay_app words (clap_line replay_word one other) matches (codes "UP") other app_is words_are refl has refl;
}

pub drill_found : (app : App) (words : List (List ℕ)) (matches : ArgMatches) (one other : List ℕ) → app ≡ drill_app → words ≡ clap_line drill_word one other → HasMatchesOf app words matches →
    FindsTwo matches (codes "CLIENTS") (codes "NUMBER") one other
unfolding clap_on_literals
drill_found app words matches one other app_is words_are has = record {
  one_is = value_named app drill_app words (clap_line drill_word one other) matches (codes "CLIENTS") one app_is words_are refl has refl;
  other_is = value_named app drill_app words (clap_line drill_word one other) matches (codes "NUMBER") other app_is words_are refl has refl;
}

-- the words of `serve` by their names
pub record FindsFive (matches : ArgMatches) (front up listen stations recorder : List ℕ) : Type 0 where
  pub front_is : first_value (found_of matches) (codes "FRONT") ≡ Some front
  pub up_is : first_value (found_of matches) (codes "UP") ≡ Some up
  pub listen_is : first_value (found_of matches) (codes "LISTEN") ≡ Some listen
  pub stations_is : first_value (found_of matches) (codes "STATIONS") ≡ Some stations
  pub recorder_is : first_value (found_of matches) (codes "RECORD") ≡ Some recorder

pub serve_found : (app : App) (words : List (List ℕ)) (matches : ArgMatches) (front up listen stations recorder : List ℕ) → app ≡ serve_app →
    words ≡ serve_line front up listen stations recorder → HasMatchesOf app words matches → FindsFive matches front up listen stations recorder
unfolding clap_on_literals
serve_found app words matches front up listen stations recorder app_is words_are has = record {
  front_is = value_named app serve_app words (serve_line front up listen stations recorder) matches (codes "FRONT") front app_is words_are refl has refl;
  up_is = value_named app serve_app words (serve_line front up listen stations recorder) matches (codes "UP") up app_is words_are refl has refl;
  listen_is = value_named app serve_app words (serve_line front up listen stations recorder) matches (codes "LISTEN") listen app_is words_are refl has refl;
  stations_is = value_named app serve_app words (serve_line front up listen stations recorder) matches (codes "STATIONS") stations app_is words_are refl has refl;
  recorder_is = value_named app serve_app words (serve_line front up listen stations recorder) matches (codes "RECORD") recorder app_is words_are refl has refl;
}

pub is_there : (found : Option (List ℕ)) (value : List ℕ) → found ≡ Some value → IsSome found
is_there None value named = cc
is_there (Some word) value named = search rules

-- what was handed out is the word that was found
pub handed_out : (found : Option (List ℕ)) (word value : List ℕ) → found ≡ Some word → found ≡ Some value → value ≡ word
handed_out found word value is named = let same : Some value ≡ Some word = sym named ∙ is in cc

pub same_serve_line : (a b c d e front up listen stations recorder : List ℕ) → a ≡ front → b ≡ up → c ≡ listen → d ≡ stations → e ≡ recorder →
    serve_line a b c d e ≡ serve_line front up listen stations recorder
same_serve_line a b c d e front up listen stations recorder x y z u v = cc
