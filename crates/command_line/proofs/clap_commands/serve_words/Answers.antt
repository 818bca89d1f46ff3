use Rattle.std.proofs.Common.{◌∙◌, ap₂, codes, map}
use Rattle.clap.specs.Words.{app_of, takes, found_of, first_value}
use Rattle.command_line.proofs.ClapLemmas.{serve_taken, serve_found, is_there, handed_out, same_serve_line}
use Rattle.command_line.proofs.clap_commands.serve_words.Goals as goal

pub matches_in-requires : goal.matches_in-requires
matches_in-requires c = ap₂ takes c.in_ok-command.ensures c.requires.words_are ∙ serve_taken c.requires.front c.requires.up c.requires.listen c.requires.stations c.requires.recorder

pub word_by-requires : goal.word_by-requires
word_by-requires c =
    let found = serve_found (app_of c.in_ok-command.command) (map (λ word. word.now) c.args.line.now) c.in_ok-matches.matches c.requires.front c.requires.up c.requires.listen c.requires.stations c.requires.recorder
    c.in_ok-command.ensures c.requires.words_are c.in_ok-matches.ensures in
    is_there (first_value (found_of c.in_ok-matches.matches) (codes "FRONT")) c.requires.front found.front_is

pub word_by-requires-2 : goal.word_by-requires-2
word_by-requires-2 c =
    let found = serve_found (app_of c.in_ok-command.command) (map (λ word. word.now) c.args.line.now) c.in_ok-matches.matches c.requires.front c.requires.up c.requires.listen c.requires.stations c.requires.recorder
    c.in_ok-command.ensures c.requires.words_are c.in_ok-matches.ensures in
    is_there (first_value (found_of c.in_ok-matches.matches) (codes "UP")) c.requires.up found.up_is

pub word_by-requires-3 : goal.word_by-requires-3
word_by-requires-3 c =
    let found = serve_found (app_of c.in_ok-command.command) (map (λ word. word.now) c.args.line.now) c.in_ok-matches.matches c.requires.front c.requires.up c.requires.listen c.requires.stations c.requires.recorder
    c.in_ok-command.ensures c.requires.words_are c.in_ok-matches.ensures in
    is_there (first_value (found_of c.in_ok-matches.matches) (codes "LISTEN")) c.requires.listen found.listen_is

pub word_by-requires-4 : goal.word_by-requires-4
word_by-requires-4 c =
    let found = serve_found (app_of c.in_ok-command.command) (map (λ word. word.now) c.args.line.now) c.in_ok-matches.matches c.requires.front c.requires.up c.requires.listen c.requires.stations c.requires.recorder
    c.in_ok-command.ensures c.requires.words_are c.in_ok-matches.ensures in
    is_there (first_value (found_of c.in_ok-matches.matches) (codes "STATIONS")) c.requires.stations found.stations_is

pub word_by-requires-5 : goal.word_by-requires-5
word_by-requires-5 c =
    let found = serve_found (app_of c.in_ok-command.command) (map (λ word. word.now) c.args.line.now) c.in_ok-matches.matches c.requires.front c.requires.up c.requires.listen c.requires.stations c.requires.recorder
    c.in_ok-command.ensures c.requires.words_are c.in_ok-matches.ensures in
    is_there (first_value (found_of c.in_ok-matches.matches) (codes "RECORD")) c.requires.recorder found.recorder_is

pub returns : goal.returns
returns c =
    let found = serve_found (app_of c.in_ok-command.command) (map (λ word. word.now) c.args.line.now) c.in_ok-matches.matches c.requires.front c.requires.up c.requires.listen c.requires.stations c.requires.recorder
    c.in_ok-command.ensures c.requires.words_are c.in_ok-matches.ensures in
    c.requires.words_are ∙ same_serve_line c.requires.front c.requires.up c.requires.listen c.requires.stations c.requires.recorder
    c.word_by.result.now c.word_by-2.result.now c.word_by-3.result.now c.word_by-4.result.now c.word_by-5.result.now
    (handed_out (first_value (found_of c.in_ok-matches.matches) (codes "FRONT")) c.word_by.result.now c.requires.front c.word_by.ensures found.front_is)
    (handed_out (first_value (found_of c.in_ok-matches.matches) (codes "UP")) c.word_by-2.result.now c.requires.up c.word_by-2.ensures found.up_is)
    (handed_out (first_value (found_of c.in_ok-matches.matches) (codes "LISTEN")) c.word_by-3.result.now c.requires.listen c.word_by-3.ensures found.listen_is)
    (handed_out (first_value (found_of c.in_ok-matches.matches) (codes "STATIONS")) c.word_by-4.result.now c.requires.stations c.word_by-4.ensures found.stations_is)
    (handed_out (first_value (found_of c.in_ok-matches.matches) (codes "RECORD")) c.word_by-5.result.now c.requires.recorder c.word_by-5.ensures found.recorder_is)
