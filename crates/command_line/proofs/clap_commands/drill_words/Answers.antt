use Rattle.std.proofs.Common.{◌∙◌, ap₂, codes, map}
use Rattle.clap.specs.Words.{app_of, takes, found_of, first_value}
use Rattle.command_line.specs.Words.{drill_word}
use Rattle.command_line.specs.ClapCommands.{clap_line}
use Rattle.command_line.proofs.ClapLemmas.{drill_taken, drill_found, is_there, handed_out}
use Rattle.command_line.proofs.clap_commands.drill_words.Goals as goal

pub matches_in-requires : goal.matches_in-requires
matches_in-requires c = ap₂ takes c.in_ok-command.ensures c.requires.words_are ∙ drill_taken c.requires.one c.requires.other

pub word_by-requires : goal.word_by-requires
word_by-requires c =
    let found = drill_found (app_of c.in_ok-command.command) (map (λ word. word.now) c.args.line.now) c.in_ok-matches.matches c.requires.one c.requires.other c.in_ok-command.ensures c.requires.words_are c.in_ok-matches.ensures in
    is_there (first_value (found_of c.in_ok-matches.matches) (codes "CLIENTS")) c.requires.one found.one_is

pub word_by-requires-2 : goal.word_by-requires-2
word_by-requires-2 c =
    let found = drill_found (app_of c.in_ok-command.command) (map (λ word. word.now) c.args.line.now) c.in_ok-matches.matches c.requires.one c.requires.other c.in_ok-command.ensures c.requires.words_are c.in_ok-matches.ensures in
    is_there (first_value (found_of c.in_ok-matches.matches) (codes "NUMBER")) c.requires.other found.other_is

pub returns : goal.returns
returns c =
    let found = drill_found (app_of c.in_ok-command.command) (map (λ word. word.now) c.args.line.now) c.in_ok-matches.matches c.requires.one c.requires.other c.in_ok-command.ensures c.requires.words_are c.in_ok-matches.ensures in
    c.requires.words_are ∙ ap₂ (clap_line drill_word)
    (handed_out (first_value (found_of c.in_ok-matches.matches) (codes "CLIENTS")) c.word_by.result.now c.requires.one c.word_by.ensures found.one_is)
    (handed_out (first_value (found_of c.in_ok-matches.matches) (codes "NUMBER")) c.word_by-2.result.now c.requires.other c.word_by-2.ensures found.other_is)
