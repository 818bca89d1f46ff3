use Rattle.std.proofs.Common.{◌∙◌, ap₂, codes, map}
use Rattle.clap.specs.Words.{app_of, takes, found_of, first_value}
use Rattle.command_line.specs.Words.{replay_word}
use Rattle.command_line.specs.ClapCommands.{clap_line}
use Rattle.command_line.proofs.ClapLemmas.{replay_taken, replay_found, is_there, handed_out}
use Rattle.command_line.proofs.clap_commands.replay_words.Goals as goal

pub matches_in-requires : goal.matches_in-requires
matches_in-requires c = ap₂ takes c.in_ok-command.ensures c.requires.words_are ∙ replay_taken c.requires.one c.requires.other

pub word_by-requires : goal.word_by-requires
word_by-requires c =
    let found = replay_found (app_of c.in_ok-command.command) (map (λ word. word.now) c.args.line.now) c.in_ok-matches.matches c.requires.one c.requires.other c.in_ok-command.ensures c.requires.words_are c.in_ok-matches.ensures in
    is_there (first_value (found_of c.in_ok-matches.matches) (codes "FRONT")) c.requires.one found.one_is

pub word_by-requires-2 : goal.word_by-requires-2
word_by-requires-2 c =
    let found = replay_found (app_of c.in_ok-command.command) (map (λ word. word.now) c.args.line.now) c.in_ok-matches.matches c.requires.one c.requires.other c.in_ok-command.ensures c.requires.words_are c.in_ok-matches.ensures in
    is_there (first_value (found_of c.in_ok-matches.matches) (codes "UP")) c.requires.other found.other_is

pub returns : goal.returns
returns c =
    let found = replay_found (app_of c.in_ok-command.command) (map (λ word. word.now) c.args.line.now) c.in_ok-matches.matches c.requires.one c.requires.other c.in_ok-command.ensures c.requires.words_are c.in_ok-matches.ensures in
    c.requires.words_are ∙ ap₂ (clap_line replay_word)
    (handed_out (first_value (found_of c.in_ok-matches.matches) (codes "FRONT")) c.word_by.result.now c.requires.one c.word_by.ensures found.one_is)
    (handed_out (first_value (found_of c.in_ok-matches.matches) (codes "UP")) c.word_by-2.result.now c.requires.other c.word_by-2.ensures found.other_is)
