-- The answer to words that are refused (this project's own).
use Rattle.command_line.specs.declared.kinds.WordsFault.{WordsFault}
use Rattle.command_line.specs.declared.kinds.WordsFault.TheVariants as word
use Rattle.run_status.specs.declared.status.Status.{Status}
use Rattle.run_status.specs.declared.status.Status.TheVariants as status

-- how a run ends whose words are refused
abbrev pub status_of_words : WordsFault → Status
status_of_words (word.Place place) = status.Usage place
status_of_words word.Memory = status.Memory
