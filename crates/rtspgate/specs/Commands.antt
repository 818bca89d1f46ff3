-- What the top call says, by the words that it was called with (this project's own).
use Rattle.std.specs.Prelude.{◌≡◌, ℕ, List, Option, ◌⊎◌}
use Rattle.gateway_claim.specs.Follows.{IsHistory}
use Rattle.run_status.specs.declared.status.Status.{Status}
use Rattle.run_status.specs.declared.status.Status.TheVariants.{Done, Usage, SourceFault, SinkFault, BadTranscript, TooLong, Memory}
use Rattle.gateway_replay.specs.Replays.{ReplaySays}
use Rattle.drill_run.specs.Reports.{DrillSays, IsDrilledHistory}
use Rattle.command_line.specs.declared.words.Command.{Command}
use Rattle.command_line.specs.declared.words.Command.TheVariants.{Replay, Drill, Serve}
use Rattle.command_line.specs.Words.{NamesCommand, MayLackMemory}

-- Where the words are refused, nothing was read and nothing written.
pub record IsUntouched (all left before now : Option (List ℕ)) : Type 0 where
  pub source : left ≡ all
  pub sink : now ≡ before

-- What is said of a command: of a replay between bases; of a drill, which reads nothing; and of `serve`, which is refused.
abbrev pub CommandSays : Command → Status → Option (List ℕ) → Option (List ℕ) → Option (List ℕ) → Option (List ℕ) → Type 0
CommandSays (Replay bases) status all left before now = ReplaySays IsHistory bases status all left before now
CommandSays (Drill clients number) status all left before now = (left ≡ all) × DrillSays IsDrilledHistory clients number status before now
CommandSays (Serve options) status all left before now = (status ≡ Usage 0) × IsUntouched all left before now

-- Where the words were accepted: what is said of the command that they name.
pub record SaysNamed (words : List (List ℕ)) (status : Status) (all left before now : Option (List ℕ)) : Type 0 where
  pub command : Command
  pub names : NamesCommand command words
  pub says : CommandSays command status all left before now

-- Where memory ran out while the words were read: nothing was done.
pub record LacksMemoryForWords (words : List (List ℕ)) (all left before now : Option (List ℕ)) : Type 0 where
  pub may : MayLackMemory words
  pub untouched : IsUntouched all left before now

-- What the answer of the top call says.
abbrev pub PlainSays : List (List ℕ) → Status → Option (List ℕ) → Option (List ℕ) → Option (List ℕ) → Option (List ℕ) → Type 0
PlainSays words (Usage place) all left before now = IsUntouched all left before now
PlainSays words Done all left before now = SaysNamed words Done all left before now
PlainSays words SourceFault all left before now = SaysNamed words SourceFault all left before now
PlainSays words SinkFault all left before now = SaysNamed words SinkFault all left before now
PlainSays words (BadTranscript place fault) all left before now = SaysNamed words (BadTranscript place fault) all left before now
PlainSays words TooLong all left before now = SaysNamed words TooLong all left before now
PlainSays words Memory all left before now = LacksMemoryForWords words all left before now ⊎ SaysNamed words Memory all left before now
PlainSays words other all left before now = ⊥
