-- How many turns a drill has (this project's own).
use Rattle.std.specs.Prelude.{ℕ, ◌+◌, List, [], ◌∷◌, length, Option, Some, None}
use Rattle.rtsp_head.specs.Items.{items_of}
use Rattle.drill_server.specs.ServerSteps.{Serving, requests_among}
use Rattle.drill_run.specs.declared.player.Player.{Player}
use Rattle.drill_run.specs.declared.step.PlayerStep.{PlayerStep}
use Rattle.drill_run.specs.declared.step.PlayerStep.TheVariants.{Options, Describe, SetupFirst, SetupSecond, Play, Frame, Teardown, End}

-- how many steps come before this one; none is left after all eight
abbrev pub steps_before : Option PlayerStep → ℕ
steps_before (Some Options) = 0
steps_before (Some Describe) = 1
steps_before (Some SetupFirst) = 2
steps_before (Some SetupSecond) = 3
steps_before (Some Play) = 4
steps_before (Some Frame) = 5
steps_before (Some Teardown) = 6
steps_before (Some End) = 7
steps_before None = 8

-- how many requests come before a step; seven before the end
abbrev pub requests_before : Option PlayerStep → ℕ
requests_before (Some Options) = 0
requests_before (Some Describe) = 1
requests_before (Some SetupFirst) = 2
requests_before (Some SetupSecond) = 3
requests_before (Some Play) = 4
requests_before (Some Frame) = 6
requests_before (Some Teardown) = 6
requests_before (Some End) = 7
requests_before None = 7

-- the sum of a count over these players, each by its next step
abbrev pub over_players : (Option PlayerStep → ℕ) → List Player → ℕ
over_players count [] = 0
over_players count (player ∷ players) = count player.next + over_players count players

-- how many steps these players took, in all
abbrev pub steps_taken : List Player → ℕ
steps_taken players = over_players steps_before players

-- how many requests these players sent, in all
abbrev pub requests_sent : List Player → ℕ
requests_sent players = over_players requests_before players

-- how many requests came to the server
abbrev pub requests_heard : Serving → ℕ
requests_heard serving = length (requests_among (items_of serving.heard))
