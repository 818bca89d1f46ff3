-- What each player of a drill sends (this project's own): the requests of RFC 2326 that play two tracks twice.
use Rattle.std.specs.Prelude.{ℕ, ◌%◌, codes, decimal, Bool, true, false, List, [], ◌∷◌, ◌++◌, map, Option, Some, None, if◌then◌else◌}
use Rattle.gate_bytes.specs.Ascii.{dollar}
use Rattle.rtsp_head.specs.declared.header.Header.{Header}
use Rattle.rtsp_head.specs.HeadParts.{Request}
use Rattle.rtsp_head.specs.Items.{items_of}
use Rattle.rtsp_head.specs.Messages.{message_text}
use Rattle.head_one.specs.Refusals.{version_one}
use Rattle.gateway_claim.specs.Happenings.{Happening, takes, ends}
use Rattle.drill_run.specs.declared.script.PlayerWords.{PlayerWords}
use Rattle.drill_run.specs.declared.step.PlayerStep.{PlayerStep}
use Rattle.drill_run.specs.declared.step.PlayerStep.TheVariants.{Options, Describe, SetupFirst, SetupSecond, Play, Frame, Teardown, End}

-- the step after this one
abbrev pub step_after : PlayerStep → Option PlayerStep
step_after Options = Some Describe
step_after Describe = Some SetupFirst
step_after SetupFirst = Some SetupSecond
step_after SetupSecond = Some Play
step_after Play = Some Frame
step_after Frame = Some Teardown
step_after Teardown = Some End
step_after End = None

-- how many requests a step sends
abbrev pub requests_of_step : PlayerStep → ℕ
requests_of_step Options = 1
requests_of_step Describe = 1
requests_of_step SetupFirst = 1
requests_of_step SetupSecond = 1
requests_of_step Play = 2
requests_of_step Frame = 0
requests_of_step Teardown = 1
requests_of_step End = 0

-- the URI of player i
abbrev pub drilled_uri : ℕ → List ℕ
drilled_uri i = codes "rtsp://gate.example/c" ++ decimal i

-- a request of a player: its number, and then these fields
abbrev pub drilled_request : List ℕ → List ℕ → ℕ → List Header → List ℕ
drilled_request method uri number fields = message_text (Request method uri version_one) (Some number) fields []

-- a header of a drill's request
abbrev pub drilled_field : List ℕ → List ℕ → Header
drilled_field name value = record { name = name; value = value }

-- what a SETUP asks for: a pair of channels
abbrev pub transport_asked : List ℕ → List ℕ
transport_asked channels = codes "RTP/AVP/TCP;interleaved=" ++ channels

-- the header Session
abbrev pub session_field : List ℕ → Header
session_field id = drilled_field (codes "Session") id

-- the DESCRIBE of a player
abbrev pub drilled_describe : ℕ → List ℕ
drilled_describe i = drilled_request (codes "DESCRIBE") (drilled_uri i) 2 []

-- the first track, which makes the session
abbrev pub first_setup : ℕ → List ℕ
first_setup i = drilled_request (codes "SETUP") (drilled_uri i ++ codes "/1") 3 (drilled_field (codes "Transport") (transport_asked (codes "0-1")) ∷ [])

-- the second track, in the session
abbrev pub second_setup : ℕ → List ℕ → List ℕ
second_setup i id =
    drilled_request (codes "SETUP") (drilled_uri i ++ codes "/2") 4 (session_field id ∷ drilled_field (codes "Transport") (transport_asked (codes "2-3")) ∷ [])

-- the headers of a player's PLAY
abbrev pub drilled_play_fields : List ℕ → List ℕ → List Header
drilled_play_fields id range = session_field id ∷ drilled_field (codes "Range") range ∷ []

-- a PLAY of a part
abbrev pub drilled_play : ℕ → ℕ → List ℕ → List ℕ → List ℕ
drilled_play i number id range = drilled_request (codes "PLAY") (drilled_uri i) number (drilled_play_fields id range)

-- two PLAYs at once, of which the second has to wait
abbrev pub drilled_plays : ℕ → List ℕ → List ℕ
drilled_plays i id = drilled_play i 5 id (codes "npt=0-10") ++ drilled_play i 6 id (codes "npt=20-30")

-- the TEARDOWN of a player
abbrev pub drilled_teardown : ℕ → List ℕ → List ℕ
drilled_teardown i id = drilled_request (codes "TEARDOWN") (drilled_uri i) 7 (session_field id ∷ [])

-- What player i sends at a step in the session with this id. (The frame's byte is i: there are fewer players than bytes.)
abbrev pub step_text : PlayerStep → ℕ → List ℕ → List ℕ
step_text Options i id = drilled_request (codes "OPTIONS") (codes "*") 1 []
step_text Describe i id = drilled_describe i
step_text SetupFirst i id = first_setup i
step_text SetupSecond i id = second_setup i id
step_text Play i id = drilled_plays i id
step_text Frame i id = dollar ∷ 1 ∷ 0 ∷ 1 ∷ i % 256 ∷ []
step_text Teardown i id = drilled_teardown i id
step_text End i id = []

-- its last step is its end
abbrev pub is_last_step : PlayerStep → Bool
is_last_step Options = false
is_last_step Describe = false
is_last_step SetupFirst = false
is_last_step SetupSecond = false
is_last_step Play = false
is_last_step Frame = false
is_last_step Teardown = false
is_last_step End = true

-- what player i says at a step, and whether it ends then
abbrev pub said_at : Option PlayerStep → ℕ → List ℕ → PlayerWords
said_at None i id = record { text = []; last = false }
said_at (Some step) i id = record { text = step_text step i id; last = is_last_step step }

-- the end of a player behind its last request
abbrev pub end_told : Bool → ℕ → List Happening
end_told last i = if last then ends i ∷ [] else []

-- What happens then: the items of the text come, one after another. (Each text is whole items, so they are also those
-- that it adds to all that the player sent before, and no cut into pieces changes them.)
abbrev pub said_told : ℕ → PlayerWords → List Happening
said_told i said = map (λ shape. takes i shape) (items_of said.text) ++ end_told said.last i
