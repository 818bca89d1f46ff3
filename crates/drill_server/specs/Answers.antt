-- What the server of a drill answers (this project's own): to the number of sessions that it made, their tracks, and the
-- number of notifies that it sent.
use Rattle.std.specs.Prelude.{ℕ, ◌+◌, codes, Bool, true, false, List, [], ◌∷◌, ◌++◌, Option, Some, None, Result, Ok, Err}
use Rattle.rtsp_head.specs.Headers.{field_of}
use Rattle.rtsp_small.specs.declared.method.Method.{Method}
use Rattle.rtsp_small.specs.declared.method.Method.TheVariants.{Options, Describe, Setup, Play, Pause, Teardown, GetParameter, SetParameter}
use Rattle.rtsp_small.specs.Methods.{method_of}
use Rattle.head_two.specs.declared.ask.Ask2.{Ask2}
use Rattle.head_two.specs.declared.fault.TwoFault.{TwoFault}
use Rattle.drill_server.specs.declared.answer.DrillAnswer.{DrillAnswer}
use Rattle.drill_server.specs.declared.track.DrillTrack.{DrillTrack}
use Rattle.drill_server.specs.AskedFields.{uri_asked, field_asked, channel_asked}
use Rattle.drill_server.specs.Texts.{answer_field, success_text, description, drill_session, frames_of, end_notify}

-- an answer that changes nothing
abbrev pub plain_answer : List ℕ → DrillAnswer
plain_answer text = record { text = text; track = None; session = false; notify = false }

-- a success that says no more
abbrev pub bare_answer : Ask2 → DrillAnswer
bare_answer ask = plain_answer (success_text ask.cseq [] [])

-- the one description, of whatever is asked for
abbrev pub describe_answer : Ask2 → DrillAnswer
describe_answer ask = plain_answer (success_text ask.cseq (answer_field (codes "Content-Type") (codes "application/sdp") ∷ []) description)

-- the track of a session on this channel
abbrev pub track_made : List ℕ → Option ℕ → Option DrillTrack
track_made id None = None
track_made id (Some channel) = Some (record { session = id; channel = channel })

-- A SETUP in this session: the Transport is granted as it was asked for.
abbrev pub setup_answer : Ask2 → List ℕ → Bool → DrillAnswer
setup_answer ask id new = record {
  text = success_text ask.cseq (answer_field (codes "Session") id ∷ answer_field (codes "Transport") (field_asked ask (codes "Transport")) ∷ []) [];
  track = track_made id (channel_asked (field_asked ask (codes "Transport")));
  session = new;
  notify = false;
}

-- The session is the one that the SETUP names, or else a new one.
abbrev pub setup_in : ℕ → Ask2 → Option (List ℕ) → DrillAnswer
setup_in sessions ask None = setup_answer ask (drill_session (sessions + 1)) true
setup_in sessions ask (Some id) = setup_answer ask id false

-- A PLAY is over at once: its reply, a frame on each track, and the notify of its end, which has its own number.
abbrev pub play_answer_text : List DrillTrack → ℕ → Ask2 → List ℕ → List ℕ
play_answer_text tracks own ask id =
    success_text ask.cseq (answer_field (codes "Session") id ∷ []) [] ++ frames_of id tracks ++ end_notify own (uri_asked ask.head.start) id ask.cseq

-- the answer to PLAY, with the notify of its end
abbrev pub play_answer : List DrillTrack → ℕ → Ask2 → List ℕ → DrillAnswer
play_answer tracks notifies ask id = record { text = play_answer_text tracks (notifies + 1) ask id; track = None; session = false; notify = true }

-- the answer to each method
abbrev pub answer_by : Option Method → ℕ → List DrillTrack → ℕ → Ask2 → DrillAnswer
answer_by None sessions tracks notifies ask = bare_answer ask
answer_by (Some Options) sessions tracks notifies ask = bare_answer ask
answer_by (Some Describe) sessions tracks notifies ask = describe_answer ask
answer_by (Some Setup) sessions tracks notifies ask = setup_in sessions ask (field_of ask.head.headers (codes "Session"))
answer_by (Some Play) sessions tracks notifies ask = play_answer tracks notifies ask (field_asked ask (codes "Session"))
answer_by (Some Pause) sessions tracks notifies ask = bare_answer ask
answer_by (Some Teardown) sessions tracks notifies ask = bare_answer ask
answer_by (Some GetParameter) sessions tracks notifies ask = bare_answer ask
answer_by (Some SetParameter) sessions tracks notifies ask = bare_answer ask

-- A request that can't be read is answered by nothing.
abbrev pub answer_read : ℕ → List DrillTrack → ℕ → Result Ask2 TwoFault → DrillAnswer
answer_read sessions tracks notifies (Ok ask) = answer_by (method_of ask.method) sessions tracks notifies ask
answer_read sessions tracks notifies (Err fault) = plain_answer []
