-- The rules by which a player's request is refused that its head does not refuse. Their order is this project's own.
-- A request comes here with the URI that it would have on its way up.
use Rattle.std.specs.Prelude.{ℕ, Bool, false, ◌&&◌, ◌||◌, not, nat_le, List, [], ◌∷◌, length, Option, Some, None, is_some, is_none, Result, Ok, Err}
use Rattle.rtsp_small.specs.declared.method.Method.{Method}
use Rattle.rtsp_range.specs.declared.range.Range.{Range}
use Rattle.rtsp_range.specs.declared.fault.RangeFault.{RangeFault}
use Rattle.head_one.specs.Refusals.{Rule, rule, first_code}
use Rattle.session_one.specs.declared.table.State.TheVariants.{Playing}
use Rattle.session_one.specs.Table.{is_allowed, same_state}
use Rattle.translate_up.specs.Views.{Judged}
use Rattle.rtsp_transport.specs.declared.channels.Pair.{Pair}
use Rattle.session_one.specs.declared.parts.TheConstants.{MOST_TRACKS}
use Rattle.play_queue.specs.declared.queue.TheConstants.{MOST_PLAYS}
use Rattle.translate_up.specs.declared.rule.Admission.{Admission}
use Rattle.translate_up.specs.declared.rule.Admission.TheVariants.{SetUp, Played, Other}
use Rattle.rtsp_small.specs.declared.method.Method.TheVariants.{Options, Describe, Setup, Play, Pause, Teardown, GetParameter, SetParameter}
use Rattle.translate_up.specs.Fields.{Said, is_setup, is_play, is_pause, is_named, needs_session, is_track}
use Rattle.translate_up.specs.Ids.{id_of, are_same}

-- The Session field names no session of the player's, or is missing where there must be one.
abbrev pub names_no_session : Method → Option (List ℕ) → Option (List ℕ) → Bool
names_no_session method session None = needs_session method
names_no_session method session (Some value) = not (are_same session (id_of value))

-- There is no place for one session more, or the session has the stream.
abbrev pub sets_up_again : Judged → Method → Said → List ℕ → Bool
sets_up_again judged method said uri = is_setup method && ((not judged.has_room && not (is_named said)) || is_track judged.tracks uri)

-- The method has no row in the table of states, or a stream would be set up again.
abbrev pub is_out_of_turn : Judged → Method → Said → List ℕ → Bool
is_out_of_turn judged method said uri = not (is_allowed judged.state method) || sets_up_again judged method said uri

-- One of several streams is named, which are played, paused and torn down together.
abbrev pub names_one_of_many : Judged → Method → List ℕ → Bool
names_one_of_many judged method uri = needs_session method && (is_track judged.tracks uri && nat_le 2 (length judged.tracks))

-- No pair of channels can be given to the stream.
abbrev pub has_no_channels : Method → Said → Bool
has_no_channels method said = is_setup method && is_none said.channels

-- A PLAY has a Range that can't be read, or a PAUSE has one.
abbrev pub has_bad_range : Method → Option (Result Range RangeFault) → Bool
has_bad_range method None = false
has_bad_range method (Some (Ok range)) = is_pause method
has_bad_range method (Some (Err fault)) = is_play method || is_pause method

-- All pairs of channels to the server are held.
abbrev pub finds_none_free : Judged → Method → Bool
finds_none_free judged method = is_setup method && judged.full

-- whether a PLAY would wait for what plays
abbrev pub must_wait : Judged → Method → Said → Bool
must_wait judged method said = (is_play method && same_state judged.state Playing) && is_some said.range

-- The session has all its streams, or as many PLAYs wait as may.
abbrev pub finds_no_place : Judged → Method → Said → Bool
finds_no_place judged method said =
    (is_setup method && nat_le MOST_TRACKS (length judged.tracks)) || (must_wait judged method said && nat_le MOST_PLAYS judged.queued)

-- the rules in their order
abbrev pub session_rules : Judged → Method → Said → List ℕ → List Rule
session_rules judged method said uri =
    rule (names_no_session method judged.session said.session) 454
    ∷ rule (is_out_of_turn judged method said uri) 455
    ∷ rule (names_one_of_many judged method uri) 460
    ∷ rule (has_no_channels method said) 461
    ∷ rule (has_bad_range method said.range) 457
    ∷ rule (finds_none_free judged method) 453
    ∷ rule (finds_no_place judged method said) 503
    ∷ []

-- A SETUP is let through with its channels. Where there are none, a rule applies.
abbrev pub with_channels : Option Pair → Result Admission ℕ
with_channels None = Err 461
with_channels (Some pair) = Ok (SetUp pair)

-- A PLAY is let through with its range, where it has one. Where that can't be read, a rule applies.
abbrev pub with_range : Option (Result Range RangeFault) → Result Admission ℕ
with_range None = Ok (Played None)
with_range (Some (Ok range)) = Ok (Played (Some range))
with_range (Some (Err fault)) = Err 457

-- what the rules let through
abbrev pub admission : Method → Said → Result Admission ℕ
admission Options said = Ok Other
admission Describe said = Ok Other
admission Setup said = with_channels said.channels
admission Play said = with_range said.range
admission Pause said = Ok Other
admission Teardown said = Ok Other
admission GetParameter said = Ok Other
admission SetParameter said = Ok Other

-- a rule that refuses comes before what follows
abbrev pub unless_code : Option ℕ → Result Admission ℕ → Result Admission ℕ
unless_code None admitted = admitted
unless_code (Some code) admitted = Err code

-- what the rules let through, or the code of the first one that applies
abbrev pub rules_checked : Judged → Method → Said → List ℕ → Result Admission ℕ
rules_checked judged method said uri = unless_code (first_code (session_rules judged method said uri)) (admission method said)
