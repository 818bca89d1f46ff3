-- What a request is judged by, of what is given of its connection.
use Rattle.std.proofs.Common.{◌≡◌, ◌∙◌, ℕ, zero, suc, ◌+◌, Bool, true, cond, ◌||◌, List, [], ◌∷◌, ◌++◌, map, Option, Some, None, IfSome, Result, Ok, Err, refl, sym, ap}
use Rattle.std.specs.Prelude.{codes, is_none, slice_index_or}
use Rattle.std.specs.Option.{option_or, option_and_then}
use Rattle.head_one.specs.declared.request.Request1.{Request1}
use Rattle.head_one.specs.declared.refusal.Refusal.{Refusal}
use Rattle.session_one.specs.declared.parts.Track.{Track}
use Rattle.translate_up.specs.Ids.{id_of, are_same}
use Rattle.translate_up.specs.Views.{SeenSession, no_session, Given, all_tracks, place_from, place_with_id, place_named, session_or_none, has_empty, Judged, judged_at, judged_by, with_pair, session_with_pairs, with_pairs, judged_with_pairs}
use Rattle.translate_up.specs.Fields.{field}
use Rattle.translate_up.specs.Sound.{is_target, IsFitSession, AreFitSessions, AreFit, IsFit}
use Rattle.translate_up.specs.Decisions.{decide_request, judged_read, decide_read, decide}
use Rattle.translate_up.specs.declared.decision.Decision.{Decision}
use Rattle.rtsp_head.specs.Items.{Shape}
use Rattle.head_one.specs.Requests.{request_of_item}

-- each session is fit, and so is an empty place
none_fit : IsFitSession no_session
none_fit = record { id = tt; control = tt }

each_fit : (sessions : List SeenSession) (place : ℕ) → AreFitSessions sessions → IsFitSession (slice_index_or sessions place no_session)
each_fit [] place all = none_fit
each_fit (one ∷ more) zero all = all.0
each_fit (one ∷ more) (suc place) all = each_fit more place all.1

place_fit : (place : Option ℕ) (sessions : List SeenSession) → AreFitSessions sessions → IsFitSession (session_or_none place sessions)
place_fit None sessions all = none_fit
place_fit (Some place) sessions all = each_fit sessions place all

or_target : (control described : Option (List ℕ)) → IfSome control (λ uri. is_target uri ≡ true) → IfSome described (λ uri. is_target uri ≡ true) → IfSome (option_or control described) (λ uri. is_target uri ≡ true)
or_target None described c d = d
or_target (Some uri) described c d = c

fit_at : (given : Given) (place : Option ℕ) → AreFit given → IsFit (judged_at given place)
fit_at given place fit =
    let session = place_fit place given.sessions fit.sessions in
    record { up = fit.up; session = session.id; control = or_target (session_or_none place given.sessions).control given.described session.control fit.described }

-- What a request is judged by is fit where all that is given is.
pub judged_fit : (given : Given) (found : Result Request1 Refusal) → AreFit given → IsFit (judged_read given found)
judged_fit given (Ok request) fit = fit_at given (place_named (field request (codes "Session")) given.sessions) fit
judged_fit given (Err refusal) fit = fit_at given None fit

-- the same under other numbers of the pairs of channels
place_under : (pairs : ℕ → ℕ) (id : List ℕ) (place : ℕ) (sessions : List SeenSession) → place_from id place (map (session_with_pairs pairs) sessions) ≡ place_from id place sessions
place_under pairs id place [] = refl
place_under pairs id place (one ∷ more) = ap (λ (later : Option ℕ). cond (are_same one.id (Some id)) (Some place) later) (place_under pairs id (place + 1) more)

named_under : (pairs : ℕ → ℕ) (id : Option (List ℕ)) (sessions : List SeenSession)
    → option_and_then (λ one. place_with_id one (map (session_with_pairs pairs) sessions)) id ≡ option_and_then (λ one. place_with_id one sessions) id
named_under pairs None sessions = refl
named_under pairs (Some id) sessions = place_under pairs id 0 sessions

each_under : (pairs : ℕ → ℕ) (place : ℕ) (sessions : List SeenSession)
    → slice_index_or (map (session_with_pairs pairs) sessions) place no_session ≡ session_with_pairs pairs (slice_index_or sessions place no_session)
each_under pairs place [] = refl
each_under pairs zero (one ∷ more) = refl
each_under pairs (suc place) (one ∷ more) = each_under pairs place more

session_under : (pairs : ℕ → ℕ) (place : Option ℕ) (sessions : List SeenSession) → session_or_none place (map (session_with_pairs pairs) sessions) ≡ session_with_pairs pairs (session_or_none place sessions)
session_under pairs None sessions = refl
session_under pairs (Some place) sessions = each_under pairs place sessions

room_under : (pairs : ℕ → ℕ) (sessions : List SeenSession) → has_empty (map (session_with_pairs pairs) sessions) ≡ has_empty sessions
room_under pairs [] = refl
room_under pairs (one ∷ more) = ap (λ later. is_none one.id || later) (room_under pairs more)

both_under : (pairs : ℕ → ℕ) (tracks more : List Track) → map (with_pair pairs) (tracks ++ more) ≡ map (with_pair pairs) tracks ++ map (with_pair pairs) more
both_under pairs [] more = refl
both_under pairs (track ∷ tracks) more = ap (λ later. with_pair pairs track ∷ later) (both_under pairs tracks more)

tracks_under : (pairs : ℕ → ℕ) (sessions : List SeenSession) → all_tracks (map (session_with_pairs pairs) sessions) ≡ map (with_pair pairs) (all_tracks sessions)
tracks_under pairs [] = refl
tracks_under pairs (one ∷ more) = ap (λ later. map (with_pair pairs) one.tracks ++ later) (tracks_under pairs more) ∙ sym (both_under pairs one.tracks (all_tracks more))

abbrev judged_with : Given → Option ℕ → SeenSession → Bool → List Track → Judged
judged_with given place session room all = record {
  place = place;
  state = session.state;
  session = session.id;
  tracks = session.tracks;
  queued = session.queued;
  control = option_or session.control given.described;
  has_room = room;
  all = all;
  full = given.full;
  front = given.front;
  up = given.up;
}

at_under : (pairs : ℕ → ℕ) (given : Given) (place : Option ℕ) → judged_at (with_pairs pairs given) place ≡ judged_with_pairs pairs (judged_at given place)
at_under pairs given place =
    ap (λ session. judged_with given place session (has_empty (map (session_with_pairs pairs) given.sessions)) (all_tracks (map (session_with_pairs pairs) given.sessions))) (session_under pairs place given.sessions)
    ∙ ap (λ room. judged_with given place (session_with_pairs pairs (session_or_none place given.sessions)) room (all_tracks (map (session_with_pairs pairs) given.sessions))) (room_under pairs given.sessions)
    ∙ ap (judged_with given place (session_with_pairs pairs (session_or_none place given.sessions)) (has_empty given.sessions)) (tracks_under pairs given.sessions)

pub judged_under : (pairs : ℕ → ℕ) (given : Given) (found : Result Request1 Refusal) → judged_read (with_pairs pairs given) found ≡ judged_with_pairs pairs (judged_read given found)
judged_under pairs given (Ok request) =
    ap (judged_at (with_pairs pairs given)) (named_under pairs (option_and_then id_of (field request (codes "Session"))) given.sessions)
    ∙ at_under pairs given (place_named (field request (codes "Session")) given.sessions)
judged_under pairs given (Err refusal) = at_under pairs given None

-- What becomes of a request that was read is what becomes of its item.
pub read_decides : (given : Given) (shape : Shape) (request : Request1) (decision : Decision) → request_of_item shape ≡ Ok request
    → decision ≡ decide_request (judged_by given (field request (codes "Session"))) request → decision ≡ decide given shape
read_decides given shape request decision read is = is ∙ ap (λ (found : Result Request1 Refusal). decide_read (judged_read given found) found) (sym read)
