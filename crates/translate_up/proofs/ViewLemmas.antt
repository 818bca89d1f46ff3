-- What is shown of sessions, as the definitions have it.
use Rattle.std.proofs.Common.{◌≡◌, ◌∙◌, ℕ, zero, suc, ◌+◌, ◌<◌, Bool, true, false, cond, ◌||◌, List, [], ◌∷◌, ◌++◌, length, drop, map, Option, Some, None, refl, sym, ap, add-one, drop-cons}
use Rattle.std.specs.Prelude.{is_none, slice_index_or}
use Rattle.std.specs.List.{list_any}
use Rattle.rtsp_transport.specs.declared.channels.Pair.{Pair}
use Rattle.session_one.specs.declared.parts.Track.{Track}
use Rattle.translate_up.specs.declared.view.SessionView.{SessionView}
use Rattle.translate_up.specs.Ids.{are_same}
use Rattle.translate_up.specs.Channels.{share, is_taken}
use Rattle.translate_up.specs.Views.{no_session, session_shown, tracks_shown, place_from, has_empty}

or_assoc : (a b c : Bool) → (a || (b || c)) ≡ ((a || b) || c)
or_assoc true b c = refl
or_assoc false b c = refl

either_taken : (tracks more : List Track) (pair : Pair) → is_taken (tracks ++ more) pair ≡ (is_taken tracks pair || is_taken more pair)
either_taken [] more pair = refl
either_taken (track ∷ tracks) more pair =
    ap (λ later. share track.client pair || later) (either_taken tracks more pair) ∙ or_assoc (share track.client pair) (is_taken tracks pair) (is_taken more pair)

-- a channel is that of a stream of one of the sessions
pub any_taken : (sessions : List (Option SessionView)) (pair : Pair) → list_any (λ (one : Option SessionView). is_taken (session_shown one).tracks pair) sessions ≡ is_taken (tracks_shown sessions) pair
any_taken [] pair = refl
any_taken (one ∷ more) pair =
    ap (λ later. is_taken (session_shown one).tracks pair || later) (any_taken more pair) ∙ sym (either_taken (session_shown one).tracks (tracks_shown more) pair)

same_empty : (one : Option SessionView) → is_none one ≡ is_none (session_shown one).id
same_empty None = refl
same_empty (Some view) = refl

-- a place is empty
pub any_empty : (sessions : List (Option SessionView)) → list_any (λ (one : Option SessionView). is_none one) sessions ≡ has_empty (map session_shown sessions)
any_empty [] = refl
any_empty (one ∷ more) = ap (λ later. is_none one || later) (any_empty more) ∙ ap (λ here. here || has_empty (map session_shown more)) (same_empty one)

-- the session at a place
pub shown_at : (sessions : List (Option SessionView)) (place : ℕ) → slice_index_or (map session_shown sessions) place no_session ≡ session_shown (slice_index_or sessions place None)
shown_at [] place = refl
shown_at (one ∷ more) zero = refl
shown_at (one ∷ more) (suc place) = shown_at more place

-- the session at a place stands first in what is left from there on
left_at : (place : ℕ) (sessions : List (Option SessionView)) → place < length sessions
    → drop place sessions ≡ slice_index_or sessions place None ∷ drop (place + 1) sessions
left_at place sessions within = rw (add-one, drop-cons sessions place None within) refl

-- the search for an id, one place on
pub next_place : (id : List ℕ) (at place : ℕ) (sessions : List (Option SessionView)) → place < length sessions → are_same (session_shown (slice_index_or sessions place None)).id (Some id) ≡ false
    → place_from id (at + 1) (map session_shown (drop (place + 1) sessions)) ≡ place_from id at (map session_shown (drop place sessions))
next_place id at place sessions within other =
    sym (ap (λ (same : Bool). cond same (Some at) (place_from id (at + 1) (map session_shown (drop (place + 1) sessions)))) other)
    ∙ sym (ap (λ (left : List (Option SessionView)). place_from id at (map session_shown left)) (left_at place sessions within))

pub here_place : (id : List ℕ) (at place : ℕ) (sessions : List (Option SessionView)) → place < length sessions → are_same (session_shown (slice_index_or sessions place None)).id (Some id) ≡ true
    → place_from id at (map session_shown (drop place sessions)) ≡ Some at
here_place id at place sessions within same =
    ap (λ (left : List (Option SessionView)). place_from id at (map session_shown left)) (left_at place sessions within)
    ∙ ap (λ (same : Bool). cond same (Some at) (place_from id (at + 1) (map session_shown (drop (place + 1) sessions)))) same
