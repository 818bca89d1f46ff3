-- What sessions show.
use Rattle.std.proofs.Common.{◌≡◌, ◌≢◌, ◌∙◌, ℕ, zero, suc, ◌+◌, ◌<◌, ◌==◌, Bool, true, false, not, ◌&&◌, cond, List, [], ◌∷◌, length, drop, map, Option, None, Some, refl, sym, ap, subst, add-one, drop-cons, arith, ◌≤◌, IfSome}
use Rattle.std.specs.Prelude.{is_some, is_none, slice_get}
use Rattle.std.specs.Borrow.{Bor}
use Rattle.std.specs.Option.{option_copied, option_and_then}
use Rattle.std.proofs.Math.ListN.{get_or-map}
use Rattle.std.proofs.Math.Seq.{drop-length}
use Rattle.std.proofs.lemmas.List.{length-map}
use Rattle.session_one.specs.declared.parts.TheConstants.{MOST_SESSIONS}
use Rattle.session_one.specs.declared.parts.Play.{Play}
use Rattle.client_machine.specs.declared.outlook.Outlook.{Outlook}
use Rattle.client_machine.specs.Sights.{Sight, sight, sight_at, sight_of, replaced, replaced_where, first_sight, has_due_seen, session_in_sight, IsTidySight, AreTidySights, filled_seen, are_sights_short}
use Rattle.client_machine.specs.Outlooks.{sights_of}
use Rattle.client_slot.specs.Session.{PlayerSession, new_session}
use Rattle.client_slot.specs.Places.{session_at, changed_at, first_place, has_due, session_where, changed_where, filled_place}
use Rattle.client_slot.specs.Bounds.{IsTidyBy, AreTidy, AreControlsShort, IsPlacedIn}
use Rattle.client_slot.proofs.TidyLemmas.{tidy_at, tidy_where, ended_tidy, after_tidy}
use Rattle.client_machine.specs.declared.sight.PlacedShowing.{PlacedShowing}
use Rattle.client_machine.specs.Treatment.{session_found}
use Rattle.std.proofs.lemmas.Bool.{le-leb}
use Rattle.session_one.specs.declared.table.State.{State}
use Rattle.session_two.specs.declared.names.Names.{Names}
use Rattle.session_two.specs.Ends.{end_counts}
use Rattle.client_slot.specs.declared.purpose.Purpose.{Purpose}
use Rattle.client_slot.specs.declared.session_turn.SessionTurn.{SessionTurn}
use Rattle.client_slot.specs.SessionChanges.{when_ended}
use Rattle.client_slot.specs.SessionTurns.{Brought, reply_turn, brought_by, turned}
use Rattle.client_slot.specs.Changes.{settled_place, session_after, sessions_after, described_after}
use Rattle.client_slot.specs.declared.limits.TheConstants.{LONGEST_URI}
use Rattle.client_slot.specs.ShortUris.{is_short_where}
use Rattle.client_slot.proofs.ControlLemmas.{IsShortUri, where_short, controls_after}
use Rattle.client_slot.proofs.LimitLemmas.{ended_keeps}
use Rattle.client_slot.proofs.RoomLemmas.{open_placed, after_short}

pub shown_at : (place : ℕ) (sessions : List PlayerSession) → sight_at place (map sight sessions) ≡ sight (session_at place sessions)
shown_at place sessions = get_or-map sight sessions place new_session

pub shown_length : (sessions : List PlayerSession) → length (map sight sessions) ≡ length sessions
shown_length sessions = length-map sessions sight

-- A session changes.
pub replaced_sight : (place : ℕ) (change : PlayerSession → PlayerSession) (sessions : List PlayerSession) → replaced place (sight (change (session_at place sessions))) (map sight sessions) ≡ map sight (changed_at place change sessions)
replaced_sight place change [] = refl
replaced_sight zero change (one ∷ more) = refl
replaced_sight (suc place) change (one ∷ more) = ap (λ later. sight one ∷ later) (replaced_sight place change more)

pub replaced_length : (changed : Option PlacedShowing) (sights : List Sight) → length (replaced_where changed sights) ≡ length sights
replaced_length None sights = refl
replaced_length (Some changed) sights = by changed.place sights
  where
    by : (place : ℕ) (all : List Sight) → length (replaced place (sight_of changed.session) all) ≡ length all
    by place [] = refl
    by zero (one ∷ more) = refl
    by (suc place) (one ∷ more) = ap suc (by place more)

pub replaced_here : (place : ℕ) (new : Sight) (sights : List Sight) → place < length sights → sight_at place (replaced place new sights) ≡ new
replaced_here place new [] within = absurd (grind (arith, within))
replaced_here zero new (one ∷ more) within = refl
replaced_here (suc place) new (one ∷ more) within = replaced_here place new more (omega (arith, within))

pub replaced_other : (place at : ℕ) (new : Sight) (sights : List Sight) → at ≢ place → sight_at at (replaced place new sights) ≡ sight_at at sights
replaced_other place at new [] apart = refl
replaced_other zero zero new (one ∷ more) apart = absurd (apart refl)
replaced_other zero (suc at) new (one ∷ more) apart = refl
replaced_other (suc place) zero new (one ∷ more) apart = refl
replaced_other (suc place) (suc at) new (one ∷ more) apart = replaced_other place at new more (λ e. apart (ap suc e))

-- A place that passes a test is the same among sights.
shown_first : (seen : Sight → Bool) (test : PlayerSession → Bool) (from : ℕ) (sessions : List PlayerSession) → ((session : PlayerSession) → seen (sight session) ≡ test session) → first_sight seen from (map sight sessions) ≡ first_place test from sessions
shown_first seen test from [] same = refl
shown_first seen test from (one ∷ more) same = grind (arith, shown_first seen test (from + 1) more same)

has_due_shown : (session : PlayerSession) → has_due_seen (sight session) ≡ has_due session
has_due_shown session = by session.running session.queue
  where
    by : (running : Option ℕ) (queue : List Play) → (not (is_some running) && is_some (slice_get queue 0)) ≡ (is_none running && not (length queue == 0))
    by running [] = grind arith
    by running (play ∷ queue) = grind arith

pub due_shown : (sessions : List PlayerSession) → first_sight has_due_seen 0 (map sight sessions) ≡ first_place has_due 0 sessions
due_shown sessions = shown_first has_due_seen has_due 0 sessions has_due_shown

pub filled_shown : (sessions : List PlayerSession) → first_sight (λ seen. is_some seen.id) 0 (map sight sessions) ≡ first_place (λ session. is_some session.id) 0 sessions
filled_shown sessions = shown_first (λ seen. is_some seen.id) (λ session. is_some session.id) 0 sessions (λ session. refl)

-- Each place is tidy.
tidy_one : (session : PlayerSession) (id : Option (List ℕ)) → session.id ≡ id → IsTidyBy id session → IsTidySight (sight session)
tidy_one session id is tidy = grind arith

pub tidy_sights : (sessions : List PlayerSession) → AreTidy sessions → AreTidySights (map sight sessions)
tidy_sights sessions tidy place = subst IsTidySight (sym (shown_at place sessions)) (tidy_one (session_at place sessions) (session_at place sessions).id refl (tidy_at place sessions tidy))

-- the search for a place, one on
left_sights : (place : ℕ) (sights : List Sight) → place < length sights → drop place sights ≡ sight_at place sights ∷ drop (place + 1) sights
left_sights place sights within = rw (add-one, drop-cons sights place (sight new_session) within) refl

pub next_sight : (test : Sight → Bool) (at place : ℕ) (sights : List Sight) → place < length sights → test (sight_at place sights) ≡ false → first_sight test (at + 1) (drop (place + 1) sights) ≡ first_sight test at (drop place sights)
next_sight test at place sights within other = grind (arith, left_sights)

pub here_sight : (test : Sight → Bool) (at place : ℕ) (sights : List Sight) → place < length sights → test (sight_at place sights) ≡ true → first_sight test at (drop place sights) ≡ Some at
here_sight test at place sights within same = grind (arith, left_sights)

-- a function of each of four
pub four_mapped : {A : Type 0} (f : Sight → A) (sights : List Sight) → length sights ≡ 4 → f (sight_at 0 sights) ∷ f (sight_at 1 sights) ∷ f (sight_at 2 sights) ∷ f (sight_at 3 sights) ∷ [] ≡ map f sights
four_mapped f [] four = cc
four_mapped f (a ∷ []) four = cc
four_mapped f (a ∷ b ∷ []) four = cc
four_mapped f (a ∷ b ∷ c ∷ []) four = cc
four_mapped f (a ∷ b ∷ c ∷ d ∷ []) four = refl
four_mapped f (a ∷ b ∷ c ∷ d ∷ e ∷ more) four = absurd (grind (arith, four))

pub four_same : {A : Type 0} (a b c d e f g h : A) → a ≡ e → b ≡ f → c ≡ g → d ≡ h → a ∷ b ∷ c ∷ d ∷ [] ≡ e ∷ f ∷ g ∷ h ∷ []
four_same a b c d e f g h ae bf cg dh = grind arith

-- all were looked at
pub none_sight : (test : Sight → Bool) (from place : ℕ) (sights : List Sight) → place ≡ length sights → first_sight test from (drop place sights) ≡ None
none_sight test from place sights is = ap (λ n. first_sight test from (drop n sights)) is ∙ ap (first_sight test from) (drop-length sights)

-- as many as there are places
pub outlook_length : (outlook : Outlook) → length (sights_of outlook) ≡ MOST_SESSIONS
outlook_length outlook = replaced_length outlook.changed (map sight outlook.slot.now.sessions) ∙ shown_length outlook.slot.now.sessions ∙ outlook.places

pub copied_some : (id : Option (Bor (List ℕ))) → is_some (option_copied id) ≡ is_some id
copied_some h0 = grind arith

-- What is seen at a place: the session that changes, or the one that is there.
pub here_is : (outlook : Outlook) (changed : PlacedShowing) (place : ℕ) → outlook.changed ≡ Some changed → changed.place ≡ place → place < MOST_SESSIONS → sight_at place (sights_of outlook) ≡ sight_of changed.session
here_is outlook changed place is same within = grind (arith, replaced_here, shown_length)

pub apart_is : (outlook : Outlook) (changed : PlacedShowing) (place : ℕ) → outlook.changed ≡ Some changed → changed.place ≢ place → sight_at place (sights_of outlook) ≡ sight (session_at place outlook.slot.now.sessions)
apart_is outlook changed place is apart = grind (arith, replaced_other, shown_at)

pub same_is : (outlook : Outlook) (place : ℕ) → outlook.changed ≡ None → sight_at place (sights_of outlook) ≡ sight (session_at place outlook.slot.now.sessions)
same_is outlook place is = ap (λ one. sight_at place (replaced_where one (map sight outlook.slot.now.sessions))) is ∙ shown_at place outlook.slot.now.sessions

-- The first place that passes a test passes it.
record PassesFrom (test : Sight → Bool) (from place : ℕ) (sights : List Sight) : Type 0 where
  at : ℕ
  is : place ≡ from + at
  passes : test (sight_at at sights) ≡ true

passes_by : (test : Sight → Bool) (from place : ℕ) (one : Sight) (more : List Sight) (here : Bool) → test one ≡ here → (first_sight test (from + 1) more ≡ Some place → PassesFrom test (from + 1) place more)
    → cond here (Some from) (first_sight test (from + 1) more) ≡ Some place → PassesFrom test from place (one ∷ more)
passes_by test from place one more true is later h = let same : from ≡ place = cc in record { at = 0; is = omega (arith, same); passes = is }
passes_by test from place one more false is later h = let found = later h in record { at = suc found.at; is = omega (arith, found.is); passes = found.passes }

passes_from : (test : Sight → Bool) (from place : ℕ) (sights : List Sight) → first_sight test from sights ≡ Some place → PassesFrom test from place sights
passes_from test from place [] e = cc
passes_from test from place (one ∷ more) e = passes_by test from place one more (test one) refl (passes_from test (from + 1) place more) e

pub passes_at : (test : Sight → Bool) (place : ℕ) (sights : List Sight) → first_sight test 0 sights ≡ Some place → test (sight_at place sights) ≡ true
passes_at test place sights e =
    let found = passes_from test 0 place sights e in
    let same : found.at ≡ place = omega (arith, found.is) in
    ap (λ k. test (sight_at k sights)) (sym same) ∙ found.passes

pub due_first : (seen : Sight) → has_due_seen seen ≡ true → seen.first ≡ None → ⊥
due_first seen due none = grind arith

-- what a request finds, by what is seen
pub found_shown : (sessions : List PlayerSession) → map session_in_sight (map sight sessions) ≡ map session_found sessions
found_shown [] = refl
found_shown (one ∷ more) = ap (λ later. session_found one ∷ later) (found_shown more)

pub found_length : (sights : List Sight) → length (map session_in_sight sights) ≡ length sights
found_length sights = length-map sights session_in_sight

-- A connection as it will be after an event.
-- The final reply changes a session.
pub changed_is : (purpose : Purpose) (number code : ℕ) (described id : Option (List ℕ)) (sessions : List PlayerSession) (place : ℕ) (given : Option ℕ) (seen : Sight) (turn : SessionTurn) (brought : Brought) (made : Bool) (state : State)
    → seen ≡ sight (turned turn brought (session_at place sessions)) → turn ≡ reply_turn purpose code made state → made ≡ is_some id → state ≡ (session_at place sessions).state → brought ≡ brought_by purpose number described id
    → given ≡ Some place → given ≡ settled_place purpose id sessions → replaced place seen (map sight sessions) ≡ map sight (sessions_after purpose number code described id sessions)
changed_is purpose number code described id sessions place given seen turn brought made state shows turns makes at brings there is =
    let session = session_at place sessions in
    let after = session_after purpose number code described id in
    ap (λ one. replaced place one (map sight sessions))
    (shows
    ∙ ap (λ (one : SessionTurn). sight (turned one brought session)) turns
    ∙ ap (λ b. sight (turned (reply_turn purpose code b state) brought session)) makes
    ∙ ap (λ (one : State). sight (turned (reply_turn purpose code (is_some id) one) brought session)) at
    ∙ ap (λ (one : Brought). sight (turned (reply_turn purpose code (is_some id) session.state) one session)) brings)
    ∙ replaced_sight place after sessions
    ∙ ap (λ one. map sight (changed_where one after sessions)) (sym there ∙ is)

-- the place of what is open
pub settled_open : (pending : Option Purpose) (purpose : Purpose) (id : Option (List ℕ)) (sessions : List PlayerSession) → pending ≡ Some purpose
    → option_and_then (λ one. settled_place one id sessions) pending ≡ settled_place purpose id sessions
settled_open pending purpose id sessions is = ap (option_and_then (λ one. settled_place one id sessions)) is

-- What was described is forgotten where no session is left.
pub left_described : (left : Bool) (sessions : List PlayerSession) (sights : List Sight) (described : Option (List ℕ)) → sights ≡ map sight sessions → left ≡ is_some (filled_seen sights)
    → cond (is_some (filled_place sessions)) described None ≡ cond left described None
left_described left sessions sights described shows is = grind (arith, filled_shown)

-- The end of what plays.
quiet_at : (place : ℕ) (change : PlayerSession → PlayerSession) (sessions : List PlayerSession) → change (session_at place sessions) ≡ session_at place sessions → changed_at place change sessions ≡ sessions
quiet_at place change [] same = refl
quiet_at zero change (one ∷ more) same = ap (λ first. first ∷ more) same
quiet_at (suc place) change (one ∷ more) same = ap (λ later. one ∷ later) (quiet_at place change more same)

pub not_ended : (place : ℕ) (names : Names) (sessions : List PlayerSession) → end_counts (session_at place sessions).running names ≡ false → changed_at place (when_ended names) sessions ≡ sessions
not_ended place names sessions stays = grind (arith, quiet_at)

pub ended_tidily : (place : Option ℕ) (names : Names) (sessions : List PlayerSession) → AreTidy sessions → AreTidySights (map sight (changed_where place (when_ended names) sessions))
ended_tidily place names sessions tidy = grind (arith, tidy_sights, tidy_where, ended_tidy, tidy_at)

pub replied_tidily : (pending : Option Purpose) (purpose : Purpose) (number code : ℕ) (described id : Option (List ℕ)) (sessions : List PlayerSession) → pending ≡ Some purpose → AreTidy sessions → IfSome pending (IsPlacedIn sessions)
    → AreTidySights (map sight (sessions_after purpose number code described id sessions))
replied_tidily pending purpose number code described id sessions is tidy placed = grind (arith, tidy_sights, after_tidy, open_placed)

-- What each session is about stays short enough, and so does what was described.
pub short_is : (uri : Option (List ℕ)) → IsShortUri uri → is_short_where uri ≡ true
short_is uri short = grind (arith, le-leb)

pub shown_short : (sessions : List PlayerSession) → AreControlsShort sessions → are_sights_short (map sight sessions) ≡ true
shown_short [] short = refl
shown_short (one ∷ more) short = ap (λ first. first && are_sights_short (map sight more)) (short_is one.control short.0) ∙ shown_short more short.1

pub ended_short : (place : Option ℕ) (names : Names) (sessions : List PlayerSession) → AreControlsShort sessions → are_sights_short (map sight (changed_where place (when_ended names) sessions)) ≡ true
ended_short place names sessions short = grind (arith, shown_short, where_short, ended_keeps)

pub kept_short : (lent : Option (Bor (List ℕ))) (kept : Option (List ℕ)) → option_copied lent ≡ kept → IfSome lent (λ uri. length uri.now ≤ LONGEST_URI) → IsShortUri kept
kept_short lent kept is short = grind arith

pub replied_short : (pending : Option Purpose) (purpose : Purpose) (number code : ℕ) (described id : Option (List ℕ)) (sessions : List PlayerSession) → pending ≡ Some purpose → IfSome pending (IsPlacedIn sessions) → IsShortUri described → AreControlsShort sessions
    → are_sights_short (map sight (sessions_after purpose number code described id sessions)) ≡ true
replied_short pending purpose number code described id sessions is placed was short = grind (arith, shown_short, controls_after, open_placed)

pub told_short : (pending : Option Purpose) (purpose : Purpose) (code : ℕ) (described told : Option (List ℕ)) (sessions after : List PlayerSession) → pending ≡ Some purpose → IfSome pending (IsPlacedIn sessions) → IsShortUri described
    → told ≡ described_after purpose code after described → is_short_where told ≡ true
told_short pending purpose code described told sessions after is placed was tells = grind (arith, short_is, after_short, open_placed)

-- the id of the session that changes
pub own_is : (place : ℕ) (seen : Sight) (sessions after : List PlayerSession) (given settled : Option ℕ) → replaced place seen (map sight sessions) ≡ map sight after → place < length sessions → given ≡ Some place → given ≡ settled
    → seen.id ≡ (session_where settled after).id
own_is place seen sessions after given settled shows within there is =
    ap (λ (one : Sight). one.id) (sym (replaced_here place seen (map sight sessions) (subst (λ n. place < n) (sym (shown_length sessions)) within)) ∙ ap (sight_at place) shows ∙ shown_at place after)
    ∙ ap (λ (one : Option ℕ). (session_where one after).id) (sym there ∙ is)
