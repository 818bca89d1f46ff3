-- Requests that wait are treated one after another.
use Rattle.std.proofs.Common.{◌≡◌, ◌∙◌, ◌+◌, ◌<◌, ◌≤◌, ℕ, zero, suc, Bool, true, false, List, [], ◌∷◌, ◌++◌, length, drop, map, Option, None, Some, IfSome, refl, sym, ap, subst, arith, cond}
use Rattle.std.specs.Prelude.{is_some, slice_index_or, slice_set}
use Rattle.std.specs.List.{slice_get}
use Rattle.std.proofs.Math.ListN.{get_or-map}
use Rattle.std.proofs.lemmas.List.{append_assoc, append-nil, length_push, drop_more}
use Rattle.std.proofs.lemmas.Option.{slice_get_within, get_or_from_slice_get}
use Rattle.rtsp_head.specs.declared.item.TheConstants.{MOST_HEAD}
use Rattle.rtsp_head.specs.Items.{Shape}
use Rattle.session_one.specs.declared.parts.Play.{Play}
use Rattle.session_one.specs.declared.parts.TheConstants.{MOST_SESSIONS}
use Rattle.client_slot.specs.declared.limits.TheConstants.{LONGEST_URI}
use Rattle.client_slot.specs.Session.{PlayerSession, new_session}
use Rattle.client_slot.specs.Places.{session_where, changed_at, changed_where}
use Rattle.client_slot.specs.SessionChanges.{when_queued}
use Rattle.translate_up.specs.Views.{SeenSession, Given, session_or_none, no_session, session_shown, session_with_pairs, with_pairs}
use Rattle.translate_up.specs.DecisionPlaces.{NamesSession, IsDecidedIn}
use Rattle.translate_up.specs.Decisions.{decide}
use Rattle.translate_up.specs.UriLengths.{AreControlsWithin, AreGivenWithin, HasUriWithin}
use Rattle.translate_up.specs.declared.decision.Decision.{Decision}
use Rattle.translate_up.specs.declared.decision.Decision.TheVariants.{Answer}
use Rattle.translate_up.proofs.SessionPlaceLemmas.{decided_in}
use Rattle.translate_up.proofs.UriLengthLemmas.{decided_within}
use Rattle.client_machine.specs.Treatment.{session_found, queued_more, queued_more_where, Going, Treated, decision_on, treated_first, treated, ahead, given_shown, fits_memory}
use Rattle.rtsp_uri.specs.declared.base.Bases.{Bases}
use Rattle.client_machine.specs.Plans.{IsQueueable, ArePlaced, is_up}
use Rattle.client_machine.specs.Progresses.{Progress, begun, progressed, sessions_then, given_then, with_progress, sessions_queued, IsFilled, IsAskedIn, IsOnTheWay}
use Rattle.client_machine.specs.declared.parts.Change.{Change}
use Rattle.client_machine.specs.declared.parts.PlannedStep.{PlannedStep}
use Rattle.client_machine.specs.Onward.{IsFinished, IsNextTreated}
use Rattle.translate_up.specs.declared.view.SessionView.{SessionView}
use Rattle.std.specs.Option.{option_copied}
use Rattle.std.proofs.lemmas.Bool.{and_parts, leb-true}
use Rattle.client_slot.specs.ShortUris.{is_short_where}
use Rattle.client_machine.specs.declared.outlook.Outlook.{Outlook}
use Rattle.client_machine.specs.Outlooks.{sights_of}
use Rattle.client_machine.specs.Sights.{Sight, session_in_sight, are_sights_short}
use Rattle.translate_up.proofs.PairLemmas.{decide_under}

pub not_going : (going : Option Going) → is_some going ≡ false → going ≡ None
not_going going is = grind arith

-- What becomes of a request is as it is decided, or an answer.
pub decision_as : (P : Decision → Type 0) (given : Given) (shape : Shape) → P (decide given shape) → P (Answer []) → P (decision_on given shape)
decision_as P given shape decided answer = grind arith

-- What a request finds of sessions, one by one.
pub seen_in : (place : Option ℕ) (sessions : List PlayerSession) → session_or_none place (map session_found sessions) ≡ session_found (session_where place sessions)
seen_in None sessions = refl
seen_in (Some place) sessions = get_or-map session_found sessions place new_session

queued_seen_at : (place : ℕ) (play : Play) (sessions : List PlayerSession) → map session_found (changed_at place (when_queued play) sessions) ≡ queued_more place (map session_found sessions)
queued_seen_at place play [] = refl
queued_seen_at zero play (one ∷ more) = ap (λ n. record (session_found one) { queued = n } ∷ map session_found more) (length_push one.queue play)
queued_seen_at (suc place) play (one ∷ more) = ap (λ later. session_found one ∷ later) (queued_seen_at place play more)

-- What does not tell how many PLAYs wait is as before.
calm_at : {A : Type 0} (f : List SeenSession → A) (place : ℕ) (sessions : List SeenSession) → ((one : SeenSession) (n : ℕ) (more : List SeenSession) → f (record one { queued = n } ∷ more) ≡ f (one ∷ more))
    → ((one : SeenSession) (a b : List SeenSession) → f a ≡ f b → f (one ∷ a) ≡ f (one ∷ b)) → f (queued_more place sessions) ≡ f sessions
calm_at f place [] blind on = refl
calm_at f zero (one ∷ more) blind on = blind one (one.queued + 1) more
calm_at f (suc place) (one ∷ more) blind on = on one (queued_more place more) more (calm_at f place more blind on)

pub calm_by : {A : Type 0} (f : List SeenSession → A) (place : Option ℕ) (sessions : List SeenSession) → ((one : SeenSession) (n : ℕ) (more : List SeenSession) → f (record one { queued = n } ∷ more) ≡ f (one ∷ more))
    → ((one : SeenSession) (a b : List SeenSession) → f a ≡ f b → f (one ∷ a) ≡ f (one ∷ b)) → f (queued_more_where place sessions) ≡ f sessions
calm_by f None sessions blind on = refl
calm_by f (Some place) sessions blind on = calm_at f place sessions blind on

-- one PLAY more has a place
placed_more : (sessions : List PlayerSession) (plays : List Play) (play : Play) → ArePlaced sessions plays → IsQueueable (sessions_queued plays sessions) play → ArePlaced sessions (plays ++ play ∷ [])
placed_more sessions [] play placed here = (here, tt)
placed_more sessions (one ∷ plays) play placed here = (placed.0, placed_more (changed_where one.place (when_queued one) sessions) plays play placed.1 here)

plays_more : (plays : List Play) (play : Play) (sessions : List PlayerSession) → sessions_queued (plays ++ play ∷ []) sessions ≡ changed_where play.place (when_queued play) (sessions_queued plays sessions)
plays_more [] play sessions = refl
plays_more (one ∷ plays) play sessions = plays_more plays play (changed_where one.place (when_queued one) sessions)

-- What was decided, and what the next one is judged by.
filled_then : (sessions : List PlayerSession) (given : Given) (old : Progress) (decision : Decision) → IsFilled sessions given old → length given.sessions ≤ MOST_SESSIONS → IsDecidedIn given.sessions decision → HasUriWithin LONGEST_URI decision
    → IsFilled sessions (given_then decision given) (progressed decision old)
filled_then sessions given old decision filled few decided short = grind (arith, queued_seen_at, plays_more, placed_more, seen_in)

asked_then : (given : Given) (old : Progress) (decision : Decision) → old.going ≡ None → IsDecidedIn given.sessions decision → HasUriWithin LONGEST_URI decision → IsAskedIn (given_then decision given).sessions (progressed decision old).going
asked_then given old decision none decided short = grind arith

queued_length : (place : Option ℕ) (sessions : List SeenSession) → length (queued_more_where place sessions) ≡ length sessions
queued_length place sessions = calm_by length place sessions (λ one n more. refl) (λ one a b same. ap suc same)

few_then : (given : Given) (decision : Decision) → length (given_then decision given).sessions ≡ length given.sessions
few_then given decision = grind (arith, queued_length)

pub decided_on : (given : Given) (shape : Shape) → IsDecidedIn given.sessions (decision_on given shape)
decided_on given shape = decision_as (IsDecidedIn given.sessions) given shape (decided_in given shape) tt

-- What a decision sends up has a short URI, and what the next request is judged by has short ones too.
decision_within : (given : Given) (shape : Shape) → AreGivenWithin LONGEST_URI given → shape.head ≤ MOST_HEAD → HasUriWithin LONGEST_URI (decision_on given shape)
decision_within given shape known head = decision_as (HasUriWithin LONGEST_URI) given shape (decided_within LONGEST_URI given shape (omega arith) known head) tt

controls_queued : (place : ℕ) (sessions : List SeenSession) → AreControlsWithin LONGEST_URI sessions → AreControlsWithin LONGEST_URI (queued_more place sessions)
controls_queued place [] known = tt
controls_queued zero (one ∷ more) known = known
controls_queued (suc place) (one ∷ more) known = (known.0, controls_queued place more known.1)

known_then : (given : Given) (decision : Decision) → AreGivenWithin LONGEST_URI given → AreGivenWithin LONGEST_URI (given_then decision given)
known_then given decision known = grind (arith, controls_queued)

-- what becomes of all, by the parts
abbrev with_parts : List ℕ → List Play → Treated → Treated
with_parts hand plays later = record later { hand = hand; plays = plays }

-- One is treated: what becomes of all stays.
by_decision : (progress : Progress) (given : Given) (more : List Shape) (decision : Decision) → progress.going ≡ None →
    ahead progress.hand progress.plays (treated_first decision given more (treated more)) ≡ with_progress (progressed decision progress) (given_then decision given) more
by_decision progress given more decision none = grind (arith, append_assoc, append-nil)

pub progressed_treated : (decision : Decision) (progress : Progress) → (progressed decision progress).treated ≡ progress.treated
progressed_treated decision progress = grind arith

-- the next one that waits, and those behind it
next_waits : (waiting : List Shape) (at : ℕ) (shape : Shape) → slice_get waiting at ≡ Some shape → drop at waiting ≡ shape ∷ drop (at + 1) waiting
next_waits waiting at shape found =
    drop_more waiting at shape (slice_get_within waiting at shape found) ∙ ap (λ one. one ∷ drop (at + 1) waiting) (get_or_from_slice_get waiting at shape shape found)

pub way_begins : (given : Given) (waiting : List Shape) (first : List ℕ) → length given.sessions ≤ MOST_SESSIONS → AreGivenWithin LONGEST_URI given → IsOnTheWay given given waiting first (begun first)
way_begins given waiting first few known = grind arith

pub same_treated : (given : Given) (old new : Progress) (shape : Shape) → new ≡ progressed (decision_on given shape) old → new.treated ≡ old.treated
same_treated given old new shape is = ap (λ (one : Progress). one.treated) is ∙ progressed_treated (decision_on given shape) old

-- the parts that hold of the progress by the next request
pub record IsOneOn (first_given given next : Given) (old new : Progress) (shape : Shape) : Type 0 where
  pub leads : (more : List Shape) → with_progress new next more ≡ with_progress old given (shape ∷ more)
  pub filled : (sessions : List PlayerSession) → IsFilled sessions given old → IsFilled sessions next new
  pub few : length next.sessions ≤ MOST_SESSIONS
  pub known : AreGivenWithin LONGEST_URI next
  pub asked : IsAskedIn next.sessions new.going

pub one_on : (first_given given next : Given) (old new : Progress) (shape : Shape) → old.going ≡ None → length given.sessions ≤ MOST_SESSIONS → AreGivenWithin LONGEST_URI given → shape.head ≤ MOST_HEAD → new ≡ progressed (decision_on given shape) old
    → next ≡ given_then (decision_on given shape) given → IsOneOn first_given given next old new shape
one_on first_given given next old new shape none few known head is then =
    let short = decision_within given shape known head in
    subst (λ (one : Progress). IsOneOn first_given given next old one shape) (sym is)
    (subst (λ (one : Given). IsOneOn first_given given one old (progressed (decision_on given shape) old) shape) (sym then) (record {
      leads = λ more. sym (grind (arith, by_decision));
      filled = λ sessions filled. filled_then sessions given old (decision_on given shape) filled few (decided_on given shape) short;
      few = subst (λ n. n ≤ MOST_SESSIONS) (sym (few_then given (decision_on given shape))) few;
      known = known_then given (decision_on given shape) known;
      asked = asked_then given old (decision_on given shape) none (decided_on given shape) short;
    }))

pub way_goes_on : (first_given given next : Given) (waiting : List Shape) (first : List ℕ) (old new : Progress) (shape : Shape) → IsOnTheWay first_given given waiting first old → old.going ≡ None → slice_get waiting old.treated ≡ Some shape
    → shape.head ≤ MOST_HEAD → new ≡ progressed (decision_on given shape) old → next ≡ given_then (decision_on given shape) given → IsOnTheWay first_given next waiting first (record new { treated = new.treated + 1 })
way_goes_on first_given given next waiting first old new shape way none found head is then =
    let on = one_on first_given given next old new shape none way.few way.known head is then in
    record {
      within = let within = slice_get_within waiting old.treated shape found in let same = same_treated given old new shape is in omega (arith, within, same);
      leads = λ more.
          ap (λ n. with_progress new next (drop (n + 1) waiting ++ more)) (same_treated given old new shape is)
          ∙ on.leads (drop (old.treated + 1) waiting ++ more)
          ∙ ap (λ (left : List Shape). with_progress old given (left ++ more)) (sym (next_waits waiting old.treated shape found))
          ∙ way.leads more;
      filled = λ sessions same. let filled = on.filled sessions (way.filled sessions same) in record { counts = filled.counts; placed = filled.placed };
      few = on.few;
      known = on.known;
      asked = on.asked;
    }

-- what the next request is judged by
pub shown_then : (bases : Bases) (full : Bool) (described : Option (List ℕ)) (sessions : List SeenSession) (decision : Decision) (found : List SeenSession) → found ≡ sessions_then decision sessions
    → given_shown bases full found described ≡ given_then decision (given_shown bases full sessions described)
shown_then bases full described sessions decision found is = grind arith

-- What a plan tells of requests that are treated one after another.
-- So far they were treated.
pub record IsWayBy (next : ℕ) (pair : Option ℕ) (first_given given : Given) (waiting : List Shape) (first : List ℕ) (change : Change) (plan : PlannedStep) : Type 0 where
  pub progress : Progress
  pub finished : IsFinished next pair change progress plan
  pub way : IsOnTheWay first_given given waiting first progress

-- A request goes up by the plan where one does.
pub up_is : (next : ℕ) (pair : Option ℕ) (change : Change) (progress : Progress) (plan : PlannedStep) → IsFinished next pair change progress plan → is_up plan.up ≡ is_some progress.going
up_is next pair change progress plan finished = grind arith

-- as many were treated as before
pub treated_same : (next : ℕ) (pair : Option ℕ) (given : Given) (shape : Shape) (old new : PlannedStep) (sessions : List SeenSession) (change : Change) (progress : Progress) → IsFinished next pair change progress old → IsNextTreated next pair given shape old new sessions
    → new.treated ≡ old.treated
treated_same next pair given shape old new sessions change progress finished more =
    (more.progress change progress finished).treated ∙ progressed_treated (decision_on given shape) progress ∙ sym finished.treated

-- One more is treated.
pub way_by : (next : ℕ) (pair : Option ℕ) (first_given given then : Given) (waiting : List Shape) (first : List ℕ) (change : Change) (old new : PlannedStep) (shape : Shape) (sessions : List SeenSession)
    → IsWayBy next pair first_given given waiting first change old → is_up old.up ≡ false → slice_get waiting old.treated ≡ Some shape → shape.head ≤ MOST_HEAD → IsNextTreated next pair given shape old new sessions → then ≡ given_then (decision_on given shape) given
    → IsWayBy next pair first_given then waiting first change (record new { treated = new.treated + 1 })
way_by next pair first_given given then waiting first change old new shape sessions way none found head more is =
    let after : Progress = progressed (decision_on given shape) way.progress in
    let told = more.progress change way.progress way.finished in
    record {
      progress = record after { treated = after.treated + 1 };
      finished = record { change = told.change; treated = ap (λ n. n + 1) told.treated; plays = told.plays; hand = told.hand; up = told.up };
      way = way_goes_on first_given given then waiting first way.progress after shape way.way (not_going way.progress.going (sym (up_is next pair change way.progress old way.finished) ∙ none))
          (ap (slice_get waiting) (sym way.finished.treated) ∙ found) head refl is;
    }

-- One more is treated, as it was decided.
pub next_is : (next : ℕ) (pair : Option ℕ) (given : Given) (shape : Shape) (old new : PlannedStep) (sessions : List SeenSession) (decision : Decision) → decision ≡ decision_on given shape
    → ((change : Change) (before : Progress) → IsFinished next pair change before old → IsFinished next pair change (progressed decision before) new) → sessions ≡ sessions_then decision given.sessions → IsNextTreated next pair given shape old new sessions
next_is next pair given shape old new sessions decision is told found = record {
  progress = λ change before finished. subst (λ (one : Decision). IsFinished next pair change (progressed one before) new) is (told change before finished);
  found = found ∙ ap (λ (one : Decision). sessions_then one given.sessions) is;
}

-- a plan that makes another change
pub with_change : (next : ℕ) (pair : Option ℕ) (change other : Change) (progress : Progress) (plan : PlannedStep) → IsFinished next pair change progress plan → IsFinished next pair other progress (record plan { change = other })
with_change next pair change other progress plan finished = record { change = refl; treated = finished.treated; plays = finished.plays; hand = finished.hand; up = finished.up }

-- A PLAY that waits is counted.
-- one more in the session at a place
abbrev one_more : Option SessionView → SeenSession
one_more view = record (session_shown view) { queued = (session_shown view).queued + 1 }

counted_at : (sessions : List (Option SessionView)) (place : ℕ) (view : SessionView) (d new : Option SessionView) → place < length sessions → slice_index_or sessions place d ≡ Some view → session_shown new ≡ one_more (Some view)
    → map session_shown (slice_set sessions place new) ≡ queued_more place (map session_shown sessions)
counted_at [] place view d new within is more = absurd (omega (arith, within))
counted_at (one ∷ rest) zero view d new within is more = ap (λ first. first ∷ map session_shown rest) (more ∙ ap one_more (sym is))
counted_at (one ∷ rest) (suc place) view d new within is more = ap (λ later. session_shown one ∷ later) (counted_at rest place view d new (omega (arith, within)) is more)

pub counted_where : (sessions : List (Option SessionView)) (given : Option ℕ) (place at : ℕ) (view : SessionView) (d new : Option SessionView) → given ≡ Some place → at ≡ place → place < length sessions → slice_index_or sessions at d ≡ Some view
    → session_shown new ≡ one_more (Some view) → map session_shown (slice_set sessions at new) ≡ queued_more_where given (map session_shown sessions)
counted_where sessions given place at view d new is same within found more = grind (arith, counted_at)

none_at : (sessions : List (Option SessionView)) (place : ℕ) (d : Option SessionView) → place < length sessions → slice_index_or sessions place d ≡ None → (slice_index_or (map session_shown sessions) place no_session).id ≡ None
none_at [] place d within is = absurd (omega (arith, within))
none_at (one ∷ rest) zero d within is = ap (λ view. (session_shown view).id) is
none_at (one ∷ rest) (suc place) d within is = none_at rest place d (omega (arith, within)) is

mapped : (sessions : List (Option SessionView)) → length (map session_shown sessions) ≡ length sessions
mapped [] = refl
mapped (one ∷ rest) = ap suc (mapped rest)

-- a place that is named is within, and has a session
pub named_at : (sessions : List (Option SessionView)) (given : Option ℕ) (place : ℕ) → given ≡ Some place → NamesSession given (map session_shown sessions) → place < length sessions
named_at sessions given place is named = subst (λ n. place < n) (mapped sessions) (subst (λ one. NamesSession one (map session_shown sessions)) is named).0

pub named_there : (sessions : List (Option SessionView)) (given : Option ℕ) (place at : ℕ) (d : Option SessionView) → given ≡ Some place → at ≡ place → NamesSession given (map session_shown sessions) → slice_index_or sessions at d ≡ None → ⊥
named_there sessions given place at d is same named none = grind (arith, none_at, named_at)

-- What requests are judged by has short URIs.
is_short : (uri : Option (List ℕ)) → is_short_where uri ≡ true → IfSome uri (λ one. length one ≤ LONGEST_URI)
is_short None short = tt
is_short (Some uri) short = leb-true (length uri) LONGEST_URI short

found_short : (sights : List Sight) → are_sights_short sights ≡ true → AreControlsWithin LONGEST_URI (map session_in_sight sights)
found_short [] short = tt
found_short (one ∷ more) short =
    let parts = and_parts (is_short_where one.control) (are_sights_short more) short in
    (is_short one.control parts.0, found_short more parts.1)

pub known_by : (bases : Bases) (full : Bool) (sights : List Sight) (described : Option (List ℕ)) (found : List SeenSession) → are_sights_short sights ≡ true → is_short_where described ≡ true → found ≡ map session_in_sight sights
    → AreGivenWithin LONGEST_URI (given_shown bases full found described)
known_by bases full sights described found controls short is =
    subst (λ (all : List SeenSession). AreGivenWithin LONGEST_URI (given_shown bases full all described)) (sym is)
    (record { up = bases.up.whole.short; sessions = found_short sights controls; described = is_short described short })

pub known_shown : (bases : Bases) (full : Bool) (outlook : Outlook) (found : List SeenSession) → found ≡ map session_in_sight (sights_of outlook) → AreGivenWithin LONGEST_URI (given_shown bases full found (option_copied outlook.described))
known_shown bases full outlook found is =
    known_by bases full (sights_of outlook) (option_copied outlook.described) found outlook.controls outlook.short is

-- What becomes of requests in a row does not depend on the numbers of the pairs of channels.
more_under : (pairs : ℕ → ℕ) (place : ℕ) (sessions : List SeenSession) → map (session_with_pairs pairs) (queued_more place sessions) ≡ queued_more place (map (session_with_pairs pairs) sessions)
more_under pairs place [] = refl
more_under pairs zero (one ∷ more) = refl
more_under pairs (suc place) (one ∷ more) = ap (λ later. session_with_pairs pairs one ∷ later) (more_under pairs place more)

pub decision_under : (pairs : ℕ → ℕ) (given : Given) (shape : Shape) → decision_on (with_pairs pairs given) shape ≡ decision_on given shape
decision_under pairs given shape = ap (λ (decision : Decision). cond (fits_memory shape) decision (Answer [])) (decide_under pairs given shape)

treated_by : (pairs : ℕ → ℕ) (decision : Decision) (given : Given) (more : List Shape) (again : Given → Treated) → ((one : Given) → again (with_pairs pairs one) ≡ again one)
    → treated_first decision (with_pairs pairs given) more again ≡ treated_first decision given more again
treated_by pairs decision given more again same = grind (arith, more_under)

-- nor does what becomes of requests in a row
pub treated_under : (pairs : ℕ → ℕ) (shapes : List Shape) (given : Given) → treated shapes (with_pairs pairs given) ≡ treated shapes given
treated_under pairs [] given = refl
treated_under pairs (shape ∷ more) given =
    ap (λ decision. treated_first decision (with_pairs pairs given) more (treated more)) (decision_under pairs given shape)
    ∙ treated_by pairs (decision_on given shape) given more (treated more) (treated_under pairs more)
