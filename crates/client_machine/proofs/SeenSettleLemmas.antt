-- A reply of the server to a player's request is the next step of the walks.
use Rattle.std.proofs.Common.{◌≡◌, ◌≢◌, ◌∙◌, ◌+◌, ◌<◌, ◌≤◌, ◌==◌, ◌&&◌, ℕ, zero, suc, Bool, true, false, cond, List, [], ◌∷◌, ◌++◌, length, Option, None, Some, refl, sym, ap, subst, unwrap_or, option_and_then, ◌⊎◌, inl, inr, arith}
use Rattle.std.specs.Prelude.{codes, is_some, is_none}
use Rattle.std.specs.List.{list_all}
use Rattle.std.specs.Option.{option_or}
use Rattle.std.proofs.lemmas.Bool.{eqb-true, eqb-false}
use Rattle.std.proofs.lemmas.Slice.Eq.{bytes_eq-Decides}
use Rattle.rtsp_head.specs.Items.{Shape}
use Rattle.rtsp_head.specs.Headers.{field_of}
use Rattle.rtsp_head.specs.HeadText.{is_header}
use Rattle.rtsp_head.specs.declared.item.TheConstants.{MOST_BODY}
use Rattle.rtsp_small.specs.declared.method.Method.{Method}
use Rattle.rtsp_small.specs.declared.method.Method.TheVariants as methods
use Rattle.rtsp_uri.specs.declared.base.Bases.{Bases}
use Rattle.head_one.specs.declared.reply.Reply1.{Reply1}
use Rattle.head_one.specs.Replies.{reply_text, IsReply}
use Rattle.head_one.specs.Requests.{request_of_item}
use Rattle.session_one.specs.declared.parts.Asked.{Asked}
use Rattle.session_one.specs.declared.parts.Play.{Play}
use Rattle.session_one.specs.declared.parts.Track.{Track}
use Rattle.session_one.specs.declared.table.State.{State}
use Rattle.session_one.specs.declared.table.State.TheVariants.{Init, Playing}
use Rattle.session_one.specs.Table.{next_of, is_allowed, is_success}
use Rattle.translate_up.specs.Fields.{field, is_setup}
use Rattle.translate_up.specs.Ids.{id_of}
use Rattle.translate_up.specs.Leads.{method_asked, number_asked, led_by}
use Rattle.translate_up.proofs.StateLemmas.{IsValidId}
use Rattle.translate_down.specs.Replies.{Told, success_of, refusal_of, reply_down}
use Rattle.translate_down.specs.Sessions.{sets_up}
use Rattle.translate_down.specs.Settings.{Setting}
use Rattle.client_slot.specs.declared.purpose.Purpose.{Purpose}
use Rattle.client_slot.specs.declared.purpose.Purpose.TheVariants as purposes
use Rattle.client_slot.specs.Session.{PlayerSession, new_session}
use Rattle.client_slot.specs.SessionTurns.{Brought, granted_turn, moved_turn, released_turn, brought_by, part_then, turned}
use Rattle.client_slot.specs.Places.{session_at, session_where, changed_at, changed_where, first_place, place_with, is_session, empty_place}
use Rattle.client_slot.specs.Bounds.{IsTidyBy, AreTidy}
use Rattle.client_slot.specs.Client.{Client}
use Rattle.client_slot.specs.Changes.{purpose_place, settled_place, session_after, settle_with}
use Rattle.client_slot.proofs.PlaceLemmas.{place_is, changed_here, changed_other, first_changed, nothing_changed_where, same_changes_where}
use Rattle.client_slot.proofs.TidyLemmas.{tidy_at}
use Rattle.client_machine.specs.Events.{hands}
use Rattle.client_machine.specs.Step.{new_id_at, new_id, setting, reply_hand, id_after, settled}
use Rattle.client_machine.specs.SeenRun.{SeenStep, id_brought, id_by, id_about, may_become}
use Rattle.client_machine.proofs.EachLemmas.{one_where, by_test}
use Rattle.client_machine.proofs.PlaceLemmas.{IsInPlace}
use Rattle.client_machine.proofs.SeenWalkLemmas.{IsMoved, moved, led_for, IsWalked, step_walked}
use Rattle.client_machine.proofs.SeenTreatLemmas.{counted, IsNamedAt, id_is}
use Rattle.client_machine.proofs.SeenGoLemmas.{places_of, states_of, IsSound, IsAsked, IsOpen, IsStanding, IsWalking, walks_on, each_where, same_places}
use Rattle.client_machine.proofs.SeenReplyLemmas.{code_refuses, down_readable, brought_is}

-- no two sessions have one id
abbrev pub AreDistinct : List PlayerSession → Type 0
AreDistinct sessions = (place : ℕ) (id : List ℕ) → (session_at place sessions).id ≡ Some id → place_with id sessions ≡ Some place

-- What a reply makes of the states, by the id that it is about and by the place that its request names.
record IsSettledSo (at : List ℕ → State) (before after : List PlayerSession) (place : Option ℕ) (next : State) (about : Option (List ℕ)) : Type 0 where
  pub named : (id : List ℕ) → is_session id about ≡ true → places_of before id ≡ place
  pub became : (id : List ℕ) → may_become (cond (is_session id about) next (at id)) (states_of after (places_of after id)) ≡ true

-- One step more of the walks, by a reply to the open request.
step_made : (at : List ℕ → State) (client after : Client) (requests owed : List Shape) (asked : Asked) (track : Option Track) (reply : Reply1) (next : State) (hand : List ℕ)
    (o : IsAsked at (places_of client.sessions) (states_of client.sessions) asked track owed)
    → requests ≡ owed ++ counted client.waiting → after.alive ≡ true → after.pending ≡ None → after.waiting ≡ client.waiting → hand ≡ reply_text reply → IsReply reply → reply.cseq ≡ Some asked.cseq
    → led_by o.from (Some asked.method) reply.code ≡ Some next
    → IsSettledSo at client.sessions after.sessions asked.place next (id_by (field o.sent.request (codes "Session")) asked.method reply)
    → ((place : Option ℕ) → IsSound (session_where place after.sessions)) → IsWalking at requests (hands hand after)
step_made at client after requests owed asked track reply next hand o are alive idle waits text readable number leads so each =
    let step : SeenStep = record { request = o.shape; reply = reply } in
    let named : number_asked (request_of_item o.shape) ≡ Some asked.cseq = ap number_asked o.sent.found_is ∙ ap (λ n. Some n) o.sent.cseq in
    let method : method_asked (request_of_item o.shape) ≡ Some asked.method = ap method_asked o.sent.found_is ∙ ap (λ m. Some m) o.sent.method in
    let about : id_about (request_of_item o.shape) reply ≡ id_by (field o.sent.request (codes "Session")) asked.method reply =
    ap (λ found. id_about found reply) o.sent.found_is ∙ ap (λ m. id_by (field o.sent.request (codes "Session")) m reply) o.sent.method in
    record {
      now = led_for at step next;
      left = counted client.waiting;
      walked = subst (λ (l : List Shape). IsWalked at l hand (led_for at step next) (counted client.waiting)) (sym (are ∙ ap (λ (l : List Shape). l ++ counted client.waiting) o.owed_is))
          (step_walked at step o.from next (counted client.waiting) hand (λ id is. o.reached id (so.named id (sym (ap (is_session id) about) ∙ is))) (ap (λ m. led_by o.from m reply.code) method ∙ leads) (number ∙ sym named) readable text);
      stands = record {
        alive = alive;
        became = λ id. ap (λ one. may_become (cond (is_session id one) next (at id)) (states_of after.sessions (places_of after.sessions id))) about ∙ so.became id;
        each = each;
        owed = [];
        is_open = subst (λ (p : Option Purpose). IsOpen (led_for at step next) after.sessions p []) (sym idle) refl;
        requests_are = ap counted (sym waits);
      };
    }

-- the state that a success moves a session to
abbrev pub moves_to : Method → State → State
moves_to method state = unwrap_or (next_of state method) state

-- what a success makes of a session
granted_sound : (method : Method) (from : State) (made : Bool) (brought : Brought) (session : PlayerSession) → is_allowed from method ≡ true → may_become from session.state ≡ true → IsSound session → IsValidId brought.id
    → IsSound (turned (granted_turn method made (moves_to method session.state)) brought session)
granted_sound method from made brought session allowed may sound new = grind arith

-- The id that a reply makes is in the grammar.
new_by : (sets : Bool) (place : Option ℕ) (told : Told) → IsValidId (new_id_at sets place told)
new_by sets place told = grind arith

none_new : (sets : Bool) (place : ℕ) (told : Told) → new_id_at sets (Some place) told ≡ None
none_new sets place told = grind arith

-- A session that is not that of an id is found by it neither before nor after.
off_at : (place : ℕ) (change : PlayerSession → PlayerSession) (sessions : List PlayerSession) (id : List ℕ) → is_session id (session_at place sessions).id ≡ false → is_session id (change (session_at place sessions)).id ≡ false
    → states_of (changed_at place change sessions) (places_of (changed_at place change sessions) id) ≡ states_of sessions (places_of sessions id)
off_at place change sessions id was new =
    ap (states_of (changed_at place change sessions)) (first_changed (λ session. is_session id session.id) 0 place change sessions (new ∙ sym was)) ∙ by (places_of sessions id) refl
  where
    by : (q : Option ℕ) → place_with id sessions ≡ q → states_of (changed_at place change sessions) q ≡ states_of sessions q
    by None is = refl
    by (Some at) is = ap (λ (session : PlayerSession). session.state) (changed_other place at change sessions
        (λ same. let here = place_is (λ session. is_session id session.id) at sessions is in
        let bad : true ≡ false = sym (subst (λ (k : ℕ). is_session id (session_at k sessions).id ≡ true) same here.passes) ∙ was in cc))

-- One that is gone is found nowhere.
gone_place : (place : ℕ) (change : PlayerSession → PlayerSession) (sessions : List PlayerSession) (id : List ℕ) → AreDistinct sessions → place_with id sessions ≡ Some place → (change (session_at place sessions)).id ≡ None
    → (q : Option ℕ) → place_with id (changed_at place change sessions) ≡ q → q ≡ None
gone_place place change sessions id distinct is gone None found = refl
gone_place place change sessions id distinct is gone (Some at) found = absurd (by (at == place) refl)
  where
    by : (same : Bool) → (at == place) ≡ same → ⊥
    by true e =
        let there = place_is (λ session. is_session id session.id) place sessions is in
        let here = place_is (λ session. is_session id session.id) at (changed_at place change sessions) found in
        let passes : is_session id (session_at place (changed_at place change sessions)).id ≡ true = subst (λ (k : ℕ). is_session id (session_at k (changed_at place change sessions)).id ≡ true) (eqb-true at place e) here.passes in
        let bad : true ≡ false = sym passes ∙ ap (λ (session : PlayerSession). is_session id session.id) (changed_here place change sessions there.within) ∙ ap (is_session id) gone in
        cc
    by false e =
        let here = place_is (λ session. is_session id session.id) at (changed_at place change sessions) found in
        let apart : at ≢ place = eqb-false at place e in
        let own : (session_at at sessions).id ≡ Some id =
        sym (ap (λ (session : PlayerSession). session.id) (changed_other place at change sessions apart)) ∙ id_is (session_at at (changed_at place change sessions)).id id here.passes in
        let both : Some at ≡ Some place = sym (distinct at id own) ∙ is in
        let same : at ≡ place = cc in
        apart same

-- One that was made is found at its place.
filled_first : (test : PlayerSession → Bool) (from place : ℕ) (change : PlayerSession → PlayerSession) (sessions : List PlayerSession) → first_place test from sessions ≡ None → place < length sessions → test (change (session_at place sessions)) ≡ true
    → first_place test from (changed_at place change sessions) ≡ Some (from + place)
filled_first test from place change [] none within passes = absurd (omega (arith, within))
filled_first test from zero change (one ∷ more) none within passes = grind (arith)
filled_first test from (suc place) change (one ∷ more) none within passes = grind (arith, filled_first test (from + 1) place change more)

-- what a success makes of a session
abbrev granted : Asked → Option Track → ℕ → Option (List ℕ) → Option (List ℕ) → PlayerSession → PlayerSession
granted asked track number described new session = turned (granted_turn asked.method (is_some new) (moves_to asked.method session.state)) (brought_by (purposes.Client asked track) number described new) session

abbrev turned_so : Asked → Option Track → ℕ → Option (List ℕ) → Option (List ℕ) → PlayerSession → Bool → PlayerSession
turned_so asked track number described new session success =
    turned (cond success (granted_turn asked.method (is_some new) (cond success (moves_to asked.method session.state) session.state)) (moved_turn session.state)) (brought_by (purposes.Client asked track) number described new) session

abbrev AreReached : (List ℕ → State) → List PlayerSession → Type 0
AreReached at sessions = (id : List ℕ) → may_become (at id) (states_of sessions (places_of sessions id)) ≡ true

-- nothing changes, and it is about no session
none_so : (at : List ℕ → State) (before after : List PlayerSession) (place : Option ℕ) (next : State) (about : Option (List ℕ)) → AreReached at before → after ≡ before → about ≡ None → IsSettledSo at before after place next about
none_so at before after place next about became same none = grind arith

-- a refusal changes nothing
refused_so : (at : List ℕ → State) (before after : List PlayerSession) (place : Option ℕ) (from : State) (about : Option (List ℕ)) → AreReached at before → after ≡ before
    → ((id : List ℕ) → is_session id about ≡ true → places_of before id ≡ place) → may_become from (states_of before place) ≡ true → IsSettledSo at before after place from about
refused_so at before after place from about became same named may = grind arith

told_so : (at : List ℕ → State) (before after : List PlayerSession) (place : Option ℕ) (next : State) (one : List ℕ) → places_of before one ≡ place → may_become next (states_of after (places_of after one)) ≡ true
    → ((id : List ℕ) → is_session id (Some one) ≡ false → may_become (at id) (states_of after (places_of after id)) ≡ true) → IsSettledSo at before after place next (Some one)
told_so at before after place next one named on off = grind (arith, places_of, bytes_eq-Decides, by_test, states_of)

-- a success for a session that is named
on_granted : (method : Method) (brought : Brought) (place : ℕ) (sessions : List PlayerSession) (id : List ℕ) (next : State) → AreDistinct sessions → place_with id sessions ≡ Some place → may_become next (moves_to method (session_at place sessions).state) ≡ true
    → may_become next (states_of (changed_at place (λ session. turned (granted_turn method false (moves_to method session.state)) brought session) sessions) (places_of (changed_at place (λ session. turned (granted_turn method false (moves_to method session.state)) brought session) sessions) id)) ≡ true
on_granted method brought place sessions id next distinct is may = grind (arith, place_is, states_of, first_changed, changed_here, gone_place)

named_so : (at : List ℕ → State) (sessions : List PlayerSession) (place : ℕ) (asked : Asked) (track : Option Track) (number : ℕ) (described : Option (List ℕ)) (one : List ℕ) (next : State) → AreDistinct sessions → place_with one sessions ≡ Some place → AreReached at sessions
    → may_become next (moves_to asked.method (session_at place sessions).state) ≡ true → IsSettledSo at sessions (changed_at place (granted asked track number described None) sessions) (Some place) next (Some one)
named_so at sessions place asked track number described one next distinct is became may =
    let change : PlayerSession → PlayerSession = granted asked track number described None in
    let session : PlayerSession = session_at place sessions in
    let there = place_is (λ session. is_session one session.id) place sessions is in
    let own : session.id ≡ Some one = id_is session.id one there.passes in
    told_so at sessions (changed_at place change sessions) (Some place) next one is (on_granted asked.method (brought_by (purposes.Client asked track) number described None) place sessions one next distinct is may)
    (λ id other.
    let was : is_session id session.id ≡ false = ap (is_session id) own ∙ other in
    ap (λ (s : State). may_become (at id) s) (off_at place change sessions id was (grind arith)) ∙ became id)

-- a success of a SETUP that makes a session
empty_is : (sessions : List PlayerSession) (place : Option ℕ) → AreTidy sessions → empty_place sessions ≡ place → session_where place sessions ≡ new_session
empty_is sessions None tidy is = refl
empty_is sessions (Some place) tidy is = by (session_at place sessions).id (place_is (λ session. is_none session.id) place sessions is).passes (tidy_at place sessions tidy)
  where
    by : (id : Option (List ℕ)) → is_none id ≡ true → IsTidyBy id (session_at place sessions) → session_at place sessions ≡ new_session
    by None none tidy = tidy
    by (Some id) none tidy = cc

filled_so : (at : List ℕ → State) (sessions : List PlayerSession) (place : ℕ) (asked : Asked) (track : Option Track) (number : ℕ) (described : Option (List ℕ)) (one : List ℕ) (next : State) → asked.method ≡ methods.Setup → AreTidy sessions
    → place_with one sessions ≡ None → empty_place sessions ≡ Some place → AreReached at sessions → may_become next (moves_to methods.Setup Init) ≡ true
    → IsSettledSo at sessions (changed_at place (granted asked track number described (Some one)) sessions) None next (Some one)
filled_so at sessions place asked track number described one next setup tidy fresh empty became may =
    let change : PlayerSession → PlayerSession = granted asked track number described (Some one) in
    let session : PlayerSession = session_at place sessions in
    let there = place_is (λ session. is_none session.id) place sessions empty in
    let new : session ≡ new_session = empty_is sessions (Some place) tidy empty in
    let passes : is_session one (change session).id ≡ true =
    ap (λ (m : Method). is_session one (part_then (granted_turn m true (moves_to m session.state)).id session.id (Some one))) setup ∙ (bytes_eq-Decides one one).1 refl in
    let reaches : may_become next (change session).state ≡ true =
    ap (λ (m : Method). may_become next (granted_turn m true (moves_to m session.state)).state) setup ∙ ap (λ (s : PlayerSession). may_become next (moves_to methods.Setup s.state)) new ∙ may in
    told_so at sessions (changed_at place change sessions) None next one fresh (grind (arith, states_of, filled_first, changed_here))
    (λ id other.
    let was : is_session id session.id ≡ false = ap (λ (s : PlayerSession). is_session id s.id) new in
    ap (λ (s : State). may_become (at id) s) (off_at place change sessions id was (grind arith)) ∙ became id)

made_so : (at : List ℕ → State) (sessions : List PlayerSession) (empty : Option ℕ) (asked : Asked) (track : Option Track) (number : ℕ) (described new : Option (List ℕ)) (next : State) → asked.method ≡ methods.Setup → AreTidy sessions
    → ((id : List ℕ) → new ≡ Some id → place_with id sessions ≡ None) → empty_place sessions ≡ empty → AreReached at sessions → may_become next (moves_to methods.Setup Init) ≡ true
    → IsSettledSo at sessions (changed_where (cond (is_some new) empty None) (granted asked track number described new) sessions) None next
    (session_where empty (changed_where (cond (is_some new) empty None) (granted asked track number described new) sessions)).id
made_so at sessions empty asked track number described None next setup tidy fresh is became may =
    none_so at sessions sessions None next (session_where empty sessions).id became refl (ap (λ (s : PlayerSession). s.id) (empty_is sessions empty tidy is))
made_so at sessions None asked track number described (Some one) next setup tidy fresh is became may = none_so at sessions sessions None next None became refl refl
made_so at sessions (Some place) asked track number described (Some one) next setup tidy fresh is became may =
    let change : PlayerSession → PlayerSession = granted asked track number described (Some one) in
    let there = place_is (λ session. is_none session.id) place sessions is in
    let about : (session_at place (changed_at place change sessions)).id ≡ Some one =
    ap (λ (s : PlayerSession). s.id) (changed_here place change sessions there.within)
    ∙ ap (λ (m : Method). part_then (granted_turn m true (moves_to m (session_at place sessions).state)).id (session_at place sessions).id (Some one)) setup in
    subst (IsSettledSo at sessions (changed_at place change sessions) None next) (sym about) (filled_so at sessions place asked track number described one next setup tidy (fresh one refl) is became may)

-- the place that is settled, by the place that a request names and by whether it makes a session
abbrev settled_by : Option ℕ → Bool → List PlayerSession → Option ℕ
settled_by place makes sessions = option_or place (cond makes (empty_place sessions) None)

-- the sessions after a success
abbrev all_granted : Asked → Option Track → ℕ → Option (List ℕ) → Option ℕ → Option (List ℕ) → List PlayerSession → List PlayerSession
all_granted asked track number described place new sessions = changed_where (settled_by place (is_setup asked.method && is_some new) sessions) (granted asked track number described new) sessions

success_so : (at : List ℕ → State) (sessions : List PlayerSession) (asked : Asked) (track : Option Track) (number : ℕ) (described : Option (List ℕ)) (told : Told) (from : State) (place : Option ℕ) (value : Option (List ℕ)) (reply : Reply1) → AreDistinct sessions → AreTidy sessions
    → AreReached at sessions → IsNamedAt (places_of sessions) value place → ((id : List ℕ) → new_id_at (sets_up asked.method) place told ≡ Some id → place_with id sessions ≡ None) → is_success reply.code ≡ true → (move : IsMoved from (states_of sessions place) asked.method)
    → (asked.method ≡ methods.Setup → option_and_then id_of (field_of reply.headers (codes "Session"))
    ≡ (session_where (settled_by place (is_setup asked.method) sessions) (all_granted asked track number described place (new_id_at (sets_up asked.method) place told) sessions)).id)
    → IsSettledSo at sessions (all_granted asked track number described place (new_id_at (sets_up asked.method) place told) sessions) place move.next (id_by value asked.method reply)
success_so at sessions asked track number described told from (Some place) None reply distinct tidy became named fresh success move brought = cc
success_so at sessions asked track number described told from (Some place) (Some value) reply distinct tidy became (one, is, there, some) fresh success move brought =
    subst (λ (new : Option (List ℕ)). IsSettledSo at sessions (changed_at place (granted asked track number described new) sessions) (Some place) move.next (id_of value)) (sym (none_new (sets_up asked.method) place told))
    (subst (IsSettledSo at sessions (changed_at place (granted asked track number described None) sessions) (Some place) move.next) (sym is)
    (named_so at sessions place asked track number described one move.next distinct there became move.became))
success_so at sessions asked track number described told from None (Some value) reply distinct tidy became (one, is, there, some) fresh success move brought = cc
success_so at sessions asked track number described told from None None reply distinct tidy became named fresh success move brought = by (grind arith)
  where
    by : (asked.method ≡ methods.Setup) ⊎ (is_setup asked.method ≡ false)
        → IsSettledSo at sessions (all_granted asked track number described None (new_id_at (sets_up asked.method) None told) sessions) None move.next (id_brought asked.method reply)
    by (inr other) =
        let new : Option (List ℕ) = new_id_at (sets_up asked.method) None told in
        none_so at sessions (all_granted asked track number described None new sessions) None move.next (id_brought asked.method reply) became
        (ap (λ (b : Bool). changed_where (cond (b && is_some new) (empty_place sessions) None) (granted asked track number described new) sessions) other)
        (ap (λ (b : Bool). cond (b && is_success reply.code) (option_and_then id_of (field_of reply.headers (codes "Session"))) None) other)
    by (inl setup) =
        let new : Option (List ℕ) = new_id_at (sets_up asked.method) None told in
        let is : is_setup asked.method ≡ true = ap is_setup setup in
        let made : List PlayerSession = changed_where (cond (is_some new) (empty_place sessions) None) (granted asked track number described new) sessions in
        let all_is : all_granted asked track number described None new sessions ≡ made =
        ap (λ (b : Bool). changed_where (cond (b && is_some new) (empty_place sessions) None) (granted asked track number described new) sessions) is in
        let about : id_brought asked.method reply ≡ (session_where (empty_place sessions) made).id =
        ap (λ (b : Bool). cond (b && is_success reply.code) (option_and_then id_of (field_of reply.headers (codes "Session"))) None) is
        ∙ ap (λ (b : Bool). cond b (option_and_then id_of (field_of reply.headers (codes "Session"))) None) success ∙ brought setup
        ∙ ap (λ (b : Bool). (session_where (cond b (empty_place sessions) None) (all_granted asked track number described None new sessions)).id) is
        ∙ ap (λ (all : List PlayerSession). (session_where (empty_place sessions) all).id) all_is in
        subst (λ (all : List PlayerSession). IsSettledSo at sessions all None move.next (id_brought asked.method reply)) (sym all_is)
        (subst (IsSettledSo at sessions made None move.next) (sym about)
        (made_so at sessions (empty_place sessions) asked track number described new move.next setup tidy fresh refl became (subst (λ (m : Method). may_become move.next (moves_to m Init) ≡ true) setup move.became)))

-- the place that is settled has a state that the request's can lead to
became_settled : (place : Option ℕ) (sets made : Bool) (sessions : List PlayerSession) (from : State) → AreTidy sessions → may_become from (states_of sessions place) ≡ true → may_become from (states_of sessions (settled_by place (sets && made) sessions)) ≡ true
became_settled place sets made sessions from tidy may = grind (arith, empty_is)

-- Where a request names no session, its refusal is about none; and else about the one that it names.
refused_about : (places : List ℕ → Option ℕ) (value : Option (List ℕ)) (place : Option ℕ) (method : Method) (reply : Reply1) (id : List ℕ) → IsNamedAt places value place → is_success reply.code ≡ false → is_session id (id_by value method reply) ≡ true → places id ≡ place
refused_about places value place method reply id named refused is = grind (arith, option_and_then, id_is)

-- A reply to the player's own request.
asked_settles : (success : Bool) (bases : Bases) (number : ℕ) (at : List ℕ → State) (client : Client) (requests : List Shape) (asked : Asked) (track : Option Track) (told : Told) (ssrc : Option ℕ) → is_success told.code ≡ success
    → list_all is_header told.fields ≡ true → length told.body ≤ MOST_BODY → AreDistinct client.sessions → IsInPlace client → (is_success told.code ≡ true → (id : List ℕ) → new_id (purposes.Client asked track) told ≡ Some id → place_with id client.sessions ≡ None)
    → (st : IsStanding at client requests) → IsAsked at (places_of client.sessions) (states_of client.sessions) asked track st.owed
    → IsWalking at requests (hands (reply_hand bases client.alive (purposes.Client asked track) told ssrc (id_after (purposes.Client asked track) client (settle_with (Some (purposes.Client asked track)) number told.code (new_id (purposes.Client asked track) told) client)))
    (settle_with (Some (purposes.Client asked track)) number told.code (new_id (purposes.Client asked track) told) client))
asked_settles true bases number at client requests asked track told ssrc e fields body distinct placed fresh st o =
    let purpose : Purpose = purposes.Client asked track in
    let new : Option (List ℕ) = new_id purpose told in
    let after : Client = settle_with (Some purpose) number told.code new client in
    let id : Option (List ℕ) = id_after purpose client after in
    let place : Setting = setting bases track ssrc told id in
    let sessions : List PlayerSession = client.sessions in
    let all : List PlayerSession = all_granted asked track number client.described asked.place new sessions in
    let where_is : Option ℕ = settled_by asked.place (is_setup asked.method && is_some new) sessions in
    let all_is : after.sessions ≡ all =
    same_changes_where where_is (session_after purpose number told.code client.described new) (granted asked track number client.described new) sessions (λ session. ap (turned_so asked track number client.described new session) e) in
    let each_all : (q : Option ℕ) → IsSound (session_where q all) =
    each_where IsSound where_is (granted asked track number client.described new) sessions
    (λ sound. granted_sound asked.method o.from (is_some new) (brought_by purpose number client.described new) (session_where where_is sessions) o.sent.allowed
    (became_settled asked.place (is_setup asked.method) (is_some new) sessions o.from placed.tidy o.became) sound (new_by (sets_up asked.method) asked.place told)) st.each in
    let each : (q : Option ℕ) → IsSound (session_where q after.sessions) = subst (λ (one : List PlayerSession). (q : Option ℕ) → IsSound (session_where q one)) (sym all_is) each_all in
    let valid : IsValidId id = (each (purpose_place purpose sessions)).id in
    let reply_is : reply_down place asked told ≡ success_of place asked told = ap (λ b. cond b (success_of place asked told) (refusal_of asked told)) e in
    let hand_is : reply_hand bases client.alive purpose told ssrc id ≡ reply_text (reply_down place asked told) = ap (λ b. cond b (reply_text (reply_down place asked told)) []) st.alive in
    let move : IsMoved o.from (states_of sessions asked.place) asked.method = moved o.from (states_of sessions asked.place) asked.method o.became o.sent.allowed in
    let so : IsSettledSo at sessions all asked.place move.next (id_by (field o.sent.request (codes "Session")) asked.method (reply_down place asked told)) =
    success_so at sessions asked track number client.described told o.from asked.place (field o.sent.request (codes "Session")) (reply_down place asked told) distinct placed.tidy st.became o.at_is (fresh e) (ap (λ (one : Reply1). is_success one.code) reply_is) move
    (λ setup. ap (λ (one : Reply1). option_and_then id_of (field_of one.headers (codes "Session"))) reply_is ∙ brought_is bases asked track told ssrc id setup valid
    ∙ ap (λ (one : List PlayerSession). (session_where (settled_by asked.place (is_setup asked.method) sessions) one).id) all_is) in
    let now : IsSettledSo at sessions after.sessions asked.place move.next (id_by (field o.sent.request (codes "Session")) asked.method (reply_down place asked told)) =
    subst (λ (one : List PlayerSession). IsSettledSo at sessions one asked.place move.next (id_by (field o.sent.request (codes "Session")) asked.method (reply_down place asked told))) (sym all_is) so in
    step_made at client after requests st.owed asked track (reply_down place asked told) move.next (reply_hand bases client.alive purpose told ssrc id) o st.requests_are st.alive refl refl hand_is
    (down_readable bases asked track told ssrc id (record { id = valid; channels = o.channels; short = o.sent.short; fields = fields; body = body }))
    (ap (λ (one : Reply1). one.cseq) reply_is) (ap (λ (one : Reply1). led_by o.from (Some asked.method) one.code) reply_is ∙ move.row) now each
asked_settles false bases number at client requests asked track told ssrc e fields body distinct placed fresh st o =
    let purpose : Purpose = purposes.Client asked track in
    let new : Option (List ℕ) = new_id purpose told in
    let after : Client = settle_with (Some purpose) number told.code new client in
    let id : Option (List ℕ) = id_after purpose client after in
    let place : Setting = setting bases track ssrc told id in
    let sessions : List PlayerSession = client.sessions in
    let all_is : after.sessions ≡ sessions =
    nothing_changed_where (settled_place purpose new sessions) (session_after purpose number told.code client.described new) sessions (λ session. ap (turned_so asked track number client.described new session) e) in
    let each : (q : Option ℕ) → IsSound (session_where q after.sessions) = subst (λ (one : List PlayerSession). (q : Option ℕ) → IsSound (session_where q one)) (sym all_is) st.each in
    let valid : IsValidId id = (each (purpose_place purpose sessions)).id in
    let reply_is : reply_down place asked told ≡ refusal_of asked told = ap (λ b. cond b (success_of place asked told) (refusal_of asked told)) e in
    let refused : is_success (reply_down place asked told).code ≡ false = ap (λ (one : Reply1). is_success one.code) reply_is ∙ code_refuses told.code e in
    let hand_is : reply_hand bases client.alive purpose told ssrc id ≡ reply_text (reply_down place asked told) = ap (λ b. cond b (reply_text (reply_down place asked told)) []) st.alive in
    let so : IsSettledSo at sessions after.sessions asked.place o.from (id_by (field o.sent.request (codes "Session")) asked.method (reply_down place asked told)) =
    refused_so at sessions after.sessions asked.place o.from (id_by (field o.sent.request (codes "Session")) asked.method (reply_down place asked told)) st.became all_is
    (λ one is. refused_about (places_of sessions) (field o.sent.request (codes "Session")) asked.place asked.method (reply_down place asked told) one o.at_is refused is) o.became in
    step_made at client after requests st.owed asked track (reply_down place asked told) o.from (reply_hand bases client.alive purpose told ssrc id) o st.requests_are st.alive refl refl hand_is
    (down_readable bases asked track told ssrc id (record { id = valid; channels = o.channels; short = o.sent.short; fields = fields; body = body }))
    (ap (λ (one : Reply1). one.cseq) reply_is)
    (ap (λ b. cond b (option_and_then (next_of o.from) (Some asked.method)) (Some o.from)) refused) so each

-- A reply to a PLAY that waited: nothing is answered, and where it is refused what played has ended.
released_sound : (success : Bool) (brought : Brought) (session : PlayerSession) → session.state ≡ Playing → IsSound session → IsSound (turned (released_turn success session.state) brought session)
released_sound success brought session playing sound = grind arith

released_may : (success : Bool) (from : State) (brought : Brought) (session : PlayerSession) → session.state ≡ Playing → may_become from session.state ≡ true → may_become from (turned (released_turn success session.state) brought session).state ≡ true
released_may success from brought session playing may = grind arith

released_settles : (bases : Bases) (number : ℕ) (at : List ℕ → State) (client : Client) (requests : List Shape) (play : Play) (told : Told) (ssrc : Option ℕ) (session new : Option (List ℕ)) (st : IsStanding at client requests) → st.owed ≡ []
    → (session_where play.place client.sessions).state ≡ Playing
    → IsWalking at requests (hands (reply_hand bases client.alive (purposes.Released play) told ssrc session) (settle_with (Some (purposes.Released play)) number told.code new client))
released_settles bases number at client requests play told ssrc session new st none playing =
    let purpose : Purpose = purposes.Released play in
    let change : PlayerSession → PlayerSession = session_after purpose number told.code client.described new in
    let brought : Brought = brought_by purpose number client.described new in
    let success : Bool = is_success told.code in
    let sessions : List PlayerSession = client.sessions in
    let own : PlayerSession = session_where play.place sessions in
    walks_on at requests (hands (reply_hand bases client.alive purpose told ssrc session) (settle_with (Some purpose) number told.code new client)) (ap (λ b. cond {A = List ℕ} b [] []) st.alive)
    (record {
      alive = st.alive;
      became = λ one. ap (λ (q : Option ℕ). may_become (at one) (states_of (changed_where play.place change sessions) q)) (same_places play.place change sessions (grind arith) one)
          ∙ one_where (λ (s : PlayerSession). may_become (at one) s.state ≡ true) play.place change sessions (released_may success (at one) brought own playing) (places_of sessions one) (st.became one);
      each = each_where IsSound play.place change sessions (released_sound success brought own playing) st.each;
      owed = [];
      is_open = refl;
      requests_are = st.requests_are ∙ ap (λ (l : List Shape). l ++ counted client.waiting) none;
    })

-- By what the open request was for.
pub settle_walks : (bases : Bases) (number : ℕ) (at : List ℕ → State) (client : Client) (requests : List Shape) (purpose : Purpose) (told : Told) (ssrc : Option ℕ) → client.pending ≡ Some purpose → list_all is_header told.fields ≡ true → length told.body ≤ MOST_BODY
    → AreDistinct client.sessions → IsInPlace client → (is_success told.code ≡ true → (id : List ℕ) → new_id purpose told ≡ Some id → place_with id client.sessions ≡ None) → IsStanding at client requests → IsWalking at requests (settled bases number purpose told ssrc client).effect
settle_walks bases number at client requests purpose told ssrc e fields body distinct placed fresh st =
    subst (λ (p : Option Purpose). IsWalking at requests (hands (reply_hand bases client.alive purpose told ssrc (id_after purpose client (settle_with p number told.code (new_id purpose told) client))) (settle_with p number told.code (new_id purpose told) client))) (sym e)
    (by purpose fresh (subst (λ (p : Option Purpose). IsOpen at client.sessions p st.owed) e st.is_open))
  where
    by : (one : Purpose) → (is_success told.code ≡ true → (id : List ℕ) → new_id one told ≡ Some id → place_with id client.sessions ≡ None) → IsOpen at client.sessions (Some one) st.owed
        → IsWalking at requests (hands (reply_hand bases client.alive one told ssrc (id_after one client (settle_with (Some one) number told.code (new_id one told) client))) (settle_with (Some one) number told.code (new_id one told) client))
    by (purposes.Client asked track) fresh is = asked_settles (is_success told.code) bases number at client requests asked track told ssrc refl fields body distinct placed fresh st is
    by (purposes.Released play) fresh is =
        released_settles bases number at client requests play told ssrc (id_after (purposes.Released play) client (settle_with (Some (purposes.Released play)) number told.code None client)) None st is.0 is.1
    by (purposes.Closing place) fresh is = absurd is
