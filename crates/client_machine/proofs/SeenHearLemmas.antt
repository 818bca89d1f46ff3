-- What an event does to a connection that stands.
use Rattle.std.proofs.Common.{◌≡◌, ◌∙◌, ◌≤◌, ◌==◌, ℕ, Bool, true, false, cond, List, [], ◌∷◌, ◌++◌, length, Option, None, Some, refl, sym, ap, subst, arith}
use Rattle.std.specs.Prelude.{codes}
use Rattle.std.specs.List.{list_all}
use Rattle.translate_up.specs.Fields.{field}
use Rattle.std.proofs.lemmas.List.{append_assoc, append-nil}
use Rattle.std.proofs.lemmas.List.Elements.{filter-append}
use Rattle.rtsp_head.specs.Items.{Shape}
use Rattle.rtsp_head.specs.HeadText.{is_header}
use Rattle.rtsp_head.specs.declared.item.ItemKind.{ItemKind}
use Rattle.rtsp_head.specs.declared.item.TheConstants.{MOST_BODY}
use Rattle.rtsp_uri.specs.declared.base.Bases.{Bases}
use Rattle.session_one.specs.declared.parts.Play.{Play}
use Rattle.session_one.specs.declared.table.State.{State}
use Rattle.session_one.specs.Table.{is_success}
use Rattle.session_one.specs.declared.table.State.TheVariants.{Ready, Playing}
use Rattle.session_two.specs.declared.names.Names.{Names}
use Rattle.session_two.specs.Ends.{end_counts}
use Rattle.translate_down.specs.Replies.{Told}
use Rattle.client_slot.specs.declared.purpose.Purpose.{Purpose}
use Rattle.client_slot.specs.declared.purpose.Purpose.TheVariants as purposes
use Rattle.client_slot.specs.Session.{PlayerSession}
use Rattle.client_slot.specs.SessionChanges.{when_ended}
use Rattle.client_slot.specs.Places.{session_where, changed_where, place_with}
use Rattle.client_slot.specs.Client.{Client}
use Rattle.client_slot.specs.Changes.{after_note}
use Rattle.client_machine.specs.Events.{Effect, stays, then_effect, PrivateEvent, arrive, answer, note, media, end, slow, up_end}
use Rattle.client_machine.specs.Frames.{frame_text}
use Rattle.client_machine.specs.Treatment.{fits_memory}
use Rattle.client_machine.specs.Step.{NextPart, rests, Hearing, idles, take_item, take, new_id, hear, going_on, step}
use Rattle.client_machine.specs.SeenRun.{may_become, request_among, request_taken}
use Rattle.client_machine.proofs.WayLemmas.{hear_as}
use Rattle.client_machine.proofs.EachLemmas.{one_where}
use Rattle.client_machine.proofs.PlaceLemmas.{IsInPlace}
use Rattle.client_machine.proofs.SeenTreatLemmas.{counted, IsNamedAt, same_function}
use Rattle.client_machine.proofs.SeenWalkLemmas.{IsLoad}
use Rattle.client_machine.proofs.SeenGoLemmas.{places_of, states_of, IsSound, IsOpen, IsStanding, IsWalking, IsDead, walks_on, walks_then, going_walks, going_dead, then_dead, calm_playing, each_where, same_places}
use Rattle.client_machine.proofs.SeenSettleLemmas.{AreDistinct, settle_walks}

-- What an event does walks on, closes the connection, or shows a frame, after which nothing goes up.
pub data IsHeard (at : List ℕ → State) (requests : List Shape) (next : NextPart) (effect : Effect) : Type 0 where
  walked : IsWalking at requests effect → IsHeard at requests next effect
  died : IsDead effect → IsHeard at requests next effect
  shown : (channel : ℕ) → (rest : List ℕ) → IsLoad rest → effect.hand ≡ frame_text channel rest → next ≡ rests → IsStanding at effect.client requests → IsHeard at requests next effect

abbrev IsHeardAs : (List ℕ → State) → List Shape → Hearing → Type 0
IsHeardAs at requests heard = IsHeard at requests heard.next heard.effect

idle : (at : List ℕ → State) (requests : List Shape) (client : Client) → IsStanding at client requests → IsHeardAs at requests (idles client)
idle at requests client st = walked (walks_on at requests (stays client) refl st)

-- a request waits behind the others
counted_more : (waiting : List Shape) (shape : Shape) → counted (waiting ++ shape ∷ []) ≡ counted waiting ++ cond (fits_memory shape) (shape ∷ []) []
counted_more waiting shape = filter-append fits_memory waiting (shape ∷ [])

nothing_more : (at : List ℕ → State) (requests : List Shape) (client : Client) → IsStanding at client requests → IsStanding at client (requests ++ [])
nothing_more at requests client st = subst (IsStanding at client) (sym (append-nil requests)) st

item_heard : (at : List ℕ → State) (requests : List Shape) (kind : ItemKind) (shape : Shape) (client : Client) → IsStanding at client requests → IsHeardAs at (requests ++ request_among kind shape) (take_item kind shape client)
item_heard at requests kind shape client st = grind (arith, walks_on, append_assoc, counted, counted_more, idle, nothing_more)

-- The end of what plays.
no_queue : (queue : List Play) → (length queue == 0) ≡ true → queue ≡ []
no_queue [] e = refl
no_queue (play ∷ queue) e = grind arith

-- what it makes of a session
abbrev ended_by : Bool → PlayerSession → PlayerSession
ended_by counts session = cond counts (record session { state = cond (length session.queue == 0) Ready session.state; running = None }) session

ended_sound : (counts : Bool) (names : Names) (session : PlayerSession) → end_counts session.running names ≡ counts → IsSound session → IsSound (ended_by counts session)
ended_sound counts names session e sound = grind (arith, no_queue, calm_playing)

ended_became : (counts : Bool) (names : Names) (from : State) (session : PlayerSession) → end_counts session.running names ≡ counts → IsSound session → may_become from session.state ≡ true → may_become from (ended_by counts session).state ≡ true
ended_became counts names from session e sound may = grind arith

ended_id : (counts : Bool) (session : PlayerSession) → (ended_by counts session).id ≡ session.id
ended_id counts session = grind arith

abbrev IsDuly : PlayerSession → Type 0
IsDuly session = (session.state ≡ Playing) × (session.running ≡ None)

stopped : (names : Names) (session : PlayerSession) → IsDuly session → IsDuly (when_ended names session)
stopped names session duly = grind arith

open_ended : (at : List ℕ → State) (sessions : List PlayerSession) (place : Option ℕ) (names : Names) (pending : Option Purpose) (owed : List Shape) → IsSound (session_where place sessions) → IsOpen at sessions pending owed
    → IsOpen at (changed_where place (when_ended names) sessions) pending owed
open_ended at sessions place names None owed sound is = is
open_ended at sessions place names (Some (purposes.Client asked track)) owed sound is =
    let own : PlayerSession = session_where place sessions in
    let places : (id : List ℕ) → places_of (changed_where place (when_ended names) sessions) id ≡ places_of sessions id = same_places place (when_ended names) sessions (ended_id (end_counts own.running names) own) in
    record {
      shape = is.shape;
      owed_is = is.owed_is;
      from = is.from;
      sent = is.sent;
      at_is = subst (λ (f : List ℕ → Option ℕ). IsNamedAt f (field is.sent.request (codes "Session")) asked.place) (sym (same_function (places_of (changed_where place (when_ended names) sessions)) (places_of sessions) places)) is.at_is;
      reached = λ id here. is.reached id (sym (places id) ∙ here);
      became = one_where (λ (s : PlayerSession). may_become is.from s.state ≡ true) place (when_ended names) sessions (ended_became (end_counts own.running names) names is.from own refl sound) asked.place is.became;
      channels = is.channels;
    }
open_ended at sessions place names (Some (purposes.Released play)) owed sound is =
    let duly : IsDuly (session_where play.place (changed_where place (when_ended names) sessions)) = one_where IsDuly place (when_ended names) sessions (stopped names (session_where place sessions)) play.place (is.1, is.2) in
    (is.0, duly.0, duly.1)
open_ended at sessions place names (Some (purposes.Closing one)) owed sound is = absurd is

noted : (at : List ℕ → State) (requests : List Shape) (client : Client) (place : Option ℕ) (names : Names) → IsStanding at client requests → IsStanding at (after_note place names client) requests
noted at requests client place names st =
    let own : PlayerSession = session_where place client.sessions in
    let counts : Bool = end_counts own.running names in
    record {
      alive = st.alive;
      became = λ id. ap (λ (q : Option ℕ). may_become (at id) (states_of (changed_where place (when_ended names) client.sessions) q)) (same_places place (when_ended names) client.sessions (ended_id counts own) id)
          ∙ one_where (λ (s : PlayerSession). may_become (at id) s.state ≡ true) place (when_ended names) client.sessions (ended_became counts names (at id) own refl (st.each place)) (places_of client.sessions id) (st.became id);
      each = each_where IsSound place (when_ended names) client.sessions (ended_sound counts names own refl) st.each;
      owed = st.owed;
      is_open = open_ended at client.sessions place names client.pending st.owed (st.each place) st.is_open;
      requests_are = st.requests_are;
    }

-- the requests that an event brings
abbrev pub asked_by : PrivateEvent → List Shape
asked_by (arrive shape full) = request_taken shape
asked_by event = []

-- A reply has the fields of a head that was read, and no longer a body than an item has; a frame is whole.
abbrev pub IsReadableEvent : PrivateEvent → Type 0
IsReadableEvent (answer told ssrc full) = (list_all is_header told.fields ≡ true) × (length told.body ≤ MOST_BODY)
IsReadableEvent (media pair half rest) = IsLoad rest
IsReadableEvent event = Unit {0}

-- the session that a success makes is none that is there
abbrev pub IsNew : List PlayerSession → Option Purpose → Told → Type 0
IsNew sessions None told = Unit {0}
IsNew sessions (Some purpose) told = is_success told.code ≡ true → (id : List ℕ) → new_id purpose told ≡ Some id → place_with id sessions ≡ None

abbrev pub IsFreshEvent : Client → PrivateEvent → Type 0
IsFreshEvent client (answer told ssrc full) = IsNew client.sessions client.pending told
IsFreshEvent client event = Unit {0}

-- an event that is no item of the player
abbrev IsOther : PrivateEvent → Type 0
IsOther (arrive shape full) = ⊥
IsOther event = Unit {0}

other_heard : (bases : Bases) (number : ℕ) (at : List ℕ → State) (requests : List Shape) (client : Client) (event : PrivateEvent) → IsOther event → IsReadableEvent event → IsFreshEvent client event → AreDistinct client.sessions → IsInPlace client
    → IsStanding at client requests → IsHeardAs at requests (hear bases number client event)
other_heard bases number at requests client event other readable fresh distinct placed st = hear_as (IsHeardAs at requests) bases number client event (record {
  idle = idle at requests client st;
  closing = λ reason alive. died (record { closed = refl; none = refl });
  waits = λ shape full here is alive. absurd (subst IsOther here other);
  carrying = λ shape full half here is. absurd (subst IsOther here other);
  settles = λ purpose told ssrc full here late is.
      let can : IsReadableEvent (answer told ssrc full) = subst IsReadableEvent here readable in
      walked (settle_walks bases number at client requests purpose told ssrc is can.0 can.1 distinct placed (subst (λ (p : Option Purpose). IsNew client.sessions p told) is (subst (IsFreshEvent client) here fresh)) st);
  notes = λ id names here. walked (walks_on at requests (stays (after_note (place_with id client.sessions) names client)) refl (noted at requests client (place_with id client.sessions) names st));
  gives = λ pair half channel rest here is alive. shown channel rest (subst IsReadableEvent here readable) refl refl st;
})

hear_heard : (bases : Bases) (number : ℕ) (at : List ℕ → State) (requests : List Shape) (client : Client) (event : PrivateEvent) → IsReadableEvent event → IsFreshEvent client event → AreDistinct client.sessions → IsInPlace client → IsStanding at client requests
    → IsHeardAs at (requests ++ asked_by event) (hear bases number client event)
hear_heard bases number at requests client (arrive shape full) readable fresh distinct placed st =
    subst (λ b. IsHeardAs at (requests ++ request_taken shape) (take b shape client)) (sym st.alive) (item_heard at requests shape.kind shape client st)
hear_heard bases number at requests client (answer told ssrc full) readable fresh distinct placed st = other_heard bases number at (requests ++ []) client (answer told ssrc full) tt readable fresh distinct placed (nothing_more at requests client st)
hear_heard bases number at requests client (note id reason names) readable fresh distinct placed st = other_heard bases number at (requests ++ []) client (note id reason names) tt readable fresh distinct placed (nothing_more at requests client st)
hear_heard bases number at requests client (media pair half rest) readable fresh distinct placed st = other_heard bases number at (requests ++ []) client (media pair half rest) tt readable fresh distinct placed (nothing_more at requests client st)
hear_heard bases number at requests client end readable fresh distinct placed st = other_heard bases number at (requests ++ []) client end tt readable fresh distinct placed (nothing_more at requests client st)
hear_heard bases number at requests client slow readable fresh distinct placed st = other_heard bases number at (requests ++ []) client slow tt readable fresh distinct placed (nothing_more at requests client st)
hear_heard bases number at requests client up_end readable fresh distinct placed st = other_heard bases number at (requests ++ []) client up_end tt readable fresh distinct placed (nothing_more at requests client st)

-- What a whole step does.
heard_stepped : (bases : Bases) (pair : Option ℕ) (at : List ℕ → State) (requests : List Shape) (next : NextPart) (effect : Effect) → IsHeard at requests next effect → IsHeard at requests rests (then_effect effect (going_on bases pair next effect.client))
heard_stepped bases pair at requests next effect (walked one) = walked (walks_then at requests effect (going_on bases pair next effect.client) one (λ now left st. going_walks bases pair next now effect.client left st))
heard_stepped bases pair at requests next effect (died dead) = died (then_dead effect (going_on bases pair next effect.client) dead.none (going_dead bases pair next effect.client dead.closed))
heard_stepped bases pair at requests next effect (shown channel rest whole text quiet st) =
    subst (λ (one : NextPart). IsHeard at requests rests (then_effect effect (going_on bases pair one effect.client))) (sym quiet) (shown channel rest whole (append-nil effect.hand ∙ text) refl st)

pub step_stepped : (bases : Bases) (number : ℕ) (pair : Option ℕ) (at : List ℕ → State) (requests : List Shape) (client : Client) (event : PrivateEvent) → IsReadableEvent event → IsFreshEvent client event → AreDistinct client.sessions → IsInPlace client
    → IsStanding at client requests → IsHeard at (requests ++ asked_by event) rests (step bases number pair client event)
step_stepped bases number pair at requests client event readable fresh distinct placed st =
    let heard : Hearing = hear bases number client event in
    heard_stepped bases pair at (requests ++ asked_by event) heard.next heard.effect (hear_heard bases number at requests client event readable fresh distinct placed st)

-- Nothing is handed to a connection that is not alive.
pub step_dead : (bases : Bases) (number : ℕ) (pair : Option ℕ) (client : Client) (event : PrivateEvent) → client.alive ≡ false → IsDead (step bases number pair client event)
step_dead bases number pair client event closed = grind arith
