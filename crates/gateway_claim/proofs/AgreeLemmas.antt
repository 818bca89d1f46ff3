-- The books and the record of each connection alone agree, entry by entry.
use Rattle.std.proofs.Common.{◌≡◌, ◌≢◌, ◌∙◌, ℕ, ◌+◌, nat_lt, not, Bool, true, false, List, Option, Some, None, IfSome, inl, inr, refl, sym, ap, subst, arith, ◌==◌, ◌&&◌, cond, [], ◌∷◌, ◌++◌, IsSome, ◌⊎◌}
use Rattle.std.proofs.lemmas.Bool.{cases_eq, ltb-true, eq-eqb, eqb-true}
use Rattle.gateway_claim.proofs.FitLemmas.{IsFitClient, hear_fit, alone_fit}
use Rattle.gateway_claim.proofs.TurnLemmas.{TellsBy, going_tells, joined_still, HasGone, none_more, going_gone}
use Rattle.std.specs.Option.{option_map, option_to_list}
use Rattle.rtsp_uri.specs.declared.base.Bases.{Bases}
use Rattle.translate_down.specs.Replies.{told_by}
use Rattle.client_slot.specs.declared.purpose.Purpose.{Purpose}
use Rattle.client_slot.specs.Client.{Client}
use Rattle.client_machine.specs.Alone.{Private, private_after, is_up_end, asked_in, effect_alone, is_live, is_empty_list}
use Rattle.client_machine.specs.Bounds.{AreSessionsBelow}
use Rattle.client_machine.specs.Events.{Effect, PrivateEvent, answer, Outgoing}
use Rattle.client_machine.specs.Step.{NextPart, Hearing, hear, going_on, heard_step, step}
use Rattle.client_machine.proofs.BelowLemmas.{IsMute, hear_mute, IsNumbered, hear_numbered, alone_numbered}
use Rattle.client_machine.proofs.HoldLemmas.{hear_still, going_steady}
use Rattle.gateway_claim.specs.Books.{RequestKind, kind_of, Books, Final, final_of, settles, free_in}
use Rattle.gateway_claim.specs.Happenings.{Happening, HistoryEntry, entered, shut, fault_in}
use Rattle.client_machine.specs.UpTexts.{source_said}
use Rattle.gateway_claim.specs.OwnEvents.{turn, final_in, lends_where, books_of, own, is_turn, settled_by, has_shut}
use Rattle.gateway_claim.specs.Follows.{private_in, said_breach, kind_breach, session_asked, session_of_private, spent, message_up, event_in, effect_at, effect_of_turn, effect, message_due, Follows, IsHistory}
use Rattle.gateway_claim.specs.BooksAndSlots.{IsJoined, AreSound}
use Rattle.gateway_claim.proofs.AnswerLemmas.{IsAnswered, answered}
use Rattle.gateway_claim.proofs.CaseLemmas.{IsCase, turn_case, alone_steps, pair_where, IsMarked, step_marked, own_event, nobody_settles, both_none, not_over, own_absent, own_quiet}
use Rattle.gateway_claim.proofs.LendLemmas.{other_lent, sound_settled, sound_lent}
use Rattle.gateway_claim.proofs.OtherLemmas.{IsFinal, other_settled, differs}
use Rattle.client_machine.proofs.KeepLemmas.{live_unclosed}
use Rattle.gateway_claim.proofs.NextLemmas.{same_number}

-- a connection alone, in a history
abbrev pub alone : Bases → List HistoryEntry → ℕ → Private
alone bases T i = private_after bases (own bases i T)

abbrev pub AreJoined : Bases → List HistoryEntry → Type 0
AreJoined bases T = AreSound (books_of T) × ((i : ℕ) → IsJoined (books_of T) i (alone bases T i).client (alone bases T i).count)

-- A number is left for what goes up, which tells its session.
tells_left : (bases : Bases) (pair : Option ℕ) (next : NextPart) (client : Client) (issued : ℕ) → IsFitClient client → spent issued (going_on bases pair next client).message ≡ None
    → TellsBy (going_on bases pair next client).client.sessions (issued + 1) (going_on bases pair next client).message (going_on bases pair next client).client.pending
tells_left bases pair next client issued fit left = grind (arith, nat_lt, ltb-true, going_tells)

-- What goes up in all, by what was heard.
heard_gone : (bases : Bases) (earlier books : Books) (i count : ℕ) (heard : Hearing) (shut : Bool) → IsMute heard.next heard.effect.message → IsJoined books i heard.effect.client count → AreSessionsBelow count heard.effect.client.sessions
    → shut ≡ not heard.effect.client.alive → IsFitClient heard.effect.client → spent earlier.issued (heard_step bases (pair_where (free_in books) (count + 1)) heard).message ≡ None
    → HasGone books i (heard_step bases (pair_where (free_in books) (count + 1)) heard).client count
    (kind_of (option_map (message_up earlier books i) (heard_step bases (pair_where (free_in books) (count + 1)) heard).message) (free_in books) shut) (asked_in (heard_step bases (pair_where (free_in books) (count + 1)) heard).message)
heard_gone bases earlier books i count heard shut mute joined below closed fit left = grind (arith, pair_where, going_gone, tells_left, none_more)

-- The books after a final reply are sound, and join every other connection.
abbrev pub AreFinal : Books → ℕ → Option Final → Type 0
AreFinal books i final = IfSome final (λ one. IsFinal books one × (one.conn ≡ i))

pub settled_sound : (books : Books) (i : ℕ) (final : Option Final) → AreFinal books i final → AreSound books → AreSound (settles final books)
settled_sound books i None is sound = sound
settled_sound books i (Some final) is sound = sound_settled books final is.0 sound

pub settled_other : (books : Books) (i j : ℕ) (final : Option Final) (client : Client) (count : ℕ) → AreFinal books i final → AreSound books → j ≢ i → IsJoined books j client count → IsJoined (settles final books) j client count
settled_other books i j None client count is sound ne joined = joined
settled_other books i j (Some final) client count is sound ne joined = other_settled books final j client count is.0 sound (λ same. ne (same ∙ is.1)) joined

-- and so are those after what went up
pub lent_sound : (books : Books) (i count more : ℕ) (after : Client) (kind : Option RequestKind) → HasGone books i after count kind more → AreSound books → AreSound (lends_where (Some i) kind books)
lent_sound books i count more after kind gone sound = grind (arith, sound_lent)

pub lent_other : (books : Books) (i j count more : ℕ) (after : Client) (kind : Option RequestKind) (client : Client) (own_count : ℕ) → HasGone books i after count kind more → AreSound books → j ≢ i → IsJoined books j client own_count
    → IsJoined (lends_where (Some i) kind books) j client own_count
lent_other books i j count more after None client own_count gone sound ne joined = joined
lent_other books i j count more after (Some kind) client own_count gone sound ne joined = other_lent books i kind j client own_count sound gone.0 ne joined

-- What an event does to the connection whose turn it is, in the books after its reply.
pub record IsStep (bases : Bases) (books : Books) (final : Option Final) (i : ℕ) (p : Private) (event : PrivateEvent) : Type 0 where
  pub heard : IsJoined (settles final books) i (hear bases p.count p.client event).effect.client p.count
  pub is_final : AreFinal books i final
  pub marked : IsMarked (free_in (settles final books)) p.client.waiting event
  pub plain : is_up_end event ≡ false

abbrev pub shared_step : Bases → Books → Private → PrivateEvent → Effect
shared_step bases settled p event = step bases p.count (pair_where (free_in settled) (p.count + 1)) p.client event

pub step_is : (bases : Bases) (books : Books) (final : Option Final) (i : ℕ) (p : Private) (event : PrivateEvent) → p.over ≡ false → IsStep bases books final i p event → effect_alone bases p event ≡ shared_step bases (settles final books) p event
step_is bases books final i p event over is = grind (arith, alone_steps, step_marked)

pub step_gone : (bases : Bases) (books : Books) (final : Option Final) (i : ℕ) (p : Private) (event : PrivateEvent) (shut : Bool) → IsNumbered p.count p.client → IsStep bases books final i p event
    → shut ≡ not (shared_step bases (settles final books) p event).client.alive → IsFitClient p.client → spent books.issued (shared_step bases (settles final books) p event).message ≡ None
    → HasGone (settles final books) i (shared_step bases (settles final books) p event).client p.count
    (kind_of (option_map (message_up books (settles final books) i) (shared_step bases (settles final books) p event).message) (free_in (settles final books)) shut) (asked_in (shared_step bases (settles final books) p event).message)
step_gone bases books final i p event shut numbered is closed fit left =
    heard_gone bases books (settles final books) i p.count (hear bases p.count p.client event) shut (hear_mute bases p.count p.client event) is.heard
    (hear_numbered bases p.count p.client event numbered).0.sessions
    (closed ∙ ap not (going_steady bases (pair_where (free_in (settles final books)) (p.count + 1)) (hear bases p.count p.client event).next (hear bases p.count p.client event).effect.client).alive)
    (hear_fit bases p.count p.client event fit) left

-- The step that a turn is, where the connection has an event.
abbrev pub IsTurnStep : Bases → Books → ℕ → Private → Option PrivateEvent → Option Final → Type 0
IsTurnStep bases books i p None final = final ≡ None
IsTurnStep bases books i p (Some event) final = IsStep bases books final i p event

is_step : (bases : Bases) (T : List HistoryEntry) (i : ℕ) (h : Happening) (p : Private) (event : Option PrivateEvent) (final : Option Final) → IsJoined (books_of T) i p.client p.count → private_in bases i T ≡ Some p
    → said_breach bases T h ≡ None → IsCase (books_of T) i p.client.waiting event final h (free_in (settles final (books_of T))) → IsTurnStep bases (books_of T) i p event final
is_step bases T i h p event final joined here right (inl (none, no_final)) =
    subst (λ (one : Option PrivateEvent). IsTurnStep bases (books_of T) i p one final) (sym none) no_final
is_step bases T i h p event final joined here right (inr (inl (one, is, plain, up, no_final, mark))) =
    subst (λ (some : Option PrivateEvent). IsTurnStep bases (books_of T) i p some final) (sym is)
    (record {
      heard = subst (λ (f : Option Final). IsJoined (settles f (books_of T)) i (hear bases p.count p.client one).effect.client p.count) (sym no_final)
          (joined_still (books_of T) i p.client (hear bases p.count p.client one).effect.client p.count (hear_still bases p.count p.client one plain) joined);
      is_final = subst (λ (f : Option Final). AreFinal (books_of T) i f) (sym no_final) tt;
      marked = mark;
      plain = up;
    })
is_step bases T i h p event final joined here right (inr (inr (reply, opened, full, is_open, conn, is, is_final, mark, breaches))) =
    let session : session_of_private (private_in bases opened.conn T) ≡ session_asked p.client.sessions p.client.pending = ap (λ j. session_of_private (private_in bases j T)) conn ∙ ap session_of_private here in
    let wrong : kind_breach (books_of T) opened.kind (session_of_private (private_in bases opened.conn T)) reply ≡ None = sym (breaches bases T refl) ∙ right in
    let now : IsAnswered (books_of T) i p.count (final_of reply (Some opened)) (hear bases p.count p.client (answer (told_by reply) (source_said reply) full)) =
    answered bases (books_of T) i p.count p.client reply opened (source_said reply) joined is_open conn (ap (λ id. kind_breach (books_of T) opened.kind id reply) (sym session) ∙ wrong) in
    subst (λ (some : Option PrivateEvent). IsTurnStep bases (books_of T) i p some final) (sym is)
    (record {
      heard = subst (λ (f : Option Final). IsJoined (settles f (books_of T)) i (hear bases p.count p.client (answer (told_by reply) (source_said reply) full)).effect.client p.count) (sym is_final) now.0;
      is_final = subst (λ (f : Option Final). AreFinal (books_of T) i f) (sym is_final) now.1;
      marked = mark;
      plain = refl;
    })

-- The connection whose turn it is makes that step.
pub turn_step : (bases : Bases) (T : List HistoryEntry) (i : ℕ) (h : Happening) → IsJoined (books_of T) i (alone bases T i).client (alone bases T i).count → entered i T ≡ true → turn (books_of T) h ≡ Some i → said_breach bases T h ≡ None
    → IsTurnStep bases (books_of T) i (alone bases T i) (own_event bases T i h) (final_in (books_of T) h)
turn_step bases T i h joined en turns right = grind (arith, is_step, own_event, turn_case)

-- the books after what happened, by whose turn it is, by the message that goes up, and by whether its connection has shut
abbrev pub books_with : Books → Happening → Option ℕ → Option Outgoing → Bool → Books
books_with books h who message shut =
    lends_where who (kind_of (message_due books (settled_by books h) who message) (free_in (settled_by books h)) shut) (settled_by books h)

pub books_next : (bases : Bases) (T : List HistoryEntry) (e : HistoryEntry) → Follows bases T e → fault_in (e ∷ T) ≡ None
    → books_of (e ∷ T) ≡ books_with (books_of T) e.happening (turn (books_of T) e.happening) (effect bases T e.happening).message (has_shut (turn (books_of T) e.happening) (e ∷ T))
books_next bases T e f standing = grind arith

-- a connection alone after one more event, where it has one
abbrev pub alone_with : Bases → List PrivateEvent → Option PrivateEvent → Private
alone_with bases events event = private_after bases (option_to_list event ++ events)

-- the event of connection j, by whose turn it is
abbrev pub event_for : Bases → List HistoryEntry → Happening → Option ℕ → ℕ → Option PrivateEvent
event_for bases T h who j = cond (entered j T) (cond (is_turn j who) (own_event bases T j h) None) None

pub alone_next : (bases : Bases) (T : List HistoryEntry) (e : HistoryEntry) (j : ℕ) → fault_in (e ∷ T) ≡ None → alone bases (e ∷ T) j ≡ alone_with bases (own bases j T) (event_for bases T e.happening (turn (books_of T) e.happening) j)
alone_next bases T e j standing = ap (private_after bases) (own_quiet bases T e j (both_none (fault_in T) e.outcome.fault standing).1)

-- Joined after what happened, by whose turn it is.
abbrev IsJoinedWith : Bases → List HistoryEntry → Happening → Option ℕ → Option Outgoing → Bool → ℕ → Type 0
IsJoinedWith bases T h who message shut j =
    IsJoined (books_with (books_of T) h who message shut) j (alone_with bases (own bases j T) (event_for bases T h who j)).client (alone_with bases (own bases j T) (event_for bases T h who j)).count

abbrev AreJoinedWith : Bases → List HistoryEntry → Happening → Option ℕ → Option Outgoing → Bool → Type 0
AreJoinedWith bases T h who message shut = AreSound (books_with (books_of T) h who message shut) × ((j : ℕ) → IsJoinedWith bases T h who message shut j)

no_event : (bases : Bases) (events : List PrivateEvent) (en : Bool) (event : Option PrivateEvent) → event ≡ None → alone_with bases events (cond en event None) ≡ private_after bases events
no_event bases events en event e = grind arith

-- Nothing comes of it: the books and each connection stay as they are.
still_joined : (bases : Bases) (T : List HistoryEntry) (h : Happening) (who : Option ℕ) (message : Option Outgoing) (shut : Bool) → AreJoined bases T → books_with (books_of T) h who message shut ≡ books_of T
    → ((j : ℕ) → alone_with bases (own bases j T) (event_for bases T h who j) ≡ alone bases T j) → AreJoinedWith bases T h who message shut
still_joined bases T h who message shut joined same quiet = (
  subst (λ (b : Books). AreSound b) (sym same) joined.0,
  λ j. subst (λ (b : Books). IsJoined b j (alone_with bases (own bases j T) (event_for bases T h who j)).client (alone_with bases (own bases j T) (event_for bases T h who j)).count) (sym same)
      (subst (λ (p : Private). IsJoined (books_of T) j p.client p.count) (sym (quiet j)) (joined.1 j)),
)

-- It is the turn of a connection, and nothing comes of it.
idle_joined : (bases : Bases) (T : List HistoryEntry) (h : Happening) (i : ℕ) (message : Option Outgoing) (shut : Bool) → AreJoined bases T → final_in (books_of T) h ≡ None → message ≡ None → ((j : ℕ) → alone_with bases (own bases j T) (event_for bases T h (Some i) j) ≡ alone bases T j)
    → AreJoinedWith bases T h (Some i) message shut
idle_joined bases T h i message shut joined none silent quiet =
    still_joined bases T h (Some i) message shut joined (ap (λ (m : Option Outgoing). books_with (books_of T) h (Some i) m shut) silent ∙ ap (λ final. settles final (books_of T)) none) quiet

pub other_quiet : (bases : Bases) (T : List HistoryEntry) (h : Happening) (i j : ℕ) → j ≢ i → alone_with bases (own bases j T) (event_for bases T h (Some i) j) ≡ alone bases T j
other_quiet bases T h i j ne = no_event bases (own bases j T) (entered j T) (cond (i == j) (own_event bases T j h) None) (ap (λ t. cond {A = Option PrivateEvent} t (own_event bases T j h) None) (differs i j (λ same. ne (sym same))))

absent_final : (bases : Bases) (T : List HistoryEntry) (h : Happening) (i : ℕ) → AreJoined bases T → turn (books_of T) h ≡ Some i → entered i T ≡ false → final_in (books_of T) h ≡ None
absent_final bases T h i joined turns absent = by (turn_case (books_of T) i (alone bases T i).client.waiting h turns)
  where
    idle : (alone bases T i).client.pending ≡ None
    idle = ap (λ (events : List PrivateEvent). (private_after bases events).client.pending) (own_absent bases T i absent)

    by : IsCase (books_of T) i (alone bases T i).client.waiting (own_event bases T i h) (final_in (books_of T) h) h (free_in (settled_by (books_of T) h)) → final_in (books_of T) h ≡ None
    by (inl (none, no_final)) = no_final
    by (inr (inl (one, is, plain, up, no_final, mark))) = no_final
    by (inr (inr (reply, opened, full, is_open, conn, is, is_final, mark, breaches))) =
        let some : IsSome {T = Purpose} None = subst (λ (pending : Option Purpose). IsSome pending) idle ((joined.1 i).last reply.cseq opened is_open conn).1 in cc

all_quiet : (bases : Bases) (T : List HistoryEntry) (h : Happening) (i : ℕ) → (entered i T ≡ false) ⊎ (own_event bases T i h ≡ None) → (j : ℕ) → alone_with bases (own bases j T) (event_for bases T h (Some i) j) ≡ alone bases T j
all_quiet bases T h i quiet j = grind (arith, alone, eqb-true, own_event, other_quiet, eq-eqb)

-- what the machine does at the turn of a connection
pub effect_absent : (bases : Bases) (T : List HistoryEntry) (h : Happening) (i : ℕ) → entered i T ≡ false → (effect_of_turn bases T (Some i) h).message ≡ None
effect_absent bases T h i absent = ap (λ t. (effect_at bases (cond t (Some (alone bases T i)) None) (event_in (books_of T) i (cond t (Some (alone bases T i)) None) h)).message) absent

pub effect_present : (bases : Bases) (T : List HistoryEntry) (h : Happening) (i : ℕ) (event : Option PrivateEvent) → entered i T ≡ true → own_event bases T i h ≡ event → effect_of_turn bases T (Some i) h ≡ effect_at bases (Some (alone bases T i)) event
effect_present bases T h i event en is = grind arith

pub event_present : (bases : Bases) (T : List HistoryEntry) (h : Happening) (i : ℕ) (event : PrivateEvent) → entered i T ≡ true → own_event bases T i h ≡ Some event → event_for bases T h (Some i) i ≡ Some event
event_present bases T h i event en is = grind (arith, own_event, same_number)

-- what goes up at an effect of the connection whose turn it is
abbrev HasGoneBy : List HistoryEntry → Happening → ℕ → ℕ → Effect → Bool → Type 0
HasGoneBy T h i count made shut =
    HasGone (settled_by (books_of T) h) i made.client count
    (kind_of (option_map (message_up (books_of T) (settled_by (books_of T) h) i) made.message) (free_in (settled_by (books_of T) h)) shut) (asked_in made.message)

-- It is the turn of a connection, which makes a step.
step_joined : (bases : Bases) (T : List HistoryEntry) (h : Happening) (i : ℕ) (event : PrivateEvent) (shut : Bool) → AreJoined bases T → fault_in T ≡ None → entered i T ≡ true → own_event bases T i h ≡ Some event
    → IsStep bases (books_of T) (final_in (books_of T) h) i (alone bases T i) event → shut ≡ not (effect_alone bases (alone bases T i) event).client.alive
    → spent (books_of T).issued (effect_alone bases (alone bases T i) event).message ≡ None
    → AreJoinedWith bases T h (Some i) (effect_alone bases (alone bases T i) event).message shut
step_joined bases T h i event shut joined standing en is made closed left =
    let is_shared : effect_alone bases (alone bases T i) event ≡ shared_step bases (settled_by (books_of T) h) (alone bases T i) event = step_is bases (books_of T) (final_in (books_of T) h) i (alone bases T i) event (not_over bases T standing i) made in
    let gone : HasGoneBy T h i (alone bases T i).count (effect_alone bases (alone bases T i) event) shut =
    subst (λ (done : Effect). HasGoneBy T h i (alone bases T i).count done shut) (sym is_shared)
    (step_gone bases (books_of T) (final_in (books_of T) h) i (alone bases T i) event shut (alone_numbered bases (own bases i T)) made (closed ∙ ap (λ (done : Effect). not done.client.alive) is_shared)
    (alone_fit bases (own bases i T)) (ap (λ (done : Effect). spent (books_of T).issued done.message) (sym is_shared) ∙ left)) in
    let sound : AreSound (settled_by (books_of T) h) = settled_sound (books_of T) i (final_in (books_of T) h) made.is_final joined.0 in
    (lent_sound (settled_by (books_of T) h) i (alone bases T i).count _ _ _ gone sound, λ j. by j (cases_eq j i) gone sound)
  where
    by : (j : ℕ) → (j ≡ i) ⊎ (j ≢ i) → HasGoneBy T h i (alone bases T i).count (effect_alone bases (alone bases T i) event) shut → AreSound (settled_by (books_of T) h)
        → IsJoinedWith bases T h (Some i) (effect_alone bases (alone bases T i) event).message shut j
    by j (inl same) gone sound =
        subst (λ (k : ℕ). IsJoinedWith bases T h (Some i) (effect_alone bases (alone bases T i) event).message shut k) (sym same)
        (subst (λ (one : Option PrivateEvent). IsJoined (books_with (books_of T) h (Some i) (effect_alone bases (alone bases T i) event).message shut) i (alone_with bases (own bases i T) one).client (alone_with bases (own bases i T) one).count)
        (sym (event_present bases T h i event en is)) (grind arith))
    by j (inr ne) gone sound =
        subst (λ (p : Private). IsJoined (books_with (books_of T) h (Some i) (effect_alone bases (alone bases T i) event).message shut) j p.client p.count) (sym (other_quiet bases T h i j ne))
        (lent_other (settled_by (books_of T) h) i j (alone bases T i).count _ _ _ _ _ gone sound ne (settled_other (books_of T) i j (final_in (books_of T) h) (alone bases T j).client (alone bases T j).count made.is_final joined.0 ne (joined.1 j)))

-- Whether the connection whose turn it was has shut is told by its record.
pub shut_next : (bases : Bases) (T : List HistoryEntry) (e : HistoryEntry) (i : ℕ) (event : PrivateEvent) → IsHistory bases (e ∷ T) → fault_in (e ∷ T) ≡ None → entered i T ≡ true → turn (books_of T) e.happening ≡ Some i → own_event bases T i e.happening ≡ Some event
    → has_shut (Some i) (e ∷ T) ≡ not (effect_alone bases (alone bases T i) event).client.alive
shut_next bases T e i event history standing en turns is =
    let p_is : alone bases (e ∷ T) i ≡ private_after bases (event ∷ own bases i T) =
    alone_next bases T e i standing ∙ ap (alone_with bases (own bases i T)) (ap (λ who. event_for bases T e.happening who i) turns ∙ event_present bases T e.happening i event en is) in
    let live : is_live (alone bases (e ∷ T) i) ≡ (effect_alone bases (alone bases T i) event).client.alive =
    ap (λ t. not t && (alone bases (e ∷ T) i).client.alive) (not_over bases (e ∷ T) standing i) ∙ ap (λ (p : Private). p.client.alive) p_is in
    ap (λ closed. not (is_empty_list closed)) (history.1.shut i) ∙ ap not (sym (live_unclosed bases (own bases i (e ∷ T)))) ∙ ap not live

turned : (bases : Bases) (T : List HistoryEntry) (e : HistoryEntry) (i : ℕ) (en : Bool) (event : Option PrivateEvent) → IsHistory bases (e ∷ T) → fault_in (e ∷ T) ≡ None → AreJoined bases T → turn (books_of T) e.happening ≡ Some i → entered i T ≡ en
    → own_event bases T i e.happening ≡ event → said_breach bases T e.happening ≡ None → spent (books_of T).issued (effect_of_turn bases T (Some i) e.happening).message ≡ None → AreJoinedWith bases T e.happening (Some i) (effect_of_turn bases T (Some i) e.happening).message (has_shut (Some i) (e ∷ T))
turned bases T e i false event history standing joined turns en is right left =
    idle_joined bases T e.happening i (effect_of_turn bases T (Some i) e.happening).message (has_shut (Some i) (e ∷ T)) joined (absent_final bases T e.happening i joined turns en) (effect_absent bases T e.happening i en) (all_quiet bases T e.happening i (inl en))
turned bases T e i true None history standing joined turns en is right left =
    idle_joined bases T e.happening i (effect_of_turn bases T (Some i) e.happening).message (has_shut (Some i) (e ∷ T)) joined
    (subst (λ (one : Option PrivateEvent). IsTurnStep bases (books_of T) i (alone bases T i) one (final_in (books_of T) e.happening)) is (turn_step bases T i e.happening (joined.1 i) en turns right))
    (ap (λ (done : Effect). done.message) (effect_present bases T e.happening i None en is)) (all_quiet bases T e.happening i (inr is))
turned bases T e i true (Some event) history standing joined turns en is right left =
    let made = effect_present bases T e.happening i (Some event) en is in
    subst (λ (done : Effect). AreJoinedWith bases T e.happening (Some i) done.message (has_shut (Some i) (e ∷ T))) (sym made)
    (step_joined bases T e.happening i event (has_shut (Some i) (e ∷ T)) joined (both_none (fault_in T) e.outcome.fault standing).0 en is
    (subst (λ (one : Option PrivateEvent). IsTurnStep bases (books_of T) i (alone bases T i) one (final_in (books_of T) e.happening)) is (turn_step bases T i e.happening (joined.1 i) en turns right))
    (shut_next bases T e i event history standing en turns is) (ap (λ (done : Effect). spent (books_of T).issued done.message) (sym made) ∙ left))

joined_by : (bases : Bases) (T : List HistoryEntry) (e : HistoryEntry) (who : Option ℕ) → IsHistory bases (e ∷ T) → fault_in (e ∷ T) ≡ None → AreJoined bases T → turn (books_of T) e.happening ≡ who → said_breach bases T e.happening ≡ None
    → spent (books_of T).issued (effect_of_turn bases T who e.happening).message ≡ None
    → AreJoinedWith bases T e.happening who (effect_of_turn bases T who e.happening).message (has_shut who (e ∷ T))
joined_by bases T e None history standing joined turns right left =
    still_joined bases T e.happening None (effect_of_turn bases T None e.happening).message (has_shut None (e ∷ T)) joined (ap (λ final. settles final (books_of T)) (nobody_settles (books_of T) e.happening turns)) (λ j. no_event bases (own bases j T) (entered j T) None refl)
joined_by bases T e (Some i) history standing joined turns right left = turned bases T e i (entered i T) (own_event bases T i e.happening) history standing joined turns refl refl right left

-- Nothing is wrong with what was said, and a number is left, where nothing ended the connection to the server.
unbroken : (bases : Bases) (T : List HistoryEntry) (e : HistoryEntry) → Follows bases T e → fault_in (e ∷ T) ≡ None → (said_breach bases T e.happening ≡ None) × (spent (books_of T).issued (effect bases T e.happening).message ≡ None)
unbroken bases T e f standing = grind arith

pub said_right : (bases : Bases) (T : List HistoryEntry) (e : HistoryEntry) → Follows bases T e → fault_in (e ∷ T) ≡ None → said_breach bases T e.happening ≡ None
said_right bases T e f standing = (unbroken bases T e f standing).0

joined_next : (bases : Bases) (T : List HistoryEntry) (e : HistoryEntry) → IsHistory bases (e ∷ T) → fault_in (e ∷ T) ≡ None → AreJoined bases T → AreJoined bases (e ∷ T)
joined_next bases T e history standing joined =
    let next : AreJoinedWith bases T e.happening (turn (books_of T) e.happening) (effect bases T e.happening).message (has_shut (turn (books_of T) e.happening) (e ∷ T)) =
    joined_by bases T e (turn (books_of T) e.happening) history standing joined refl (unbroken bases T e history.1 standing).0 (unbroken bases T e history.1 standing).1 in
    let books : books_of (e ∷ T) ≡ books_with (books_of T) e.happening (turn (books_of T) e.happening) (effect bases T e.happening).message (has_shut (turn (books_of T) e.happening) (e ∷ T)) = books_next bases T e history.1 standing in (
      subst (λ (b : Books). AreSound b) (sym books) next.0,
      λ j. subst (λ (p : Private). IsJoined (books_of (e ∷ T)) j p.client p.count) (sym (alone_next bases T e j standing))
          (subst (λ (b : Books). IsJoined b j (alone_with bases (own bases j T) (event_for bases T e.happening (turn (books_of T) e.happening) j)).client (alone_with bases (own bases j T) (event_for bases T e.happening (turn (books_of T) e.happening) j)).count) (sym books) (next.1 j)),
    )

pub joined : (bases : Bases) (T : List HistoryEntry) → IsHistory bases T → fault_in T ≡ None → AreJoined bases T
joined bases [] history standing = ((grind arith), λ i. grind arith)
joined bases (e ∷ T) history standing = joined_next bases T e history standing (joined bases T history.0 (both_none (fault_in T) e.outcome.fault standing).0)
