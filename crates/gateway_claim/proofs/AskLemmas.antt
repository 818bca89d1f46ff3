-- What the server is asked for a connection is what it asks alone, and a history of one connection has nothing else.
use Rattle.std.proofs.Common.{◌≡◌, ◌∙◌, ℕ, Bool, true, false, ◌==◌, ◌&&◌, ◌||◌, List, [], ◌∷◌, ◌++◌, map, Option, refl, ap, subst, arith, ◌+◌, ◌≤◌, cond, Some, None, sym, inl, inr}
use Rattle.std.specs.Prelude.{is_none, is_some}
use Rattle.std.proofs.lemmas.List.{map-append}
use Rattle.std.proofs.lemmas.Bool.{or_parts, eq-eqb, eqb-true, cases_Bool}
use Rattle.rtsp_uri.specs.declared.base.Bases.{Bases}
use Rattle.client_machine.specs.declared.why.CloseWhy.{CloseWhy}
use Rattle.client_machine.specs.Alone.{is_empty_list, Private, private_after, pair_alone, asked_in, effect_alone}
use Rattle.gateway_claim.specs.declared.event.Closed.{Closed}
use Rattle.gateway_claim.specs.declared.event.Closed.TheVariants.{One}
use Rattle.gateway_claim.specs.declared.event.UpCause.{UpCause}
use Rattle.gateway_claim.specs.Happenings.{HistoryEntry, fault_in, enters_here, entered, closes_of, shut, is_alive, entering, Happening, nothing_up, pieces_to, sent}
use Rattle.gateway_claim.specs.Cores.{IsCoreHistory, ever_entered, stays_alive, IsOrderly, HandsToLiving}
use Rattle.std.specs.Option.{option_map, option_or, option_to_list}
use Rattle.rtsp_small.specs.declared.method.Method.TheVariants as methods
use Rattle.rtsp_small.specs.Methods.{method_name}
use Rattle.client_slot.specs.Client.{Client}
use Rattle.client_slot.specs.Places.{tracks_of}
use Rattle.client_machine.specs.Bounds.{ArePairsBelow}
use Rattle.client_machine.specs.Events.{Outgoing, asks, carries, Effect, PrivateEvent}
use Rattle.client_machine.specs.Step.{NextPart, rests, releases, goes_on, going_on}
use Rattle.client_machine.proofs.AskLemmas.{going_asks}
use Rattle.client_machine.proofs.BelowLemmas.{IsMute, hear_mute, alone_below, tracks_below}
use Rattle.client_machine.proofs.WayLemmas.{alone_as}
use Rattle.gateway_claim.specs.declared.event.ToUp.{ToUp}
use Rattle.gateway_claim.specs.declared.event.UpMessage.{UpMessage}
use Rattle.gateway_claim.specs.OnePlayer.{asked_for, asked_up, spelled_for, spelled_up, IsOnlyPlayer, all_handed, all_asked, piece_for, HasAll}
use Rattle.gateway_claim.specs.Books.{RequestKind, kind_of, Books, Final, settles, free_in}
use Rattle.gateway_claim.specs.OwnEvents.{turn, is_turn, final_in, settled_by, lends_where, has_shut, books_after, books_of, own}
use Rattle.gateway_claim.specs.Follows.{said_breach, effect_of_turn, message_up, message_due, up_due, IsHistory}
use Rattle.gateway_claim.specs.BooksAndSlots.{IsJoined}
use Rattle.gateway_claim.proofs.AgreeLemmas.{books_with, books_next, event_for, effect_absent, effect_present, event_present, said_right, joined, alone, IsStep, step_is, IsTurnStep, turn_step}
use Rattle.gateway_claim.proofs.CaseLemmas.{both_none, not_over, pair_where, own_event, own_quiet, own_ended, faults_over}
use Rattle.gateway_claim.proofs.NextLemmas.{same_number, sent_as_alone, shut_as_alone}
use Rattle.gateway_claim.proofs.OtherLemmas.{differs}
use Rattle.gateway_claim.proofs.TurnLawLemmas.{CarriesBelow, step_below}
use Rattle.gateway_claim.specs.declared.event.ToClient.{ToClient}
use Rattle.gateway_claim.proofs.OrderLemmas.{follows_orderly}

-- what follows, for a core
abbrev pub Following : Type 1
Following = Bases → List HistoryEntry → HistoryEntry → Type 0

abbrev pub FollowsOnce : Following → Type 0
FollowsOnce follows = (between : Bases) (T : List HistoryEntry) (one other : HistoryEntry) → follows between T one → follows between T other → one.happening ≡ other.happening → one ≡ other

abbrev pub FollowsOrderly : Following → Type 0
FollowsOrderly follows = (between : Bases) (T : List HistoryEntry) (entry : HistoryEntry) → IsCoreHistory follows between T → follows between T entry → IsOrderly T entry

-- There is at most one history of given happenings.
pub one_core_history : (follows : Following) → FollowsOnce follows → (bases : Bases) (S T : List HistoryEntry) → IsCoreHistory follows bases S → IsCoreHistory follows bases T
    → map (λ (e : HistoryEntry). e.happening) S ≡ map (λ (e : HistoryEntry). e.happening) T → S ≡ T
one_core_history follows once bases [] [] s t same = refl
one_core_history follows once bases [] (e ∷ T) s t same = cc
one_core_history follows once bases (d ∷ S) [] s t same = cc
one_core_history follows once bases (d ∷ S) (e ∷ T) s t same = let before : S ≡ T = one_core_history follows once bases S T s.0 t.0 cc in grind arith

-- Who is alive after an event: who was, but for those that it closed.
pub alive_after : (i : ℕ) (T : List HistoryEntry) (e : HistoryEntry) → enters_here i e.happening ≡ false → is_alive i (e ∷ T) ≡ stays_alive i e.outcome.closed (is_alive i T)
alive_after i T e stranger = grind arith

-- What an entry closes was alive.
pub entry_closed : (T : List HistoryEntry) (e : HistoryEntry) (i : ℕ) (why : CloseWhy) → e.outcome.closed ≡ One i why → IsOrderly T e → is_alive i T ≡ true
entry_closed T e i why is orderly = grind arith

-- A connection that took no part was not closed.
unclosed_by : (T : List HistoryEntry) (e : HistoryEntry) (i : ℕ) (one : Closed) → entered i T ≡ false → IsOrderly T e → e.outcome.closed ≡ one → closes_of i (entered i T && is_empty_list (shut i T)) one ≡ []
unclosed_by T e i one absent orderly is = grind arith

pub unentered_open : (follows : Following) → FollowsOrderly follows → (bases : Bases) (T : List HistoryEntry) (i : ℕ) → IsCoreHistory follows bases T → entered i T ≡ false → shut i T ≡ []
unentered_open follows orderly bases [] i history absent = refl
unentered_open follows orderly bases (e ∷ T) i history absent =
    let before : entered i T ≡ false = (or_parts (enters_here i e.happening && is_none (fault_in T)) (entered i T) absent).1 in
    ap (λ (l : List CloseWhy). l ++ shut i T) (unclosed_by T e i e.outcome.closed before (orderly bases T e history.0 history.1) refl)
    ∙ unentered_open follows orderly bases T i history.0 before

pub never_part : (T : List HistoryEntry) (i : ℕ) → ever_entered i T ≡ false → entered i T ≡ false
never_part [] i never = refl
never_part (e ∷ T) i never =
    let parts = or_parts (enters_here i e.happening) (ever_entered i T) never in
    grind (arith, parts.0, (never_part T i parts.1))

-- Who is alive after an entering: who was, and the connection that entered, where the connection to the server stands.
pub alive_entering : (i conn : ℕ) (T : List HistoryEntry) → shut conn T ≡ [] → is_alive i (entering conn ∷ T) ≡ ((conn == i && is_none (fault_in T)) || is_alive i T)
alive_entering i conn T open_still = grind arith

-- Books that have the same numbers and pairs for a connection's requests, as many as went up, spell what it sent up alike.
abbrev AreAlike : Books → Books → ℕ → ℕ → Type 0
AreAlike one other i n = ((k : ℕ) → k ≤ n → one.number_of i k ≡ other.number_of i k) × ((k : ℕ) → k ≤ n → one.pair_of i k ≡ other.pair_of i k)

fewer_alike : (one other : Books) (i n more : ℕ) → AreAlike one other i (n + more) → AreAlike one other i n
fewer_alike one other i n more alike = (λ k le. alike.0 k (grind arith), λ k le. alike.1 k (grind arith))

alone_carries : (bases : Bases) (p : Private) (event : PrivateEvent) → ArePairsBelow p.count (tracks_of p.client.sessions) → CarriesBelow p.count (effect_alone bases p event).message
alone_carries bases p event below = alone_as (λ effect. CarriesBelow p.count effect.message) bases p event tt tt (step_below bases p.count (pair_alone event (p.count + 1)) p.client event below)

-- a message with its own number, spelled
abbrev numbered_for : Books → ℕ → ℕ → Outgoing → UpMessage
numbered_for books i number message = spelled_for books i (record { number = number; message = message })

-- What one event sends up stands before what earlier ones did.
event_spelled : (bases : Bases) (books : Books) (i : ℕ) (event : PrivateEvent) (events : List PrivateEvent)
    → spelled_up books i bases (event ∷ events)
    ≡ option_to_list (option_map (numbered_for books i ((private_after bases events).count + 1)) (effect_alone bases (private_after bases events) event).message) ++ spelled_up books i bases events
event_spelled bases books i event events = grind arith

events_alike : (bases : Bases) (one other : Books) (i : ℕ) (events : List PrivateEvent) → AreAlike one other i (private_after bases events).count → spelled_up one i bases events ≡ spelled_up other i bases events
events_alike bases one other i [] alike = refl
events_alike bases one other i (event ∷ events) alike =
    let more = events_alike bases one other i events (fewer_alike one other i (private_after bases events).count (asked_in (effect_alone bases (private_after bases events) event).message) alike) in
    grind (arith, event_spelled, alone_carries, tracks_below, alone_below, numbered_for, fewer_alike)

-- A request that names a pair is a SETUP, and a pair is free.
abbrev IsNamed : Option ℕ → Option Outgoing → Type 0
IsNamed free (Some (asks request (Some mine))) = (p : ℕ) × (free ≡ Some p) × (request.method ≡ method_name methods.Setup)
IsNamed free message = Unit {0}

first_named : (after : NextPart) (first : Option Outgoing) (bases : Bases) (free : Option ℕ) (next : ℕ) (client : Client) → IsMute after first → IsNamed free (option_or first (going_on bases (pair_where free next) after client).message)
first_named after None bases free next client mute =
    grind (arith, (going_asks bases (pair_where free next) after client))
first_named rests (Some (asks request named)) bases free next client mute = absurd mute
first_named releases (Some (asks request named)) bases free next client mute = absurd mute
first_named goes_on (Some (asks request named)) bases free next client mute = absurd mute
first_named after (Some (carries pair half rest)) bases free next client mute = tt

-- The message that goes up is spelled in the number and the pair that it is given.
message_asked : (books : Books) (final : Option Final) (i n : ℕ) (shut : Bool) (message : Option Outgoing) → n ≡ books.counts i → IsNamed (free_in (settles final books)) message
    → option_map (message_up books (settles final books) i) message
    ≡ option_map (numbered_for (lends_where (Some i) (kind_of (option_map (message_up books (settles final books) i) message) (free_in (settles final books)) shut) (settles final books)) i (n + 1)) message
message_asked books final i n shut message counted named = grind arith

-- What was given stays as it is.
own_alike : (books : Books) (final : Option Final) (i n : ℕ) (kind : Option RequestKind) → n ≡ books.counts i → AreAlike books (lends_where (Some i) kind (settles final books)) i n
own_alike books final i n kind counted = grind arith

-- What is to be shown of an entry, by whose turn it is and the message that goes up.
abbrev pub IsSpelled : Bases → List HistoryEntry → ℕ → Type 0
IsSpelled bases T i = asked_up i T ≡ spelled_up (books_of T) i bases (own bases i T)

abbrev IsSpelledWith : Bases → List HistoryEntry → Happening → ℕ → Option ℕ → Option Outgoing → Bool → Type 0
IsSpelledWith bases T h i who message shut =
    cond (is_turn i who) (option_to_list (message_due (books_of T) (settled_by (books_of T) h) who message)) [] ++ asked_up i T
    ≡ spelled_up (books_with (books_of T) h who message shut) i bases (option_to_list (event_for bases T h who i) ++ own bases i T)

kept : (bases : Bases) (T : List HistoryEntry) (i : ℕ) (here : List UpMessage) (after : Books) (event : Option PrivateEvent) → here ≡ [] → event ≡ None → AreAlike (books_of T) after i (alone bases T i).count → IsSpelled bases T i
    → here ++ asked_up i T ≡ spelled_up after i bases (option_to_list event ++ own bases i T)
kept bases T i here after event nothing none alike before = grind (arith, events_alike)

either_none : (en : Bool) (event : Option PrivateEvent) → event ≡ None → cond en event None ≡ None
either_none en event e = grind arith

either_empty : (here : Bool) (message : Option UpMessage) → message ≡ None → cond here (option_to_list message) [] ≡ []
either_empty here message e = grind arith

-- It is the turn of the connection, by whether it entered and has an event.
turn_spelled : (bases : Bases) (T : List HistoryEntry) (h : Happening) (i : ℕ) (shut : Bool) → IsHistory bases T → fault_in T ≡ None → IsSpelled bases T i → turn (books_of T) h ≡ Some i → said_breach bases T h ≡ None
    → IsSpelledWith bases T h i (Some i) (effect_of_turn bases T (Some i) h).message shut
turn_spelled bases T h i shut history standing before turns said = by (entered i T) (own_event bases T i h) refl refl
  where
    now : IsJoined (books_of T) i (alone bases T i).client (alone bases T i).count
    now = (joined bases T history standing).1 i

    quiet : (message : Option Outgoing) → message ≡ None → event_for bases T h (Some i) i ≡ None → IsSpelledWith bases T h i (Some i) message shut
    quiet message silent none =
        kept bases T i (cond (i == i) (option_to_list (option_map (message_up (books_of T) (settled_by (books_of T) h) i) message)) []) (books_with (books_of T) h (Some i) message shut) (event_for bases T h (Some i) i) (either_empty (i == i) (option_map (message_up (books_of T) (settled_by (books_of T) h) i) message) (ap (option_map (message_up (books_of T) (settled_by (books_of T) h) i)) silent)) none
        (own_alike (books_of T) (final_in (books_of T) h) i (alone bases T i).count (kind_of (option_map (message_up (books_of T) (settled_by (books_of T) h) i) message) (free_in (settled_by (books_of T) h)) shut) now.counted) before

    by : (en : Bool) (event : Option PrivateEvent) → entered i T ≡ en → own_event bases T i h ≡ event → IsSpelledWith bases T h i (Some i) (effect_of_turn bases T (Some i) h).message shut
    by false event en is = quiet (effect_of_turn bases T (Some i) h).message (effect_absent bases T h i en) (ap (λ t. cond t (cond (i == i) (own_event bases T i h) None) None) en)
    by true None en is =
        quiet (effect_of_turn bases T (Some i) h).message (ap (λ (done : Effect). done.message) (effect_present bases T h i None en is))
        (either_none (entered i T) (cond (i == i) (own_event bases T i h) None) (either_none (i == i) (own_event bases T i h) is))
    by true (Some event) en is =
        let made : IsStep bases (books_of T) (final_in (books_of T) h) i (alone bases T i) event =
        subst (λ (one : Option PrivateEvent). IsTurnStep bases (books_of T) i (alone bases T i) one (final_in (books_of T) h)) is (turn_step bases T i h now en turns said) in
        let message : Option Outgoing = (effect_alone bases (alone bases T i) event).message in
        let after : Books = books_with (books_of T) h (Some i) message shut in
        let named : IsNamed (free_in (settled_by (books_of T) h)) message =
        subst (λ (done : Effect). IsNamed (free_in (settled_by (books_of T) h)) done.message) (sym (step_is bases (books_of T) (final_in (books_of T) h) i (alone bases T i) event (not_over bases T standing i) made))
        (grind (arith, first_named, hear_mute)) in
        let kind : Option RequestKind = kind_of (option_map (message_up (books_of T) (settled_by (books_of T) h) i) message) (free_in (settled_by (books_of T) h)) shut in
        subst (λ (done : Effect). IsSpelledWith bases T h i (Some i) done.message shut) (sym (effect_present bases T h i (Some event) en is))
        (ap (λ t. cond t (option_to_list (option_map (message_up (books_of T) (settled_by (books_of T) h) i) message)) [] ++ asked_up i T) (same_number i)
        ∙ ap (λ one. option_to_list one ++ asked_up i T) (message_asked (books_of T) (final_in (books_of T) h) i (alone bases T i).count shut message now.counted named)
        ∙ ap (λ more. option_to_list (option_map (numbered_for after i ((alone bases T i).count + 1)) message) ++ more)
        (before ∙ events_alike bases (books_of T) after i (own bases i T) (own_alike (books_of T) (final_in (books_of T) h) i (alone bases T i).count kind now.counted))
        ∙ sym (event_spelled bases after i event (own bases i T))
        ∙ sym (ap (λ one. spelled_up after i bases (option_to_list one ++ own bases i T)) (event_present bases T h i event en is)))

-- by whose turn it is, while the connection to the server stands
who_spelled : (bases : Bases) (T : List HistoryEntry) (e : HistoryEntry) (i : ℕ) (who : Option ℕ) → IsHistory bases (e ∷ T) → fault_in (e ∷ T) ≡ None → IsSpelled bases T i → turn (books_of T) e.happening ≡ who
    → IsSpelledWith bases T e.happening i who (effect_of_turn bases T who e.happening).message (has_shut who (e ∷ T))
who_spelled bases T e i None history standing before turns =
    kept bases T i [] (settled_by (books_of T) e.happening) (event_for bases T e.happening None i) refl (either_none (entered i T) None refl) (λ k le. refl, λ k le. refl) before
who_spelled bases T e i (Some j) history standing before turns = by (j == i) refl
  where
    by : (t : Bool) → (j == i) ≡ t → IsSpelledWith bases T e.happening i (Some j) (effect_of_turn bases T (Some j) e.happening).message (has_shut (Some j) (e ∷ T))
    by true same =
        let conn : j ≡ i = eqb-true j i same in
        subst (λ (k : ℕ). IsSpelledWith bases T e.happening i (Some k) (effect_of_turn bases T (Some k) e.happening).message (has_shut (Some k) (e ∷ T))) (sym conn)
        (turn_spelled bases T e.happening i (has_shut (Some i) (e ∷ T)) history.0 (both_none (fault_in T) e.outcome.fault standing).0 before (turns ∙ ap (λ k. Some k) conn) (said_right bases T e history.1 standing))
    by false same =
        let message : Option Outgoing = (effect_of_turn bases T (Some j) e.happening).message in
        let apart : (i == j) ≡ false = differs i j (λ one. let never : true ≡ false = sym (eq-eqb j i (sym one)) ∙ same in cc) in
        kept bases T i (cond (j == i) (option_to_list (option_map (message_up (books_of T) (settled_by (books_of T) e.happening) j) message)) []) (books_with (books_of T) e.happening (Some j) message (has_shut (Some j) (e ∷ T))) (event_for bases T e.happening (Some j) i) (ap (λ t. cond t (option_to_list (option_map (message_up (books_of T) (settled_by (books_of T) e.happening) j) message)) []) same)
        (either_none (entered i T) (cond (j == i) (own_event bases T i e.happening) None) (ap (λ t. cond {A = Option PrivateEvent} t (own_event bases T i e.happening) None) same))
        (grind arith) before

-- and from its end on, when nothing goes up and the books stay as they are
over_next : (bases : Bases) (T : List HistoryEntry) (e : HistoryEntry) (i : ℕ) (cause : UpCause) (now : Option UpCause) → IsHistory bases (e ∷ T) → fault_in (e ∷ T) ≡ Some cause → e.outcome.fault ≡ now
    → spelled_up (books_of T) i bases (own bases i (e ∷ T)) ≡ spelled_up (books_of T) i bases (own bases i T)
over_next bases T e i cause (Some other) history ended now = ap (spelled_up (books_of T) i bases) (own_ended bases T e i other now) ∙ (grind arith)
over_next bases T e i cause None history ended now =
    ap (spelled_up (books_of T) i bases) (own_quiet bases T e i now)
    ∙ (grind (arith, (faults_over bases T history.0 cause (grind arith) i)))

ended_next : (bases : Bases) (T : List HistoryEntry) (e : HistoryEntry) (i : ℕ) (cause : UpCause) → IsHistory bases (e ∷ T) → fault_in (e ∷ T) ≡ Some cause → IsSpelled bases T i → IsSpelled bases (e ∷ T) i
ended_next bases T e i cause history ended before =
    let up : e.outcome.to_up ≡ nothing_up = history.1.spelled ∙ ap (λ (fault : Option UpCause). cond (is_some fault) nothing_up (up_due bases T e.happening)) ended in
    let books : books_of (e ∷ T) ≡ books_of T = ap (λ (fault : Option UpCause). cond (is_some fault) (books_of T) (books_after (books_of T) T e)) ended in
    ap (λ (one : ToUp). asked_for i (turn (books_of T) e.happening) one ++ asked_up i T) up
    ∙ ap (λ here. here ++ asked_up i T) (either_empty (is_turn i (turn (books_of T) e.happening)) None refl)
    ∙ before
    ∙ sym (over_next bases T e i cause e.outcome.fault history ended refl)
    ∙ ap (λ (one : Books). spelled_up one i bases (own bases i (e ∷ T))) (sym books)

-- The server is asked, for each connection, what its machine alone sends up.
pub asked : (bases : Bases) (T : List HistoryEntry) (i : ℕ) → IsHistory bases T → IsSpelled bases T i
asked bases [] i history = refl
asked bases (e ∷ T) i history = by (fault_in (e ∷ T)) refl (asked bases T i history.0)
  where
    by : (fault : Option UpCause) → fault_in (e ∷ T) ≡ fault → IsSpelled bases T i → IsSpelled bases (e ∷ T) i
    by None standing before = grind (arith, both_none, who_spelled, event_for, books_next, own_quiet)
    by (Some cause) ended before = ended_next bases T e i cause history ended before

-- the older entries have the one player too
pub only_before : (i : ℕ) (T : List HistoryEntry) (e : HistoryEntry) → IsOnlyPlayer i (e ∷ T) → IsOnlyPlayer i T
only_before i T e only j other = (or_parts (enters_here j e.happening) (ever_entered j T) (only j other)).1

-- whoever takes part is that player
pub part_is_only : (i : ℕ) (T : List HistoryEntry) (j : ℕ) → IsOnlyPlayer i T → entered j T ≡ true → j ≡ i
part_is_only i T j only part = grind (arith, cases_Bool, eqb-true, eq-eqb, never_part)

pub alive_is_only : (i : ℕ) (T : List HistoryEntry) (j : ℕ) → IsOnlyPlayer i T → is_alive j T ≡ true → j ≡ i
alive_is_only i T j only alive = part_is_only i T j only (grind arith)

-- so it hands the bytes to that player
piece_is_its : (i : ℕ) (T : List HistoryEntry) (piece : Option ToClient) → IsOnlyPlayer i T → HandsToLiving T piece → option_to_list piece ≡ map (piece_for i) (pieces_to i piece)
piece_is_its i T None only living = refl
piece_is_its i T (Some piece) only living =
    let same : piece.conn ≡ i = alive_is_only i T piece.conn only living in
    let here = eq-eqb piece.conn i same in
    rw here (ap (λ (n : ℕ). piece_for n piece.bytes ∷ []) same)

handed_all : (bases : Bases) (T : List HistoryEntry) (i : ℕ) → IsHistory bases T → IsOnlyPlayer i T → all_handed T ≡ map (piece_for i) (sent i T)
handed_all bases [] i history only = refl
handed_all bases (e ∷ T) i history only =
    let before = only_before i T e only in
    ap (λ l. l ++ all_handed T) (piece_is_its i T e.outcome.to_client before (grind (arith, (follows_orderly bases T e history.0 history.1))))
    ∙ ap (λ l. map (piece_for i) (pieces_to i e.outcome.to_client) ++ l) (handed_all bases T i history.0 before)
    ∙ sym (map-append (piece_for i) (pieces_to i e.outcome.to_client) (sent i T))

-- A message goes up in the turn of a connection that takes part.
absent_asks : (books settled : Books) (bases : Bases) (T : List HistoryEntry) (happening : Happening) (j : ℕ) → entered j T ≡ false → message_due books settled (Some j) (effect_of_turn bases T (Some j) happening).message ≡ None
absent_asks books settled bases T happening j absent = ap (λ m. message_due books settled (Some j) m) (effect_absent bases T happening j absent)

turn_message : (bases : Bases) (T : List HistoryEntry) (i : ℕ) (happening : Happening) (books settled : Books) (who : Option ℕ) → IsOnlyPlayer i T
    → option_to_list (message_due books settled who (effect_of_turn bases T who happening).message) ≡ cond (is_turn i who) (option_to_list (message_due books settled who (effect_of_turn bases T who happening).message)) []
turn_message bases T i happening books settled None only = refl
turn_message bases T i happening books settled (Some j) only =
    elim (cases_Bool (entered j T)) [
      | inl part ↦ (let same : (j == i) ≡ true = eq-eqb j i (part_is_only i T j only part) in rw same refl)
      | inr absent ↦ (let none = absent_asks books settled bases T happening j absent in rw none (grind arith))
    ]

asked_all : (bases : Bases) (T : List HistoryEntry) (i : ℕ) → IsHistory bases T → IsOnlyPlayer i T → all_asked T ≡ asked_up i T
asked_all bases [] i history only = refl
asked_all bases (e ∷ T) i history only =
    let before = only_before i T e only in
    ap (λ l. l ++ all_asked T) (grind (arith, turn_message, history.1.spelled))
    ∙ ap (λ l. asked_for i (turn (books_of T) e.happening) e.outcome.to_up ++ l) (asked_all bases T i history.0 before)

pub one_player : (bases : Bases) (T : List HistoryEntry) (i : ℕ) → IsHistory bases T → IsOnlyPlayer i T → HasAll bases i T
one_player bases T i history only = record {
  handed = handed_all bases T i history only ∙ ap (map (piece_for i)) (sent_as_alone bases T history i);
  asked = asked_all bases T i history only ∙ asked bases T i history;
  closed = shut_as_alone bases T history i;
  nobody_else = λ j other. unentered_open _ follows_orderly bases T j history (never_part T j (only j other));
}
