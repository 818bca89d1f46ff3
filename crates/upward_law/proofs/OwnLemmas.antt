-- What is read in the turns of a connection is, in its own numbers, what it asks alone.
use Rattle.std.proofs.Common.{◌≡◌, ◌∙◌, ℕ, ◌+◌, ◌*◌, ◌/◌, ◌%◌, ◌<◌, ◌==◌, Bool, true, false, cond, List, [], ◌∷◌, ◌++◌, map, drop, Option, Some, None, refl, sym, ap, subst, arith}
use Rattle.std.specs.Prelude.{codes, is_some}
use Rattle.std.specs.List.{AllByRecursion, list_all, filter}
use Rattle.std.specs.Option.{option_map, option_or, option_to_list}
use Rattle.std.specs.Str.{bytes_eq}
use Rattle.std.proofs.lemmas.Bool.{and_parts, eq-eqb, eqb-true}
use Rattle.rtsp_head.specs.declared.header.Header.{Header}
use Rattle.rtsp_transport.specs.declared.channels.Pair.{Pair}
use Rattle.rtsp_uri.specs.declared.base.Bases.{Bases}
use Rattle.head_two.specs.declared.request.Request2.{Request2}
use Rattle.session_one.specs.declared.parts.Track.{Track}
use Rattle.translate_up.specs.Upward.{transport_header, headers_with_transport, is_other, without_transport}
use Rattle.client_slot.specs.declared.purpose.Purpose.{Purpose}
use Rattle.client_slot.specs.Client.{Client}
use Rattle.client_slot.specs.Places.{tracks_of}
use Rattle.client_slot.specs.Session.{PlayerSession}
use Rattle.client_machine.specs.Alone.{Private}
use Rattle.client_machine.specs.Events.{Effect, Outgoing, asks, carries, PrivateEvent, up_end}
use Rattle.client_machine.specs.Frames.{channel_in, Half, half_on, half_for}
use Rattle.client_machine.specs.OpenRequests.{AsksBy}
use Rattle.client_machine.specs.Step.{hear, going_on, step}
use Rattle.client_machine.specs.UpTexts.{channels, over_pair}
use Rattle.client_machine.proofs.AskLemmas.{going_asks}
use Rattle.client_machine.proofs.KeepLemmas.{IsOver}
use Rattle.client_machine.proofs.WayLemmas.{hear_as}
use Rattle.gateway_claim.specs.declared.event.ToUp.{ToUp}
use Rattle.gateway_claim.specs.declared.event.UpCause.{UpCause}
use Rattle.gateway_claim.specs.Books.{Books, Final, kind_of, settles, free_in}
use Rattle.gateway_claim.specs.Follows.{said_breach, spent, effect_of_turn, message_up, message_due, up_due, IsHistory}
use Rattle.gateway_claim.specs.Happenings.{Happening, HistoryEntry, fault_in, entered, nothing_up}
use Rattle.gateway_claim.specs.OwnEvents.{turn, is_turn, final_in, settled_by, lends_where, has_shut, books_of, own}
use Rattle.gateway_claim.proofs.AgreeLemmas.{alone, joined, IsStep, IsTurnStep, step_is, turn_step, effect_absent, effect_present, said_right, books_with, books_next, event_for, event_present}
use Rattle.gateway_claim.proofs.ApartLemmas.{all_are}
use Rattle.gateway_claim.proofs.CaseLemmas.{own_event, own_quiet, own_ended, faults_over, both_none, not_over, pair_where}
use Rattle.upward_law.specs.ServerStream.{ServerRead, reads_request, reads_frame, AreRead}
use Rattle.upward_law.specs.Due.{message_bytes, message_meant, IsItemTaken, AreItemsTaken}
use Rattle.upward_law.specs.OwnForm.{without_channels, in_own_numbers, message_alone, read_alone, AreReadFor}
use Rattle.upward_law.proofs.EntryLemmas.{asked_so, left_for, turn_sound}
use Rattle.upward_law.proofs.OpenLemmas.{turn_for}
use Rattle.upward_law.proofs.PurposeLemmas.{MeantBy}
use Rattle.upward_law.proofs.ReadLemmas.{written_read}

-- Headers without channels stay as they are, and channels that were put in are left out.
none_out : (headers : List Header) → list_all is_other headers ≡ true → without_transport headers ≡ headers
none_out [] bare = refl
none_out (header ∷ headers) bare =
    let parts = and_parts (is_other header) (list_all is_other headers) bare in
    ap (λ t. cond t (header ∷ filter is_other headers) (filter is_other headers)) parts.0 ∙ ap (λ (hs : List Header). header ∷ hs) (none_out headers parts.1)

put_out : (pair : Pair) (headers : List Header) → list_all is_other headers ≡ true → without_transport (headers_with_transport pair headers) ≡ headers
put_out pair [] bare = refl
put_out pair (header ∷ headers) bare =
    by (bytes_eq header.name (codes "Accept-Ranges")) (and_parts (is_other header) (list_all is_other headers) bare).0 (put_out pair headers (and_parts (is_other header) (list_all is_other headers) bare).1)
  where
    by : (due : Bool) → is_other header ≡ true → without_transport (headers_with_transport pair headers) ≡ headers
        → without_transport (cond due (transport_header pair ∷ header ∷ headers) (header ∷ headers_with_transport pair headers)) ≡ header ∷ headers
    by true other rest = none_out (header ∷ headers) bare
    by false other rest =
        ap (λ t. cond t (header ∷ filter is_other (headers_with_transport pair headers)) (filter is_other (headers_with_transport pair headers))) other ∙ ap (λ (hs : List Header). header ∷ hs) rest

paired_out : (named free : Option ℕ) (request : Request2) → list_all is_other request.headers ≡ true → without_channels (over_pair named free request) ≡ request
paired_out None None request bare = ap (λ (hs : List Header). record request { headers = hs }) (none_out request.headers bare)
paired_out None (Some p) request bare = ap (λ (hs : List Header). record request { headers = hs }) (none_out request.headers bare)
paired_out (Some own) None request bare = ap (λ (hs : List Header). record request { headers = hs }) (none_out request.headers bare)
paired_out (Some own) (Some p) request bare = ap (λ (hs : List Header). record request { headers = hs }) (put_out (channels p) request.headers bare)

-- A frame goes up on a half of the pair of a stream that the connection has.
abbrev CarriesBy : (ℕ → Type 0) → Option Outgoing → Type 0
CarriesBy P None = Unit {0}
CarriesBy P (Some (asks request named)) = Unit {0}
CarriesBy P (Some (carries pair half rest)) = P pair × (half < 2)

side_low : (channel : ℕ) (track : Track) (side : ℕ) → half_on channel track ≡ Some side → side < 2
side_low channel track side is = by (track.client.rtp == channel) (track.client.rtcp == channel) is
  where
    by : (first second : Bool) → cond first (Some 0) (cond second (Some 1) None) ≡ Some side → side < 2
    by true second e = let same : 0 ≡ side = cc in subst (λ (n : ℕ). n < 2) same (omega arith)
    by false true e = let same : 1 ≡ side = cc in subst (λ (n : ℕ). n < 2) same (omega arith)
    by false false e = cc

half_kept : (P : ℕ → Type 0) (channel : ℕ) (tracks : List Track) (half : Half) → AllByRecursion (λ track. P track.pair) tracks → half_for channel tracks ≡ Some half → P half.pair × (half.half < 2)
half_kept P channel [] half all e = cc
half_kept P channel (track ∷ tracks) half all e = by (half_on channel track) refl (half_kept P channel tracks half all.1) e
  where
    by : (one : Option ℕ) → half_on channel track ≡ one → (half_for channel tracks ≡ Some half → P half.pair × (half.half < 2))
        → option_or (option_map (λ (side : ℕ). record { pair = track.pair; half = side }) one) (half_for channel tracks) ≡ Some half → P half.pair × (half.half < 2)
    by None is more h = more h
    by (Some side) is more h =
        let same : record { pair = track.pair; half = side } ≡ half = cc in
        subst (λ (one : Half). P one.pair × (one.half < 2)) same (all.0, side_low channel track side is)

hear_carries : (P : ℕ → Type 0) (bases : Bases) (number : ℕ) (client : Client) (event : PrivateEvent) → AllByRecursion (λ track. P track.pair) (tracks_of client.sessions) → CarriesBy P (hear bases number client event).effect.message
hear_carries P bases number client event all = hear_as (λ heard. CarriesBy P heard.effect.message) bases number client event (record {
  idle = tt;
  closing = λ reason alive. tt;
  waits = λ shape full here is alive. tt;
  carrying = λ shape full half here is. half_kept P (channel_in shape) (tracks_of client.sessions) half all is;
  settles = λ purpose told ssrc full here late is. tt;
  notes = λ id names here. tt;
  gives = λ pair half channel rest here is alive. tt;
})

asks_carry : (P : ℕ → Type 0) (free : Option ℕ) (old new : Option Purpose) (message : Option Outgoing) → AsksBy free old message new → CarriesBy P message
asks_carry P free old new None is = tt
asks_carry P free old new (Some (asks request named)) is = tt
asks_carry P free old new (Some (carries pair half rest)) is = absurd is

either_carries : (P : ℕ → Type 0) (first second : Option Outgoing) → CarriesBy P first → CarriesBy P second → CarriesBy P (option_or first second)
either_carries P None second one other = other
either_carries P (Some message) second one other = one

step_carries : (P : ℕ → Type 0) (bases : Bases) (number : ℕ) (free : Option ℕ) (client : Client) (event : PrivateEvent) → AllByRecursion (λ track. P track.pair) (tracks_of client.sessions) → CarriesBy P (step bases number free client event).message
step_carries P bases number free client event all =
    let heard = hear bases number client event in
    either_carries P heard.effect.message (going_on bases free heard.next heard.effect.client).message (hear_carries P bases number client event all)
    (asks_carry P free heard.effect.client.pending _ (going_on bases free heard.next heard.effect.client).message (going_asks bases free heard.next heard.effect.client))

-- A request has no channels of its own.
abbrev IsBare : Option Outgoing → Type 0
IsBare None = Unit {0}
IsBare (Some (asks request named)) = list_all is_other request.headers ≡ true
IsBare (Some (carries pair half rest)) = Unit {0}

bare_by : (free : Option ℕ) (next : ℕ) (pairs : ℕ → ℕ) (sessions : List PlayerSession) (message : Option Outgoing) (new : Option Purpose) → MeantBy free next pairs sessions message new → IsBare message
bare_by free next pairs sessions None new is = tt
bare_by free next pairs sessions (Some (asks request named)) None is = absurd is
bare_by free next pairs sessions (Some (asks request named)) (Some purpose) is = is.0.0
bare_by free next pairs sessions (Some (carries pair half rest)) new is = tt

-- What is read, in own numbers.
half_back : (p half : ℕ) → half < 2 → ((2 * p + half) / 2 ≡ p) × ((2 * p + half) % 2 ≡ half)
half_back p half low = (omega (arith, low), omega (arith, low))

own_so : (books : Books) (final : Option Final) (i count : ℕ) (shut : Bool) (message : Option Outgoing) → count ≡ books.counts i → IsBare message → CarriesBy (λ pair. books.own_pair (books.pair_of i pair) ≡ pair) message
    → map (in_own_numbers (lends_where (Some i) (kind_of (option_map (message_up books (settles final books) i) message) (free_in (settles final books)) shut) (settles final books))) (option_to_list (option_map (message_meant books (settles final books) i) message))
    ≡ option_to_list (option_map (message_alone (count + 1)) message)
own_so books final i count shut None counted bare carried = refl
own_so books final i count shut (Some (asks request named)) counted bare carried =
    ap (λ (n : ℕ). reads_request (record { number = n; request = without_channels (over_pair named (free_in (settles final books)) request) }) ∷ []) number
    ∙ ap (λ (one : Request2). reads_request (record { number = count + 1; request = one }) ∷ []) (paired_out named (free_in (settles final books)) request bare)
  where
    number : cond (books.issued + 1 == books.issued + 1) (books.counts i + 1) (books.own_number (books.issued + 1)) ≡ count + 1
    number = ap (λ t. cond t (books.counts i + 1) (books.own_number (books.issued + 1))) (eq-eqb (books.issued + 1) (books.issued + 1) refl) ∙ ap (λ n. n + 1) (sym counted)
own_so books final i count shut (Some (carries pair half rest)) counted bare carried =
    let p = books.pair_of i pair in
    let back = half_back p half carried.1 in
    ap (λ (n : ℕ). reads_frame (2 * books.own_pair n + (2 * p + half) % 2) (drop 2 rest) ∷ []) back.0
    ∙ ap (λ (n : ℕ). reads_frame (2 * books.own_pair p + n) (drop 2 rest) ∷ []) back.1
    ∙ ap (λ (n : ℕ). reads_frame (2 * n + half) (drop 2 rest) ∷ []) carried.0

-- Nothing is asked at the end of the connection to the server, and after it.
end_mute : (bases : Bases) (en : Bool) (events : List PrivateEvent) → read_alone bases (cond en (up_end ∷ []) [] ++ events) ≡ read_alone bases events
end_mute bases en events = grind arith

over_mute : (bases : Bases) (en : Bool) (event : Option PrivateEvent) (events : List PrivateEvent) → (en ≡ true → IsOver bases events) → read_alone bases (option_to_list (cond en event None) ++ events) ≡ read_alone bases events
over_mute bases en event events over = grind arith

ended_mute : (bases : Bases) (T : List HistoryEntry) (e : HistoryEntry) (i : ℕ) (cause : UpCause) (now : Option UpCause) → IsHistory bases (e ∷ T) → fault_in (e ∷ T) ≡ Some cause → e.outcome.fault ≡ now → read_alone bases (own bases i (e ∷ T)) ≡ read_alone bases (own bases i T)
ended_mute bases T e i cause (Some other) history ended now = ap (read_alone bases) (own_ended bases T e i other now) ∙ end_mute bases (entered i T) (own bases i T)
ended_mute bases T e i cause None history ended now =
    ap (read_alone bases) (own_quiet bases T e i now)
    ∙ over_mute bases (entered i T) (cond (is_turn i (turn (books_of T) e.happening)) (own_event bases T i e.happening) None) (own bases i T)
    (faults_over bases T history.0 cause (first_of (fault_in T) (sym (ap (option_or (fault_in T)) now) ∙ ended)) i)
  where
    first_of : (fault : Option UpCause) → option_or fault None ≡ Some cause → fault ≡ Some cause
    first_of fault e = grind arith

-- What is to be shown of an entry.
abbrev IsReadOwn : Bases → List HistoryEntry → HistoryEntry → ℕ → List ℕ → List PrivateEvent → Type 0
IsReadOwn bases T e i bytes events =
    (here later : List ServerRead) × AreRead bytes here × (read_alone bases events ≡ map (in_own_numbers (books_of (e ∷ T))) here ++ later) × AreReadFor i T later

nothing_read : (bases : Bases) (T : List HistoryEntry) (e : HistoryEntry) (i : ℕ) (bytes : List ℕ) (events : List PrivateEvent) → bytes ≡ [] → read_alone bases events ≡ read_alone bases (own bases i T) → AreReadFor i T (read_alone bases (own bases i T)) → IsReadOwn bases T e i bytes events
nothing_read bases T e i bytes events none same before = ([], read_alone bases (own bases i T), none, same, before)

either_empty : (here : Bool) (bytes : List ℕ) → bytes ≡ [] → cond here bytes [] ≡ []
either_empty true bytes e = e
either_empty false bytes e = refl

either_none : (en : Bool) (event : Option PrivateEvent) → event ≡ None → cond en event None ≡ None
either_none true event e = e
either_none false event e = refl

-- It is the turn of the connection.
turn_own : (bases : Bases) (T : List HistoryEntry) (e : HistoryEntry) (i : ℕ) → IsHistory bases (e ∷ T) → fault_in (e ∷ T) ≡ None → turn (books_of T) e.happening ≡ Some i → IsItemTaken e.happening → AreReadFor i T (read_alone bases (own bases i T))
    → IsReadOwn bases T e i (message_bytes (message_due (books_of T) (settled_by (books_of T) e.happening) (Some i) (effect_of_turn bases T (Some i) e.happening).message)) (option_to_list (event_for bases T e.happening (Some i) i) ++ own bases i T)
turn_own bases T e i history standing turns taken before = by (entered i T) (own_event bases T i h) refl refl
  where
    h : Happening
    h = e.happening

    p : Private
    p = alone bases T i

    books : Books
    books = books_of T

    settled : Books
    settled = settled_by (books_of T) h

    stood : fault_in T ≡ None
    stood = (both_none (fault_in T) e.outcome.fault standing).0

    message : Option Outgoing
    message = (effect_of_turn bases T (Some i) h).message

    silent : message ≡ None → event_for bases T h (Some i) i ≡ None → IsReadOwn bases T e i (message_bytes (message_due books settled (Some i) message)) (option_to_list (event_for bases T h (Some i) i) ++ own bases i T)
    silent none quiet = nothing_read bases T e i (message_bytes (message_due books settled (Some i) message)) (option_to_list (event_for bases T h (Some i) i) ++ own bases i T) (ap (λ (one : Option Outgoing). message_bytes (message_due books settled (Some i) one)) none)
        (ap (λ (one : Option PrivateEvent). read_alone bases (option_to_list one ++ own bases i T)) quiet) before

    by : (en : Bool) (event : Option PrivateEvent) → entered i T ≡ en → own_event bases T i h ≡ event
        → IsReadOwn bases T e i (message_bytes (message_due books settled (Some i) message)) (option_to_list (event_for bases T h (Some i) i) ++ own bases i T)
    by false event en is = silent (effect_absent bases T h i en) (ap (λ t. cond t (cond (is_turn i (Some i)) (own_event bases T i h) None) None) en)
    by true None en is =
        silent (ap (λ (done : Effect). done.message) (effect_present bases T h i None en is))
        (either_none (entered i T) (cond (is_turn i (Some i)) (own_event bases T i h) None) (either_none (is_turn i (Some i)) (own_event bases T i h) is))
    by true (Some event) en is =
        let said : said_breach bases T h ≡ None = said_right bases T e history.1 standing in
        let made : IsStep bases books (final_in books h) i p event =
        subst (λ (one : Option PrivateEvent). IsTurnStep bases books i p one (final_in books h)) is (turn_step bases T i h ((joined bases T history.0 stood).1 i) en turns said) in
        let left : spent books.issued message ≡ None = ap (λ (who : Option ℕ). spent books.issued (effect_of_turn bases T who h).message) (sym turns) ∙ left_for bases T e history.1 standing in
        let bare : IsBare message = bare_by (free_in settled) (p.count + 1) (λ n. n) _ message _ (turn_for bases T e i (λ n. n) history.0 standing turns said) in
        let carried : CarriesBy (λ pair. books.own_pair (books.pair_of i pair) ≡ pair) message =
        subst (λ (done : Effect). CarriesBy (λ pair. books.own_pair (books.pair_of i pair) ≡ pair) done.message) (sym (effect_present bases T h i (Some event) en is ∙ step_is bases books (final_in books h) i p event (not_over bases T stood i) made))
        (step_carries (λ pair. books.own_pair (books.pair_of i pair) ≡ pair) bases p.count (pair_where (free_in settled) (p.count + 1)) p.client event
        (all_are (λ track. books.own_pair (books.pair_of i track.pair) ≡ track.pair) books i (λ id track held. held.1) p.client.sessions ((joined bases T history.0 stood).1 i).tracks)) in
        let after : books_of (e ∷ T) ≡ lends_where (Some i) (kind_of (option_map (message_up books settled i) message) (free_in settled) (has_shut (Some i) (e ∷ T))) settled =
        books_next bases T e history.1 standing ∙ ap (λ (who : Option ℕ). books_with books h who (effect_of_turn bases T who h).message (has_shut who (e ∷ T))) turns in
        let here : List ServerRead = option_to_list (option_map (message_meant books settled i) message) in (
          here,
          read_alone bases (own bases i T),
          written_read _ _ (asked_so (IsItemTaken h) books settled i message taken left (turn_sound bases T h i history.0 stood turns said)),
          ap (λ (one : Option PrivateEvent). read_alone bases (option_to_list one ++ own bases i T)) (event_present bases T h i event en is)
              ∙ ap (λ (done : Effect). option_to_list (option_map (message_alone (p.count + 1)) done.message) ++ read_alone bases (own bases i T)) (sym (effect_present bases T h i (Some event) en is))
              ∙ ap (λ (items : List ServerRead). items ++ read_alone bases (own bases i T))
              (sym (own_so books (final_in books h) i p.count (has_shut (Some i) (e ∷ T)) message ((joined bases T history.0 stood).1 i).counted bare carried) ∙ ap (λ (one : Books). map (in_own_numbers one) here) (sym after)),
          before,
        )

-- by whose turn it is, while the connection to the server stands
who_own : (bases : Bases) (T : List HistoryEntry) (e : HistoryEntry) (i : ℕ) (who : Option ℕ) → IsHistory bases (e ∷ T) → fault_in (e ∷ T) ≡ None → turn (books_of T) e.happening ≡ who → IsItemTaken e.happening → AreReadFor i T (read_alone bases (own bases i T))
    → IsReadOwn bases T e i (cond (is_turn i who) (message_bytes (message_due (books_of T) (settled_by (books_of T) e.happening) who (effect_of_turn bases T who e.happening).message)) []) (option_to_list (event_for bases T e.happening who i) ++ own bases i T)
who_own bases T e i None history standing turns taken before =
    nothing_read bases T e i [] (option_to_list (event_for bases T e.happening None i) ++ own bases i T) refl
    (ap (λ (one : Option PrivateEvent). read_alone bases (option_to_list one ++ own bases i T)) (either_none (entered i T) None refl)) before
who_own bases T e i (Some j) history standing turns taken before = by (j == i) refl
  where
    by : (here : Bool) → (j == i) ≡ here
        → IsReadOwn bases T e i (cond (j == i) (message_bytes (message_due (books_of T) (settled_by (books_of T) e.happening) (Some j) (effect_of_turn bases T (Some j) e.happening).message)) []) (option_to_list (event_for bases T e.happening (Some j) i) ++ own bases i T)
    by true is =
        let same : j ≡ i = eqb-true j i is in
        subst (λ (k : ℕ). IsReadOwn bases T e i (cond (k == i) (message_bytes (message_due (books_of T) (settled_by (books_of T) e.happening) (Some k) (effect_of_turn bases T (Some k) e.happening).message)) []) (option_to_list (event_for bases T e.happening (Some k) i) ++ own bases i T))
        (sym same)
        (subst (λ (t : Bool). IsReadOwn bases T e i (cond t (message_bytes (message_due (books_of T) (settled_by (books_of T) e.happening) (Some i) (effect_of_turn bases T (Some i) e.happening).message)) []) (option_to_list (event_for bases T e.happening (Some i) i) ++ own bases i T))
        (sym (eq-eqb i i refl)) (turn_own bases T e i history standing (turns ∙ ap (λ (k : ℕ). Some k) same) taken before))
    by false other =
        nothing_read bases T e i _ (option_to_list (event_for bases T e.happening (Some j) i) ++ own bases i T)
        (ap (λ (t : Bool). cond t (message_bytes (message_due (books_of T) (settled_by (books_of T) e.happening) (Some j) (effect_of_turn bases T (Some j) e.happening).message)) []) other)
        (ap (λ (one : Option PrivateEvent). read_alone bases (option_to_list one ++ own bases i T))
        (either_none (entered i T) (cond (j == i) (own_event bases T i e.happening) None) (ap (λ t. cond {A = Option PrivateEvent} t (own_event bases T i e.happening) None) other)))
        before

entry_own : (bases : Bases) (T : List HistoryEntry) (e : HistoryEntry) (i : ℕ) (fault : Option UpCause) → IsHistory bases (e ∷ T) → fault_in (e ∷ T) ≡ fault → IsItemTaken e.happening → AreReadFor i T (read_alone bases (own bases i T))
    → IsReadOwn bases T e i (cond (is_turn i (turn (books_of T) e.happening)) (message_bytes (cond (is_some fault) nothing_up (up_due bases T e.happening)).message) []) (own bases i (e ∷ T))
entry_own bases T e i (Some cause) history is taken before =
    nothing_read bases T e i _ (own bases i (e ∷ T)) (either_empty (is_turn i (turn (books_of T) e.happening)) [] refl) (ended_mute bases T e i cause e.outcome.fault history is refl) before
entry_own bases T e i None history is taken before =
    subst (IsReadOwn bases T e i (cond (is_turn i (turn (books_of T) e.happening)) (message_bytes (up_due bases T e.happening).message) [])) (sym (own_quiet bases T e i (both_none (fault_in T) e.outcome.fault is).1))
    (who_own bases T e i (turn (books_of T) e.happening) history is refl taken before)

pub own_read : (bases : Bases) (T : List HistoryEntry) (i : ℕ) → IsHistory bases T → AreItemsTaken T → AreReadFor i T (read_alone bases (own bases i T))
own_read bases [] i history taken = refl
own_read bases (e ∷ T) i history taken =
    subst (λ (up : ToUp). IsReadOwn bases T e i (cond (is_turn i (turn (books_of T) e.happening)) (message_bytes up.message) []) (own bases i (e ∷ T))) (sym history.1.spelled)
    (entry_own bases T e i (fault_in (e ∷ T)) history refl taken.0 (own_read bases T i history.0 taken.1))
