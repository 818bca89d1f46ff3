-- What a player sees in a history walks the table.
use Rattle.std.proofs.Common.{◌≡◌, ◌∙◌, ◌==◌, ◌+◌, ◌≤◌, ℕ, Bool, true, false, cond, List, [], ◌∷◌, ◌++◌, length, take, drop, filter, Option, None, Some, IfSome, IfOk, Result, Ok, option_to_list, refl, sym, ap, subst, arith}
use Rattle.std.specs.Option.{option_map}
use Rattle.std.specs.List.{list_all}
use Rattle.std.proofs.lemmas.List.{append-nil, length-drop}
use Rattle.std.proofs.lemmas.Bool.{and_parts}
use Rattle.std.proofs.lemmas.Slice.Eq.{bytes_eq-Decides}
use Rattle.gate_bytes.specs.Ascii.{dollar}
use Rattle.rtsp_head.specs.Items.{Shape, judged_span, headed_span, message_span, frame_span, span_of, head_len, blank_lines}
use Rattle.rtsp_head.specs.Heads.{head_of}
use Rattle.rtsp_head.specs.HeadText.{is_header, CanBeWritten}
use Rattle.rtsp_head.specs.declared.facts.Facts.{Facts}
use Rattle.rtsp_head.specs.declared.head.Head.{Head}
use Rattle.rtsp_head.specs.declared.header.Header.{Header}
use Rattle.rtsp_head.specs.declared.fault.HeadFault.{HeadFault}
use Rattle.rtsp_head.specs.declared.item.Span.{Span}
use Rattle.rtsp_head.specs.declared.item.Extent.{Extent}
use Rattle.rtsp_head.specs.declared.item.ItemKind.{ItemKind}
use Rattle.rtsp_head.specs.declared.item.ItemKind.TheVariants.{Request, Response, Frame, Bad}
use Rattle.rtsp_head.specs.declared.item.TheConstants.{MOST_BODY, MOST_HEAD}
use Rattle.rtsp_head.proofs.SoundLemmas.{read_sound}
use Rattle.rtsp_uri.specs.declared.base.Bases.{Bases}
use Rattle.head_two.specs.declared.ask.Ask2.{Ask2}
use Rattle.head_two.specs.declared.fault.TwoFault.{TwoFault}
use Rattle.head_two.specs.declared.reply.Reply2.{Reply2}
use Rattle.head_two.specs.Replies.{reply_of_head, reply_of_item, ask_of_item}
use Rattle.session_one.specs.Table.{is_success}
use Rattle.translate_down.specs.Replies.{told_by}
use Rattle.client_slot.specs.declared.purpose.Purpose.{Purpose}
use Rattle.client_slot.specs.Session.{PlayerSession}
use Rattle.client_slot.specs.Places.{session_at, first_place, is_session, place_with}
use Rattle.client_slot.specs.Client.{Client}
use Rattle.client_slot.proofs.PlaceLemmas.{place_is}
use Rattle.client_machine.specs.Alone.{Private, is_live, private_after, hand}
use Rattle.client_machine.specs.Events.{PrivateEvent, arrive, end, slow, up_end}
use Rattle.client_machine.specs.Step.{new_id}
use Rattle.client_machine.specs.SeenRun.{request_taken, IsTableRun}
use Rattle.client_machine.proofs.SeenHearLemmas.{asked_by, IsReadableEvent, IsNew, IsFreshEvent}
use Rattle.client_machine.proofs.SeenSettleLemmas.{AreDistinct}
use Rattle.client_machine.proofs.SeenWalkLemmas.{IsLoad}
use Rattle.client_machine.proofs.SeenRunLemmas.{IsRun, seen_run, run_begins, run_more}
use Rattle.gateway_claim.specs.declared.event.UpCause.{UpCause}
use Rattle.gateway_claim.specs.Books.{Opened, Books}
use Rattle.gateway_claim.specs.BooksAndSlots.{kind_for, IsPurpose, opened_for, IsOpenFor, IsJoined}
use Rattle.gateway_claim.specs.ServerItems.{Heard, replies, frames, heard_reply, heard_ask, heard_at, heard}
use Rattle.gateway_claim.specs.Happenings.{Happening, enters, takes, ends, lags, hears, up_ends, HistoryEntry, fault_in, entered, sent}
use Rattle.gateway_claim.specs.OwnEvents.{is_turn, settled_by, heard_turn, books_of, heard_event, own_here, own}
use Rattle.gateway_claim.specs.Follows.{IsHistory, private_in, kind_breach, session_asked, session_of_private, reply_breach, heard_breach}
use Rattle.gateway_claim.specs.SeenRun.{request_here, requests_from, IsItemHeard, AreItemsHeard, IsSeenRun}
use Rattle.gateway_claim.proofs.AgreeLemmas.{joined, said_right, alone}
use Rattle.gateway_claim.proofs.AnswerLemmas.{IsSaid, said_for}
use Rattle.gateway_claim.proofs.NextLemmas.{sent_as_alone}
use Rattle.gateway_claim.proofs.CaseLemmas.{faults_over}

-- What a reply of the server tells has headers of a head that was read.
filtered : (test keep : Header → Bool) (headers : List Header) → list_all test headers ≡ true → list_all test (filter keep headers) ≡ true
filtered test keep [] all = refl
filtered test keep (header ∷ headers) all = let more = filtered test keep headers (and_parts (test header) (list_all test headers) all).1 in grind (arith, and_parts)

-- A span of what came: the body of a reply is not longer than that of an item may be, and a frame that is whole has its load.
abbrev IsFair : List ℕ → Option Span → Type 0
IsFair bytes span = IfSome span (λ one. (one.kind ≡ Response → one.len ≤ one.head + MOST_BODY) × (one.kind ≡ Frame → one.len ≡ length bytes → IsLoad (drop 2 bytes)))

judged_fair : (bytes : List ℕ) (come n : ℕ) (facts : Result Facts HeadFault) → IsFair bytes (judged_span come n facts)
judged_fair bytes come n facts = grind arith

headed_fair : (bytes stream : List ℕ) (len : Option ℕ) → IsFair bytes (headed_span stream len)
headed_fair bytes stream len = grind (arith, judged_fair)

span_fair : (bytes : List ℕ) → IsFair bytes (span_of bytes)
span_fair [] = tt
span_fair (b ∷ bytes) = by (b == dollar)
  where
    by : (t : Bool) → IsFair (b ∷ bytes) (cond t (frame_span (b ∷ bytes)) (message_span (b ∷ bytes)))
    by true = grind arith
    by false = headed_fair (b ∷ bytes) (b ∷ bytes) (head_len (take MOST_HEAD (b ∷ bytes)))

span_is : (bytes : List ℕ) (found : Option Span) (kind : ItemKind) (len head : ℕ) → span_of (drop (blank_lines bytes) bytes) ≡ found
    → option_map {U = Extent} (λ (one : Span). record { skipped = blank_lines bytes; span = one }) found ≡ Some (record { skipped = 0; span = record { kind = kind; len = len; head = head } })
    → span_of bytes ≡ Some (record { kind = kind; len = len; head = head })
span_is bytes found kind len head is e = grind arith

item_fair : (shape : Shape) → IsItemHeard (hears shape) → (shape.kind ≡ Response → length (drop shape.head shape.bytes) ≤ MOST_BODY) × (shape.kind ≡ Frame → IsLoad (drop 2 shape.bytes))
item_fair shape is =
    let fair : IsFair shape.bytes (Some (record { kind = shape.kind; len = length shape.bytes; head = shape.head })) =
    subst (IsFair shape.bytes) (span_is shape.bytes (span_of (drop (blank_lines shape.bytes) shape.bytes)) shape.kind (length shape.bytes) shape.head refl is) (span_fair shape.bytes) in
    (λ kind. grind (arith, fair.0 kind, length-drop), λ kind. fair.1 kind refl)

abbrev IsReadableReply : Reply2 → Type 0
IsReadableReply reply = (list_all is_header reply.head.headers ≡ true) × (length reply.body ≤ MOST_BODY)

read_head : (found : Result Head HeadFault) (body : List ℕ) → ((head : Head) → found ≡ Ok head → CanBeWritten head.start head.headers) → length body ≤ MOST_BODY → IfOk (reply_of_head found body) IsReadableReply
read_head found body can short = grind arith

-- what is heard of the server
abbrev IsReadableHeard : Heard → Type 0
IsReadableHeard (replies reply) = IsReadableReply reply
IsReadableHeard (frames channel rest) = IsLoad rest
IsReadableHeard one = Unit {0}

reply_readable : (found : Result Reply2 TwoFault) → IfOk found IsReadableReply → IsReadableHeard (heard_reply found)
reply_readable found all = grind arith

ask_readable : (found : Result Ask2 TwoFault) → IsReadableHeard (heard_ask found)
ask_readable found = grind arith

kind_readable : (kind : ItemKind) (shape : Shape) → shape.kind ≡ kind → IsItemHeard (hears shape) → IsReadableHeard (heard_at kind shape)
kind_readable Request shape is item = ask_readable (ask_of_item shape)
kind_readable Response shape is item =
    reply_readable (reply_of_item shape) (read_head (head_of (take shape.head shape.bytes)) (drop shape.head shape.bytes) (read_sound (take shape.head shape.bytes)) ((item_fair shape item).0 is))
kind_readable Frame shape is item = (item_fair shape item).1 is
kind_readable (Bad kind) shape is item = tt

-- an event that brings no request, and no session that is there
abbrev IsQuiet : Private → PrivateEvent → Type 0
IsQuiet p event = IsReadableEvent event × (asked_by event ≡ []) × (is_live p ≡ true → IsFreshEvent p.client event)

heard_quiet : (p : Private) (books settled : Books) (i : ℕ) (waiting : List Shape) (one : Heard) → IsReadableHeard one → ((reply : Reply2) → one ≡ replies reply → is_live p ≡ true → IsNew p.client.sessions p.client.pending (told_by reply))
    → IfSome (heard_event books settled i waiting one) (IsQuiet p)
heard_quiet p books settled i waiting one h1 h2 = grind (arith, filtered)

pub found_at : (place : ℕ) (id : List ℕ) (sessions : List PlayerSession) → place_with id sessions ≡ Some place → (session_at place sessions).id ≡ Some id
found_at place id sessions e = grind (arith, bytes_eq-Decides, (place_is (λ session. is_session id session.id) place sessions e).passes)

pub none_found : (id : List ℕ) (from : ℕ) (sessions : List PlayerSession) → first_place (λ session. is_session id session.id) from sessions ≡ None → (place : ℕ) → (session_at place sessions).id ≡ Some id → ⊥
none_found id from [] e place here = cc
none_found id from (one ∷ more) e place here = grind (arith, bytes_eq-Decides, none_found id (from + 1) more)

distinct : (books : Books) (i : ℕ) (client : Client) (count : ℕ) → IsJoined books i client count → AreDistinct client.sessions
distinct books i client count joined place id here = by (place_with id client.sessions) refl
  where
    by : (found : Option ℕ) → place_with id client.sessions ≡ found → found ≡ Some place
    by None e = absurd (none_found id 0 client.sessions e place here)
    by (Some at) e = ap (λ n. Some n) (joined.once at place id (found_at at id client.sessions e) here)

unheld : (books : Books) (i : ℕ) (client : Client) (count : ℕ) (id : List ℕ) → IsJoined books i client count → books.holder id ≡ None → place_with id client.sessions ≡ None
unheld books i client count id joined free = by (place_with id client.sessions) refl
  where
    by : (found : Option ℕ) → place_with id client.sessions ≡ found → found ≡ None
    by None e = refl
    by (Some at) e = let none : None ≡ Some i = sym free ∙ joined.holds at id (found_at at id client.sessions e) in cc

-- The session that a success makes is none that is there, where nothing is wrong with the reply.
new_free : (books : Books) (i count : ℕ) (client : Client) (purpose : Purpose) (reply : Reply2) → IsPurpose books i client.sessions purpose → IsSaid books i purpose client.sessions (is_success reply.code) reply → is_success reply.code ≡ true
    → (id : List ℕ) → new_id purpose (told_by reply) ≡ Some id → books.holder id ≡ None
new_free books i count client purpose reply is said success id new = grind arith

turn_is : (i : ℕ) (who : Option ℕ) → is_turn i who ≡ true → who ≡ Some i
turn_is i who e = grind arith

fresh_reply : (bases : Bases) (T : List HistoryEntry) (i : ℕ) (reply : Reply2) → IsJoined (books_of T) i (alone bases T i).client (alone bases T i).count → private_in bases i T ≡ Some (alone bases T i)
    → heard_turn (books_of T) (replies reply) ≡ Some i → heard_breach bases T (replies reply) ≡ None → IsNew (alone bases T i).client.sessions (alone bases T i).client.pending (told_by reply)
fresh_reply bases T i reply joins here turns right = by ((books_of T).opened reply.cseq) refl turns (alone bases T i).client.pending refl joins.pending
  where
    by : (opened : Option Opened) → (books_of T).opened reply.cseq ≡ opened → option_map (λ (one : Opened). one.conn) opened ≡ Some i → (pending : Option Purpose) → (alone bases T i).client.pending ≡ pending
        → IsOpenFor (books_of T) i ((books_of T).number_of i (alone bases T i).count) (alone bases T i).client.sessions pending → IsNew (alone bases T i).client.sessions pending (told_by reply)
    by opened is turn None none now = tt
    by None is turn (Some purpose) some now = cc
    by (Some opened) is turn (Some purpose) some now = λ success id new. unheld (books_of T) i (alone bases T i).client (alone bases T i).count id joins (new_free (books_of T) i (alone bases T i).count (alone bases T i).client purpose reply now.1 said success id new)
      where
        conn : opened.conn ≡ i
        conn = cc

        same : opened ≡ opened_for (books_of T) i (alone bases T i).client.sessions purpose
        same = let both : Some opened ≡ Some (opened_for (books_of T) i (alone bases T i).client.sessions purpose) = sym is ∙ ap (books_of T).opened (joins.last reply.cseq opened is conn).0 ∙ now.0 in cc

        wrong : kind_breach (books_of T) (kind_for ((books_of T).pair_of i) (alone bases T i).client.sessions purpose) (session_asked (alone bases T i).client.sessions (alone bases T i).client.pending) reply ≡ None
        wrong =
            ap (λ (one : Opened). kind_breach (books_of T) one.kind (session_asked (alone bases T i).client.sessions (alone bases T i).client.pending) reply) (sym same)
            ∙ ap (λ session. kind_breach (books_of T) opened.kind session reply) (sym (ap (λ n. session_of_private (private_in bases n T)) conn ∙ ap session_of_private here))
            ∙ ap (reply_breach bases T reply) (sym is) ∙ right

        said : IsSaid (books_of T) i purpose (alone bases T i).client.sessions (is_success reply.code) reply
        said = said_for (books_of T) i (alone bases T i).count (alone bases T i).client purpose reply joins some now.1 wrong

-- The connection to the server stands while a connection is live.
live_standing : (bases : Bases) (T : List HistoryEntry) (i : ℕ) → IsHistory bases T → entered i T ≡ true → is_live (alone bases T i) ≡ true → fault_in T ≡ None
live_standing bases T i history en live = grind (arith, alone, faults_over)

-- A run with the events of one entry more.
same_requests : (bases : Bases) (events : List PrivateEvent) (all : List Shape) → IsRun bases events all → IsRun bases events (all ++ [])
same_requests bases events all run = subst (IsRun bases events) (sym (append-nil all)) run

abbrev Extends : Bases → List PrivateEvent → List Shape → List PrivateEvent → List Shape → Type 0
Extends bases events all new extra = IsRun bases (new ++ events) (all ++ extra)

abbrev IsDistinct : Private → Type 0
IsDistinct p = is_live p ≡ true → AreDistinct p.client.sessions

quiet_more : (bases : Bases) (events : List PrivateEvent) (all : List Shape) (turns : Bool) (one : Option PrivateEvent) → IsDistinct (private_after bases events) → (turns ≡ true → IfSome one (IsQuiet (private_after bases events))) → IsRun bases events all
    → Extends bases events all (cond turns (option_to_list one) []) []
quiet_more bases events all false one apart quiet run = same_requests bases events all run
quiet_more bases events all true None apart quiet run = same_requests bases events all run
quiet_more bases events all true (Some event) apart quiet run =
    let is = quiet refl in
    run_more bases events all [] event is.0 (λ live. record { distinct = apart live; fresh = is.2 live }) (λ live. sym is.1) run

takes_more : (bases : Bases) (events : List PrivateEvent) (all : List Shape) (turns : Bool) (shape : Shape) (full : Bool) → IsDistinct (private_after bases events) → IsRun bases events all
    → Extends bases events all (cond turns (arrive shape full ∷ []) []) (cond turns (request_taken shape) [])
takes_more bases events all false shape full apart run = same_requests bases events all run
takes_more bases events all true shape full apart run = run_more bases events all (request_taken shape) (arrive shape full) tt (λ live. record { distinct = apart live; fresh = tt }) (λ live. refl) run

happening_more : (bases : Bases) (T : List HistoryEntry) (i : ℕ) (waiting all : List Shape) (happening : Happening) → IsDistinct (alone bases T i) → IsItemHeard happening
    → ((shape : Shape) (reply : Reply2) → happening ≡ hears shape → heard shape ≡ replies reply → heard_turn (books_of T) (heard shape) ≡ Some i → is_live (alone bases T i) ≡ true → IsNew (alone bases T i).client.sessions (alone bases T i).client.pending (told_by reply))
    → IsRun bases (own bases i T) all → Extends bases (own bases i T) all (own_here (books_of T) i waiting None happening) (request_here i happening)
happening_more bases T i waiting all (enters conn) apart item fresh run = quiet_more bases (own bases i T) all false None apart (λ turns. tt) run
happening_more bases T i waiting all (takes conn shape) apart item fresh run = takes_more bases (own bases i T) all (conn == i) shape _ apart run
happening_more bases T i waiting all (ends conn) apart item fresh run = quiet_more bases (own bases i T) all (conn == i) (Some end) apart (λ turns. (tt, refl, λ live. tt)) run
happening_more bases T i waiting all (lags conn) apart item fresh run = quiet_more bases (own bases i T) all (conn == i) (Some slow) apart (λ turns. (tt, refl, λ live. tt)) run
happening_more bases T i waiting all (hears shape) apart item fresh run =
    quiet_more bases (own bases i T) all (is_turn i (heard_turn (books_of T) (heard shape))) (heard_event (books_of T) (settled_by (books_of T) (hears shape)) i waiting (heard shape)) apart
    (λ turns. heard_quiet (alone bases T i) (books_of T) (settled_by (books_of T) (hears shape)) i waiting (heard shape) (kind_readable shape.kind shape refl item)
    (λ reply says live. fresh shape reply refl says (turn_is i (heard_turn (books_of T) (heard shape)) turns) live)) run
happening_more bases T i waiting all (up_ends cause) apart item fresh run = quiet_more bases (own bases i T) all false None apart (λ turns. tt) run

entry_more : (bases : Bases) (T : List HistoryEntry) (e : HistoryEntry) (i : ℕ) (all : List Shape) (fault : Option UpCause) → IsHistory bases (e ∷ T) → IsItemHeard e.happening → entered i T ≡ true → e.outcome.fault ≡ fault → IsRun bases (own bases i T) all
    → Extends bases (own bases i T) all (own_here (books_of T) i (alone bases T i).client.waiting fault e.happening) (request_here i e.happening)
entry_more bases T e i all (Some cause) history item en is run = run_more bases (own bases i T) all (request_here i e.happening) up_end tt (λ live. record { distinct = distinct_at live; fresh = tt }) (λ live. cc) run
  where
    distinct_at : IsDistinct (alone bases T i)
    distinct_at live = distinct (books_of T) i (alone bases T i).client (alone bases T i).count ((joined bases T history.0 (live_standing bases T i history.0 en live)).1 i)
entry_more bases T e i all None history item en is run = happening_more bases T i (alone bases T i).client.waiting all e.happening distinct_at item fresh run
  where
    joins : is_live (alone bases T i) ≡ true → IsJoined (books_of T) i (alone bases T i).client (alone bases T i).count
    joins live = (joined bases T history.0 (live_standing bases T i history.0 en live)).1 i

    distinct_at : IsDistinct (alone bases T i)
    distinct_at live = distinct (books_of T) i (alone bases T i).client (alone bases T i).count (joins live)

    fresh : (shape : Shape) (reply : Reply2) → e.happening ≡ hears shape → heard shape ≡ replies reply → heard_turn (books_of T) (heard shape) ≡ Some i → is_live (alone bases T i) ≡ true → IsNew (alone bases T i).client.sessions (alone bases T i).client.pending (told_by reply)
    fresh shape reply here says turns live = grind (arith, live_standing, fresh_reply, joins, alone, said_right)

own_run : (bases : Bases) (history : List HistoryEntry) (i : ℕ) → IsHistory bases history → AreItemsHeard history → IsRun bases (own bases i history) (requests_from i history)
own_run bases [] i is items = run_begins bases
own_run bases (entry ∷ earlier) i is items = grind (arith, run_begins, entry_more, same_requests, own_run bases earlier i is.0 items.1)

-- The replies that a player was handed answer the first of its requests, and walk the table.
pub history_seen : (bases : Bases) (history : List HistoryEntry) (i : ℕ) → IsHistory bases history → AreItemsHeard history → IsSeenRun i history
history_seen bases history i is items =
    let same : sent i history ≡ hand bases (own bases i history) = sent_as_alone bases history is i in
    subst (IsTableRun (requests_from i history)) (sym same) (seen_run bases (own bases i history) (requests_from i history) (own_run bases history i is items))
