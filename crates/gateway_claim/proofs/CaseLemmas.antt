-- The event that an entry is to a connection: by its mark, by what it is, and once the connection to the server has ended.
use Rattle.std.proofs.Common.{◌≡◌, ◌∙◌, ℕ, ◌&&◌, ◌||◌, Bool, false, List, [], ◌∷◌, ◌++◌, Option, Some, refl, arith, true, cond, None, sym, ap, ◌+◌, Result, ◌⊎◌, inl, inr}
use Rattle.std.specs.Prelude.{is_none, is_some}
use Rattle.std.specs.Option.{option_map, option_or, option_to_list}
use Rattle.rtsp_head.specs.Items.{Shape}
use Rattle.rtsp_uri.specs.declared.base.Bases.{Bases}
use Rattle.translate_up.specs.Setups.{is_setup_item}
use Rattle.client_slot.specs.Client.{Client}
use Rattle.client_machine.specs.Alone.{pair_alone, private_after, Private, is_up_end, effect_alone}
use Rattle.client_machine.specs.Events.{PrivateEvent, arrive, answer, up_end, note, media}
use Rattle.client_machine.specs.OpenRequests.{has_setup}
use Rattle.client_machine.specs.Step.{step}
use Rattle.client_machine.proofs.FullLemmas.{step_unmarked}
use Rattle.client_machine.proofs.KeepLemmas.{IsOver}
use Rattle.gateway_claim.specs.declared.event.UpCause.{UpCause}
use Rattle.gateway_claim.specs.Happenings.{Happening, HistoryEntry, fault_in, entered, hears}
use Rattle.gateway_claim.specs.OwnEvents.{turn, is_turn, books_of, event_of, own, heard_event, is_full, heard_turn, heard_final, final_in, settled_by, notice_event, event_by, own_here}
use Rattle.gateway_claim.specs.Follows.{said_breach, spent, effect, breach, Follows, IsHistory, reply_breach}
use Rattle.client_machine.specs.UpTexts.{source_said}
use Rattle.gateway_claim.specs.Books.{Books, Opened, Final, final_of, settles, free_in}
use Rattle.gateway_claim.specs.ServerItems.{Heard, replies, requests, frames, faults, heard, HeardNotice, notice_of}
use Rattle.rtsp_small.specs.declared.notify.NotifyReason.{NotifyReason}
use Rattle.session_two.specs.declared.names.Names.{Names}
use Rattle.head_two.specs.declared.reply.Reply2.{Reply2}
use Rattle.translate_down.specs.Replies.{told_by}
use Rattle.client_machine.proofs.HoldLemmas.{IsNoAnswer}

-- the pair that a connection alone would have, where one is free
abbrev pub pair_where : Option ℕ → ℕ → Option ℕ
pair_where free number = option_map (λ p. number) free

either_false : (t first later : Bool) → (first ≡ false → later ≡ false) → (t || first) ≡ false → (t || later) ≡ false
either_false t first later h e = grind arith

none_without : (shapes : List Shape) (shape : Shape) → has_setup (shapes ++ shape ∷ []) ≡ false → has_setup shapes ≡ false
none_without [] shape none = refl
none_without (first ∷ more) shape none = either_false (is_setup_item first) (has_setup (more ++ shape ∷ [])) (has_setup more) (none_without more shape) none

-- The mark of an event as a history has it.
abbrev pub IsMarked : Option ℕ → List Shape → PrivateEvent → Type 0
IsMarked free waiting (arrive shape full) = full ≡ (is_none free && has_setup (waiting ++ shape ∷ []))
IsMarked free waiting (answer told ssrc full) = full ≡ (is_none free && has_setup waiting)
IsMarked free waiting event = Unit {0}

pub step_marked : (bases : Bases) (count next : ℕ) (free : Option ℕ) (client : Client) (event : PrivateEvent) → IsMarked free client.waiting event
    → step bases count (pair_alone event next) client event ≡ step bases count (pair_where free next) client event
step_marked bases count next free client event mark = grind (arith, step_unmarked, none_without)

-- what happens to connection i at an entry without a fault
abbrev pub own_event : Bases → List HistoryEntry → ℕ → Happening → Option PrivateEvent
own_event bases T i h = event_of (books_of T) i (private_after bases (own bases i T)).client.waiting h

-- What the server says is no event, or a reply, a notify or a frame.
pub heard_event_as : (P : Option PrivateEvent → Type 0) (books settled : Books) (i : ℕ) (waiting : List Shape) (said : Heard) → P None
    → ((reply : Reply2) → said ≡ replies reply → P (Some (answer (told_by reply) (source_said reply) (is_full settled waiting)))) → ((id : List ℕ) (reason : NotifyReason) (names : Names) → P (Some (note id reason names)))
    → ((pair half : ℕ) (rest : List ℕ) → P (Some (media pair half rest))) → P (heard_event books settled i waiting said)
heard_event_as P books settled i waiting said none answers notes frame = grind arith

pub own_quiet : (bases : Bases) (T : List HistoryEntry) (e : HistoryEntry) (i : ℕ) → e.outcome.fault ≡ None →
    own bases i (e ∷ T) ≡ option_to_list (cond (entered i T) (cond (is_turn i (turn (books_of T) e.happening)) (own_event bases T i e.happening) None) None) ++ own bases i T
own_quiet bases T e i quiet = grind arith

-- at an entry with one
pub own_ended : (bases : Bases) (T : List HistoryEntry) (e : HistoryEntry) (i : ℕ) (cause : UpCause) → e.outcome.fault ≡ Some cause → own bases i (e ∷ T) ≡ cond (entered i T) (up_end ∷ []) [] ++ own bases i T
own_ended bases T e i cause now = grind arith

-- after that end there is no other one
pub quiet_after : (bases : Bases) (T : List HistoryEntry) (h : Happening) (cause : UpCause) → fault_in T ≡ Some cause → breach bases T h ≡ None
quiet_after bases T h cause before = ap (λ (was : Option UpCause). cond (is_some was) None (option_or (said_breach bases T h) (spent (books_of T).issued (effect bases T h).message))) before

-- while it stands, what is wrong ends it
pub breach_standing : (bases : Bases) (T : List HistoryEntry) (h : Happening) → fault_in T ≡ None → breach bases T h ≡ option_or (said_breach bases T h) (spent (books_of T).issued (effect bases T h).message)
breach_standing bases T h standing = ap (λ (was : Option UpCause). cond (is_some was) None (option_or (said_breach bases T h) (spent (books_of T).issued (effect bases T h).message))) standing

ended_by : (bases : Bases) (T : List HistoryEntry) (e : HistoryEntry) (i : ℕ) (cause : UpCause) (before : Option UpCause) → Follows bases T e → fault_in (e ∷ T) ≡ Some cause → fault_in T ≡ before →
    ((earlier : UpCause) → fault_in T ≡ Some earlier → entered i T ≡ true → IsOver bases (own bases i T)) → entered i (e ∷ T) ≡ true → IsOver bases (own bases i (e ∷ T))
ended_by bases T e i cause (Some earlier) f ended b over en = grind (arith, (over earlier b))
ended_by bases T e i cause None f ended b over en = grind (arith, (sym (ap (λ was. option_or was e.outcome.fault) b) ∙ ended))

-- In a history that ended, every connection that took part is over.
pub faults_over : (bases : Bases) (T : List HistoryEntry) → IsHistory bases T → (cause : UpCause) → fault_in T ≡ Some cause → (i : ℕ) → entered i T ≡ true → IsOver bases (own bases i T)
faults_over bases [] h cause ended i en = cc
faults_over bases (e ∷ T) h cause ended i en = ended_by bases T e i cause (fault_in T) h.1 ended refl (λ earlier b here. faults_over bases T h.0 earlier b i here) en

-- no event, and no final reply
abbrev pub IsIdle : Option PrivateEvent → Option Final → Type 0
IsIdle event final = (event ≡ None) × (final ≡ None)

-- an event that is no reply
abbrev pub IsPlainCase : Option ℕ → List Shape → Option PrivateEvent → Option Final → Type 0
IsPlainCase free waiting event final = (one : PrivateEvent) × (event ≡ Some one) × IsNoAnswer one × (is_up_end one ≡ false) × (final ≡ None) × IsMarked free waiting one

-- a reply to an open request of the connection
abbrev pub IsReplyCase : Books → Option ℕ → ℕ → List Shape → Option PrivateEvent → Option Final → Happening → Type 0
IsReplyCase books free i waiting event final happening =
    (reply : Reply2) × (opened : Opened) × (full : Bool) × (books.opened reply.cseq ≡ Some opened) × (opened.conn ≡ i) × (event ≡ Some (answer (told_by reply) (source_said reply) full))
    × (final ≡ final_of reply (Some opened)) × IsMarked free waiting (answer (told_by reply) (source_said reply) full)
    × ((bases : Bases) (earlier : List HistoryEntry) → books_of earlier ≡ books → said_breach bases earlier happening ≡ reply_breach bases earlier reply (Some opened))

abbrev pub IsCase : Books → ℕ → List Shape → Option PrivateEvent → Option Final → Happening → Option ℕ → Type 0
IsCase books i waiting event final happening free = IsIdle event final ⊎ (IsPlainCase free waiting event final ⊎ IsReplyCase books free i waiting event final happening)

plain_case : (books : Books) (i : ℕ) (waiting : List Shape) (one : PrivateEvent) (happening : Happening) (free : Option ℕ) → IsNoAnswer one → is_up_end one ≡ false → IsMarked free waiting one → IsCase books i waiting (Some one) None happening free
plain_case books i waiting one happening free plain up mark = inr (inl (one, refl, plain, up, refl, mark))

notice_case : (books : Books) (i : ℕ) (waiting : List Shape) (notice : Result HeardNotice ℕ) (happening : Happening) (free : Option ℕ) → IsCase books i waiting (notice_event books i notice) None happening free
notice_case books i waiting notice happening free = grind arith

heard_case : (books : Books) (i : ℕ) (waiting : List Shape) (shape : Shape) (said : Heard) → heard shape ≡ said → heard_turn books said ≡ Some i
    → IsCase books i waiting (heard_event books (settles (heard_final books said) books) i waiting said) (heard_final books said) (hears shape) (free_in (settles (heard_final books said) books))
heard_case books i waiting shape (replies reply) says turns = grind arith
heard_case books i waiting shape (requests request) says turns = notice_case books i waiting (notice_of books.holder request) (hears shape) (free_in (settles None books))
heard_case books i waiting shape (frames channel rest) says turns = plain_case books i waiting _ (hears shape) (free_in (settles None books)) tt refl tt
heard_case books i waiting shape (faults fault) says turns = cc

pub turn_case : (books : Books) (i : ℕ) (waiting : List Shape) (happening : Happening) → turn books happening ≡ Some i
    → IsCase books i waiting (event_of books i waiting happening) (final_in books happening) happening (free_in (settled_by books happening))
turn_case books i waiting happening turns = grind (arith, plain_case, heard_case)

-- What is nobody's turn settles nothing.
pub nobody_settles : (books : Books) (happening : Happening) → turn books happening ≡ None → final_in books happening ≡ None
nobody_settles books happening turns = grind arith

-- None of these events is the end of the server's connection.
abbrev IsNotEnd : Option PrivateEvent → Type 0
IsNotEnd None = Unit {0}
IsNotEnd (Some event) = is_up_end event ≡ false

not_end : (books settled : Books) (i : ℕ) (waiting : List Shape) (happening : Happening) → IsNotEnd (event_by books settled i waiting happening)
not_end books settled i waiting happening = grind arith

one_not_over : (bases : Bases) (event : Option PrivateEvent) (events : List PrivateEvent) → IsNotEnd event → (private_after bases events).over ≡ false → (private_after bases (option_to_list event ++ events)).over ≡ false
one_not_over bases event events h3 over = grind arith

pub both_none : (a b : Option UpCause) → option_or a b ≡ None → (a ≡ None) × (b ≡ None)
both_none a b e = grind arith

pub not_over : (bases : Bases) (T : List HistoryEntry) → fault_in T ≡ None → (i : ℕ) → (private_after bases (own bases i T)).over ≡ false
not_over bases [] standing i = refl
not_over bases (e ∷ T) standing i =
    let quiet = both_none (fault_in T) e.outcome.fault standing in
    ap (λ (events : List PrivateEvent). (private_after bases events).over) (own_quiet bases T e i quiet.1)
    ∙ one_not_over bases (cond (entered i T) (cond (is_turn i (turn (books_of T) e.happening)) (own_event bases T i e.happening) None) None) (own bases i T)
    (grind (arith, (not_end (books_of T) (settled_by (books_of T) e.happening) i (private_after bases (own bases i T)).client.waiting e.happening)))
    (not_over bases T quiet.0 i)

-- Before it entered a connection has no events.
pub own_absent : (bases : Bases) (T : List HistoryEntry) (i : ℕ) → entered i T ≡ false → own bases i T ≡ []
own_absent bases [] i absent = refl
own_absent bases (e ∷ T) i absent =
    let before : entered i T ≡ false = grind arith in
    ap (λ en. cond en (own_here (books_of T) i (private_after bases (own bases i T)).client.waiting e.outcome.fault e.happening) [] ++ own bases i T) before ∙ own_absent bases T i before

-- While the server's connection stands, a connection alone makes a step.
pub alone_steps : (bases : Bases) (p : Private) (event : PrivateEvent) → p.over ≡ false → is_up_end event ≡ false → effect_alone bases p event ≡ step bases p.count (pair_alone event (p.count + 1)) p.client event
alone_steps bases p event over h4 = grind arith
