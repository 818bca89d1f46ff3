-- What the server is handed for an entry, and in a whole history, is read as it was meant.
use Rattle.std.proofs.Common.{◌≡◌, ◌∙◌, ℕ, ◌+◌, ◌*◌, ◌<◌, ◌^◌, ◌==◌, nat_lt, Bool, true, false, cond, List, [], ◌∷◌, Option, Some, None, IfSome, Result, Ok, Err, refl, sym, ap, subst, unwrap_or, arith}
use Rattle.std.specs.Prelude.{codes, is_some}
use Rattle.std.specs.Option.{option_map, option_and_then, option_to_list}
use Rattle.std.specs.Str.{bytes_eq}
use Rattle.std.proofs.lemmas.Bool.{ltb-true}
use Rattle.rtsp_head.specs.declared.header.Header.{Header}
use Rattle.rtsp_head.specs.Headers.{field_of}
use Rattle.rtsp_head.specs.HeadParts.{Status}
use Rattle.rtsp_head.specs.HeadText.{is_start}
use Rattle.rtsp_head.specs.Items.{Shape}
use Rattle.rtsp_head.specs.declared.item.ItemKind.{ItemKind}
use Rattle.rtsp_head.specs.declared.item.ItemKind.TheVariants as items
use Rattle.rtsp_small.specs.Notices.{notify_reason_of}
use Rattle.rtsp_small.specs.Sessions.{SessionParts, session_of, is_session_id}
use Rattle.rtsp_small.specs.declared.cseq.TheConstants.{CSEQ_TWO_DIGITS}
use Rattle.rtsp_small.specs.declared.notify.NotifyReason.{NotifyReason}
use Rattle.rtsp_status.specs.Reasons.{reason_of}
use Rattle.rtsp_uri.specs.declared.base.Bases.{Bases}
use Rattle.head_two.specs.declared.ask.Ask2.{Ask2}
use Rattle.head_two.specs.declared.fault.TwoFault.{TwoFault}
use Rattle.head_two.specs.declared.reply.Reply2.{Reply2}
use Rattle.head_two.specs.Answers.{answer_session, answer_text}
use Rattle.head_two.specs.Messages.{version_two}
use Rattle.head_two.specs.Replies.{ask_of_item, reply_of_item}
use Rattle.head_two.specs.Requests.{request_text}
use Rattle.head_two.proofs.ReadLemmas.{ask_small}
use Rattle.channel_map.proofs.PairLemmas.{lowest_free_below}
use Rattle.translate_up.proofs.SoundLemmas.{session_value}
use Rattle.client_machine.specs.Alone.{Private}
use Rattle.client_machine.specs.Events.{Effect, Outgoing, asks, carries, PrivateEvent}
use Rattle.client_machine.specs.Frames.{frame_text}
use Rattle.client_machine.specs.UpTexts.{over_pair}
use Rattle.client_machine.proofs.SeenReplyLemmas.{id_told}
use Rattle.gateway_claim.specs.declared.event.ToUp.{ToUp}
use Rattle.gateway_claim.specs.declared.event.UpCause.{UpCause}
use Rattle.gateway_claim.specs.Books.{Books, free_in}
use Rattle.gateway_claim.specs.Follows.{said_breach, spent, effect_of_turn, effect, answer_due, heard_answer, message_up, message_due, up_due, Follows, IsHistory}
use Rattle.gateway_claim.specs.Happenings.{Happening, enters, takes, ends, lags, hears, up_ends, HistoryEntry, fault_in, entered, nothing_up}
use Rattle.gateway_claim.specs.OwnEvents.{turn, final_in, settled_by, books_of, event_of, own}
use Rattle.gateway_claim.specs.ServerItems.{Heard, replies, requests, frames, faults, heard, heard_at, heard_reply, heard_ask, HeardNotice, notice_of, answer_to, session_named, known_reason, said_reason, held_session, named_session}
use Rattle.gateway_claim.proofs.AgreeLemmas.{alone, joined, IsStep, IsTurnStep, step_is, turn_step, effect_absent, effect_present, said_right}
use Rattle.gateway_claim.proofs.CaseLemmas.{own_event, heard_event_as, both_none, not_over}
use Rattle.gateway_claim.proofs.FitLemmas.{alone_fit}
use Rattle.upward_law.specs.ServerStream.{reads_answer, AreRead}
use Rattle.upward_law.specs.Due.{message_bytes, bytes_up, stream_up, answer_meant, heard_due, answers_due, message_meant, messages_due, meant_next, meant_for, all_meant, IsItemTaken, AreItemsTaken}
use Rattle.upward_law.proofs.PlayLemmas.{alone_plays}
use Rattle.upward_law.proofs.ReadLemmas.{AreWritten, one_written, none_written, both_written, written_read, request_written, answer_written, frame_written}
use Rattle.upward_law.proofs.SoundLemmas.{IsLoad, IsSoundUp, IsPairAt, IsWhole, sound_where, step_sound}

-- The session of a notify has an id in the grammar, and a refusal has a code that can be told.
abbrev pub IsTold : Result HeardNotice ℕ → Type 0
IsTold (Ok notice) = is_session_id notice.id ≡ true
IsTold (Err code) = (is_start (Status version_two code (unwrap_or (reason_of code) [])) ≡ true) × ((code == 200) ≡ false)

known_told : (request : Ask2) (id : List ℕ) (conn : ℕ) (reason : Option NotifyReason) → is_session_id id ≡ true → IsTold (known_reason request id conn reason)
known_told request id conn None valid = (refl, refl)
known_told request id conn (Some reason) valid = valid

said_told : (request : Ask2) (id : List ℕ) (conn : ℕ) (value : Option (List ℕ)) → is_session_id id ≡ true → IsTold (said_reason request id conn value)
said_told request id conn None valid = (refl, refl)
said_told request id conn (Some value) valid = known_told request id conn (notify_reason_of value) valid

held_told : (request : Ask2) (id : List ℕ) (holder : Option ℕ) → is_session_id id ≡ true → IsTold (held_session request id holder)
held_told request id None valid = (refl, refl)
held_told request id (Some conn) valid = said_told request id conn (field_of request.head.headers (codes "Notify-Reason")) valid

named_told : (holder : List ℕ → Option ℕ) (request : Ask2) (id : Option (List ℕ)) → IfSome id (λ one. is_session_id one ≡ true) → IsTold (named_session holder request id)
named_told holder request None valid = (refl, refl)
named_told holder request (Some id) valid = held_told request id (holder id) valid

id_valid : (session : Option SessionParts) → IfSome session (λ one. is_session_id one.id ≡ true) → IfSome (option_map (λ (one : SessionParts). one.id) session) (λ id. is_session_id id ≡ true)
id_valid None valid = tt
id_valid (Some one) valid = valid

pub notice_told : (holder : List ℕ → Option ℕ) (request : Ask2) → IsTold (notice_of holder request)
notice_told holder request = by (bytes_eq request.method (codes "PLAY_NOTIFY"))
  where
    valid : IfSome (session_named request) (λ id. is_session_id id ≡ true)
    valid = id_valid (option_and_then session_of (field_of request.head.headers (codes "Session"))) (id_told (record { code = 0; fields = request.head.headers; body = [] }))

    by : (is : Bool) → IsTold (cond is (named_session holder request (session_named request)) (Err 501))
    by true = named_told holder request (session_named request) valid
    by false = (refl, refl)

-- An answer is written as it is meant.
refused : (success : Bool) → success ≡ false → cond success (answer_session None) [] ≡ []
refused true e = refl
refused false e = refl

answer_so : (request : Ask2) (notice : Result HeardNotice ℕ) → request.cseq < 10 ^ CSEQ_TWO_DIGITS → IsTold notice → AreWritten (answer_to request notice) (reads_answer (answer_meant request notice) ∷ [])
answer_so request (Ok notice) short valid = one_written (answer_text 200 request.cseq (Some notice.id)) _ (answer_written 200 request.cseq (Some notice.id) refl short (session_value (Some notice.id) valid))
answer_so request (Err code) short told =
    subst (λ (fields : List Header). AreWritten (answer_text code request.cseq None) (reads_answer (record { code = code; cseq = request.cseq; fields = fields }) ∷ [])) (refused (code == 200) told.1)
    (one_written (answer_text code request.cseq None) _ (answer_written code request.cseq None told.0 short tt))

-- a request of the server has a number that can be written
asked_small : (shape : Shape) (found : Result Ask2 TwoFault) (request : Ask2) → ask_of_item shape ≡ found → heard_ask found ≡ requests request → request.cseq < 10 ^ CSEQ_TWO_DIGITS
asked_small shape (Ok one) request is e = let same : one ≡ request = cc in subst (λ (ask : Ask2). ask.cseq < 10 ^ CSEQ_TWO_DIGITS) same (ask_small shape one is)
asked_small shape (Err fault) request is e = cc

replied_none : (found : Result Reply2 TwoFault) (request : Ask2) → heard_reply found ≡ requests request → ⊥
replied_none (Ok reply) request e = cc
replied_none (Err fault) request e = cc

pub heard_small : (shape : Shape) (kind : ItemKind) (request : Ask2) → heard_at kind shape ≡ requests request → request.cseq < 10 ^ CSEQ_TWO_DIGITS
heard_small shape items.Request request e = asked_small shape (ask_of_item shape) request refl e
heard_small shape items.Response request e = absurd (replied_none (reply_of_item shape) request e)
heard_small shape items.Frame request e = cc
heard_small shape (items.Bad kind) request e = cc

heard_so : (books : Books) (said : Heard) → ((request : Ask2) → said ≡ requests request → request.cseq < 10 ^ CSEQ_TWO_DIGITS) → AreWritten (unwrap_or (heard_answer books said) []) (heard_due books said)
heard_so books (replies reply) small = none_written
heard_so books (requests request) small = answer_so request (notice_of books.holder request) (small request refl) (notice_told books.holder request)
heard_so books (frames channel rest) small = none_written
heard_so books (faults fault) small = none_written

answers_so : (books : Books) (h : Happening) → AreWritten (unwrap_or (answer_due books h) []) (answers_due books h)
answers_so books (enters conn) = none_written
answers_so books (takes conn shape) = none_written
answers_so books (ends conn) = none_written
answers_so books (lags conn) = none_written
answers_so books (hears shape) = heard_so books (heard shape) (heard_small shape shape.kind)
answers_so books (up_ends cause) = none_written

-- So is a message, where a number is left.
pub asked_so : (whole : Type 0) (books settled : Books) (i : ℕ) (message : Option Outgoing) → whole → spent books.issued message ≡ None → IsSoundUp whole (free_in settled) message
    → AreWritten (message_bytes (option_map (message_up books settled i) message)) (option_to_list (option_map (message_meant books settled i) message))
asked_so whole books settled i None is left sound = none_written
asked_so whole books settled i (Some (asks request named)) is left sound =
    one_written (request_text (books.issued + 1) (over_pair named (free_in settled) request)) _ (request_written (books.issued + 1) (over_pair named (free_in settled) request) (sound (books.issued + 1) short))
  where
    short : books.issued + 1 < 10 ^ CSEQ_TWO_DIGITS
    short = grind (arith, nat_lt, ltb-true)
asked_so whole books settled i (Some (carries pair half rest)) is left sound =
    let load : IsLoad rest = sound is in
    subst (λ (l : List ℕ). AreWritten (frame_text (2 * books.pair_of i pair + half) l) (message_meant books settled i (carries pair half l) ∷ [])) (sym load.spelled)
    (one_written (frame_text (2 * books.pair_of i pair + half) (load.high ∷ load.low ∷ load.load)) _ (frame_written (2 * books.pair_of i pair + half) load.high load.low load.load load.counted))

messages_so : (whole : Type 0) (books settled : Books) (who : Option ℕ) (message : Option Outgoing) → whole → spent books.issued message ≡ None → IsSoundUp whole (free_in settled) message
    → AreWritten (message_bytes (message_due books settled who message)) (messages_due books settled who message)
messages_so whole books settled None message is left sound = none_written
messages_so whole books settled (Some i) message is left sound = asked_so whole books settled i message is left sound

-- The event of a connection is one item, where that of the history is.
event_whole : (books : Books) (i : ℕ) (waiting : List Shape) (h : Happening) → IsItemTaken h → IfSome (event_of books i waiting h) IsWhole
event_whole books i waiting (enters conn) taken = tt
event_whole books i waiting (takes conn shape) taken = taken
event_whole books i waiting (ends conn) taken = tt
event_whole books i waiting (lags conn) taken = tt
event_whole books i waiting (hears shape) taken =
    heard_event_as (λ event. IfSome event IsWhole) books (settled_by books (hears shape)) i waiting (heard shape) tt (λ reply is. tt) (λ id reason names. tt) (λ pair half rest. tt)
event_whole books i waiting (up_ends cause) taken = tt

pair_at : (free : Option ℕ) (books : Books) → free_in books ≡ free → IsPairAt free
pair_at None books is = tt
pair_at (Some p) books is = lowest_free_below _ p is

-- What goes up at the turn of a connection can be written.
pub turn_sound : (bases : Bases) (T : List HistoryEntry) (h : Happening) (i : ℕ) → IsHistory bases T → fault_in T ≡ None → turn (books_of T) h ≡ Some i → said_breach bases T h ≡ None
    → IsSoundUp (IsItemTaken h) (free_in (settled_by (books_of T) h)) (effect_of_turn bases T (Some i) h).message
turn_sound bases T h i history standing turns said = by (entered i T) (own_event bases T i h) refl refl
  where
    free : Option ℕ
    free = free_in (settled_by (books_of T) h)

    silent : (message : Option Outgoing) → message ≡ None → IsSoundUp (IsItemTaken h) free message
    silent message e = subst (IsSoundUp (IsItemTaken h) free) (sym e) tt

    by : (en : Bool) (event : Option PrivateEvent) → entered i T ≡ en → own_event bases T i h ≡ event → IsSoundUp (IsItemTaken h) free (effect_of_turn bases T (Some i) h).message
    by false event en is = silent (effect_of_turn bases T (Some i) h).message (effect_absent bases T h i en)
    by true None en is = silent (effect_of_turn bases T (Some i) h).message (ap (λ (done : Effect). done.message) (effect_present bases T h i None en is))
    by true (Some event) en is =
        let p : Private = alone bases T i in
        let made : IsStep bases (books_of T) (final_in (books_of T) h) i p event =
        subst (λ (one : Option PrivateEvent). IsTurnStep bases (books_of T) i p one (final_in (books_of T) h)) is (turn_step bases T i h ((joined bases T history standing).1 i) en turns said) in
        subst (λ (done : Effect). IsSoundUp (IsItemTaken h) free done.message) (sym (effect_present bases T h i (Some event) en is ∙ step_is bases (books_of T) (final_in (books_of T) h) i p event (not_over bases T standing i) made))
        (sound_where (IsItemTaken h) (IsWhole event) free _ (λ taken. subst (λ (one : Option PrivateEvent). IfSome one IsWhole) is (event_whole (books_of T) i p.client.waiting h taken))
        (step_sound bases p.count free (p.count + 1) p.client event (alone_fit bases (own bases i T)) (alone_plays bases (own bases i T)) (pair_at free (settled_by (books_of T) h) refl)))

pub who_sound : (bases : Bases) (T : List HistoryEntry) (h : Happening) (who : Option ℕ) → IsHistory bases T → fault_in T ≡ None → turn (books_of T) h ≡ who → said_breach bases T h ≡ None
    → IsSoundUp (IsItemTaken h) (free_in (settled_by (books_of T) h)) (effect_of_turn bases T who h).message
who_sound bases T h None history standing turns said = tt
who_sound bases T h (Some i) history standing turns said = turn_sound bases T h i history standing turns said

-- So it is of an entry
pub left_for : (bases : Bases) (T : List HistoryEntry) (e : HistoryEntry) → Follows bases T e → fault_in (e ∷ T) ≡ None → spent (books_of T).issued (effect bases T e.happening).message ≡ None
left_for bases T e follows standing = grind arith

entry_so : (bases : Bases) (T : List HistoryEntry) (e : HistoryEntry) (fault : Option UpCause) → IsHistory bases T → Follows bases T e → IsItemTaken e.happening → fault_in (e ∷ T) ≡ fault
    → AreWritten (bytes_up (cond (is_some fault) nothing_up (up_due bases T e.happening))) (cond (is_some fault) [] (meant_next bases T e.happening))
entry_so bases T e (Some cause) history follows taken is = none_written
entry_so bases T e None history follows taken is =
    let books = books_of T in
    let settled = settled_by books e.happening in
    let who = turn books e.happening in
    let message = (effect bases T e.happening).message in
    both_written (unwrap_or (answer_due books e.happening) []) (message_bytes (message_due books settled who message)) (answers_due books e.happening) (messages_due books settled who message) (answers_so books e.happening)
    (messages_so (IsItemTaken e.happening) books settled who message taken (left_for bases T e follows is) (who_sound bases T e.happening who history (both_none (fault_in T) e.outcome.fault is).0 refl (said_right bases T e follows is)))

entry_written : (bases : Bases) (T : List HistoryEntry) (e : HistoryEntry) → IsHistory bases T → Follows bases T e → IsItemTaken e.happening → AreWritten (bytes_up e.outcome.to_up) (meant_for bases T e)
entry_written bases T e history follows taken =
    subst (λ (up : ToUp). AreWritten (bytes_up up) (meant_for bases T e)) (sym follows.spelled) (entry_so bases T e (fault_in (e ∷ T)) history follows taken refl)

pub entry_read : (bases : Bases) (T : List HistoryEntry) (e : HistoryEntry) → IsHistory bases T → Follows bases T e → IsItemTaken e.happening → AreRead (bytes_up e.outcome.to_up) (meant_for bases T e)
entry_read bases T e history follows taken = written_read (bytes_up e.outcome.to_up) (meant_for bases T e) (entry_written bases T e history follows taken)

-- and of a whole history
history_written : (bases : Bases) (T : List HistoryEntry) → IsHistory bases T → AreItemsTaken T → AreWritten (stream_up T) (all_meant bases T)
history_written bases [] history taken = none_written
history_written bases (e ∷ T) history taken =
    both_written (stream_up T) (bytes_up e.outcome.to_up) (all_meant bases T) (meant_for bases T e) (history_written bases T history.0 taken.1) (entry_written bases T e history.0 history.1 taken.0)

pub history_read : (bases : Bases) (T : List HistoryEntry) → IsHistory bases T → AreItemsTaken T → AreRead (stream_up T) (all_meant bases T)
history_read bases T history taken = written_read (stream_up T) (all_meant bases T) (history_written bases T history taken)
