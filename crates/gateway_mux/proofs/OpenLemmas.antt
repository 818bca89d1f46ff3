-- An event that is no final reply keeps what is open, and the ids of sessions; and a final reply changes how many places are
-- empty by what it binds and ends.
use Rattle.std.proofs.Common.{◌≡◌, ℕ, nat_lt, Bool, true, false, cond, List, Option, Some, None, Result, Ok, Err, refl, sym, ap, subst, arith}
use Rattle.std.specs.Option.{option_map}
use Rattle.rtsp_small.specs.Sessions.{SessionParts}
use Rattle.rtsp_uri.specs.declared.base.Bases.{Bases}
use Rattle.head_two.specs.declared.reply.Reply2.{Reply2}
use Rattle.session_one.specs.Table.{is_success}
use Rattle.translate_down.specs.Replies.{Told, told_by}
use Rattle.client_slot.specs.declared.purpose.Purpose.{Purpose}
use Rattle.client_slot.specs.Session.{PlayerSession}
use Rattle.client_slot.specs.Changes.{settle_with}
use Rattle.client_slot.specs.Client.{Client}
use Rattle.client_machine.specs.Events.{PrivateEvent, arrive, answer, note, end, slow}
use Rattle.client_machine.specs.Step.{idles, new_id, settle_at, hear}
use Rattle.client_machine.specs.UpTexts.{source_said}
use Rattle.client_machine.proofs.HoldLemmas.{IsHeldStill, IsNoAnswer, all_same, hear_still}
use Rattle.gateway_claim.specs.Books.{RequestKind, Opened, Books, Final, final_of, id_said, torn_by}
use Rattle.gateway_claim.specs.ServerItems.{Heard, replies, requests, frames, faults, heard, HeardNotice, notice_of}
use Rattle.gateway_claim.specs.Happenings.{Happening, enters, takes, ends, lags, hears, up_ends}
use Rattle.gateway_claim.specs.OwnEvents.{heard_turn, turn, heard_final, final_in}
use Rattle.gateway_claim.specs.Follows.{session_asked}
use Rattle.gateway_claim.specs.Turns.{kind_pending, notice_raw, heard_raw, raw_event}
use Rattle.gateway_claim.proofs.AnswerLemmas.{told_session}
use Rattle.gateway_mux.specs.Room.{empty_places}
use Rattle.gateway_mux.specs.Settlements.{bound_new}
use Rattle.gateway_mux.proofs.EmptyLemmas.{same_empty, bound_for, Evens, none_bound, IsSetFor, id_told, settled_evens}

the_same : (a b : PrivateEvent) → Some a ≡ Some b → a ≡ b
the_same a b e = cc

plain_still : (bases : Bases) (number : ℕ) (client : Client) (event raw : PrivateEvent) → IsNoAnswer event → Some event ≡ Some raw → IsHeldStill client (hear bases number client raw).effect.client
plain_still bases number client event raw plain is =
    subst (λ (one : PrivateEvent). IsHeldStill client (hear bases number client one).effect.client) (the_same event raw is) (hear_still bases number client event plain)

early : (reply : Reply2) (opened : Option Opened) (i : ℕ) → option_map (λ (one : Opened). one.conn) opened ≡ Some i → final_of reply opened ≡ None → nat_lt reply.code 200 ≡ true
early reply None i turns none = cc
early reply (Some opened) i turns none = by (record { number = reply.cseq; conn = opened.conn; kind = opened.kind; success = is_success reply.code; id = id_said reply }) (nat_lt reply.code 200) none
  where
    by : (final : Final) (t : Bool) → cond t None (Some final) ≡ None → t ≡ true
    by final true e = refl
    by final false e = cc

reply_still : (bases : Bases) (number : ℕ) (client : Client) (reply : Reply2) (raw : PrivateEvent) → nat_lt reply.code 200 ≡ true → Some (answer (told_by reply) (source_said reply) false) ≡ Some raw
    → IsHeldStill client (hear bases number client raw).effect.client
reply_still bases number client reply raw low is =
    subst (λ (one : PrivateEvent). IsHeldStill client (hear bases number client one).effect.client) (the_same (answer (told_by reply) (source_said reply) false) raw is)
    (subst (λ (t : Bool). IsHeldStill client (cond t (idles client) (settle_at bases number client.pending (told_by reply) (source_said reply) client)).effect.client) (sym low)
    (record { sessions = all_same client.sessions; pending = refl }))

notice_still : (bases : Bases) (number : ℕ) (client : Client) (notice : Result HeardNotice ℕ) (raw : PrivateEvent) → notice_raw notice ≡ Some raw → IsHeldStill client (hear bases number client raw).effect.client
notice_still bases number client (Ok notice) raw is = plain_still bases number client (note notice.id notice.reason notice.names) raw tt is
notice_still bases number client (Err code) raw is = cc

heard_still : (bases : Bases) (books : Books) (number i : ℕ) (client : Client) (said : Heard) (raw : PrivateEvent) → heard_turn books said ≡ Some i → heard_raw books said ≡ Some raw → heard_final books said ≡ None
    → IsHeldStill client (hear bases number client raw).effect.client
heard_still bases books number i client (replies reply) raw turns is none = reply_still bases number client reply raw (early reply (books.opened reply.cseq) i turns none) is
heard_still bases books number i client (requests request) raw turns is none = notice_still bases number client (notice_of books.holder request) raw is
heard_still bases books number i client (frames channel rest) raw turns is none = plain_still bases number client _ raw tt is
heard_still bases books number i client (faults fault) raw turns is none = cc

pub hearing_still : (bases : Bases) (books : Books) (number i : ℕ) (client : Client) (h : Happening) (raw : PrivateEvent) → turn books h ≡ Some i → raw_event books h ≡ Some raw → final_in books h ≡ None
    → IsHeldStill client (hear bases number client raw).effect.client
hearing_still bases books number i client (enters conn) raw turns is none = cc
hearing_still bases books number i client (takes conn shape) raw turns is none = plain_still bases number client (arrive shape false) raw tt is
hearing_still bases books number i client (ends conn) raw turns is none = plain_still bases number client end raw tt is
hearing_still bases books number i client (lags conn) raw turns is none = plain_still bases number client slow raw tt is
hearing_still bases books number i client (hears shape) raw turns is none = heard_still bases books number i client (heard shape) raw turns is none
hearing_still bases books number i client (up_ends cause) raw turns is none = cc

pub hearing_keeps : (bases : Bases) (books : Books) (number i : ℕ) (client : Client) (h : Happening) (raw : PrivateEvent) → turn books h ≡ Some i → raw_event books h ≡ Some raw → final_in books h ≡ None
    → (hear bases number client raw).effect.client.pending ≡ client.pending
hearing_keeps bases books number i client h raw turns is none = (hearing_still bases books number i client h raw turns is none).pending

-- what an event binds, and what ends with it
abbrev pub bound_in : Client → Option Final → Option (List ℕ)
bound_in client None = None
bound_in client (Some final) = bound_new final (session_asked client.sessions client.pending)

abbrev pub torn_in : Option Final → Option (List ℕ)
torn_in None = None
torn_in (Some final) = torn_by final.kind final.success

-- what is open is a SETUP for a session that is there, or for an empty place, or no SETUP
abbrev pub IsSetOpen : List PlayerSession → Option Purpose → Type 0
IsSetOpen sessions None = Unit {0}
IsSetOpen sessions (Some purpose) = IsSetFor sessions purpose

-- The books have the kind of what is open.
abbrev pub IsKindOpen : Books → ℕ → Client → Type 0
IsKindOpen books i client = (number : ℕ) (opened : Opened) → books.opened number ≡ Some opened → opened.conn ≡ i → opened.kind ≡ kind_pending client.sessions client.pending

-- A final reply.
settling_evens : (bases : Bases) (number : ℕ) (told : Told) (ssrc : Option ℕ) (client : Client) (pending : Option Purpose) → client.pending ≡ pending → IsSetOpen client.sessions pending
    → Evens (empty_places (settle_at bases number pending told ssrc client).effect.client.sessions) (empty_places client.sessions) (bound_for client.sessions pending (is_success told.code) (id_told told))
    (torn_by (kind_pending client.sessions pending) (is_success told.code))
settling_evens bases number told ssrc client None is set = none_bound (empty_places client.sessions) (empty_places client.sessions) None None refl (omega arith)
settling_evens bases number told ssrc client (Some purpose) is set =
    subst (λ (one : Option Purpose). Evens (empty_places (settle_with one number told.code (new_id purpose told) client).sessions) (empty_places client.sessions) (bound_for client.sessions (Some purpose) (is_success told.code) (id_told told))
    (torn_by (kind_pending client.sessions (Some purpose)) (is_success told.code)))
    (sym is) (settled_evens purpose number client.described told client.sessions set)

-- the id that it says
said_told : (reply : Reply2) → id_told (told_by reply) ≡ id_said reply
said_told reply = ap (λ (session : Option SessionParts). option_map (λ one. one.id) session) (told_session reply)

reply_evens : (bases : Bases) (number i : ℕ) (client : Client) (reply : Reply2) (raw : PrivateEvent) (opened : Option Opened) (final : Final) → ((one : Opened) → opened ≡ Some one → one.conn ≡ i → one.kind ≡ kind_pending client.sessions client.pending)
    → IsSetOpen client.sessions client.pending → option_map (λ (one : Opened). one.conn) opened ≡ Some i → Some (answer (told_by reply) (source_said reply) false) ≡ Some raw → final_of reply opened ≡ Some final
    → Evens (empty_places (hear bases number client raw).effect.client.sessions) (empty_places client.sessions) (bound_in client (Some final)) (torn_in (Some final))
reply_evens bases number i client reply raw None final kinds set turns is said = cc
reply_evens bases number i client reply raw (Some opened) final kinds set turns is said = by (nat_lt reply.code 200) refl said
  where
    conn : opened.conn ≡ i
    conn = cc

    it : Final
    it = record { number = reply.cseq; conn = opened.conn; kind = opened.kind; success = is_success reply.code; id = id_said reply }

    some_is : (a b : Final) → Some a ≡ Some b → a ≡ b
    some_is a b e = cc

    late : nat_lt reply.code 200 ≡ false → Evens (empty_places (hear bases number client (answer (told_by reply) (source_said reply) false)).effect.client.sessions) (empty_places client.sessions) (bound_in client (Some it)) (torn_in (Some it))
    late e =
        subst (λ (t : Bool). Evens (empty_places (cond t (idles client) (settle_at bases number client.pending (told_by reply) (source_said reply) client)).effect.client.sessions) (empty_places client.sessions) (bound_in client (Some it)) (torn_in (Some it))) (sym e)
        (subst (λ (kind : RequestKind). Evens (empty_places (settle_at bases number client.pending (told_by reply) (source_said reply) client).effect.client.sessions) (empty_places client.sessions)
        (bound_in client (Some (record it { kind = kind }))) (torn_by kind (is_success reply.code))) (sym (kinds opened refl conn))
        (subst (λ (id : Option (List ℕ)). Evens (empty_places (settle_at bases number client.pending (told_by reply) (source_said reply) client).effect.client.sessions) (empty_places client.sessions)
        (bound_for client.sessions client.pending (is_success reply.code) id) (torn_by (kind_pending client.sessions client.pending) (is_success reply.code))) (said_told reply)
        (settling_evens bases number (told_by reply) (source_said reply) client client.pending refl set)))

    by : (t : Bool) → nat_lt reply.code 200 ≡ t → cond t None (Some it) ≡ Some final
        → Evens (empty_places (hear bases number client raw).effect.client.sessions) (empty_places client.sessions) (bound_in client (Some final)) (torn_in (Some final))
    by true e said = cc
    by false e said =
        subst (λ (one : PrivateEvent). Evens (empty_places (hear bases number client one).effect.client.sessions) (empty_places client.sessions) (bound_in client (Some final)) (torn_in (Some final)))
        (the_same (answer (told_by reply) (source_said reply) false) raw is)
        (subst (λ (one : Final). Evens (empty_places (hear bases number client (answer (told_by reply) (source_said reply) false)).effect.client.sessions) (empty_places client.sessions) (bound_in client (Some one)) (torn_in (Some one)))
        (some_is it final said) (late e))

heard_evens : (bases : Bases) (books : Books) (number i : ℕ) (client : Client) (said : Heard) (raw : PrivateEvent) (final : Final) → IsKindOpen books i client → IsSetOpen client.sessions client.pending → heard_turn books said ≡ Some i
    → heard_raw books said ≡ Some raw → heard_final books said ≡ Some final
    → Evens (empty_places (hear bases number client raw).effect.client.sessions) (empty_places client.sessions) (bound_in client (Some final)) (torn_in (Some final))
heard_evens bases books number i client (replies reply) raw final kinds set turns is some = reply_evens bases number i client reply raw (books.opened reply.cseq) final (kinds reply.cseq) set turns is some
heard_evens bases books number i client (requests request) raw final kinds set turns is some = cc
heard_evens bases books number i client (frames channel rest) raw final kinds set turns is some = cc
heard_evens bases books number i client (faults fault) raw final kinds set turns is some = cc

final_evens : (bases : Bases) (books : Books) (number i : ℕ) (client : Client) (h : Happening) (raw : PrivateEvent) (final : Final) → IsKindOpen books i client → IsSetOpen client.sessions client.pending → turn books h ≡ Some i → raw_event books h ≡ Some raw
    → final_in books h ≡ Some final → Evens (empty_places (hear bases number client raw).effect.client.sessions) (empty_places client.sessions) (bound_in client (Some final)) (torn_in (Some final))
final_evens bases books number i client (enters conn) raw final kinds set turns is some = cc
final_evens bases books number i client (takes conn shape) raw final kinds set turns is some = cc
final_evens bases books number i client (ends conn) raw final kinds set turns is some = cc
final_evens bases books number i client (lags conn) raw final kinds set turns is some = cc
final_evens bases books number i client (hears shape) raw final kinds set turns is some = heard_evens bases books number i client (heard shape) raw final kinds set turns is some
final_evens bases books number i client (up_ends cause) raw final kinds set turns is some = cc

-- The places that are empty once a connection has heard of an event.
pub hearing_evens : (bases : Bases) (books : Books) (number i : ℕ) (client : Client) (h : Happening) (raw : PrivateEvent) → IsKindOpen books i client → IsSetOpen client.sessions client.pending → turn books h ≡ Some i → raw_event books h ≡ Some raw
    → Evens (empty_places (hear bases number client raw).effect.client.sessions) (empty_places client.sessions) (bound_in client (final_in books h)) (torn_in (final_in books h))
hearing_evens bases books number i client h raw kinds set turns is = by (final_in books h) refl
  where
    after : List PlayerSession
    after = (hear bases number client raw).effect.client.sessions

    by : (final : Option Final) → final_in books h ≡ final → Evens (empty_places after) (empty_places client.sessions) (bound_in client final) (torn_in final)
    by None none =
        let same : empty_places after ≡ empty_places client.sessions = same_empty client.sessions after (hearing_still bases books number i client h raw turns is none).sessions in
        none_bound (empty_places after) (empty_places client.sessions) None None refl (omega (arith, same))
    by (Some final) some = final_evens bases books number i client h raw final kinds set turns is some
