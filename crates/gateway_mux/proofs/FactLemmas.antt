-- What is planned for an item of the server is what it does.
use Rattle.std.proofs.Common.{◌≡◌, ◌∙◌, ℕ, ◌/◌, ◌%◌, nat_lt, Bool, true, false, cond, List, Option, Some, None, IsSome, Result, Ok, Err, refl, sym, ap, subst}
use Rattle.std.specs.Option.{option_map, option_and_then}
use Rattle.rtsp_head.specs.Items.{Shape}
use Rattle.rtsp_head.specs.declared.item.ItemKind.TheVariants as kinds
use Rattle.rtsp_uri.specs.declared.base.Bases.{Bases}
use Rattle.head_two.specs.declared.ask.Ask2.{Ask2}
use Rattle.head_two.specs.declared.reply.Reply2.{Reply2}
use Rattle.head_two.specs.Answers.{answer_text}
use Rattle.translate_down.specs.Replies.{told_by}
use Rattle.session_one.specs.Table.{is_success}
use Rattle.client_slot.specs.declared.purpose.Purpose.{Purpose}
use Rattle.client_slot.specs.Places.{tracks_of}
use Rattle.client_slot.specs.Client.{Client}
use Rattle.client_machine.specs.Events.{answer, note, media}
use Rattle.client_machine.specs.Frames.{channel_in, behind_channel, channel_for}
use Rattle.client_machine.specs.Step.{idles, give, take_answer, take_media}
use Rattle.client_machine.specs.Plans.{notes}
use Rattle.client_machine.specs.Plans.{replies as comes_reply}
use Rattle.client_machine.specs.UpTexts.{source_said}
use Rattle.gateway_claim.specs.declared.event.UpCause.{UpCause}
use Rattle.gateway_claim.specs.declared.event.UpCause.TheVariants.{UnknownReply}
use Rattle.gateway_claim.specs.Books.{Opened, Final, final_of, id_said}
use Rattle.gateway_claim.specs.ServerItems.{replies, requests, frames, heard, heard_at, HeardNotice, notice_of, answer_to}
use Rattle.gateway_claim.specs.Happenings.{hears}
use Rattle.gateway_claim.specs.OwnEvents.{owner_of, notice_turn, heard_turn, heard_final}
use Rattle.gateway_claim.specs.Follows.{session_asked, kind_breach, heard_answer}
use Rattle.gateway_claim.specs.Turns.{notice_raw, heard_raw, heard_number, kind_pending}
use Rattle.gateway_mux.specs.declared.settlement.Settlement.{Settlement}
use Rattle.gateway_mux.specs.Acts.{IsSaid}
use Rattle.gateway_mux.specs.Moves.{wrong_reply, wrong_heard, wrong_in, IsIdleAt, IsIdleTurn, IsIdle, IsEndAt}
use Rattle.gateway_mux.specs.Pictures.{Picture, opened_in, books_in}
use Rattle.gateway_mux.specs.Settlements.{AreSettled}
use Rattle.gateway_mux.specs.Turn.{named_by_client, kind_open}

heard_frame : (shape : Shape) → shape.kind ≡ kinds.Frame → heard shape ≡ frames (channel_in shape) (behind_channel shape)
heard_frame shape kind = ap (λ k. heard_at k shape) kind

-- A frame of which nothing comes.
idle_frame : (bases : Bases) (one : Picture) (shape : Shape) (owner : Option ℕ) → shape.kind ≡ kinds.Frame → owner_of ((books_in one).held (channel_in shape / 2)) ≡ owner
    → ((conn : ℕ) (client : Client) → owner ≡ Some conn → one.clients conn ≡ Some client → take_media client.alive (channel_in shape / 2) (channel_in shape % 2) (behind_channel shape) client ≡ idles client)
    → IsIdle bases one (hears shape) None
idle_frame bases one shape owner kind owned idle = record {
  answers = sym (ap (heard_answer (books_in one)) says);
  said = ap (wrong_heard one) says;
  settles = ap (heard_final (books_in one)) says;
  idle = subst (λ (who : Option ℕ). IsIdleTurn bases one (hears shape) who) (sym (ap (heard_turn (books_in one)) says ∙ owned)) (by owner refl);
}
  where
    says : heard shape ≡ frames (channel_in shape) (behind_channel shape)
    says = heard_frame shape kind

    at : (conn : ℕ) → owner ≡ Some conn → (client : Option Client) → one.clients conn ≡ client → IsIdleAt bases one (hears shape) client
    at conn is None e = tt
    at conn is (Some client) e = record {
      raw = media (channel_in shape / 2) (channel_in shape % 2) (behind_channel shape);
      is_raw = ap (heard_raw (books_in one)) says;
      idle = idle conn client is e;
    }

    by : (who : Option ℕ) → owner ≡ who → IsIdleTurn bases one (hears shape) who
    by None e = tt
    by (Some conn) e = at conn e (one.clients conn) refl

conn_same : (a b : ℕ) → Some a ≡ Some b → b ≡ a
conn_same a b e = cc

some_none : (client : Client) → Some client ≡ None → ⊥
some_none client e = cc

client_same : (a b : Client) → Some a ≡ Some b → b ≡ a
client_same a b e = cc

pub idle_fall_dead : (bases : Bases) (one : Picture) (shape : Shape) (conn : ℕ) (client : Client) → shape.kind ≡ kinds.Frame → owner_of ((books_in one).held (channel_in shape / 2)) ≡ Some conn → one.clients conn ≡ Some client → client.alive ≡ false
    → IsIdle bases one (hears shape) None
idle_fall_dead bases one shape conn client kind owned here dead =
    idle_frame bases one shape (Some conn) kind owned
    (λ whose other same there.
    ap (λ t. take_media t (channel_in shape / 2) (channel_in shape % 2) (behind_channel shape) other)
    (ap (λ (c : Client). c.alive) (client_same client other (sym here ∙ ap one.clients (sym (conn_same conn whose same)) ∙ there)) ∙ dead))

pub idle_fall_none : (bases : Bases) (one : Picture) (shape : Shape) (conn : ℕ) (client : Client) → shape.kind ≡ kinds.Frame → owner_of ((books_in one).held (channel_in shape / 2)) ≡ Some conn → one.clients conn ≡ Some client → client.alive ≡ true
    → channel_for (channel_in shape / 2) (channel_in shape % 2) (tracks_of client.sessions) ≡ None → IsIdle bases one (hears shape) None
idle_fall_none bases one shape conn client kind owned here alive none =
    idle_frame bases one shape (Some conn) kind owned by
  where
    by : (whose : ℕ) (other : Client) → Some conn ≡ Some whose → one.clients whose ≡ Some other → take_media other.alive (channel_in shape / 2) (channel_in shape % 2) (behind_channel shape) other ≡ idles other
    by whose other same there =
        let is_client : other ≡ client = client_same client other (sym here ∙ ap one.clients (sym (conn_same conn whose same)) ∙ there) in
        ap (λ t. take_media t (channel_in shape / 2) (channel_in shape % 2) (behind_channel shape) other) (ap (λ (c : Client). c.alive) is_client ∙ alive)
        ∙ ap (λ (channel : Option ℕ). give channel (behind_channel shape) other) (ap (λ (c : Client). channel_for (channel_in shape / 2) (channel_in shape % 2) (tracks_of c.sessions)) is_client ∙ none)

-- A reply that nobody asked for.
pub unknown_ends : (bases : Bases) (one : Picture) (shape : Shape) (reply : Reply2) → heard shape ≡ replies reply → one.asker reply.cseq ≡ None → IsEndAt bases one (hears shape) (wrong_in one (hears shape)) (UnknownReply reply.cseq)
unknown_ends bases one shape reply says none =
    subst (λ (wrong : Option UpCause). IsEndAt bases one (hears shape) wrong (UnknownReply reply.cseq))
    (sym (ap (wrong_heard one) says ∙ ap (wrong_reply one reply) (ap (option_map (λ conn. let entry : Opened = record { conn = conn; kind = kind_open (one.clients conn) } in entry)) none))) refl

-- a reply to the request of a connection
opened_here : (one : Picture) (number conn : ℕ) (client : Client) → one.asker number ≡ Some conn → one.clients conn ≡ Some client → opened_in one number ≡ Some (record { conn = conn; kind = kind_open (Some client) })
opened_here one number conn client asked here =
    ap (option_map (λ i. let entry : Opened = record { conn = i; kind = kind_open (one.clients i) } in entry)) asked
    ∙ ap (λ (there : Option Client). let entry : Opened = record { conn = conn; kind = kind_open there } in Some entry) here

wrong_here : (one : Picture) (shape : Shape) (reply : Reply2) (conn : ℕ) (client : Client) → heard shape ≡ replies reply → one.asker reply.cseq ≡ Some conn → one.clients conn ≡ Some client
    → wrong_in one (hears shape) ≡ kind_breach (books_in one) (kind_open (Some client)) (named_by_client (Some client)) reply
wrong_here one shape reply conn client says asked here =
    ap (wrong_heard one) says ∙ ap (wrong_reply one reply) (opened_here one reply.cseq conn client asked here)
    ∙ ap (λ (there : Option Client). kind_breach (books_in one) (kind_open (Some client)) (named_by_client there) reply) here

pub wrong_ends : (bases : Bases) (one : Picture) (shape : Shape) (reply : Reply2) (conn : ℕ) (client : Client) (cause : UpCause) → heard shape ≡ replies reply → one.asker reply.cseq ≡ Some conn → one.clients conn ≡ Some client
    → kind_breach (books_in one) (kind_open (Some client)) (named_by_client (Some client)) reply ≡ Some cause → IsEndAt bases one (hears shape) (wrong_in one (hears shape)) cause
wrong_ends bases one shape reply conn client cause says asked here wrong =
    subst (λ (one_wrong : Option UpCause). IsEndAt bases one (hears shape) one_wrong cause) (sym (wrong_here one shape reply conn client says asked here ∙ wrong)) refl

pub reply_said : (bases : Bases) (one : Picture) (shape : Shape) (reply : Reply2) (source : Option ℕ) (conn : ℕ) (client : Client) (settled : Option Settlement) → source ≡ source_said reply → heard shape ≡ replies reply → one.asker reply.cseq ≡ Some conn → one.clients conn ≡ Some client
    → kind_breach (books_in one) (kind_open (Some client)) (named_by_client (Some client)) reply ≡ None
    → AreSettled (final_of reply (Some (record { conn = conn; kind = kind_open (Some client) }))) client settled
    → IsSaid bases one (hears shape) (record { conn = conn; number = reply.cseq; settled = settled; answer = None }) (comes_reply reply source)
reply_said bases one shape reply source conn client settled is_source says asked here right settles = record {
  raw = answer (told_by reply) (source_said reply) false;
  turns = ap (heard_turn (books_in one)) says ∙ ap (option_map (λ (opened : Opened). opened.conn)) opened;
  is_raw = ap (heard_raw (books_in one)) says;
  right = wrong_here one shape reply conn client says asked here ∙ right;
  answers = sym (ap (heard_answer (books_in one)) says);
  is_sound = tt;
  says = λ other. ap (λ one_source. take_answer bases reply.cseq (told_by reply) one_source other) is_source ∙ ap (λ number. take_answer bases number (told_by reply) (source_said reply) other) (sym (ap heard_number says));
  settles = λ other there. subst (λ (c : Client). AreSettled (heard_final (books_in one) (heard shape)) c settled) (sym (client_same client other (sym here ∙ there)))
      (subst (λ (final : Option Final). AreSettled final client settled) (sym (ap (heard_final (books_in one)) says ∙ ap (final_of reply) opened)) settles);
  absent = λ none. absurd (some_none client (sym here ∙ none));
}
  where
    opened : opened_in one reply.cseq ≡ Some (record { conn = conn; kind = kind_open (Some client) })
    opened = opened_here one reply.cseq conn client asked here

-- A request of the server.
pub notice_said : (bases : Bases) (one : Picture) (shape : Shape) (ask : Ask2) (notice : HeardNotice) (text : List ℕ) → heard shape ≡ requests ask → notice_of one.holder ask ≡ Ok notice → text ≡ answer_text 200 ask.cseq (Some notice.id)
    → IsSaid bases one (hears shape) (record { conn = notice.conn; number = 0; settled = None; answer = Some text }) (notes notice.id notice.reason notice.names)
notice_said bases one shape ask notice text says told is_text = record {
  raw = note notice.id notice.reason notice.names;
  turns = ap (heard_turn (books_in one)) says ∙ ap notice_turn told;
  is_raw = ap (heard_raw (books_in one)) says ∙ ap notice_raw told;
  right = ap (wrong_heard one) says;
  answers = ap (λ t. Some t) is_text ∙ sym (ap (heard_answer (books_in one)) says ∙ ap (λ (one_notice : Result HeardNotice ℕ). Some (answer_to ask one_notice)) told);
  is_sound = tt;
  says = λ client. refl;
  settles = λ client here. subst (λ (final : Option Final). AreSettled final client None) (sym (ap (heard_final (books_in one)) says)) tt;
  absent = λ none. ap (heard_final (books_in one)) says;
}

pub refusal_idle : (bases : Bases) (one : Picture) (shape : Shape) (ask : Ask2) (code : ℕ) (text : List ℕ) → heard shape ≡ requests ask → notice_of one.holder ask ≡ Err code → text ≡ answer_text code ask.cseq None → IsIdle bases one (hears shape) (Some text)
refusal_idle bases one shape ask code text says refused is_text = record {
  answers = ap (λ t. Some t) is_text ∙ sym (ap (heard_answer (books_in one)) says ∙ ap (λ (notice : Result HeardNotice ℕ). Some (answer_to ask notice)) refused);
  said = ap (wrong_heard one) says;
  settles = ap (heard_final (books_in one)) says;
  idle = subst (λ (who : Option ℕ). IsIdleTurn bases one (hears shape) who) (sym (ap (heard_turn (books_in one)) says ∙ ap notice_turn refused)) tt;
}

-- Who asked has a request open.
pub no_client : (one : Picture) (conn : ℕ) → IsSome (option_and_then (λ (client : Client). client.pending) (one.clients conn)) → one.clients conn ≡ None → ⊥
no_client one conn some none = none_open (subst (λ (client : Option Client). IsSome (option_and_then (λ (one_client : Client). one_client.pending) client)) none some)
  where
    none_open : IsSome (option_and_then (λ (client : Client). client.pending) None) → ⊥
    none_open e = cc

pub no_pending : (one : Picture) (conn : ℕ) (client : Client) → IsSome (option_and_then (λ (other : Client). other.pending) (one.clients conn)) → one.clients conn ≡ Some client → client.pending ≡ None → ⊥
no_pending one conn client some here none = by client.pending (subst (λ (there : Option Client). IsSome (option_and_then (λ (other : Client). other.pending) there)) here some) none
  where
    by : (pending : Option Purpose) → IsSome pending → pending ≡ None → ⊥
    by None some e = cc
    by (Some purpose) some e = cc

-- nothing is wrong with the reply
pub right_here : (one : Picture) (client : Client) (purpose : Purpose) (session : Option (List ℕ)) (reply : Reply2) (breach : Option UpCause) → Some purpose ≡ client.pending → session ≡ session_asked client.sessions client.pending
    → breach ≡ kind_breach (books_in one) (kind_pending client.sessions (Some purpose)) session reply → breach ≡ None → kind_breach (books_in one) (kind_open (Some client)) (named_by_client (Some client)) reply ≡ None
right_here one client purpose session reply breach pending same is none =
    ap (λ (open_now : Option Purpose). kind_breach (books_in one) (kind_pending client.sessions open_now) (session_asked client.sessions client.pending) reply) (sym pending)
    ∙ ap (λ (id : Option (List ℕ)). kind_breach (books_in one) (kind_pending client.sessions (Some purpose)) id reply) (sym same) ∙ sym is ∙ none

-- What it settles: nothing where it isn't the final one.
pub early_settled : (reply : Reply2) (conn : ℕ) (client : Client) (settled : Option Settlement) → nat_lt reply.code 200 ≡ true → settled ≡ None
    → AreSettled (final_of reply (Some (record { conn = conn; kind = kind_open (Some client) }))) client settled
early_settled reply conn client settled early none =
    subst (λ (s : Option Settlement). AreSettled (final_of reply (Some (record { conn = conn; kind = kind_open (Some client) }))) client s) (sym none)
    (subst (λ (t : Bool). AreSettled (cond t None (Some (record { number = reply.cseq; conn = conn; kind = kind_open (Some client); success = is_success reply.code; id = id_said reply }))) client None) (sym early) tt)

pub late_settled : (reply : Reply2) (conn : ℕ) (client : Client) (all : Option Settlement) (settled : Settlement)
    → AreSettled (final_of reply (Some (record { conn = conn; kind = kind_open (Some client) }))) client (Some settled) → all ≡ Some settled → AreSettled (final_of reply (Some (record { conn = conn; kind = kind_open (Some client) }))) client all
late_settled reply conn client all settled are is =
    subst (λ (s : Option Settlement). AreSettled (final_of reply (Some (record { conn = conn; kind = kind_open (Some client) }))) client s) (sym is) are
