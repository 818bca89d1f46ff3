-- A connection that is over hears nothing in what its history takes for its turn.
use Rattle.std.proofs.Common.{is_some, ◌≡◌, ◌∙◌, ℕ, ◌/◌, ◌%◌, Bool, true, false, cond, List, Option, Some, None, Result, Ok, Err, refl, sym, ap, subst}
use Rattle.std.specs.Prelude.{codes}
use Rattle.std.specs.Option.{option_map}
use Rattle.std.specs.Str.{bytes_eq}
use Rattle.rtsp_uri.specs.declared.base.Bases.{Bases}
use Rattle.rtsp_small.specs.declared.notify.NotifyReason.{NotifyReason}
use Rattle.rtsp_small.specs.Notices.{notify_reason_of}
use Rattle.head_two.specs.declared.ask.Ask2.{Ask2}
use Rattle.translate_down.specs.Replies.{told_by}
use Rattle.client_slot.specs.Places.{filled_place}
use Rattle.client_slot.specs.Client.{Client}
use Rattle.client_machine.specs.declared.why.CloseWhy.TheVariants.{Ended, Slow}
use Rattle.client_machine.specs.Events.{PrivateEvent, arrive, answer, media, end, slow}
use Rattle.client_machine.specs.Step.{take, closes, take_media, hear, idles}
use Rattle.client_machine.specs.UpTexts.{source_said}
use Rattle.gateway_claim.specs.Books.{Opened}
use Rattle.gateway_claim.specs.ServerItems.{Heard, replies, requests, frames, faults, heard, HeardNotice, session_named, known_reason, said_reason, held_session, named_session, notice_of}
use Rattle.gateway_claim.specs.Happenings.{Happening, enters, takes, ends, lags, hears, up_ends, HistoryEntry}
use Rattle.gateway_claim.specs.OwnEvents.{notice_turn, heard_turn, turn, books_of}
use Rattle.gateway_claim.specs.Turns.{shared, heard_raw, raw_event, heard_number, number_heard}
use Rattle.gateway_claim.proofs.AgreeLemmas.{alone, AreJoined}
use Rattle.connection_table.specs.Over.{is_over}
use Rattle.gateway_mux.proofs.OverLemmas.{over_dead, over_unbound}
use Rattle.gateway_mux.proofs.PictureLemmas.{filled_under, asker_stays}
use Rattle.rtsp_head.specs.Headers.{field_of}

-- The connection of a notice holds a session.
pub record HoldsOne (holder : List ℕ → Option ℕ) (conn : ℕ) : Type 0 where
  pub id : List ℕ
  pub bound : holder id ≡ Some conn

same_notice : (result : Result HeardNotice ℕ) (a b : HeardNotice) → result ≡ Ok a → result ≡ Ok b → a ≡ b
same_notice result a b one other = cc

known_conn : (request : Ask2) (id : List ℕ) (conn : ℕ) (reason : Option NotifyReason) (notice : HeardNotice) → known_reason request id conn reason ≡ Ok notice → conn ≡ notice.conn
known_conn request id conn None notice e = cc
known_conn request id conn (Some reason) notice e = ap (λ (n : HeardNotice). n.conn) (same_notice (known_reason request id conn (Some reason)) _ notice refl e)

said_conn : (request : Ask2) (id : List ℕ) (conn : ℕ) (value : Option (List ℕ)) (notice : HeardNotice) → said_reason request id conn value ≡ Ok notice → conn ≡ notice.conn
said_conn request id conn None notice e = cc
said_conn request id conn (Some value) notice e = known_conn request id conn (notify_reason_of value) notice e

held_bound : (holder : List ℕ → Option ℕ) (request : Ask2) (id : List ℕ) (held : Option ℕ) (notice : HeardNotice) → holder id ≡ held → held_session request id held ≡ Ok notice → HoldsOne holder notice.conn
held_bound holder request id None notice is e = cc
held_bound holder request id (Some conn) notice is e = record {
  id = id;
  bound = is ∙ ap (λ n. Some n) (said_conn request id conn (field_of request.head.headers (codes "Notify-Reason")) notice e);
}

named_bound : (holder : List ℕ → Option ℕ) (request : Ask2) (named : Option (List ℕ)) (notice : HeardNotice) → named_session holder request named ≡ Ok notice → HoldsOne holder notice.conn
named_bound holder request None notice e = cc
named_bound holder request (Some id) notice e = held_bound holder request id (holder id) notice refl e

notice_bound : (holder : List ℕ → Option ℕ) (request : Ask2) (notice : HeardNotice) → notice_of holder request ≡ Ok notice → HoldsOne holder notice.conn
notice_bound holder request notice e = by (bytes_eq request.method (codes "PLAY_NOTIFY")) e
  where
    by : (t : Bool) → cond t (named_session holder request (session_named request)) (Err 501) ≡ Ok notice → HoldsOne holder notice.conn
    by true e = named_bound holder request (session_named request) notice e
    by false e = cc

-- What comes to it, and that nothing comes of that
pub record HearsNone (bases : Bases) (number : ℕ) (client : Client) (coming : Option PrivateEvent) : Type 0 where
  pub raw : PrivateEvent
  pub is_raw : coming ≡ Some raw
  pub idle : hear bases number client raw ≡ idles client

conn_is : (a b : ℕ) → Some a ≡ Some b → a ≡ b
conn_is a b e = cc

over_stays : (client : Client) → is_over client ≡ true → is_over client ≡ false → ⊥
over_stays client over stays = true_false (sym over ∙ stays)
  where
    true_false : true ≡ false → ⊥
    true_false e = cc

over_reply : (bases : Bases) (T : List HistoryEntry) (i number : ℕ) (coming : Option PrivateEvent) → AreJoined bases T → is_over (shared (books_of T) i (alone bases T i).client) ≡ true → (opened : Option Opened) → (books_of T).opened number ≡ opened
    → option_map (λ (one : Opened). one.conn) opened ≡ Some i → HearsNone bases number (shared (books_of T) i (alone bases T i).client) coming
over_reply bases T i number coming all over None e turns = cc
over_reply bases T i number coming all over (Some opened) e turns =
    absurd (over_stays (shared (books_of T) i (alone bases T i).client) over
    (subst (λ (j : ℕ). is_over (shared (books_of T) j (alone bases T j).client) ≡ false) (conn_is opened.conn i turns) (asker_stays bases T all number opened e)))

over_notice : (bases : Bases) (T : List HistoryEntry) (i number : ℕ) (request : Ask2) (coming : Option PrivateEvent) → AreJoined bases T → is_over (shared (books_of T) i (alone bases T i).client) ≡ true → (notice : Result HeardNotice ℕ) → notice_of (books_of T).holder request ≡ notice
    → notice_turn notice ≡ Some i → HearsNone bases number (shared (books_of T) i (alone bases T i).client) coming
over_notice bases T i number request coming all over (Err code) e turns = cc
over_notice bases T i number request coming all over (Ok notice) e turns =
    let holds = notice_bound (books_of T).holder request notice e in
    let has = (all.1 i).session holds.id (holds.bound ∙ turns) in
    let filled : is_some (filled_place (shared (books_of T) i (alone bases T i).client).sessions) ≡ true = filled_under ((books_of T).number_of i) ((books_of T).pair_of i) (alone bases T i).client.sessions has.0 holds.id has.1 in
    absurd (none_some (filled_place (shared (books_of T) i (alone bases T i).client).sessions) (over_unbound (shared (books_of T) i (alone bases T i).client) over) filled)
  where
    none_some : (place : Option ℕ) → place ≡ None → is_some place ≡ true → ⊥
    none_some None e s = cc
    none_some (Some at) e s = cc

over_heard : (bases : Bases) (T : List HistoryEntry) (i : ℕ) (said : Heard) → AreJoined bases T → is_over (shared (books_of T) i (alone bases T i).client) ≡ true → heard_turn (books_of T) said ≡ Some i
    → HearsNone bases (heard_number said) (shared (books_of T) i (alone bases T i).client) (heard_raw (books_of T) said)
over_heard bases T i (replies reply) all over turns =
    over_reply bases T i reply.cseq (Some (answer (told_by reply) (source_said reply) false)) all over ((books_of T).opened reply.cseq) refl turns
over_heard bases T i (requests request) all over turns =
    over_notice bases T i 0 request (heard_raw (books_of T) (requests request)) all over (notice_of (books_of T).holder request) refl turns
over_heard bases T i (frames channel rest) all over turns = record {
  raw = media (channel / 2) (channel % 2) rest;
  is_raw = refl;
  idle = ap (λ t. take_media t (channel / 2) (channel % 2) rest (shared (books_of T) i (alone bases T i).client)) (over_dead (shared (books_of T) i (alone bases T i).client) over);
}
over_heard bases T i (faults fault) all over turns = cc

pub over_hears : (bases : Bases) (T : List HistoryEntry) (h : Happening) (i : ℕ) → AreJoined bases T → is_over (shared (books_of T) i (alone bases T i).client) ≡ true → turn (books_of T) h ≡ Some i
    → HearsNone bases (number_heard h) (shared (books_of T) i (alone bases T i).client) (raw_event (books_of T) h)
over_hears bases T (enters conn) i all over turns = cc
over_hears bases T (takes conn shape) i all over turns = record {
  raw = arrive shape false;
  is_raw = refl;
  idle = ap (λ t. take t shape (shared (books_of T) i (alone bases T i).client)) (over_dead (shared (books_of T) i (alone bases T i).client) over);
}
over_hears bases T (ends conn) i all over turns = record {
  raw = end;
  is_raw = refl;
  idle = ap (λ t. closes t Ended (shared (books_of T) i (alone bases T i).client)) (over_dead (shared (books_of T) i (alone bases T i).client) over);
}
over_hears bases T (lags conn) i all over turns = record {
  raw = slow;
  is_raw = refl;
  idle = ap (λ t. closes t Slow (shared (books_of T) i (alone bases T i).client)) (over_dead (shared (books_of T) i (alone bases T i).client) over);
}
over_hears bases T (hears shape) i all over turns = over_heard bases T i (heard shape) all over turns
over_hears bases T (up_ends cause) i all over turns = cc
