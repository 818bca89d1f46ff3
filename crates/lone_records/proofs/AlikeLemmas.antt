-- Books that tell the same of one connection give the same turns, events and answers.
use Rattle.std.proofs.Common.{◌≡◌, ◌∙◌, ℕ, ◌/◌, ◌%◌, ◌&&◌, ◌++◌, ◌∷◌, [], List, Option, Some, Result, Ok, Err, refl, ap}
use Rattle.std.specs.Prelude.{is_none}
use Rattle.std.specs.Option.{option_map}
use Rattle.rtsp_head.specs.Items.{Shape}
use Rattle.session_two.specs.declared.names.Names.{Names}
use Rattle.channel_map.specs.Pairs.{lowest_free}
use Rattle.translate_down.specs.Replies.{told_by}
use Rattle.client_machine.specs.Events.{arrive, answer, note, media}
use Rattle.client_machine.specs.OpenRequests.{has_setup}
use Rattle.client_machine.specs.UpTexts.{source_said}
use Rattle.gateway_claim.specs.Books.{Opened, HeldPair, Books, Final, final_of, held_then, free_in}
use Rattle.gateway_claim.specs.Follows.{answer_due, heard_answer}
use Rattle.gateway_claim.specs.Happenings.{Happening, enters, takes, ends, lags, hears, up_ends}
use Rattle.gateway_claim.specs.OwnEvents.{owner_of, notice_turn, heard_turn, turn, heard_final, final_in, settled_by, own_name, is_full, notice_event, heard_event, event_of}
use Rattle.gateway_claim.specs.ServerItems.{Heard, replies, requests, frames, faults, heard, HeardNotice, notice_of, answer_to}

pub record AreAlikeFor (i : ℕ) (one other : Books) : Type 0 where
  pub opened : one.opened ≡ other.opened
  pub held : one.held ≡ other.held
  pub holder : one.holder ≡ other.holder
  pub named : (names : Names) → own_name one i names ≡ own_name other i names
  pub own_pair : (pair : ℕ) → owner_of (one.held pair) ≡ Some i → one.own_pair pair ≡ other.own_pair pair

module _ (i : ℕ) (one other : Books) (alike : AreAlikeFor i one other) where
  heard_turns : (said : Heard) → heard_turn one said ≡ heard_turn other said
  heard_turns (replies reply) = ap (λ (f : ℕ → Option Opened). option_map (λ (opened : Opened). opened.conn) (f reply.cseq)) alike.opened
  heard_turns (requests request) = ap (λ (f : List ℕ → Option ℕ). notice_turn (notice_of f request)) alike.holder
  heard_turns (frames channel rest) = ap (λ (f : ℕ → Option HeldPair). owner_of (f (channel / 2))) alike.held
  heard_turns (faults fault) = refl

  pub same_turn : (h : Happening) → turn one h ≡ turn other h
  same_turn (enters conn) = refl
  same_turn (takes conn shape) = refl
  same_turn (ends conn) = refl
  same_turn (lags conn) = refl
  same_turn (hears shape) = heard_turns (heard shape)
  same_turn (up_ends cause) = refl

  heard_finals : (said : Heard) → heard_final one said ≡ heard_final other said
  heard_finals (replies reply) = ap (λ (f : ℕ → Option Opened). final_of reply (f reply.cseq)) alike.opened
  heard_finals (requests request) = refl
  heard_finals (frames channel rest) = refl
  heard_finals (faults fault) = refl

  same_final : (h : Happening) → final_in one h ≡ final_in other h
  same_final (enters conn) = refl
  same_final (takes conn shape) = refl
  same_final (ends conn) = refl
  same_final (lags conn) = refl
  same_final (hears shape) = heard_finals (heard shape)
  same_final (up_ends cause) = refl

  -- so the same pair is free after an event
  pub same_free : (h : Happening) → free_in (settled_by one h) ≡ free_in (settled_by other h)
  same_free h =
      ap (λ (f : ℕ → Option HeldPair). lowest_free (λ pair. is_none (held_then (final_in one h) pair (f pair)))) alike.held
      ∙ ap (λ (final : Option Final). lowest_free (λ pair. is_none (held_then final pair (other.held pair)))) (same_final h)

  same_full : (h : Happening) (waiting : List Shape) → is_full (settled_by one h) waiting ≡ is_full (settled_by other h) waiting
  same_full h waiting = ap (λ (free : Option ℕ). is_none free && has_setup waiting) (same_free h)

  same_notice : (notice : Result HeardNotice ℕ) → notice_event one i notice ≡ notice_event other i notice
  same_notice (Ok notice) = ap (λ (names : Names). Some (note notice.id notice.reason names)) (alike.named notice.names)
  same_notice (Err code) = refl

  heard_events : (h : Happening) (waiting : List Shape) (said : Heard) → heard_turn one said ≡ Some i → heard_event one (settled_by one h) i waiting said ≡ heard_event other (settled_by other h) i waiting said
  heard_events h waiting (replies reply) turns = ap (λ full. Some (answer (told_by reply) (source_said reply) full)) (same_full h waiting)
  heard_events h waiting (requests request) turns = ap (λ (f : List ℕ → Option ℕ). notice_event one i (notice_of f request)) alike.holder ∙ same_notice (notice_of other.holder request)
  heard_events h waiting (frames channel rest) turns = ap (λ own. Some (media own (channel % 2) rest)) (alike.own_pair (channel / 2) turns)
  heard_events h waiting (faults fault) turns = refl

  pub same_event : (h : Happening) (waiting : List Shape) → turn one h ≡ Some i → event_of one i waiting h ≡ event_of other i waiting h
  same_event (enters conn) waiting turns = refl
  same_event (takes conn shape) waiting turns = ap (λ full. Some (arrive shape full)) (same_full (takes conn shape) (waiting ++ shape ∷ []))
  same_event (ends conn) waiting turns = refl
  same_event (lags conn) waiting turns = refl
  same_event (hears shape) waiting turns = heard_events (hears shape) waiting (heard shape) turns
  same_event (up_ends cause) waiting turns = refl

  heard_answers : (said : Heard) → heard_answer one said ≡ heard_answer other said
  heard_answers (replies reply) = refl
  heard_answers (requests request) = ap (λ (f : List ℕ → Option ℕ). Some (answer_to request (notice_of f request))) alike.holder
  heard_answers (frames channel rest) = refl
  heard_answers (faults fault) = refl

  pub same_answer : (h : Happening) → answer_due one h ≡ answer_due other h
  same_answer (enters conn) = refl
  same_answer (takes conn shape) = refl
  same_answer (ends conn) = refl
  same_answer (lags conn) = refl
  same_answer (hears shape) = heard_answers (heard shape)
  same_answer (up_ends cause) = refl
