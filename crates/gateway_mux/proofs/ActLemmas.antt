-- What was planned and carried out is the next entry of the history.
use Rattle.std.proofs.Common.{◌≡◌, ◌∙◌, ℕ, ◌+◌, ◌*◌, ◌/◌, ◌%◌, true, false, cond, List, [], ◌∷◌, length, Option, Some, None, refl, sym, ap, subst, arith}
use Rattle.std.specs.Option.{option_map}
use Rattle.std.proofs.lemmas.List.{append-nil}
use Rattle.rtsp_head.specs.Items.{Shape}
use Rattle.rtsp_head.specs.declared.item.ItemKind.TheVariants as kinds
use Rattle.rtsp_uri.specs.declared.base.Bases.{Bases}
use Rattle.client_slot.specs.Places.{tracks_of}
use Rattle.client_slot.specs.Client.{Client}
use Rattle.client_machine.specs.declared.parts.Done.{Done}
use Rattle.client_machine.specs.Events.{carries, Effect, PrivateEvent, arrive, media}
use Rattle.client_machine.specs.Frames.{channel_in, behind_channel, frame_text, Half, half_for, channel_for}
use Rattle.client_machine.specs.Step.{carry, take_item, take, give, take_media, heard_step}
use Rattle.gateway_claim.specs.declared.event.Closed.TheVariants.{Nobody}
use Rattle.gateway_claim.specs.declared.event.Outcome.{Outcome}
use Rattle.gateway_claim.specs.declared.event.ToClient.{ToClient}
use Rattle.gateway_claim.specs.declared.event.UpCause.{UpCause}
use Rattle.gateway_claim.specs.Books.{Opened, Books, free_in, settles}
use Rattle.gateway_claim.specs.ServerItems.{Heard, frames, heard, heard_at}
use Rattle.gateway_claim.specs.Happenings.{Happening, takes, hears, HistoryEntry, enters_here}
use Rattle.gateway_claim.specs.Follows.{next, spent, heard_answer}
use Rattle.gateway_claim.specs.OwnEvents.{owner_of, heard_turn, heard_final, settled_by}
use Rattle.gateway_claim.specs.Turns.{heard_raw, outcome_by}
use Rattle.gateway_claim.proofs.OtherLemmas.{differs}
use Rattle.gateway_mux.specs.declared.turn.PlannedTurn.{PlannedTurn}
use Rattle.gateway_mux.specs.Acts.{IsPlannedTurn, IsRise, IsFall}
use Rattle.gateway_mux.specs.Moves.{wrong_heard, wrong_in, step_in, TakesTurn, IsAfterStep, IsIdle, IsEndAt, handed_by, answering, risen_by, fallen_by, ended_by, IsNext, IsCommitted}
use Rattle.gateway_mux.specs.Pictures.{Picture, opened_in, bare_held, books_in, IsPictureOf}
use Rattle.gateway_mux.specs.Turn.{kind_open}
use Rattle.gateway_mux.proofs.CommitLemmas.{IsTurned, turn_is_after, turn_hands}
use Rattle.gateway_mux.proofs.EndLemmas.{ends_so}
use Rattle.gateway_mux.proofs.FollowLemmas.{turn_follows}
use Rattle.gateway_mux.proofs.IdleLemmas.{idle_follows}
use Rattle.gateway_mux.proofs.PictureLemmas.{same_books}
use Rattle.gateway_mux.proofs.StandLemmas.{standing_open, standing_ended}

-- the next entry, where the connection to the server stands after it
stands_next : (bases : Bases) (after : Picture) (T : List HistoryEntry) (h : Happening) (outcome : Outcome) → outcome ≡ next bases T h → IsPictureOf bases after (record { happening = h; outcome = next bases T h } ∷ T) → IsNext bases after T h outcome
stands_next bases after T h outcome is there = record {
  is_next = is;
  is_after = subst (λ (history : List HistoryEntry). IsPictureOf bases after history) (sym (standing_open (record { happening = h; outcome = outcome } ∷ T) here.standing)) here;
}
  where
    here : IsPictureOf bases after (record { happening = h; outcome = outcome } ∷ T)
    here = subst (λ (one : Outcome). IsPictureOf bases after (record { happening = h; outcome = one } ∷ T)) (sym is) there

-- A turn.
pub turn_committed : (bases : Bases) (one after : Picture) (h : Happening) (answer : Option (List ℕ)) (it : PlannedTurn) (done : Done) → IsPlannedTurn bases one h answer it → IsTurned one after it done
    → IsCommitted bases one after h (handed_by it.conn answer done)
turn_committed bases one after h answer it done its turned T is =
    let (outcome, there) = turn_follows bases one after T h it.conn its.client its.raw is its.its_turn (turn_is_after bases one after T h answer it done is its turned) in
    stands_next bases after T h (handed_by it.conn answer done) (turn_hands bases one after T h answer it done is its turned ∙ sym outcome) there

-- Nothing comes of an event, but an answer to the server.
pub idle_committed : (bases : Bases) (one : Picture) (h : Happening) (answer : Option (List ℕ)) → ((i : ℕ) → enters_here i h ≡ false) → IsIdle bases one h answer → IsCommitted bases one one h (answering answer)
idle_committed bases one h answer none idle T is =
    let (outcome, there) = idle_follows bases one T h answer is none idle in
    stands_next bases one T h (answering answer) (sym outcome) (subst (λ (out : Outcome). IsPictureOf bases one (record { happening = h; outcome = out } ∷ T)) (sym outcome) there)

-- The connection to the server ends.
pub end_committed : (bases : Bases) (one : Picture) (h : Happening) (cause : UpCause) → IsEndAt bases one h (wrong_in one h) cause → IsCommitted bases one one h (ended_by cause)
end_committed bases one h cause ends T is = record {
  is_next = sym (ends_so bases one T h cause is ends);
  is_after = subst (λ (history : List HistoryEntry). IsPictureOf bases one history) (sym (standing_ended T (record { happening = h; outcome = ended_by cause }) is.standing refl)) is;
}

-- A step that changes nothing of the connection, with no reply.
opened_again : (one : Picture) (n : ℕ) → one.asker n ≡ option_map (λ (opened : Opened). opened.conn) (opened_in one n)
opened_again one n = by (one.asker n)
  where
    by : (asker : Option ℕ) → asker ≡ option_map (λ (opened : Opened). opened.conn) (option_map (λ conn. let entry : Opened = record { conn = conn; kind = kind_open (one.clients conn) } in entry) asker)
    by None = refl
    by (Some conn) = refl

held_again : (bases : Bases) (one : Picture) (T : List HistoryEntry) → IsPictureOf bases one T → (p : ℕ) → one.held p ≡ option_map (bare_held p) ((books_in one).held p)
held_again bases one T is p = is.held p ∙ ap (option_map (bare_held p)) (sym ((same_books bases one T is).held p))

-- A frame of a player goes up.
rise_step : (bases : Bases) (one : Picture) (i : ℕ) (shape : Shape) (client : Client) (half : Half) → shape.kind ≡ kinds.Frame → client.alive ≡ true → half_for (channel_in shape) (tracks_of client.sessions) ≡ Some half
    → step_in bases one (takes i shape) client (arrive shape false) ≡ record { client = client; hand = []; message = Some (carries half.pair half.half (behind_channel shape)); close = None }
rise_step bases one i shape client half kind alive found =
    ap (λ t. heard_step bases (free_in (settled_by (books_in one) (takes i shape))) (take t shape client)) alive
    ∙ ap (λ k. heard_step bases (free_in (settled_by (books_in one) (takes i shape))) (take_item k shape client)) kind
    ∙ ap (λ (there : Option Half). heard_step bases (free_in (settled_by (books_in one) (takes i shape))) (carry there (behind_channel shape) client)) found

rise_at : (bases : Bases) (one : Picture) (i channel : ℕ) (shape : Shape) (client : Client) (half : Half) → shape.kind ≡ kinds.Frame → one.clients i ≡ Some client → client.alive ≡ true
    → half_for (channel_in shape) (tracks_of client.sessions) ≡ Some half → channel ≡ 2 * half.pair + half.half → IsCommitted bases one one (takes i shape) (risen_by (frame_text channel (behind_channel shape)))
rise_at bases one i channel shape client half kind here alive found is_channel T is =
    let (outcome, there) = turn_follows bases one one T (takes i shape) i client (arrive shape false) is its_turn now in
    stands_next bases one T (takes i shape) (risen_by (frame_text channel (behind_channel shape)))
    (ap (λ n. risen_by (frame_text n (behind_channel shape))) is_channel ∙ ap (outcome_by (books_in one) (takes i shape) i) (sym steps) ∙ sym outcome) there
  where
    steps : step_in bases one (takes i shape) client (arrive shape false) ≡ record { client = client; hand = []; message = Some (carries half.pair half.half (behind_channel shape)); close = None }
    steps = rise_step bases one i shape client half kind alive found

    its_turn : TakesTurn bases one (takes i shape) i client (arrive shape false)
    its_turn = record { turns = refl; here = here; is_raw = refl; said = refl; left = ap (λ (effect : Effect). spent one.issued effect.message) steps }

    now : IsAfterStep one one (takes i shape) i (step_in bases one (takes i shape) client (arrive shape false))
    now = subst (λ (effect : Effect). IsAfterStep one one (takes i shape) i effect) (sym steps)
        (record { is_client = here; others = λ j ne. refl; asker = opened_again one; held = held_again bases one T is; holder = λ id. refl; issued = refl })

pub rise_committed : (bases : Bases) (one : Picture) (h : Happening) (i channel : ℕ) (shape : Shape) → h ≡ takes i shape → IsRise one h channel → IsCommitted bases one one h (risen_by (frame_text channel (behind_channel shape)))
rise_committed bases one h i channel shape comes rise =
    let same : takes rise.i rise.shape ≡ takes i shape = sym rise.comes ∙ comes in
    subst (λ (one_happening : Happening). IsCommitted bases one one one_happening (risen_by (frame_text channel (behind_channel shape)))) (sym rise.comes)
    (subst (λ (one_shape : Shape). IsCommitted bases one one (takes rise.i rise.shape) (risen_by (frame_text channel (behind_channel one_shape)))) (taken_shape same)
    (rise_at bases one rise.i channel rise.shape rise.client rise.half rise.is_frame rise.here rise.alive rise.found rise.is))
  where
    taken_shape : {a b : ℕ} {s t : Shape} → takes a s ≡ takes b t → s ≡ t
    taken_shape e = cc

-- A frame of the server goes to a player.
fall_step : (bases : Bases) (one : Picture) (h : Happening) (pair half channel : ℕ) (rest : List ℕ) (client : Client) → client.alive ≡ true → channel_for pair half (tracks_of client.sessions) ≡ Some channel
    → step_in bases one h client (media pair half rest) ≡ record { client = client; hand = frame_text channel rest; message = None; close = None }
fall_step bases one h pair half channel rest client alive found =
    ap (λ t. heard_step bases (free_in (settled_by (books_in one) h)) (take_media t pair half rest client)) alive
    ∙ ap (λ (there : Option ℕ). heard_step bases (free_in (settled_by (books_in one) h)) (give there rest client)) found
    ∙ ap (λ bytes. let done : Effect = record { client = client; hand = bytes; message = None; close = None } in done) (append-nil (frame_text channel rest))

heard_frame : (shape : Shape) → shape.kind ≡ kinds.Frame → heard shape ≡ frames (channel_in shape) (behind_channel shape)
heard_frame shape kind = ap (λ k. heard_at k shape) kind

fall_at : (bases : Bases) (one : Picture) (conn channel : ℕ) (shape : Shape) (client : Client) → shape.kind ≡ kinds.Frame → owner_of ((books_in one).held (channel_in shape / 2)) ≡ Some conn → one.clients conn ≡ Some client → client.alive ≡ true
    → channel_for (channel_in shape / 2) (channel_in shape % 2) (tracks_of client.sessions) ≡ Some channel → IsCommitted bases one one (hears shape) (fallen_by conn (frame_text channel (behind_channel shape)))
fall_at bases one conn channel shape client kind owner here alive found T is =
    let (outcome, there) = turn_follows bases one one T (hears shape) conn client raw is its_turn now in
    stands_next bases one T (hears shape) (fallen_by conn (frame_text channel (behind_channel shape)))
    (hands ∙ ap (outcome_by (books_in one) (hears shape) conn) (sym steps) ∙ sym outcome) there
  where
    raw : PrivateEvent
    raw = media (channel_in shape / 2) (channel_in shape % 2) (behind_channel shape)

    says : heard shape ≡ frames (channel_in shape) (behind_channel shape)
    says = heard_frame shape kind

    steps : step_in bases one (hears shape) client raw ≡ record { client = client; hand = frame_text channel (behind_channel shape); message = None; close = None }
    steps = fall_step bases one (hears shape) (channel_in shape / 2) (channel_in shape % 2) channel (behind_channel shape) client alive found

    its_turn : TakesTurn bases one (hears shape) conn client raw
    its_turn = record {
      turns = ap (heard_turn (books_in one)) says ∙ owner;
      here = here;
      is_raw = ap (heard_raw (books_in one)) says;
      said = ap (wrong_heard one) says;
      left = ap (λ (effect : Effect). spent one.issued effect.message) steps;
    }

    settled : settled_by (books_in one) (hears shape) ≡ books_in one
    settled = ap (λ (said : Heard). settles (heard_final (books_in one) said) (books_in one)) says

    now : IsAfterStep one one (hears shape) conn (step_in bases one (hears shape) client raw)
    now = subst (λ (effect : Effect). IsAfterStep one one (hears shape) conn effect) (sym steps)
        (record {
          is_client = here;
          others = λ j ne. refl;
          asker = λ n. opened_again one n ∙ ap (λ (b : Books). option_map (λ (opened : Opened). opened.conn) (b.opened n)) (sym settled);
          held = λ p. held_again bases one T is p ∙ ap (λ (b : Books). option_map (bare_held p) (b.held p)) (sym settled);
          holder = λ id. ap (λ (b : Books). b.holder id) (sym settled);
          issued = refl;
        })

    hands : fallen_by conn (frame_text channel (behind_channel shape)) ≡ outcome_by (books_in one) (hears shape) conn (record { client = client; hand = frame_text channel (behind_channel shape); message = None; close = None })
    hands =
        sym (ap (λ (answer : Option (List ℕ)). let out : Outcome = record { to_client = Some (record { conn = conn; bytes = frame_text channel (behind_channel shape) }); to_up = record { answer = answer; message = None }; closed = Nobody; fault = None } in out)
        (ap (heard_answer (books_in one)) says))
        ∙ ap (λ (piece : Option ToClient). let out : Outcome = record { to_client = piece; to_up = record { answer = heard_answer (books_in one) (heard shape); message = None }; closed = Nobody; fault = None } in out)
        (sym (ap (λ t. cond t None (Some (record { conn = conn; bytes = frame_text channel (behind_channel shape) }))) (differs (length (frame_text channel (behind_channel shape))) 0 (λ zero. grind arith))))

pub fall_committed : (bases : Bases) (one : Picture) (h : Happening) (conn channel : ℕ) (shape : Shape) → h ≡ hears shape → IsFall one h conn channel → IsCommitted bases one one h (fallen_by conn (frame_text channel (behind_channel shape)))
fall_committed bases one h conn channel shape comes fall =
    let same : hears fall.shape ≡ hears shape = sym fall.comes ∙ comes in
    subst (λ (one_happening : Happening). IsCommitted bases one one one_happening (fallen_by conn (frame_text channel (behind_channel shape)))) (sym fall.comes)
    (subst (λ (one_shape : Shape). IsCommitted bases one one (hears fall.shape) (fallen_by conn (frame_text channel (behind_channel one_shape)))) (heard_shape same)
    (fall_at bases one conn channel fall.shape fall.client fall.is_frame fall.owner fall.here fall.alive fall.found))
  where
    heard_shape : {s t : Shape} → hears s ≡ hears t → s ≡ t
    heard_shape e = cc
