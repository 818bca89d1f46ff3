-- A turn that was carried out is the turn that was planned.
use Rattle.std.proofs.Common.{◌≡◌, ◌≢◌, ◌∙◌, ℕ, ◌+◌, List, Option, Some, None, refl, sym, ap, subst}
use Rattle.std.specs.Prelude.{is_some}
use Rattle.std.specs.Option.{option_map}
use Rattle.rtsp_uri.specs.declared.base.Bases.{Bases}
use Rattle.client_slot.specs.declared.purpose.Purpose.{Purpose}
use Rattle.client_slot.specs.Client.{Client}
use Rattle.client_machine.specs.declared.parts.Done.{Done}
use Rattle.client_machine.specs.declared.parts.PlannedStep.{PlannedStep}
use Rattle.client_machine.specs.OpenRequests.{AsksBy}
use Rattle.client_machine.specs.Events.{Outgoing, asks, carries, Effect}
use Rattle.client_machine.specs.Step.{hear, heard_step}
use Rattle.client_machine.specs.Plans.{Comes, heard_by, effect_by, IsPlan, Does}
use Rattle.client_machine.specs.UpTexts.{spelled}
use Rattle.gateway_claim.specs.declared.event.UpMessage.{UpMessage}
use Rattle.gateway_claim.specs.declared.event.UpMessage.TheVariants.{Request}
use Rattle.gateway_claim.specs.Books.{Books, free_in}
use Rattle.gateway_claim.specs.Happenings.{Happening, HistoryEntry}
use Rattle.gateway_claim.specs.Follows.{client_piece, one_closed, answer_due}
use Rattle.gateway_claim.specs.OwnEvents.{settled_by}
use Rattle.gateway_claim.specs.Turns.{raw_up, number_heard, outcome_by}
use Rattle.gateway_mux.specs.declared.turn.PlannedTurn.{PlannedTurn}
use Rattle.gateway_mux.specs.Acts.{IsPlannedTurn}
use Rattle.connection_table.specs.CarryOut.{IsCarriedAt}
use Rattle.gateway_mux.specs.Moves.{step_in, IsAfterStep, IsAfterTurn, handed_by}
use Rattle.gateway_mux.specs.Pictures.{Picture, books_in, IsPictureOf}
use Rattle.gateway_mux.specs.Settlements.{torn_of, asker_settled, held_settled, holder_settled}
use Rattle.gateway_mux.specs.Turn.{free_once, asks_pair, asker_lent, issued_then}
use Rattle.gateway_mux.specs.Upstream.{held_lent}
use Rattle.gateway_mux.proofs.SettlementLemmas.{IsSettledTurn, settled_asker, settled_held, settled_holder, settled_free}
use Rattle.gateway_mux.proofs.AfterTurnLemmas.{effect_asks, asker_by, issued_by, holder_by_message, held_by_message}

-- what was done, by what there was before and after it
pub record IsTurned (one after : Picture) (it : PlannedTurn) (done : Done) : Type 0 where
  pub carried : IsCarriedAt (one.clients it.conn) (after.clients it.conn) it.plan it.number it.next done
  pub others : (i : ℕ) → it.conn ≢ i → after.clients i ≡ one.clients i
  pub issued : after.issued ≡ issued_then it.asks one.issued
  pub asker : (n : ℕ) → after.asker n ≡ asker_lent it.asks it.conn (one.issued + 1) n (asker_settled it.settled n (one.asker n))
  pub held : (p : ℕ) → after.held p ≡ held_lent it.asks (asks_pair (after.clients it.conn)) it.conn (free_once it.settled one.held) p (held_settled it.settled p (one.held p))
  pub holder : (id : List ℕ) → after.holder id ≡ holder_settled it.settled (torn_of it.settled (one.clients it.conn)) it.conn id (one.holder id)

-- what it settles
pub settled_turn : (bases : Bases) (one : Picture) (h : Happening) (answer : Option (List ℕ)) (it : PlannedTurn) → (its : IsPlannedTurn bases one h answer it) → IsSettledTurn one h it.conn its.client it.settled
settled_turn bases one h answer it its = record { turns = its.its_turn.turns; here = its.its_turn.here; said = its.its_turn.said; settles = its.settles }

-- what the machine does at it
abbrev pub effect_of : Bases → Picture → PlannedTurn → Client → Comes → Effect
effect_of bases one it client comes = effect_by bases it.number (free_once it.settled one.held) client comes

pub effect_is : (bases : Bases) (one : Picture) (T : List HistoryEntry) (h : Happening) (answer : Option (List ℕ)) (it : PlannedTurn) → IsPictureOf bases one T → (its : IsPlannedTurn bases one h answer it) → effect_of bases one it its.client its.comes ≡ step_in bases one h its.client its.raw
effect_is bases one T h answer it is its =
    ap (λ said. heard_step bases (free_once it.settled one.held) said) its.says
    ∙ ap (λ free. heard_step bases free (hear bases (number_heard h) its.client its.raw)) (settled_free bases one T h it.conn its.client it.settled is (settled_turn bases one h answer it its))

-- whether a request goes up
pub goes : (bases : Bases) (one : Picture) (h : Happening) (answer : Option (List ℕ)) (it : PlannedTurn) → (its : IsPlannedTurn bases one h answer it) → it.asks ≡ is_some (effect_of bases one it its.client its.comes).message
goes bases one h answer it its = its.asks

-- what was done
carried_is : (before after : Option Client) (client : Client) (plan : PlannedStep) (number next : ℕ) (done : Done) → before ≡ Some client → IsCarriedAt before after plan number next done
    → (bases : Bases) (pair : Option ℕ) (comes : Comes) → IsPlan bases next pair client comes plan
    → (then : Client) × (after ≡ Some then) × Does next pair then done (effect_by bases number pair client comes)
carried_is before after client plan number next done is carried bases pair comes planned = by after (subst (λ (one : Option Client). IsCarriedAt one after plan number next done) is carried)
  where
    by : (after : Option Client) → IsCarriedAt (Some client) after plan number next done → (then : Client) × (after ≡ Some then) × Does next pair then done (effect_by bases number pair client comes)
    by None carried = absurd carried
    by (Some then) carried = (then, refl, carried bases pair comes planned)

pub done_is : (bases : Bases) (one after : Picture) (h : Happening) (answer : Option (List ℕ)) (it : PlannedTurn) (done : Done) → (its : IsPlannedTurn bases one h answer it) → IsTurned one after it done
    → (then : Client) × (after.clients it.conn ≡ Some then) × Does it.next (free_once it.settled one.held) then done (effect_of bases one it its.client its.comes)
done_is bases one after h answer it done its turned =
    carried_is (one.clients it.conn) (after.clients it.conn) its.client it.plan it.number it.next done its.its_turn.here turned.carried bases (free_once it.settled one.held) its.comes its.plan

pub turn_is_after : (bases : Bases) (one after : Picture) (T : List HistoryEntry) (h : Happening) (answer : Option (List ℕ)) (it : PlannedTurn) (done : Done) → IsPictureOf bases one T → (its : IsPlannedTurn bases one h answer it)
    → IsTurned one after it done → IsAfterTurn bases one after h it.conn its.client its.raw
turn_is_after bases one after T h answer it done is its turned =
    subst (λ (effect : Effect). IsAfterStep one after h it.conn effect) (effect_is bases one T h answer it is its) by_effect
  where
    effect : Effect
    effect = effect_of bases one it its.client its.comes

    settled : Books
    settled = settled_by (books_in one) h

    at : IsSettledTurn one h it.conn its.client it.settled
    at = settled_turn bases one h answer it its

    then_is : after.clients it.conn ≡ Some effect.client
    then_is = let (then, there, does) = done_is bases one after h answer it done its turned in there ∙ ap (λ (c : Client). Some c) does.client

    asks_it : AsksBy (free_once it.settled one.held) (heard_by bases it.number its.client its.comes).effect.client.pending effect.message effect.client.pending
    asks_it = effect_asks bases it.number (free_once it.settled one.held) its.client its.comes its.is_sound

    is_going : it.asks ≡ is_some effect.message
    is_going = goes bases one h answer it its

    by_effect : IsAfterStep one after h it.conn effect
    by_effect = record {
      is_client = then_is;
      others = λ j ne. turned.others j (λ same. ne (sym same));
      asker = λ n. turned.asker n
          ∙ asker_by it.conn n settled (free_once it.settled one.held) (heard_by bases it.number its.client its.comes).effect.client.pending effect.client effect.message it.asks (asker_settled it.settled n (one.asker n)) is_going asks_it
          (settled_asker bases one T h it.conn its.client it.settled is at n);
      held = λ p. turned.held p
          ∙ held_by_message it.conn p settled (free_once it.settled one.held) (heard_by bases it.number its.client its.comes).effect.client.pending effect.client effect.message it.asks (asks_pair (after.clients it.conn)) (held_settled it.settled p (one.held p)) is_going
          (ap asks_pair then_is) asks_it (settled_held bases one T h it.conn its.client it.settled is at p);
      holder = λ id. turned.holder id
          ∙ ap (λ (client : Option Client). holder_settled it.settled (torn_of it.settled client) it.conn id (one.holder id)) its.its_turn.here
          ∙ settled_holder bases one T h it.conn its.client it.settled is at id
          ∙ holder_by_message it.conn settled effect.client effect.message id;
      issued = turned.issued ∙ issued_by it.conn settled (free_once it.settled one.held) (heard_by bases it.number its.client its.comes).effect.client.pending effect.client effect.message it.asks is_going asks_it;
    }

-- The text that goes up is that of the message.
spelled_is : (number : ℕ) (free pair : Option ℕ) (old pending : Option Purpose) (message : Option Outgoing) → AsksBy pair old message pending → option_map Request (spelled number free message) ≡ option_map (raw_up number free) message
spelled_is number free pair old pending None by_it = refl
spelled_is number free pair old pending (Some (asks request named)) by_it = refl
spelled_is number free pair old pending (Some (carries one half rest)) by_it = absurd by_it

-- What it hands out.
pub turn_hands : (bases : Bases) (one after : Picture) (T : List HistoryEntry) (h : Happening) (answer : Option (List ℕ)) (it : PlannedTurn) (done : Done) → IsPictureOf bases one T → (its : IsPlannedTurn bases one h answer it) → IsTurned one after it done
    → handed_by it.conn answer done ≡ outcome_by (books_in one) h it.conn (step_in bases one h its.client its.raw)
turn_hands bases one after T h answer it done is its turned =
    let (then, there, does) = done_is bases one after h answer it done its turned in
    ap (λ said. record (handed_by it.conn answer done) { to_up = record { answer = said; message = option_map Request done.request } }) its.answers
    ∙ ap (λ bytes. record (handed_by it.conn (answer_due (books_in one) h) done) { to_client = client_piece (Some it.conn) bytes }) does.hand
    ∙ ap (λ why. record (handed_by it.conn (answer_due (books_in one) h) done) { to_client = client_piece (Some it.conn) effect.hand; closed = one_closed (Some it.conn) why }) does.close
    ∙ ap (λ (message : Option UpMessage). record { to_client = client_piece (Some it.conn) effect.hand; to_up = record { answer = answer_due (books_in one) h; message = message }; closed = one_closed (Some it.conn) effect.close; fault = None })
    (ap (option_map Request) does.request ∙ ap (λ number. option_map Request (spelled number (free_once it.settled one.held) effect.message)) its.next
    ∙ ap (λ free. option_map Request (spelled (one.issued + 1) free effect.message)) (settled_free bases one T h it.conn its.client it.settled is (settled_turn bases one h answer it its))
    ∙ spelled_is (one.issued + 1) (free_in (settled_by (books_in one) h)) (free_once it.settled one.held) (heard_by bases it.number its.client its.comes).effect.client.pending effect.client.pending effect.message
    (effect_asks bases it.number (free_once it.settled one.held) its.client its.comes its.is_sound))
    ∙ ap (outcome_by (books_in one) h it.conn) (effect_is bases one T h answer it is its)
  where
    effect : Effect
    effect = effect_of bases one it its.client its.comes
