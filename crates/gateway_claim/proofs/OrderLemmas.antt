-- Entries are orderly: a connection that is not alive is handed nothing and is not closed, and one that is alive is closed by
-- what closes it.
use Rattle.std.proofs.Common.{◌≡◌, ◌∙◌, ℕ, ◌+◌, Bool, true, false, cond, ◌&&◌, not, List, [], Option, Some, None, refl, subst, arith, sym, ap}
use Rattle.std.specs.Prelude.{◌⊎◌}
use Rattle.rtsp_uri.specs.declared.base.Bases.{Bases}
use Rattle.client_slot.specs.Client.{Client}
use Rattle.client_machine.specs.declared.why.CloseWhy.{CloseWhy}
use Rattle.client_machine.specs.declared.why.CloseWhy.TheVariants as why
use Rattle.client_machine.specs.Events.{PrivateEvent, arrive, answer, note, media, end, slow, up_end, Effect}
use Rattle.client_machine.specs.Step.{hear, Hearing, step}
use Rattle.client_machine.proofs.WayLemmas.{alone_by}
use Rattle.client_machine.specs.Alone.{Private, is_live, pair_alone, effect_alone, private_after, is_empty_list}
use Rattle.std.specs.Option.{option_or}
use Rattle.rtsp_head.specs.Items.{Shape}
use Rattle.client_machine.proofs.KeepLemmas.{live_unclosed}
use Rattle.gateway_claim.specs.declared.event.UpCause.{UpCause}
use Rattle.gateway_claim.specs.declared.event.ToUp.{ToUp}
use Rattle.gateway_claim.specs.ServerItems.{heard}
use Rattle.gateway_claim.specs.Happenings.{Happening, enters, takes, ends, lags, hears, up_ends, HistoryEntry, entered, is_alive}
use Rattle.gateway_claim.specs.OwnEvents.{turn, heard_turn, heard_event, settled_by, books_of, own}
use Rattle.gateway_claim.specs.Follows.{effect_at, event_in, effect_of_turn, effect, heard_breach, said_breach, spent, up_due, Follows, IsHistory, client_piece, one_closed, outcome_with, next}
use Rattle.gateway_claim.specs.Cores.{HandsToLiving, ClosesAtMostOne, IsOrderlyEvent, is_from_outside, MayEndServer, IsOrderly}
use Rattle.gateway_claim.proofs.NextLemmas.{shut_as_alone, one_next, next_follows}
use Rattle.gateway_claim.proofs.CaseLemmas.{breach_standing, heard_event_as}

-- Nor does an event by itself, after which it is not alive either.
record IsMuted (heard : Hearing) : Type 0 where
  hand : heard.effect.hand ≡ []
  alive : heard.effect.client.alive ≡ false

-- A connection that is not alive is handed nothing, and is not alive after an event either.
step_mute : (bases : Bases) (number : ℕ) (pair : Option ℕ) (client : Client) (event : PrivateEvent) → client.alive ≡ false → (step bases number pair client event).hand ≡ []
step_mute bases number pair client event dead = let muted : IsMuted (hear bases number client event) = grind arith in grind arith

-- How an event closes a connection, by whether it is alive.
abbrev pub ClosesBy : Bool → PrivateEvent → Option CloseWhy → Type 0
ClosesBy alive (arrive shape full) close = (close ≡ None) ⊎ ((alive ≡ true) × (close ≡ Some why.BadItem))
ClosesBy alive (answer told ssrc full) close = close ≡ None
ClosesBy alive (note id reason names) close = close ≡ None
ClosesBy alive (media pair half rest) close = close ≡ None
ClosesBy alive end close = close ≡ cond alive (Some why.Ended) None
ClosesBy alive slow close = close ≡ cond alive (Some why.Slow) None
ClosesBy alive up_end close = Unit {0}

step_closes : (bases : Bases) (number : ℕ) (pair : Option ℕ) (client : Client) (event : PrivateEvent) → ClosesBy client.alive event (step bases number pair client event).close
step_closes bases number pair client event = grind arith

-- So it is for a connection alone: one that is over is not alive.
pub alone_closes : (bases : Bases) (p : Private) (event : PrivateEvent) → ClosesBy (is_live p) event (effect_alone bases p event).close
alone_closes bases p event = alone_by (λ effect. ClosesBy (is_live p) event effect.close) bases p event (λ over. grind arith) (λ over up. grind arith)
    (λ over other. subst (λ (b : Bool). ClosesBy (not b && p.client.alive) event (step bases p.count (pair_alone event (p.count + 1)) p.client event).close) (sym over) (step_closes bases p.count (pair_alone event (p.count + 1)) p.client event))

pub alone_mute : (bases : Bases) (p : Private) (event : PrivateEvent) → is_live p ≡ false → (effect_alone bases p event).hand ≡ []
alone_mute bases p event dead = alone_by (λ effect. effect.hand ≡ []) bases p event (λ over. refl) (λ over up. refl)
    (λ over other. step_mute bases p.count (pair_alone event (p.count + 1)) p.client event (subst (λ (b : Bool). (not b && p.client.alive) ≡ false) over dead))

-- A connection is alive in a history exactly where it took part and is alive alone.
alive_alone : (bases : Bases) (T : List HistoryEntry) (i : ℕ) → IsHistory bases T → is_alive i T ≡ (entered i T && is_live (private_after bases (own bases i T)))
alive_alone bases T i history = ap (λ b. entered i T && b) (ap is_empty_list (shut_as_alone bases T history i) ∙ sym (live_unclosed bases (own bases i T)))

-- what the machine of a connection does, by whether it took part
abbrev does : Bases → Bool → Private → Option PrivateEvent → Effect
does bases en p event = effect_at bases (cond en (Some p) None) event

-- An event that the server causes closes nothing.
abbrev IsHeardEvent : Option PrivateEvent → Type 0
IsHeardEvent (Some (arrive shape full)) = ⊥
IsHeardEvent (Some end) = ⊥
IsHeardEvent (Some slow) = ⊥
IsHeardEvent (Some up_end) = ⊥
IsHeardEvent event = Unit {0}

does_open : (bases : Bases) (en : Bool) (p : Private) (event : Option PrivateEvent) → IsHeardEvent event → (does bases en p event).close ≡ None
does_open bases false p event is = refl
does_open bases true p None is = refl
does_open bases true p (Some (arrive shape full)) is = absurd is
does_open bases true p (Some (answer told ssrc full)) is = alone_closes bases p (answer told ssrc full)
does_open bases true p (Some (note id reason names)) is = alone_closes bases p (note id reason names)
does_open bases true p (Some (media pair half rest)) is = alone_closes bases p (media pair half rest)
does_open bases true p (Some end) is = absurd is
does_open bases true p (Some slow) is = absurd is
does_open bases true p (Some up_end) is = absurd is

piece_living : (T : List HistoryEntry) (i : ℕ) (bytes : List ℕ) (alive : Bool) → is_alive i T ≡ alive → (alive ≡ false → bytes ≡ []) → HandsToLiving T (client_piece (Some i) bytes)
piece_living T i bytes alive is mute = grind arith

-- An event that does not end the connection to the server, by whether the connection whose turn it is took part.
turn_hears : (bases : Bases) (T : List HistoryEntry) (shape : Shape) (up : ToUp) (i : ℕ) (en : Bool) (p : Private) → is_alive i T ≡ (en && is_live p)
    → IsOrderlyEvent T (hears shape) (outcome_with None (Some i) up (effect_at bases (cond en (Some p) None) (event_in (books_of T) i (cond en (Some p) None) (hears shape))))
turn_hears bases T shape up i true p is =
    let event : Option PrivateEvent = heard_event (books_of T) (settled_by (books_of T) (hears shape)) i p.client.waiting (heard shape) in (
      piece_living T i (effect_at bases (Some p) event).hand (is_live p) is (λ p0. grind (arith, alone_mute)),
      subst (λ (close : Option CloseWhy). ClosesAtMostOne T (λ j reason. reason ≡ why.Ended) (one_closed (Some i) close))
          (sym (does_open bases true p event (heard_event_as IsHeardEvent (books_of T) (settled_by (books_of T) (hears shape)) i p.client.waiting (heard shape) tt (λ reply is. tt) (λ id reason names. tt) (λ pair half rest. tt)))) tt,
    )
turn_hears bases T shape up i false p is = (tt, tt)

orderly_hears : (bases : Bases) (T : List HistoryEntry) (shape : Shape) (up : ToUp) (who : Option ℕ) → IsHistory bases T
    → IsOrderlyEvent T (hears shape) (outcome_with None who up (effect_of_turn bases T who (hears shape)))
orderly_hears bases T shape up None history = (tt, tt)
orderly_hears bases T shape up (Some i) history = turn_hears bases T shape up i (entered i T) (private_after bases (own bases i T)) (alive_alone bases T i history)

-- What ends the connection to the server is no cause from outside, but where that connection ends.
abbrev is_outside : Option UpCause → Bool
is_outside None = false
is_outside (Some cause) = is_from_outside cause

cond_inside : (t : Bool) (one other : Option UpCause) → is_outside one ≡ false → is_outside other ≡ false → is_outside (cond t one other) ≡ false
cond_inside t one other first second = grind arith

told_inside : (said sent : Option UpCause) (cause : UpCause) → is_outside said ≡ false → is_outside sent ≡ false → option_or said sent ≡ Some cause → is_from_outside cause ≡ false
told_inside said sent cause first second is = ap is_outside (sym is) ∙ (grind arith)

-- why an event ends it
may_end : (bases : Bases) (T : List HistoryEntry) (h : Happening) (cause : UpCause) → option_or (said_breach bases T h) (spent (books_of T).issued (effect bases T h).message) ≡ Some cause → MayEndServer h cause
may_end bases T (enters conn) cause is = cc
may_end bases T (takes conn shape) cause is =
    told_inside None (spent (books_of T).issued (effect bases T (takes conn shape)).message) cause refl (grind arith) is
may_end bases T (ends conn) cause is =
    told_inside None (spent (books_of T).issued (effect bases T (ends conn)).message) cause refl (grind arith) is
may_end bases T (lags conn) cause is =
    told_inside None (spent (books_of T).issued (effect bases T (lags conn)).message) cause refl (grind arith) is
may_end bases T (hears shape) cause is =
    told_inside (heard_breach bases T (heard shape)) (spent (books_of T).issued (effect bases T (hears shape)).message) cause
    (grind (arith, cond_inside)) (grind arith) is
may_end bases T (up_ends reason) cause is = cc

-- an event that does not end it
orderly_event : (bases : Bases) (T : List HistoryEntry) (h : Happening) → IsHistory bases T → option_or (said_breach bases T h) (spent (books_of T).issued (effect bases T h).message) ≡ None
    → IsOrderlyEvent T h (outcome_with None (turn (books_of T) h) (up_due bases T h) (effect bases T h))
orderly_event bases T (enters conn) history none = refl
orderly_event bases T (takes conn shape) history none = grind (arith, (alive_alone bases T conn history))
orderly_event bases T (ends conn) history none = grind (arith, (alive_alone bases T conn history))
orderly_event bases T (lags conn) history none = grind (arith, (alive_alone bases T conn history))
orderly_event bases T (hears shape) history none = orderly_hears bases T shape (up_due bases T (hears shape)) (heard_turn (books_of T) (heard shape)) history
orderly_event bases T (up_ends reason) history none = cc

-- What follows a history is the next entry.
pub follows_orderly : (bases : Bases) (T : List HistoryEntry) (e : HistoryEntry) → IsHistory bases T → Follows bases T e → IsOrderly T e
follows_orderly bases T e history follows =
    let one : HistoryEntry = record { happening = e.happening; outcome = next bases T e.happening } in
    subst (λ (entry : HistoryEntry). IsOrderly T entry) (one_next bases T one e (next_follows bases T e.happening history) follows refl)
    (grind (arith, orderly_event, may_end, breach_standing))
