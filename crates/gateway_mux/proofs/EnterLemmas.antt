-- A connection enters: the history has the entering next, and what the multiplexer has then is what that one has.
use Rattle.std.proofs.Common.{◌≡◌, ◌∙◌, ℕ, ◌==◌, ◌&&◌, ◌||◌, Bool, true, false, cond, List, ◌∷◌, Option, Some, None, refl, sym, ap, subst}
use Rattle.std.specs.Prelude.{is_none}
use Rattle.std.specs.Option.{option_map}
use Rattle.std.proofs.lemmas.Bool.{eqb-true}
use Rattle.rtsp_uri.specs.declared.base.Bases.{Bases}
use Rattle.client_slot.specs.Client.{Client, new_client}
use Rattle.client_machine.specs.Alone.{Private, private_after}
use Rattle.gateway_claim.specs.declared.event.Outcome.{Outcome}
use Rattle.gateway_claim.specs.declared.event.UpCause.{UpCause}
use Rattle.gateway_claim.specs.Books.{Opened, Books}
use Rattle.gateway_claim.specs.Happenings.{enters, HistoryEntry, fault_in, entered, entering}
use Rattle.gateway_claim.specs.OwnEvents.{books_of}
use Rattle.gateway_claim.specs.Turns.{shared, shared_in}
use Rattle.gateway_claim.proofs.CaseLemmas.{own_absent}
use Rattle.gateway_claim.proofs.AgreeLemmas.{alone}
use Rattle.gateway_claim.proofs.TurnLawLemmas.{entry_next, next_history}
use Rattle.gateway_mux.specs.Pictures.{Picture, bare_held, IsPictureOf}
use Rattle.gateway_mux.proofs.IdleLemmas.{IsStill, still_nobody, shared_still, stands_still}
use Rattle.gateway_mux.specs.Departure.{IsKeptUnlessGone}
use Rattle.gateway_mux.proofs.OverLemmas.{kept_along}

-- Nothing is handed out, and nothing of what was there changes.
enters_still : (bases : Bases) (one : Picture) (T : List HistoryEntry) (conn : ℕ) → IsPictureOf bases one T → IsStill bases T (enters conn)
enters_still bases one T conn is = still_nobody bases T (enters conn) is.is_history is.standing refl refl

-- the connection that enters
new_entered : (T : List HistoryEntry) (fault : Option UpCause) (conn i : ℕ) → (conn == i) ≡ true → fault ≡ None → (((conn == i) && is_none fault) || entered i T) ≡ true
new_entered T fault conn i e standing = ap (λ t. (t && is_none fault) || entered i T) e ∙ ap (λ (f : Option UpCause). is_none f || entered i T) standing

new_shared : (bases : Bases) (T : List HistoryEntry) (conn i : ℕ) → fault_in T ≡ None → IsStill bases T (enters conn) → entered i T ≡ false → (conn == i) ≡ true → shared_in bases i (entry_next bases T (enters conn) ∷ T) ≡ Some new_client
new_shared bases T conn i standing still absent e =
    ap (λ t. option_map (λ (p : Private). shared (books_of (entry_next bases T (enters conn) ∷ T)) i p.client) (cond t (Some (alone bases (entry_next bases T (enters conn) ∷ T) i)) None)) (new_entered T (fault_in T) conn i e standing)
    ∙ ap (λ (client : Client). Some client) (still.clients i)
    ∙ ap (λ events. Some (shared (books_of T) i (private_after bases events).client)) (own_absent bases T i absent)

-- every other connection
old_shared : (bases : Bases) (T : List HistoryEntry) (conn i : ℕ) → IsStill bases T (enters conn) → (conn == i) ≡ false → shared_in bases i (entry_next bases T (enters conn) ∷ T) ≡ shared_in bases i T
old_shared bases T conn i still e = shared_still bases T (enters conn) i still (ap (λ t. (t && is_none (fault_in T)) || entered i T) e)

entered_clients : (bases : Bases) (one : Picture) (T : List HistoryEntry) (conn i : ℕ) (t : Bool) → IsPictureOf bases one T → entered conn T ≡ false → (conn == i) ≡ t
    → IsKeptUnlessGone (cond t (Some new_client) (one.clients i)) (shared_in bases i (entry_next bases T (enters conn) ∷ T))
entered_clients bases one T conn i true is never e =
    new_shared bases T conn i is.standing (enters_still bases one T conn is) (ap (λ k. entered k T) (sym (eqb-true conn i e)) ∙ never) e
entered_clients bases one T conn i false is never e = kept_along refl (is.clients i) (sym (old_shared bases T conn i (enters_still bases one T conn is) e))

pub enter_follows : (bases : Bases) (one after : Picture) (T : List HistoryEntry) (conn : ℕ) → IsPictureOf bases one T → entered conn T ≡ false → ((i : ℕ) → after.clients i ≡ cond (conn == i) (Some new_client) (one.clients i))
    → ((number : ℕ) → after.asker number ≡ one.asker number) → ((pair : ℕ) → after.held pair ≡ one.held pair) → ((id : List ℕ) → after.holder id ≡ one.holder id) → after.issued ≡ one.issued
    → IsPictureOf bases after (entering conn ∷ T)
enter_follows bases one after T conn is never clients asker held holder issued =
    let still : IsStill bases T (enters conn) = enters_still bases one T conn is in
    subst (λ (out : Outcome). IsPictureOf bases after (record { happening = enters conn; outcome = out } ∷ T)) still.outcome
    (record {
      is_history = next_history bases T (enters conn) is.is_history;
      standing = stands_still bases T (enters conn) is.standing still;
      clients = λ i. kept_along (clients i) (entered_clients bases one T conn i (conn == i) is never refl) refl;
      asker = λ number. asker number ∙ is.asker number ∙ ap (λ (b : Books). option_map (λ (opened : Opened). opened.conn) (b.opened number)) (sym still.books);
      held = λ pair. held pair ∙ is.held pair ∙ ap (λ (b : Books). option_map (bare_held pair) (b.held pair)) (sym still.books);
      holder = λ id. holder id ∙ is.holder id ∙ ap (λ (b : Books). b.holder id) (sym still.books);
      issued = issued ∙ is.issued ∙ ap (λ (b : Books). b.issued) (sym still.books);
    })
