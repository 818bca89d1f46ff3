-- What the calls that carry out an event leave.
use Rattle.std.proofs.Common.{◌≡◌, ◌≢◌, ◌∙◌, ◌≤◌, ◌+◌, ◌==◌, nat_lt, ℕ, Bool, true, false, cond, List, Option, Some, None, Result, Ok, Err, IsSome, IfSome, OnOk, OnErr, refl, sym, ap, subst, arith}
use Rattle.std.specs.Prelude.{is_some}
use Rattle.std.proofs.lemmas.Bool.{eqb-true}
use Rattle.std.proofs.Math.Logic.{∥∥₁_map, ∥∥₁_elim}
use Rattle.std.proofs.Props.{props}
use Rattle.rtsp_uri.specs.declared.base.Bases.{Bases}
use Rattle.up_books.specs.declared.cseq.TheConstants.{LAST_NUMBER}
use Rattle.up_books.specs.Ids.{Ids}
use Rattle.up_books.specs.Numbers.{IssuedNumbers, next_number}
use Rattle.client_slot.specs.declared.purpose.Purpose.{Purpose}
use Rattle.gate_bytes.specs.declared.memory.Memory.{Memory}
use Rattle.client_machine.specs.declared.parts.Done.{Done}
use Rattle.client_machine.specs.OpenRequests.{AsksBy}
use Rattle.client_machine.specs.Events.{Outgoing, asks, carries}
use Rattle.client_machine.specs.Plans.{heard_by, effect_by}
use Rattle.gateway_claim.specs.declared.event.Event.{Event}
use Rattle.gateway_claim.specs.declared.event.Event.TheVariants.{Client, Up, End, Slow, UpEnd}
use Rattle.gateway_claim.specs.declared.event.Outcome.{Outcome}
use Rattle.gateway_claim.specs.declared.event.UpCause.TheVariants.{CseqSpent}
use Rattle.client_machine.specs.Step.{heard_step}
use Rattle.gateway_claim.specs.OwnEvents.{settled_by}
use Rattle.gateway_claim.specs.Books.{free_in}
use Rattle.gateway_claim.specs.Follows.{spent}
use Rattle.gateway_claim.specs.Happenings.{Happening, happening_of, enters_here}
use Rattle.gateway_mux.specs.declared.turn.PlannedTurn.{PlannedTurn}
use Rattle.gateway_mux.specs.Acts.{IsPlannedTurn, IsTurnOfSome}
use Rattle.connection_table.specs.CarryOut.{IsCarriedAt}
use Rattle.gateway_mux.specs.Enter.{IsAsBefore}
use Rattle.gateway_mux.specs.Moves.{IsCommitted}
use Rattle.gateway_mux.specs.Pictures.{Picture, books_in, IsKept}
use Rattle.gateway_mux.specs.Settlements.{torn_of, asker_settled, held_settled, holder_settled, binds, unbinds}
use Rattle.gateway_mux.specs.Turn.{free_once, asks_pair, asker_lent, issued_then, one_if}
use Rattle.gateway_mux.specs.Upstream.{held_lent}
use Rattle.gateway_mux.proofs.CommitLemmas.{IsTurned, settled_turn, goes}
use Rattle.gateway_mux.proofs.SettlementLemmas.{settled_free}
use Rattle.gateway_mux.proofs.UpkeepLemmas.{keeps_turn, keeps_more}
use Rattle.gateway_mux.proofs.AfterTurnLemmas.{effect_asks}

-- No event is an entering.
pub never_enters : (event : Event) (i : ℕ) → enters_here i (happening_of event) ≡ false
never_enters (Client conn item) i = refl
never_enters (Up item) i = refl
never_enters (End conn) i = refl
never_enters (Slow conn) i = refl
never_enters (UpEnd why) i = refl

-- A number is left where a request goes up.
number_left : (issued : ℕ) (free : Option ℕ) (old pending : Option Purpose) (message : Option Outgoing) → AsksBy free old message pending → spent issued message ≡ None → is_some message ≡ true → IsSome (next_number issued)
number_left issued free old pending None by_it left some = cc
number_left issued free old pending (Some (asks request named)) by_it left some = by (nat_lt issued 999999999) refl left (issued == LAST_NUMBER) refl
  where
    spent_is_none : Some CseqSpent ≡ None → ⊥
    spent_is_none e = cc

    last : (issued : ℕ) → issued ≡ 999999999 → nat_lt issued 999999999 ≡ true → ⊥
    last issued is e = grind arith

    by : (s : Bool) → nat_lt issued 999999999 ≡ s → cond s None (Some CseqSpent) ≡ None → (t : Bool) → (issued == LAST_NUMBER) ≡ t → IsSome (cond t None (Some (issued + 1)))
    by true low left true e = absurd (last issued (eqb-true issued LAST_NUMBER e) low)
    by true low left false e = refl
    by false low left t e = absurd (spent_is_none left)
number_left issued free old pending (Some (carries pair half rest)) by_it left some = absurd by_it

free_now : (bases : Bases) (one : Picture) (a b : ℕ) (answer : Option (List ℕ)) (it : PlannedTurn) → ∥ IsKept bases one a b ∥₁ → (its : IsTurnOfSome bases one answer it) → free_once it.settled one.held ≡ free_in (settled_by (books_in one) its.happening)
free_now bases one a b answer it merely its =
    ∥∥₁_elim merely (Prim.hlevel props)
    (λ keeps. settled_free bases one keeps.history its.happening it.conn its.is_planned.client it.settled keeps.is_of (settled_turn bases one its.happening answer it its.is_planned))

pub left_for : (bases : Bases) (one : Picture) (a b : ℕ) (answer : Option (List ℕ)) (it : PlannedTurn) → ∥ IsKept bases one a b ∥₁ → IsTurnOfSome bases one answer it → it.asks ≡ true → IsSome (next_number one.issued)
left_for bases one a b answer it merely its asks_it =
    let planned : IsPlannedTurn bases one its.happening answer it = its.is_planned in
    number_left one.issued (free_once it.settled one.held) (heard_by bases it.number planned.client planned.comes).effect.client.pending (effect_by bases it.number (free_once it.settled one.held) planned.client planned.comes).client.pending
    (effect_by bases it.number (free_once it.settled one.held) planned.client planned.comes).message
    (effect_asks bases it.number (free_once it.settled one.held) planned.client planned.comes planned.is_sound)
    (ap (λ free. spent one.issued (heard_step bases free (heard_by bases it.number planned.client planned.comes)).message) (free_now bases one a b answer it merely its)
    ∙ ap (λ said. spent one.issued (heard_step bases (free_in (settled_by (books_in one) its.happening)) said).message) planned.says ∙ planned.its_turn.left)
    (sym (goes bases one its.happening answer it planned) ∙ asks_it)

-- The connection whose turn it is entered.
pub is_there : (bases : Bases) (one : Picture) (answer : Option (List ℕ)) (it : PlannedTurn) → IsTurnOfSome bases one answer it → IsSome (one.clients it.conn)
is_there bases one answer it its = ap is_some its.is_planned.its_turn.here

-- what was done, where anything was
pub turned_result : (one after : Picture) (it : PlannedTurn) (result : Option Done) → IfSome result (λ done. IsCarriedAt (one.clients it.conn) (after.clients it.conn) it.plan it.number it.next done)
    → ((i : ℕ) → it.conn ≢ i → after.clients i ≡ one.clients i) → (IsSome result → after.issued ≡ issued_then it.asks one.issued)
    → (IsSome result → (n : ℕ) → after.asker n ≡ asker_lent it.asks it.conn (one.issued + 1) n (asker_settled it.settled n (one.asker n)))
    → (IsSome result → (p : ℕ) → after.held p ≡ held_lent it.asks (asks_pair (after.clients it.conn)) it.conn (free_once it.settled one.held) p (held_settled it.settled p (one.held p)))
    → (IsSome result → (id : List ℕ) → after.holder id ≡ holder_settled it.settled (torn_of it.settled (one.clients it.conn)) it.conn id (one.holder id)) → IfSome result (λ done. IsTurned one after it done)
turned_result one after it None carried others issued asker held holder = tt
turned_result one after it (Some done) carried others issued asker held holder = record { carried = carried; others = others; issued = issued refl; asker = asker refl; held = held refl; holder = holder refl }

pub keeps_result : (bases : Bases) (one after : Picture) (answer : Option (List ℕ)) (it : PlannedTurn) (result : Option Done) (requests sessions requests_now sessions_now : ℕ) → IsTurnOfSome bases one answer it → IsSome result
    → IfSome result (λ done. IsTurned one after it done) → (IsSome result → requests_now + one_if it.asks ≡ requests + one_if (is_some it.settled))
    → (IsSome result → sessions_now + one_if (binds it.settled) ≡ sessions + one_if (unbinds it.settled (torn_of it.settled (one.clients it.conn))))
    → ∥ IsKept bases one requests sessions ∥₁ → ∥ IsKept bases after requests_now sessions_now ∥₁
keeps_result bases one after answer it None requests sessions requests_now sessions_now its some turned room spare keeps = cc
keeps_result bases one after answer it (Some done) requests sessions requests_now sessions_now its some turned room spare keeps =
    ∥∥₁_map keeps (keeps_turn bases one after answer it done requests sessions requests_now sessions_now its turned (room refl) (spare refl))

pub committed_as : (bases : Bases) (one after : Picture) (h : Happening) (result outcome : Outcome) → result ≡ outcome → IsCommitted bases one after h outcome → IsCommitted bases one after h result
committed_as bases one after h result outcome same committed = subst (λ (out : Outcome). IsCommitted bases one after h out) (sym same) committed

-- Room was made, or memory was wanting.
pub requests_grown : (result : Result (Unit {0}) Memory) (old new : IssuedNumbers) → OnOk result (new ≡ record old { spare = old.spare + 1 }) → OnErr result (new ≡ old) → (new.issued ≡ old.issued) × (new.loans ≡ old.loans) × (old.spare ≤ new.spare)
requests_grown (Ok u) old new ok err = (ap (λ (n : IssuedNumbers). n.issued) ok, ap (λ (n : IssuedNumbers). n.loans) ok, more old.spare new.spare (ap (λ (n : IssuedNumbers). n.spare) ok))
  where
    more : (a b : ℕ) → b ≡ a + 1 → a ≤ b
    more a b e = grind arith
requests_grown (Err e) old new ok err = (ap (λ (n : IssuedNumbers). n.issued) err, ap (λ (n : IssuedNumbers). n.loans) err, same old.spare new.spare (ap (λ (n : IssuedNumbers). n.spare) err))
  where
    same : (a b : ℕ) → b ≡ a → a ≤ b
    same a b e = grind arith

pub sessions_grown : (result : Result (Unit {0}) Memory) (old new : Ids) → OnOk result (new ≡ record old { spare = old.spare + 1 }) → OnErr result (new ≡ old) → (new.bound ≡ old.bound) × (old.spare ≤ new.spare)
sessions_grown (Ok u) old new ok err = (ap (λ (n : Ids). n.bound) ok, more old.spare new.spare (ap (λ (n : Ids). n.spare) ok))
  where
    more : (a b : ℕ) → b ≡ a + 1 → a ≤ b
    more a b e = grind arith
sessions_grown (Err e) old new ok err = (ap (λ (n : Ids). n.bound) err, same old.spare new.spare (ap (λ (n : Ids). n.spare) err))
  where
    same : (a b : ℕ) → b ≡ a → a ≤ b
    same a b e = grind arith

pub still_kept : (bases : Bases) (one after : Picture) (a b c d : ℕ) → IsAsBefore one after → a ≤ c → b ≤ d → ∥ IsKept bases one a b ∥₁ → ∥ IsKept bases after c d ∥₁
still_kept bases one after a b c d same requests sessions keeps = ∥∥₁_map keeps (keeps_more bases one after a b c d same requests sessions)
