-- What a watched core stands for, after an entering and after an event.
use Rattle.std.proofs.Common.{◌≡◌, ◌∙◌, ℕ, ◌==◌, ◌&&◌, ◌||◌, Bool, true, false, List, [], ◌∷◌, ◌++◌, Option, Some, None, refl, sym, ap, subst}
use Rattle.std.specs.Prelude.{is_some, is_none}
use Rattle.rtsp_uri.specs.declared.base.Bases.{Bases}
use Rattle.gateway_claim.specs.declared.event.Event.{Event}
use Rattle.gateway_claim.specs.declared.event.Event.TheVariants.{Client, Up, End, Slow, UpEnd}
use Rattle.gateway_claim.specs.declared.event.Outcome.{Outcome}
use Rattle.gateway_claim.specs.declared.event.UpCause.{UpCause}
use Rattle.gateway_claim.specs.Happenings.{HistoryEntry, fault_in, enters_here, happening_of, entry_of, entering}
use Rattle.gateway_claim.specs.Cores.{IsCoreHistory, ever_entered, stays_alive}
use Rattle.gateway_claim.proofs.AskLemmas.{Following, FollowsOrderly, alive_after, alive_entering, unentered_open, never_part}
use Rattle.gateway_replay.specs.declared.alive.Living.{Living}
use Rattle.gateway_replay.specs.Alive.{lives}
use Rattle.gateway_replay.specs.CoreRecords.{StayLiving, Watches, Advances, EntersAs}

pub no_entering : (i : ℕ) (event : Event) → enters_here i (happening_of event) ≡ false
no_entering i (Client conn item) = refl
no_entering i (Up item) = refl
no_entering i (End conn) = refl
no_entering i (Slow conn) = refl
no_entering i (UpEnd why) = refl

module _ {M : Type 0} (stands : M → List HistoryEntry → Type 0) (bases_of : M → Bases) where
  -- an event was taken, and the connections that it closed are alive no longer
  pub watch_took : (old new : M) (living left : Living) (event : Event) (outcome : Outcome)
      → ((T : List HistoryEntry) → stands old T → stands new (entry_of event outcome ∷ T)) → bases_of new ≡ bases_of old → StayLiving outcome.closed living left
      → Advances (Watches stands bases_of old living) (Watches stands bases_of new left) (entry_of event outcome ∷ [])
  watch_took old new living left event outcome steps same stay = λ bases T s. record {
    stood = steps T s.stood;
    based = same ∙ s.based;
    alive = λ i. stay i ∙ ap (stays_alive i outcome.closed) (s.alive i) ∙ sym (alive_after i T (entry_of event outcome) (no_entering i event));
  }

none_of : (ended : Option UpCause) → false ≡ is_some ended → is_none ended ≡ true
none_of None e = refl
none_of (Some cause) e = cc

some_of : (ended : Option UpCause) → true ≡ is_some ended → is_none ended ≡ false
some_of None e = cc
some_of (Some cause) e = refl

module _ {M : Type 0} (stands : M → List HistoryEntry → Type 0) (bases_of : M → Bases) (follows : Following) (history : (core : M) (T : List HistoryEntry) → stands core T → IsCoreHistory follows (bases_of core) T) where
  -- whatever the connections that are alive are, it made a history
  pub watch_made : (old new : M) (living : Living) (more : List HistoryEntry) → ((T : List HistoryEntry) → stands old T → stands new (more ++ T)) → bases_of new ≡ bases_of old
      → Advances (Watches stands bases_of old living) (IsCoreHistory follows) more
  watch_made old new living more steps same = λ bases T s.
      subst (λ (b : Bases). IsCoreHistory follows b (more ++ T)) (same ∙ s.based) (history new (more ++ T) (steps T s.stood))

  pub watch_sound : (core : M) (living : Living) → Advances (Watches stands bases_of core living) (IsCoreHistory follows) []
  watch_sound core living = watch_made core core living [] (λ T s. s) refl

  watch_entered : FollowsOrderly follows → (old new : M) (living left : Living) (conn : ℕ) (ended : Option UpCause)
      → ((T : List HistoryEntry) → stands old T → ever_entered conn T ≡ false → stands new (entering conn ∷ T)) → bases_of new ≡ bases_of old → ((T : List HistoryEntry) → stands old T → ended ≡ fault_in T)
      → ((i : ℕ) → lives left i ≡ ((conn == i && is_none ended) || lives living i)) → EntersAs (Watches stands bases_of old living) (Watches stands bases_of new left) conn
  watch_entered orderly old new living left conn ended steps same ends added = λ bases T s never.
      let before : IsCoreHistory follows bases T = watch_sound old living bases T s in
      record {
        stood = steps T s.stood never;
        based = same ∙ s.based;
        alive = λ i.
            added i
            ∙ ap (λ f. (conn == i && is_none f) || lives living i) (ends T s.stood)
            ∙ ap (λ b. (conn == i && is_none (fault_in T)) || b) (s.alive i)
            ∙ sym (alive_entering i conn T (unentered_open follows orderly bases T conn before (never_part T conn never)));
      }

  -- A connection entered: it is alive, but after the end of the connection to the server.
  pub watch_entered_standing : FollowsOrderly follows → (old new : M) (living left : Living) (conn : ℕ) (ended : Option UpCause) → false ≡ is_some ended
      → ((T : List HistoryEntry) → stands old T → ever_entered conn T ≡ false → stands new (entering conn ∷ T)) → bases_of new ≡ bases_of old → ((T : List HistoryEntry) → stands old T → ended ≡ fault_in T)
      → ((i : ℕ) → lives left i ≡ (conn == i || lives living i)) → EntersAs (Watches stands bases_of old living) (Watches stands bases_of new left) conn
  watch_entered_standing orderly old new living left conn ended none steps same ends added =
      watch_entered orderly old new living left conn ended steps same ends
      (λ i. added i ∙ ap (λ b. b || lives living i) (sym (ap (λ b. conn == i && b) (none_of ended none) ∙ and_true (conn == i))))
    where
      and_true : (b : Bool) → (b && true) ≡ b
      and_true true = refl
      and_true false = refl

  pub watch_entered_over : FollowsOrderly follows → (old new : M) (living : Living) (conn : ℕ) (ended : Option UpCause) → true ≡ is_some ended
      → ((T : List HistoryEntry) → stands old T → ever_entered conn T ≡ false → stands new (entering conn ∷ T)) → bases_of new ≡ bases_of old → ((T : List HistoryEntry) → stands old T → ended ≡ fault_in T)
      → EntersAs (Watches stands bases_of old living) (Watches stands bases_of new living) conn
  watch_entered_over orderly old new living conn ended some steps same ends =
      watch_entered orderly old new living living conn ended steps same ends
      (λ i. sym (ap (λ b. (conn == i && b) || lives living i) (some_of ended some) ∙ ap (λ b. b || lives living i) (and_false (conn == i))))
    where
      and_false : (b : Bool) → (b && false) ≡ false
      and_false true = refl
      and_false false = refl
