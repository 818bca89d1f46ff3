-- What a core that refuses stands for, after an entering and after an event.
use Rattle.std.proofs.Common.{◌≡◌, ◌∙◌, ℕ, ◌==◌, ◌&&◌, ◌||◌, Bool, true, false, cond, List, ◌∷◌, Option, Some, None, refl, sym, ap, subst, arith}
use Rattle.std.specs.Prelude.{is_some, is_none}
use Rattle.std.specs.Option.{option_or}
use Rattle.rtsp_head.specs.declared.item.ItemKind.{ItemKind}
use Rattle.rtsp_head.specs.declared.item.ItemKind.TheVariants.{Request, Response, Frame, Bad}
use Rattle.rtsp_uri.specs.declared.base.Bases.{Bases}
use Rattle.client_machine.specs.declared.why.CloseWhy.{CloseWhy}
use Rattle.client_machine.specs.declared.why.CloseWhy.TheVariants as why
use Rattle.gateway_claim.specs.declared.event.Event.{Event}
use Rattle.gateway_claim.specs.declared.event.Outcome.{Outcome}
use Rattle.gateway_claim.specs.declared.event.UpCause.{UpCause}
use Rattle.gateway_claim.specs.Happenings.{Happening, enters, takes, ends, lags, hears, up_ends, HistoryEntry, fault_in, is_alive, silent, happening_of, entry_of, entering, IsShort}
use Rattle.gateway_claim.specs.Cores.{ever_entered, stays_alive}
use Rattle.gateway_claim.proofs.AskLemmas.{alive_after, alive_entering, unentered_open, never_part}
use Rattle.test_transcripts.specs.Refuser.{item_refused, closed_if, refusing, refusal_at, FollowsRefusing, StandsRefusing}
use Rattle.test_transcripts.specs.RefuserLaws.{refusals_orderly}
use Rattle.gateway_replay.proofs.WatchLemmas.{no_entering}

-- an item ends nothing of the server's
pub item_fault : (alive : Bool) (kind : ItemKind) (conn : ℕ) → (item_refused alive kind conn).fault ≡ None
item_fault true Request conn = refl
item_fault true Response conn = refl
item_fault true Frame conn = refl
item_fault true (Bad kind) conn = refl
item_fault false kind conn = refl

pub none_over : (over : Option UpCause) → false ≡ is_some over → over ≡ None
none_over None e = refl
none_over (Some cause) e = cc

-- and all is short
item_short : (alive : Bool) (kind : ItemKind) (conn : ℕ) → IsShort (item_refused alive kind conn)
item_short true Request conn = record { client = omega arith; up = omega arith }
item_short true Response conn = record { client = tt; up = omega arith }
item_short true Frame conn = record { client = tt; up = omega arith }
item_short true (Bad kind) conn = record { client = tt; up = omega arith }
item_short false kind conn = record { client = tt; up = omega arith }

close_short : (alive : Bool) (conn : ℕ) (reason : CloseWhy) → IsShort (closed_if alive conn reason)
close_short true conn reason = record { client = tt; up = omega arith }
close_short false conn reason = record { client = tt; up = omega arith }

refusing_short : (alive : ℕ → Bool) (h : Happening) → IsShort (refusing alive h)
refusing_short alive (enters conn) = record { client = tt; up = omega arith }
refusing_short alive (takes conn shape) = item_short (alive conn) shape.kind conn
refusing_short alive (ends conn) = close_short (alive conn) conn why.Ended
refusing_short alive (lags conn) = close_short (alive conn) conn why.Slow
refusing_short alive (hears shape) = record { client = tt; up = omega arith }
refusing_short alive (up_ends reason) = record { client = tt; up = omega arith }

pub given_short : (alive : ℕ → Bool) (h : Happening) (outcome : Outcome) → outcome ≡ refusing alive h → IsShort outcome
given_short alive h outcome is = subst IsShort (sym is) (refusing_short alive h)

pub silent_short : (outcome : Outcome) → outcome ≡ silent → IsShort outcome
silent_short outcome is = subst IsShort (sym is) (record { client = tt; up = omega arith })

-- by who is alive alone
refusing_same : (one other : ℕ → Bool) (h : Happening) → ((i : ℕ) → one i ≡ other i) → refusing one h ≡ refusing other h
refusing_same one other (enters conn) same = refl
refusing_same one other (takes conn shape) same = ap (λ b. item_refused b shape.kind conn) (same conn)
refusing_same one other (ends conn) same = ap (λ b. closed_if b conn why.Ended) (same conn)
refusing_same one other (lags conn) same = ap (λ b. closed_if b conn why.Slow) (same conn)
refusing_same one other (hears shape) same = refl
refusing_same one other (up_ends reason) same = refl

-- an event
refused_stands : (bases : Bases) (alive new : ℕ → Bool) (ended over : Option UpCause) (T : List HistoryEntry) (event : Event) (outcome : Outcome) → StandsRefusing bases alive ended T
    → outcome ≡ refusal_at alive ended (happening_of event) → ((i : ℕ) → new i ≡ stays_alive i outcome.closed (alive i)) → over ≡ option_or ended outcome.fault
    → StandsRefusing bases new over (entry_of event outcome ∷ T)
refused_stands bases alive new ended over T event outcome s is stay fault_is = record {
  is_history = (
    s.is_history,
    is
        ∙ ap (λ o. cond (is_some ended) silent o) (refusing_same alive (λ i. is_alive i T) (happening_of event) s.living)
        ∙ ap (λ f. refusal_at (λ i. is_alive i T) f (happening_of event)) s.over,
  );
  over = fault_is ∙ ap (λ f. option_or f outcome.fault) s.over;
  living = λ i. stay i ∙ ap (stays_alive i outcome.closed) (s.living i) ∙ sym (alive_after i T (entry_of event outcome) (no_entering i event));
}

pub given_stands : (bases : Bases) (alive new : ℕ → Bool) (ended over : Option UpCause) (T : List HistoryEntry) (event : Event) (outcome : Outcome) → ended ≡ None → StandsRefusing bases alive ended T
    → outcome ≡ refusing alive (happening_of event) → ((i : ℕ) → new i ≡ stays_alive i outcome.closed (alive i)) → over ≡ outcome.fault
    → StandsRefusing bases new over (entry_of event outcome ∷ T)
given_stands bases alive new ended over T event outcome none s is stay fault_is =
    refused_stands bases alive new ended over T event outcome s
    (is ∙ sym (ap (λ f. refusal_at alive f (happening_of event)) none)) stay (fault_is ∙ sym (ap (λ f. option_or f outcome.fault) none))

pub silent_stands : (bases : Bases) (alive : ℕ → Bool) (ended : Option UpCause) (T : List HistoryEntry) (event : Event) (outcome : Outcome) → true ≡ is_some ended → StandsRefusing bases alive ended T
    → outcome ≡ silent → StandsRefusing bases alive ended (entry_of event outcome ∷ T)
silent_stands bases alive ended T event outcome some s is =
    refused_stands bases alive alive ended ended T event outcome s (is ∙ sym (ap (λ b. cond b silent (refusing alive (happening_of event))) (sym some)))
    (λ i. sym (ap (λ (o : Outcome). stays_alive i o.closed (alive i)) is)) (kept ended some ∙ ap (λ (o : Outcome). option_or ended o.fault) (sym is))
  where
    kept : (f : Option UpCause) → true ≡ is_some f → f ≡ option_or f None
    kept None e = cc
    kept (Some cause) e = refl

-- an entering
either_silent : (ended : Bool) → silent ≡ cond ended silent silent
either_silent true = refl
either_silent false = refl

same_fault : (f : Option UpCause) → f ≡ option_or f None
same_fault None = refl
same_fault (Some cause) = refl

entered_stands : (bases : Bases) (alive new : ℕ → Bool) (ended : Option UpCause) (conn : ℕ) (T : List HistoryEntry) → StandsRefusing bases alive ended T → ever_entered conn T ≡ false
    → ((i : ℕ) → new i ≡ ((conn == i && is_none ended) || alive i)) → StandsRefusing bases new ended (entering conn ∷ T)
entered_stands bases alive new ended conn T s never added = record {
  is_history = (s.is_history, either_silent (is_some (fault_in T)));
  over = s.over ∙ same_fault (fault_in T);
  living = λ i.
      added i
      ∙ ap (λ f. (conn == i && is_none f) || alive i) s.over
      ∙ ap (λ b. (conn == i && is_none (fault_in T)) || b) (s.living i)
      ∙ sym (alive_entering i conn T (unentered_open FollowsRefusing refusals_orderly bases T conn s.is_history (never_part T conn never)));
}

and_true : (b : Bool) → b ≡ (b && true)
and_true true = refl
and_true false = refl

and_false : (b : Bool) → false ≡ (b && false)
and_false true = refl
and_false false = refl

pub entered_standing : (bases : Bases) (alive new : ℕ → Bool) (ended : Option UpCause) (conn : ℕ) (T : List HistoryEntry) → ended ≡ None → StandsRefusing bases alive ended T → ever_entered conn T ≡ false
    → ((i : ℕ) → new i ≡ (conn == i || alive i)) → StandsRefusing bases new ended (entering conn ∷ T)
entered_standing bases alive new ended conn T none s never added =
    entered_stands bases alive new ended conn T s never (λ i. added i ∙ ap (λ b. b || alive i) (and_true (conn == i) ∙ sym (ap (λ f. conn == i && is_none f) none)))

pub entered_over : (bases : Bases) (alive : ℕ → Bool) (ended : Option UpCause) (conn : ℕ) (T : List HistoryEntry) → true ≡ is_some ended → StandsRefusing bases alive ended T → ever_entered conn T ≡ false
    → StandsRefusing bases alive ended (entering conn ∷ T)
entered_over bases alive ended conn T some s never = entered_stands bases alive alive ended conn T s never (λ i. by ended some i)
  where
    by : (f : Option UpCause) → true ≡ is_some f → (i : ℕ) → alive i ≡ ((conn == i && is_none f) || alive i)
    by None e i = cc
    by (Some cause) e i = ap (λ b. b || alive i) (and_false (conn == i))
