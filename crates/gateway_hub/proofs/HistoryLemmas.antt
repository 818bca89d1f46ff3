-- What a history says of one connection after one entry more.
use Rattle.std.proofs.Common.{◌≡◌, ◌∙◌, ℕ, Bool, true, false, cond, ◌&&◌, ◌==◌, not, List, [], ◌∷◌, ◌++◌, Option, Some, None, refl, sym, ap}
use Rattle.std.specs.Prelude.{is_some, is_none}
use Rattle.std.specs.Option.{option_or}
use Rattle.client_machine.specs.declared.why.CloseWhy.{CloseWhy}
use Rattle.client_machine.specs.Alone.{is_empty_list}
use Rattle.gateway_claim.specs.declared.event.Closed.{Closed}
use Rattle.gateway_claim.specs.declared.event.Closed.TheVariants.{Nobody, One, All}
use Rattle.gateway_claim.specs.declared.event.Outcome.{Outcome}
use Rattle.gateway_claim.specs.declared.event.UpCause.{UpCause}
use Rattle.gateway_claim.specs.Happenings.{Happening, HistoryEntry, enters_here, fault_in, entered, closes_of, shut, is_alive}
use Rattle.gateway_claim.specs.Cores.{stays_alive}
use Rattle.gateway_claim.proofs.AskLemmas.{alive_after}
use Rattle.hub_queues.specs.declared.receipt.Close.{Close}
use Rattle.hub_queues.specs.Closes.{is_heard, closing, close_by, close_in, fall_by, fall_in, fall_close}
use Rattle.gateway_hub.proofs.OrderLemmas.{Orders, past, falls_down, goes_on, goes_not_all}

-- an entry
abbrev pub entry : Happening → Outcome → HistoryEntry
entry h o = record { happening = h; outcome = o }

pub or_none : {X : Type 0} (o : Option X) → option_or o None ≡ o
or_none None = refl
or_none (Some x) = refl

none_by : (o : Option UpCause) → is_some o ≡ false → o ≡ None
none_by None is = refl
none_by (Some cause) is = cc

-- Where the connection to the server stands, no fall is told, and where it ended one is.
pub fall_none : (T : List HistoryEntry) → fault_in T ≡ None → fall_in T ≡ None
fall_none [] is = refl
fall_none (e ∷ T) is = by (fault_in T) e.outcome.fault refl refl is (fall_none T)
  where
    by : (before now : Option UpCause) → fault_in T ≡ before → e.outcome.fault ≡ now → option_or before now ≡ None → (fault_in T ≡ None → fall_in T ≡ None) → fall_in (e ∷ T) ≡ None
    by (Some cause) now was at none before = cc
    by None (Some cause) was at none before = cc
    by None None was at none before = ap (λ o. option_or o (fall_by (is_some e.outcome.fault) (is_heard e.happening))) (before was) ∙ ap (λ (f : Option UpCause). fall_by (is_some f) (is_heard e.happening)) at

-- A connection is not closed exactly where no close of it is told.
either_empty : (one other : List CloseWhy) → is_empty_list (one ++ other) ≡ (is_empty_list one && is_empty_list other)
either_empty [] other = refl
either_empty (why ∷ one) other = refl

either_none : (one other : Option Close) → is_none (option_or one other) ≡ (is_none other && is_none one)
either_none None None = refl
either_none None (Some close) = refl
either_none (Some close) None = refl
either_none (Some close) (Some more) = refl

same_close : (i : ℕ) (alive heard : Bool) (closed : Closed) → is_empty_list (closes_of i alive closed) ≡ is_none (close_by i alive heard closed)
same_close i alive heard Nobody = refl
same_close i alive heard (One conn why) = by (conn == i)
  where
    by : (here : Bool) → is_empty_list (cond here (why ∷ []) []) ≡ is_none (cond here (Some (closing why heard)) None)
    by true = refl
    by false = refl
same_close i true heard All = refl
same_close i false heard All = refl

unclosed : (i : ℕ) (T : List HistoryEntry) → is_empty_list (shut i T) ≡ is_none (close_in i T)
unclosed i [] = refl
unclosed i (e ∷ T) =
    either_empty (closes_of i (is_alive i T) e.outcome.closed) (shut i T)
    ∙ ap (λ b. b && is_empty_list (shut i T)) (same_close i (is_alive i T) (is_heard e.happening) e.outcome.closed)
    ∙ ap (λ b. is_none (close_by i (is_alive i T) (is_heard e.happening) e.outcome.closed) && b) (unclosed i T)
    ∙ sym (either_none (close_in i T) (close_by i (is_alive i T) (is_heard e.happening) e.outcome.closed))

pub alive_unclosed : (i : ℕ) (T : List HistoryEntry) → entered i T ≡ true → is_alive i T ≡ is_none (close_in i T)
alive_unclosed i T is = ap (λ b. b && is_empty_list (shut i T)) is ∙ unclosed i T

-- A line knows its close, after one entry more.
abbrev pub ClosesTo : ℕ → Bool → Option Close → Option Close → Closed → Type 0
ClosesTo i heard was now Nobody = now ≡ was
ClosesTo i heard was now (One conn why) = now ≡ cond (conn == i) (option_or was (Some (closing why heard))) was
ClosesTo i heard was now All = now ≡ was

pub close_more : (i : ℕ) (T : List HistoryEntry) (h : Happening) (o : Outcome) (was : Option Close) (fall : Option Bool) → Orders T h o → entered i T ≡ true → fall ≡ fall_in T → close_in i T ≡ option_or was (fall_close fall)
    → (now : Option Close) (fell : Option Bool) → fell ≡ option_or fall (fall_by (is_some o.fault) (is_heard h))
    → ((c : Closed) → o.closed ≡ c → ClosesTo i (is_heard h) was now c)
    → close_in i (entry h o ∷ T) ≡ option_or now (fall_close fell)
close_more i T h o was fall (past cause fault orderly) en knows closed now fell falls closes =
    let nobody : o.closed ≡ Nobody = ap (λ (x : Outcome). x.closed) orderly in
    let same : now ≡ was = closes Nobody nobody in
    let unfallen : o.fault ≡ None = ap (λ (x : Outcome). x.fault) orderly in
    let stays : fell ≡ fall = falls ∙ ap (λ (f : Option UpCause). option_or fall (fall_by (is_some f) (is_heard h))) unfallen ∙ or_none fall in
    ap (λ (c : Closed). option_or (close_in i T) (close_by i (is_alive i T) (is_heard h) c)) nobody
    ∙ or_none (close_in i T)
    ∙ closed
    ∙ ap (λ (c : Option Close). option_or c (fall_close fall)) (sym same)
    ∙ ap (λ (f : Option Bool). option_or now (fall_close f)) (sym stays)
close_more i T h o was fall (falls_down cause fault may orderly) en knows closed now fell falls closes =
    let all : o.closed ≡ All = ap (λ (x : Outcome). x.closed) orderly in
    let same : now ≡ was = closes All all in
    let fallen : o.fault ≡ Some cause = ap (λ (x : Outcome). x.fault) orderly in
    let unfallen : fall ≡ None = knows ∙ fall_none T fault in
    let falls_so : fell ≡ Some (is_heard h) = falls ∙ ap (λ (f : Option UpCause). option_or fall (fall_by (is_some f) (is_heard h))) fallen ∙ ap (λ (f : Option Bool). option_or f (Some (is_heard h))) unfallen in
    let open_so : close_in i T ≡ was = closed ∙ ap (λ (f : Option Bool). option_or was (fall_close f)) unfallen ∙ or_none was in
    ap (λ (c : Closed). option_or (close_in i T) (close_by i (is_alive i T) (is_heard h) c)) all
    ∙ ap (λ b. option_or (close_in i T) (close_by i b (is_heard h) All)) (alive_unclosed i T en)
    ∙ ap (λ (c : Option Close). option_or c (close_by i (is_none c) (is_heard h) All)) open_so
    ∙ by was
    ∙ ap (λ (c : Option Close). option_or c (fall_close (Some (is_heard h)))) (sym same)
    ∙ ap (λ (f : Option Bool). option_or now (fall_close f)) (sym falls_so)
  where
    by : (c : Option Close) → option_or c (close_by i (is_none c) (is_heard h) All) ≡ option_or c (fall_close (Some (is_heard h)))
    by None = refl
    by (Some c) = refl
close_more i T h o was fall (goes_on fault none orderly) en knows closed now fell falls closes =
    let unfallen : fall ≡ None = knows ∙ fall_none T fault in
    let stays : fell ≡ None = falls ∙ ap (λ (f : Option UpCause). option_or fall (fall_by (is_some f) (is_heard h))) none ∙ or_none fall ∙ unfallen in
    let open_so : close_in i T ≡ was = closed ∙ ap (λ (f : Option Bool). option_or was (fall_close f)) unfallen ∙ or_none was in
    ap (λ (c : Option Close). option_or c (close_by i (is_alive i T) (is_heard h) o.closed)) open_so
    ∙ by o.closed refl
    ∙ sym (or_none now)
    ∙ ap (λ (f : Option Bool). option_or now (fall_close f)) (sym stays)
  where
    by : (c : Closed) → o.closed ≡ c → option_or was (close_by i (is_alive i T) (is_heard h) c) ≡ now
    by Nobody is = or_none was ∙ sym (closes Nobody is)
    by (One conn why) is = here (conn == i) ∙ sym (closes (One conn why) is)
      where
        here : (b : Bool) → option_or was (cond b (Some (closing why (is_heard h))) None) ≡ cond b (option_or was (Some (closing why (is_heard h)))) was
        here true = refl
        here false = or_none was
    by All is = absurd (goes_not_all T h o orderly is)

-- Who was not alive is not alive after an entry, unless it enters there.
stays_dead : (i : ℕ) (c : Closed) → stays_alive i c false ≡ false
stays_dead i Nobody = refl
stays_dead i (One conn why) = by (conn == i)
  where
    by : (here : Bool) → (not here && false) ≡ false
    by true = refl
    by false = refl
stays_dead i All = refl

pub dead_more : (i : ℕ) (T : List HistoryEntry) (h : Happening) (o : Outcome) → enters_here i h ≡ false → is_alive i T ≡ false → is_alive i (entry h o ∷ T) ≡ false
dead_more i T h o stranger dead = alive_after i T (entry h o) stranger ∙ ap (stays_alive i o.closed) dead ∙ stays_dead i o.closed
