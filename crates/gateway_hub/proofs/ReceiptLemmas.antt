-- One event more: what receipts tell, how connections are numbered, and what the ending is.
use Rattle.std.proofs.Common.{◌≡◌, ◌∙◌, ℕ, ◌<◌, ◌≤◌, Bool, true, false, cond, ◌&&◌, ◌||◌, ◌==◌, not, List, [], ◌∷◌, ◌++◌, length, Option, Some, None, refl, sym, ap, subst, inl, inr}
use Rattle.std.specs.Prelude.{is_some, is_none, ◌⊎◌}
use Rattle.std.specs.Option.{option_or}
use Rattle.std.proofs.lemmas.Bool.{eqb-true, eq-eqb}
use Rattle.std.proofs.lemmas.List.{append-nil}
use Rattle.rtsp_head.specs.Items.{Shape}
use Rattle.client_machine.specs.declared.why.CloseWhy.{CloseWhy}
use Rattle.client_machine.specs.declared.why.CloseWhy.TheVariants as whys
use Rattle.client_machine.specs.Alone.{is_empty_list}
use Rattle.gateway_claim.specs.declared.event.Closed.{Closed}
use Rattle.gateway_claim.specs.declared.event.Closed.TheVariants.{Nobody, One, All}
use Rattle.gateway_claim.specs.declared.event.Outcome.{Outcome}
use Rattle.gateway_claim.specs.declared.event.ToClient.{ToClient}
use Rattle.gateway_claim.specs.declared.event.UpCause.{UpCause}
use Rattle.gateway_claim.specs.Happenings.{Happening, HistoryEntry, enters, takes, ends, lags, hears, up_ends, enters_here, fault_in, entered, pieces_to, sent, shut, is_alive}
use Rattle.gateway_claim.specs.Cores.{ever_entered, stays_alive, IsOrderlyEvent, IsOrderly}
use Rattle.gateway_claim.proofs.AskLemmas.{alive_after, entry_closed, never_part}
use Rattle.hub_queues.specs.declared.ending.Ending.{Ending}
use Rattle.gateway_hub.specs.declared.desk.Fall.{Fall}
use Rattle.hub_queues.specs.declared.ending.Ending.TheVariants.{Upstream, Stopped}
use Rattle.hub_queues.specs.declared.receipt.Close.{Close}
use Rattle.hub_queues.specs.declared.receipt.Receipt.{Receipt}
use Rattle.hub_queues.specs.Closes.{is_heard, closing, close_by, close_in, fall_by, fall_in, fall_close, lags_here, lagged}
use Rattle.gateway_hub.specs.Desks.{ending_by}
use Rattle.gateway_hub.specs.Keeps.{IsReceipt, HadNothing, AreNumbered, EndsRightly, close_why, by_upstream_of}
use Rattle.hub_queues.specs.Parcels.{arrival_here, arrivals}
use Rattle.gateway_hub.proofs.OrderLemmas.{Orders, past, falls_down, goes_on, handed_living}
use Rattle.gateway_hub.proofs.HistoryLemmas.{entry, or_none, alive_unclosed, dead_more}
use Rattle.gateway_hub.proofs.HandLemmas.{handed_same}
use Rattle.gateway_hub.proofs.SettleLemmas.{excused_more}

-- Who is not alive is handed nothing and not closed.
dead_piece : (i : ℕ) (T : List HistoryEntry) (h : Happening) (o : Outcome) → Orders T h o → is_alive i T ≡ false → (piece : Option ToClient) → o.to_client ≡ piece → pieces_to i piece ≡ []
dead_piece i T h o orders dead None is = refl
dead_piece i T h o orders dead (Some piece) is = by (piece.conn == i) refl
  where
    by : (here : Bool) → (piece.conn == i) ≡ here → cond here (piece.bytes ∷ []) [] ≡ []
    by false other = refl
    by true same =
        let alive : is_alive i T ≡ true = ap (λ n. is_alive n T) (sym (eqb-true piece.conn i same)) ∙ (handed_living T h o piece is orders).0 in
        absurd (cc)

ordered_closes : (i : ℕ) (T : List HistoryEntry) (h : Happening) (o : Outcome) (why : CloseWhy) → IsOrderly T (entry h o) → o.closed ≡ One i why → is_alive i T ≡ true
ordered_closes i T h o why orderly is = entry_closed T (entry h o) i why is orderly

dead_close : (i : ℕ) (T : List HistoryEntry) (h : Happening) (o : Outcome) → IsOrderly T (entry h o) → is_alive i T ≡ false → (c : Closed) → o.closed ≡ c → close_by i (is_alive i T) (is_heard h) c ≡ None
dead_close i T h o orderly dead Nobody is = refl
dead_close i T h o orderly dead (One conn why) is = by (conn == i) refl
  where
    by : (here : Bool) → (conn == i) ≡ here → cond here (Some (closing why (is_heard h))) None ≡ None
    by false other = refl
    by true same =
        let alive : is_alive i T ≡ true = ap (λ n. is_alive n T) (sym (eqb-true conn i same)) ∙ ordered_closes conn T h o why orderly is in
        absurd (cc)
dead_close i T h o orderly dead All is = ap (λ b. close_by i b (is_heard h) All) dead

-- Nothing happens to a connection that is retired.
record Rests (i : ℕ) (T : List HistoryEntry) (h : Happening) (o : Outcome) : Type 0 where
  piece : pieces_to i o.to_client ≡ []
  close : close_in i (entry h o ∷ T) ≡ close_in i T

rests : (i : ℕ) (T : List HistoryEntry) (h : Happening) (o : Outcome) → IsOrderly T (entry h o) → Orders T h o → (is_alive i T ≡ false) ⊎ (is_some (fault_in T) ≡ true) → Rests i T h o
rests i T h o orderly orders (inl dead) = record {
  piece = dead_piece i T h o orders dead o.to_client refl;
  close = ap (option_or (close_in i T)) (dead_close i T h o orderly dead o.closed refl) ∙ or_none (close_in i T);
}
rests i T h o orderly (past cause fault same) (inr ended) = record {
  piece = ap (λ (x : Outcome). pieces_to i x.to_client) same;
  close = ap (λ (x : Outcome). option_or (close_in i T) (close_by i (is_alive i T) (is_heard h) x.closed)) same ∙ or_none (close_in i T);
}
rests i T h o orderly (falls_down cause fault may same) (inr ended) = let no : is_some (fault_in T) ≡ false = ap (λ (f : Option UpCause). is_some f) fault in absurd (cc)
rests i T h o orderly (goes_on fault none event) (inr ended) = let no : is_some (fault_in T) ≡ false = ap (λ (f : Option UpCause). is_some f) fault in absurd (cc)

none_before : (ending more : Option Ending) → option_or ending more ≡ None → ending ≡ None
none_before None more is = refl
none_before (Some ending) more is = cc

over_or_dead : (i : ℕ) (T : List HistoryEntry) (ending : Option Ending) → (ending ≡ None → is_alive i T ≡ false) → (ending ≡ None) ⊎ (is_some (fault_in T) ≡ true) → (is_alive i T ≡ false) ⊎ (is_some (fault_in T) ≡ true)
over_or_dead i T ending dead (inl none) = inl (dead none)
over_or_dead i T ending dead (inr ended) = inr ended

pub receipt_more : (i : ℕ) (receipt : Receipt) (fall falls : Option Fall) (ending more : Option Ending) (T : List HistoryEntry) (h : Happening) (o : Outcome) → IsOrderly T (entry h o) → Orders T h o
    → (ending ≡ None) ⊎ (is_some (fault_in T) ≡ true) → enters_here i h ≡ false → arrival_here i h ≡ [] → lags_here i h ≡ false
    → IsReceipt i receipt fall ending T → IsReceipt i receipt (option_or fall falls) (option_or ending more) (entry h o ∷ T)
receipt_more i receipt fall falls ending more T h o orderly orders open_or_over stranger unasked unlagged was =
    let rest = rests i T h o orderly orders (over_or_dead i T ending was.over open_or_over) in
    record {
      over = λ none. dead_more i T h o stranger (was.over (none_before ending more none));
      tells = record {
        conn = was.tells.conn;
        arrived = was.tells.arrived ∙ ap (λ (l : List Shape). length l) (sym (append-nil (arrivals i T)) ∙ ap (λ (l : List Shape). arrivals i T ++ l) (sym unasked));
        put = was.tells.put;
        fulls = was.tells.fulls;
        handed = was.tells.handed;
        is_handed = handed_same i was.tells.put was.tells.fulls T h o rest.piece (λ l. absurd (cc)) was.tells.is_handed;
        excused = λ some. excused_more i None None fall falls ending more T h o (λ x. x) (was.tells.excused some);
        why = was.tells.why ∙ ap close_why (sym rest.close);
        by_upstream = was.tells.by_upstream ∙ ap by_upstream_of (sym rest.close);
      };
    }

-- Connections stay numbered.
or_right_is : (a b : Bool) → b ≡ true → (a || b) ≡ true
or_right_is true b is = refl
or_right_is false b is = is

or_both : (a b : Bool) → a ≡ false → b ≡ false → (a || b) ≡ false
or_both true b is other = cc
or_both false b is other = other

or_case : (a b : Bool) → (a || b) ≡ true → (a ≡ true) ⊎ (b ≡ true)
or_case true b is = inl refl
or_case false b is = inr is

lag_conn : (i : ℕ) (h : Happening) → lags_here i h ≡ true → h ≡ lags i
lag_conn i (enters conn) is = cc
lag_conn i (takes conn shape) is = cc
lag_conn i (ends conn) is = cc
lag_conn i (lags conn) is = ap (λ n. lags n) (eqb-true conn i is)
lag_conn i (hears shape) is = cc
lag_conn i (up_ends why) is = cc

-- One that is found too slow is not alive then.
lag_dies : (i : ℕ) (T : List HistoryEntry) (h : Happening) (o : Outcome) → Orders T h o → h ≡ lags i → (is_some (fault_in T) ≡ true → is_alive i T ≡ false) → is_alive i (entry h o ∷ T) ≡ false
lag_dies i T h o orders is ended = alive_after i T (entry h o) (ap (λ (x : Happening). enters_here i x) is) ∙ by orders
  where
    dead_by : (alive : Bool) → is_alive i T ≡ alive → stays_alive i (cond alive (One i whys.Slow) Nobody) alive ≡ false
    dead_by false d = refl
    dead_by true d = ap (λ b. not b && true) (eq-eqb i i refl)

    by : Orders T h o → stays_alive i o.closed (is_alive i T) ≡ false
    by (past cause fault same) = ap (λ (x : Outcome). stays_alive i x.closed (is_alive i T)) same ∙ ended (ap (λ (f : Option UpCause). is_some f) fault)
    by (falls_down cause fault may same) = ap (λ (x : Outcome). stays_alive i x.closed (is_alive i T)) same
    by (goes_on fault none event) =
        let e : IsOrderlyEvent T (lags i) o = subst (λ (x : Happening). IsOrderlyEvent T x o) is event in
        ap (λ (c : Closed). stays_alive i c (is_alive i T)) e.1 ∙ dead_by (is_alive i T) refl

-- One that ends is not alive then.
pub end_dies : (i : ℕ) (T : List HistoryEntry) (h : Happening) (o : Outcome) → Orders T h o → h ≡ ends i → fault_in T ≡ None → is_alive i (entry h o ∷ T) ≡ false
end_dies i T h o orders is standing = alive_after i T (entry h o) (ap (λ (x : Happening). enters_here i x) is) ∙ by orders
  where
    dead_by : (alive : Bool) → stays_alive i (cond alive (One i whys.Ended) Nobody) alive ≡ false
    dead_by false = refl
    dead_by true = ap (λ b. not b && true) (eq-eqb i i refl)

    by : Orders T h o → stays_alive i o.closed (is_alive i T) ≡ false
    by (past cause fault same) = absurd (cc)
    by (falls_down cause fault may same) = ap (λ (x : Outcome). stays_alive i x.closed (is_alive i T)) same
    by (goes_on fault none event) =
        let e : IsOrderlyEvent T (ends i) o = subst (λ (x : Happening). IsOrderlyEvent T x o) is event in
        ap (λ (c : Closed). stays_alive i c (is_alive i T)) e.1 ∙ dead_by (is_alive i T)

unentered_dead : (i : ℕ) (T : List HistoryEntry) → ever_entered i T ≡ false → is_alive i T ≡ false
unentered_dead i T never = ap (λ b. b && is_empty_list (shut i T)) (never_part T i never)

nothing_more : (i : ℕ) (T : List HistoryEntry) (h : Happening) (o : Outcome) → IsOrderly T (entry h o) → Orders T h o → ever_entered i T ≡ false → arrival_here i h ≡ [] → HadNothing i T → HadNothing i (entry h o ∷ T)
nothing_more i T h o orderly orders never unasked was =
    let rest = rests i T h o orderly orders (inl (unentered_dead i T never)) in
    record {
      came = ap (λ (l : List Shape). l ++ arrival_here i h) was.came ∙ unasked;
      handed = ap (λ (l : List (List ℕ)). l ++ sent i T) rest.piece ∙ was.handed;
      closed = rest.close ∙ was.closed;
    }

pub numbered_more : (count : ℕ) (T : List HistoryEntry) (h : Happening) (o : Outcome) → IsOrderly T (entry h o) → Orders T h o → ((i : ℕ) → enters_here i h ≡ false) → ((i : ℕ) → count ≤ i → arrival_here i h ≡ []) → ((i : ℕ) → lags_here i h ≡ true → i < count)
    → ((i : ℕ) → lags_here i h ≡ true → is_some (fault_in T) ≡ true → is_alive i T ≡ false) → AreNumbered count T → AreNumbered count (entry h o ∷ T)
numbered_more count T h o orderly orders stranger unasked within ended was = record {
  bound = was.bound;
  old = λ i less. or_right_is (enters_here i h && is_none (fault_in T)) (entered i T) (was.old i less);
  new = λ i more. or_both (enters_here i h) (ever_entered i T) (stranger i) (was.new i more);
  slow = λ i is. elim (or_case (lags_here i h) (lagged i T) is) [
    | inl here ↦ (within i here, lag_dies i T h o orders (lag_conn i h here) (ended i here))
    | inr before ↦ let w = was.slow i before in (w.0, dead_more i T h o (stranger i) w.1)
  ];
  none = λ i beyond. nothing_more i T h o orderly orders (was.new i beyond) (unasked i beyond) (was.none i beyond);
}

-- After the end of the connection to the server no one who entered before it is alive.
pub ended_dead : (i : ℕ) (T : List HistoryEntry) (fall : Option Bool) (was : Option Close) → entered i T ≡ true → is_some fall ≡ true → close_in i T ≡ option_or was (fall_close fall) → is_alive i T ≡ false
ended_dead i T fall was en fell is = alive_unclosed i T en ∙ ap (λ (c : Option Close). is_none c) is ∙ by was fall fell
  where
    by : (c : Option Close) (f : Option Bool) → is_some f ≡ true → is_none (option_or c (fall_close f)) ≡ false
    by (Some c) f is = refl
    by None None is = cc
    by None (Some heard) is = refl

pub fall_some : (T : List HistoryEntry) → is_some (fault_in T) ≡ true → is_some (fall_in T) ≡ true
fall_some [] is = cc
fall_some (e ∷ T) is = by (fault_in T) e.outcome.fault refl refl is (fall_some T)
  where
    some_first : (a b : Option Bool) → is_some a ≡ true → is_some (option_or a b) ≡ true
    some_first None b some = cc
    some_first (Some a) b some = refl

    some_next : (a : Option Bool) (heard : Bool) → is_some (option_or a (Some heard)) ≡ true
    some_next None heard = refl
    some_next (Some a) heard = refl

    by : (before now : Option UpCause) → fault_in T ≡ before → e.outcome.fault ≡ now → is_some (option_or before now) ≡ true → (is_some (fault_in T) ≡ true → is_some (fall_in T) ≡ true) → is_some (fall_in (e ∷ T)) ≡ true
    by (Some cause) now was at some before = some_first (fall_in T) _ (before (ap (λ (f : Option UpCause). is_some f) was))
    by None (Some cause) was at some before =
        ap (λ (f : Option UpCause). is_some (option_or (fall_in T) (fall_by (is_some f) (is_heard e.happening)))) at ∙ some_next (fall_in T) (is_heard e.happening)
    by None None was at none before = cc

-- An ending that is kept has its cause.
pub cause_more : (faults count : ℕ) (ending : Option Ending) (T : List HistoryEntry) (h : Happening) (o : Outcome) → EndsRightly faults count ending T → EndsRightly faults count (option_or ending (ending_by o.fault)) (entry h o ∷ T)
cause_more faults count None T h o none = by o.fault refl
  where
    by : (fault : Option UpCause) → o.fault ≡ fault → EndsRightly faults count (ending_by fault) (entry h o ∷ T)
    by None is = ap (λ (f : Option UpCause). option_or f o.fault) none ∙ is
    by (Some cause) is = ap (λ (f : Option UpCause). option_or f o.fault) none ∙ is
cause_more faults count (Some (Upstream cause)) T h o is = ap (λ (f : Option UpCause). option_or f o.fault) is
cause_more faults count (Some (Stopped why)) T h o is = is
