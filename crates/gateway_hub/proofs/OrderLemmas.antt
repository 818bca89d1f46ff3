-- What an entry that follows hands out and closes, by how it stands to the end of the connection to the server.
use Rattle.std.proofs.Common.{◌≡◌, ◌∙◌, ℕ, Bool, true, false, cond, List, Option, Some, None, refl, sym, ap, subst}
use Rattle.client_machine.specs.declared.why.CloseWhy.{CloseWhy}
use Rattle.gateway_claim.specs.declared.event.Closed.TheVariants.{Nobody, One, All}
use Rattle.gateway_claim.specs.declared.event.Outcome.{Outcome}
use Rattle.gateway_claim.specs.declared.event.ToClient.{ToClient}
use Rattle.gateway_claim.specs.declared.event.UpCause.{UpCause}
use Rattle.gateway_claim.specs.declared.event.UpCause.TheVariants as causes
use Rattle.gate_transcript.specs.declared.entry.UpWhy.{UpWhy}
use Rattle.gate_transcript.specs.declared.entry.UpWhy.TheVariants as whys
use Rattle.gateway_claim.specs.Happenings.{Happening, enters, takes, ends, lags, hears, up_ends, HistoryEntry, fault_in, is_alive, silent, nothing_up}
use Rattle.gateway_claim.specs.Cores.{HandsToLiving, ClosesAtMostOne, IsOrderlyEvent, closing_all, is_from_outside, MayEndServer, IsOrderlyBy, IsOrderlyAfter, IsOrderly}
use Rattle.gateway_hub.specs.Endings.{fell_full}
use Rattle.gateway_hub.specs.Take.{may_hand, may_ask}

-- An entry stands after the end of the connection to the server, or is that end, or neither.
pub data Orders (T : List HistoryEntry) (h : Happening) (o : Outcome) : Type 0 where
  past : (cause : UpCause) → fault_in T ≡ Some cause → o ≡ silent → Orders T h o
  falls_down : (cause : UpCause) → fault_in T ≡ None → MayEndServer h cause → o ≡ closing_all cause → Orders T h o
  goes_on : fault_in T ≡ None → o.fault ≡ None → IsOrderlyEvent T h o → Orders T h o

ordered_by : (T : List HistoryEntry) (h : Happening) (o : Outcome) (fault : Option UpCause) → fault_in T ≡ None → o.fault ≡ fault → IsOrderlyBy fault T (record { happening = h; outcome = o }) → Orders T h o
ordered_by T h o None open_still is orderly = goes_on open_still is orderly
ordered_by T h o (Some cause) open_still is orderly = falls_down cause open_still orderly.0 orderly.1

ordered_after : (T : List HistoryEntry) (h : Happening) (o : Outcome) (fault : Option UpCause) → fault_in T ≡ fault → IsOrderlyAfter fault T (record { happening = h; outcome = o }) → Orders T h o
ordered_after T h o None is orderly = ordered_by T h o o.fault is refl orderly
ordered_after T h o (Some cause) is orderly = past cause is orderly

pub ordered : (T : List HistoryEntry) (h : Happening) (o : Outcome) → IsOrderly T (record { happening = h; outcome = o }) → Orders T h o
ordered T h o orderly = ordered_after T h o (fault_in T) refl orderly

-- What is handed to a client goes to one that is alive, and only an item hands it something.
hands_living : (T : List HistoryEntry) (h : Happening) (o : Outcome) (piece : ToClient) → o.to_client ≡ Some piece → IsOrderlyEvent T h o → (is_alive piece.conn T ≡ true) × (may_hand h ≡ true)
hands_living T (enters conn) o piece is orderly = let none : o.to_client ≡ None = ap (λ (x : Outcome). x.to_client) orderly in absurd (cc)
hands_living T (takes conn shape) o piece is orderly = (subst (HandsToLiving T) is orderly.0, refl)
hands_living T (ends conn) o piece is orderly = let none : o.to_client ≡ None = orderly.0 in absurd (cc)
hands_living T (lags conn) o piece is orderly = let none : o.to_client ≡ None = orderly.0 in absurd (cc)
hands_living T (hears shape) o piece is orderly = (subst (HandsToLiving T) is orderly.0, refl)
hands_living T (up_ends why) o piece is orderly = absurd orderly

pub handed_living : (T : List HistoryEntry) (h : Happening) (o : Outcome) (piece : ToClient) → o.to_client ≡ Some piece → Orders T h o → (is_alive piece.conn T ≡ true) × (may_hand h ≡ true)
handed_living T h o piece is (past cause fault orderly) = let none : o.to_client ≡ None = ap (λ (x : Outcome). x.to_client) orderly in absurd (cc)
handed_living T h o piece is (falls_down cause fault may orderly) = let none : o.to_client ≡ None = ap (λ (x : Outcome). x.to_client) orderly in absurd (cc)
handed_living T h o piece is (goes_on fault none orderly) = hands_living T h o piece is orderly

-- An event that may ask the server nothing asks it nothing.
asks_nothing : (T : List HistoryEntry) (h : Happening) (o : Outcome) → may_ask h ≡ false → IsOrderlyEvent T h o → o.to_up ≡ nothing_up
asks_nothing T (enters conn) o may orderly = ap (λ (x : Outcome). x.to_up) orderly
asks_nothing T (takes conn shape) o may orderly = absurd (cc)
asks_nothing T (ends conn) o may orderly = absurd (cc)
asks_nothing T (lags conn) o may orderly = absurd (cc)
asks_nothing T (hears shape) o may orderly = absurd (cc)
asks_nothing T (up_ends why) o may orderly = absurd orderly

pub asked_nothing : (T : List HistoryEntry) (h : Happening) (o : Outcome) → may_ask h ≡ false → Orders T h o → o.to_up ≡ nothing_up
asked_nothing T h o may (past cause fault orderly) = ap (λ (x : Outcome). x.to_up) orderly
asked_nothing T h o may (falls_down cause fault m orderly) = ap (λ (x : Outcome). x.to_up) orderly
asked_nothing T h o may (goes_on fault none orderly) = asks_nothing T h o may orderly

-- While the connection to the server goes on, not all are closed.
not_all : (T : List HistoryEntry) (h : Happening) (o : Outcome) → o.closed ≡ All → IsOrderlyEvent T h o → ⊥
not_all T (enters conn) o all orderly = let none : o.closed ≡ Nobody = ap (λ (x : Outcome). x.closed) orderly in cc
not_all T (takes conn shape) o all orderly = subst (ClosesAtMostOne T _) all orderly.1
not_all T (ends conn) o all orderly = closed_not_all (is_alive conn T) conn _ (sym orderly.1 ∙ all)
  where
    closed_not_all : (alive : Bool) (conn : ℕ) (why : CloseWhy) → cond alive (One conn why) Nobody ≡ All → ⊥
    closed_not_all true conn why is = cc
    closed_not_all false conn why is = cc
not_all T (lags conn) o all orderly = closed_not_all (is_alive conn T) conn _ (sym orderly.1 ∙ all)
  where
    closed_not_all : (alive : Bool) (conn : ℕ) (why : CloseWhy) → cond alive (One conn why) Nobody ≡ All → ⊥
    closed_not_all true conn why is = cc
    closed_not_all false conn why is = cc
not_all T (hears shape) o all orderly = subst (ClosesAtMostOne T _) all orderly.1
not_all T (up_ends why) o all orderly = orderly

pub goes_not_all : (T : List HistoryEntry) (h : Happening) (o : Outcome) → IsOrderlyEvent T h o → o.closed ≡ All → ⊥
goes_not_all T h o orderly all = not_all T h o all orderly

-- A cause that is UpFull is that of an end for that reason.
full_cause : (why : UpWhy) (cause : UpCause) → fell_full (Some cause) ≡ true → cause ≡ Rattle.gateway_claim.specs.Happenings.cause_of why → why ≡ whys.UpFull
full_cause whys.Ended cause full is = let e : fell_full (Some cause) ≡ false = ap (λ (c : UpCause). fell_full (Some c)) is in absurd (cc)
full_cause whys.ReadFault cause full is = let e : fell_full (Some cause) ≡ false = ap (λ (c : UpCause). fell_full (Some c)) is in absurd (cc)
full_cause whys.WriteFault cause full is = let e : fell_full (Some cause) ≡ false = ap (λ (c : UpCause). fell_full (Some c)) is in absurd (cc)
full_cause whys.UpFull cause full is = refl

outside_full : (cause : UpCause) → fell_full (Some cause) ≡ true → is_from_outside cause ≡ true
outside_full causes.UpFull full = refl
outside_full (causes.Framing fault) full = absurd (cc)
outside_full (causes.UnknownReply number) full = absurd (cc)
outside_full (causes.BadGrant number) full = absurd (cc)
outside_full (causes.SessionTaken number) full = absurd (cc)
outside_full causes.CseqSpent full = absurd (cc)
outside_full causes.Ended full = absurd (cc)
outside_full causes.ReadFault full = absurd (cc)
outside_full causes.WriteFault full = absurd (cc)

pub full_event : (h : Happening) (cause : UpCause) → fell_full (Some cause) ≡ true → MayEndServer h cause → h ≡ up_ends whys.UpFull
full_event (enters conn) cause full may = absurd may
full_event (takes conn shape) cause full may = let e = outside_full cause full in let m : is_from_outside cause ≡ false = may in absurd (cc)
full_event (ends conn) cause full may = let e = outside_full cause full in let m : is_from_outside cause ≡ false = may in absurd (cc)
full_event (lags conn) cause full may = let e = outside_full cause full in let m : is_from_outside cause ≡ false = may in absurd (cc)
full_event (hears shape) cause full may = let e = outside_full cause full in let m : is_from_outside cause ≡ false = may in absurd (cc)
full_event (up_ends why) cause full may = ap (λ (w : UpWhy). up_ends w) (full_cause why cause full may)

-- And the end for that reason has that cause.
pub ended_full : (T : List HistoryEntry) (h : Happening) (o : Outcome) → h ≡ up_ends whys.UpFull → fault_in T ≡ None → Orders T h o → o.fault ≡ Some causes.UpFull
ended_full T h o is open_still (past cause fault orderly) = absurd (cc)
ended_full T h o is open_still (falls_down cause fault may orderly) =
    ap (λ (x : Outcome). x.fault) orderly ∙ ap (λ (c : UpCause). let told : Option UpCause = Some c in told) (subst (λ (x : Happening). MayEndServer x cause) is may)
ended_full T h o is open_still (goes_on fault none orderly) = absurd (subst (λ (x : Happening). IsOrderlyEvent T x o) is orderly)
