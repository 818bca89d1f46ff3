-- One event more: which full ports are accounted for.
use Rattle.std.proofs.Common.{◌≡◌, ◌∙◌, ℕ, ◌<◌, Bool, true, false, ◌||◌, ◌==◌, List, ◌∷◌, Option, Some, None, refl, sym, ap, subst, inl, inr, arith}
use Rattle.std.specs.Prelude.{◌⊎◌}
use Rattle.std.specs.Option.{option_or}
use Rattle.client_ports.specs.declared.parcel.Parcel.{Parcel}
use Rattle.client_ports.specs.declared.putter.Putter.{Putter}
use Rattle.client_ports.specs.Ends.{fulls_of}
use Rattle.gateway_claim.specs.declared.event.Outcome.{Outcome}
use Rattle.gateway_claim.specs.declared.event.ToClient.{ToClient}
use Rattle.gateway_claim.specs.declared.event.UpCause.{UpCause}
use Rattle.gateway_claim.specs.Happenings.{Happening, HistoryEntry, fault_in}
use Rattle.hub_queues.specs.declared.ending.Ending.{Ending}
use Rattle.hub_queues.specs.declared.ending.Ending.TheVariants.{Upstream, Stopped}
use Rattle.hub_queues.specs.declared.line.HubConnection.{HubConnection}
use Rattle.hub_queues.specs.declared.line.Place.{Place}
use Rattle.hub_queues.specs.Closes.{lags_here, lagged}
use Rattle.gateway_hub.specs.declared.desk.Fall.{Fall}
use Rattle.gateway_hub.specs.Endings.{cut_short, ends_short, leaves_out, stopped_noting, fell_full}
use Rattle.hub_queues.specs.Places.{line_at, PutsBytes, PutsAll, HandsOut, told_full}
use Rattle.hub_queues.specs.declared.receipt.Receipt.{Receipt}
use Rattle.gateway_hub.specs.Keeps.{IsReceipt, is_owed, is_excused, is_server_excused}
use Rattle.gateway_hub.specs.Take.{owes}
use Rattle.gateway_hub.proofs.HistoryLemmas.{entry}
use Rattle.gateway_hub.proofs.LineLemmas.{was_before}

-- What holds of one of two, holds after either grew.
or_left : (a b : Bool) → a ≡ true → (a || b) ≡ true
or_left true b is = refl
or_left false b is = cc

or_right : (a b : Bool) → b ≡ true → (a || b) ≡ true
or_right true b is = refl
or_right false b is = is

or_case : (a b : Bool) → (a || b) ≡ true → (a ≡ true) ⊎ (b ≡ true)
or_case true b is = inl refl
or_case false b is = inr is

or_more : (a b c d : Bool) → (a ≡ true → c ≡ true) → (b ≡ true → d ≡ true) → (a || b) ≡ true → (c || d) ≡ true
or_more a b c d first next is = elim (or_case a b is) [ inl x ↦ or_left c d (first x) | inr y ↦ or_right c d (next y) ]

-- An ending that is kept stays.
left_stays : (fall more : Option Fall) → leaves_out fall ≡ true → leaves_out (option_or fall more) ≡ true
left_stays None more is = cc
left_stays (Some fall) more is = is

pub cut_stays : (fall falls : Option Fall) (ending more : Option Ending) → cut_short fall ending ≡ true → cut_short (option_or fall falls) (option_or ending more) ≡ true
cut_stays fall falls None more is = cc
cut_stays fall falls (Some (Upstream cause)) more is = left_stays fall falls is
cut_stays fall falls (Some (Stopped why)) more is = is

pub short_stays : (ending more : Option Ending) → ends_short ending ≡ true → ends_short (option_or ending more) ≡ true
short_stays None more is = cc
short_stays (Some ending) more is = is

-- who is accounted for, and what a receipt tells, where the ending is the same
pub excused_as : (i : ℕ) (owed : Option ℕ) (fall fell : Option Fall) (ending ended : Option Ending) (T : List HistoryEntry) → fell ≡ fall → ended ≡ ending → is_excused i owed fall ending T ≡ true → is_excused i owed fell ended T ≡ true
excused_as i owed fall fell ending ended T falls ends is =
    subst (λ (f : Option Fall). is_excused i owed f ended T ≡ true) (sym falls) (subst (λ (e : Option Ending). is_excused i owed fall e T ≡ true) (sym ends) is)

pub receipt_as : (i : ℕ) (receipt : Receipt) (fall fell : Option Fall) (ending ended : Option Ending) (T : List HistoryEntry) → fell ≡ fall → ended ≡ ending → IsReceipt i receipt fall ending T → IsReceipt i receipt fell ended T
receipt_as i receipt fall fell ending ended T falls ends is =
    subst (λ (f : Option Fall). IsReceipt i receipt f ended T) (sym falls) (subst (λ (e : Option Ending). IsReceipt i receipt fall e T) (sym ends) is)

pub stop_stays : (ending : Option Ending) (more : Option Ending) → stopped_noting ending ≡ true → stopped_noting (option_or ending more) ≡ true
stop_stays None more is = cc
stop_stays (Some ending) more is = is

pub full_stays : (T : List HistoryEntry) (h : Happening) (o : Outcome) → fell_full (fault_in T) ≡ true → fell_full (fault_in (entry h o ∷ T)) ≡ true
full_stays T h o is = by (fault_in T) is
  where
    by : (fault : Option UpCause) → fell_full fault ≡ true → fell_full (option_or fault o.fault) ≡ true
    by None is = cc
    by (Some cause) is = is

pub excused_more : (i : ℕ) (owed owing : Option ℕ) (fall falls : Option Fall) (ending more : Option Ending) (T : List HistoryEntry) (h : Happening) (o : Outcome) → (is_owed owed i ≡ true → is_owed owing i ≡ true)
    → is_excused i owed fall ending T ≡ true → is_excused i owing (option_or fall falls) (option_or ending more) (entry h o ∷ T) ≡ true
excused_more i owed owing fall falls ending more T h o grows is =
    or_more (lagged i T) (cut_short fall ending || is_owed owed i) (lagged i (entry h o ∷ T)) (cut_short (option_or fall falls) (option_or ending more) || is_owed owing i)
    (λ l. or_right (lags_here i h) (lagged i T) l)
    (λ r. or_more (cut_short fall ending) (is_owed owed i) (cut_short (option_or fall falls) (option_or ending more)) (is_owed owing i) (cut_stays fall falls ending more) grows r)
    is

owes_more : (refused owed : Option ℕ) (i : ℕ) → (owed ≡ None) ⊎ (refused ≡ None) → is_owed owed i ≡ true → is_owed (owes refused owed) i ≡ true
owes_more None owed i one is = is
owes_more (Some conn) None i one is = cc
owes_more (Some conn) (Some other) i (inl none) is = cc
owes_more (Some conn) (Some other) i (inr none) is = cc

-- who is accounted for among the lines
abbrev pub Excuses : Option ℕ → Option Fall → Option Ending → List Place → List HistoryEntry → Type 0
Excuses owed fall ending places history = (i : ℕ) (line : HubConnection) → line_at places i ≡ Some line → 0 < fulls_of line.outward → is_excused i owed fall ending history ≡ true

owed_here : (conn i : ℕ) (fall : Option Fall) (ending : Option Ending) (T : List HistoryEntry) → (conn == i) ≡ true → is_excused i (Some conn) fall ending T ≡ true
owed_here conn i fall ending T here = or_right (lagged i T) (cut_short fall ending || (conn == i)) (or_right (cut_short fall ending) (conn == i) here)

pub excuses_more : (before after : List Place) (piece : Option ToClient) (refused owed : Option ℕ) (fall falls : Option Fall) (ending more : Option Ending) (T : List HistoryEntry) (h : Happening) (o : Outcome) → HandsOut piece refused before after → (owed ≡ None) ⊎ (refused ≡ None)
    → Excuses owed fall ending before T → Excuses (owes refused owed) (option_or fall falls) (option_or ending more) after (entry h o ∷ T)
excuses_more before after None refused owed fall falls ending more T h o out one excuses i line at some =
    let was : line_at before i ≡ Some line = ap (λ (l : List Place). line_at l i) (sym out.1) ∙ at in
    excused_more i owed (owes refused owed) fall falls ending more T h o (owes_more refused owed i one) (excuses i line was some)
excuses_more before after (Some piece) refused owed fall falls ending more T h o out one excuses i line at some =
    let w = was_before piece.conn _ before after out.2 i line at in
    let old : (0 < fulls_of w.0.outward → is_excused i (owes refused owed) (option_or fall falls) (option_or ending more) (entry h o ∷ T) ≡ true) = λ s. excused_more i owed (owes refused owed) fall falls ending more T h o (owes_more refused owed i one) (excuses i w.0 w.1 s) in
    elim w.2 [
      | inl x ↦ by out.0 out.1 x.0 x.1 old
      | inr x ↦ old (subst (λ (p : Putter). 0 < fulls_of p) (ap (λ (l : HubConnection). l.outward) x.1) some)
    ]
  where
    by : (full : Bool) → refused ≡ told_full full piece.conn → (piece.conn == i) ≡ true → {was : HubConnection} → PutsBytes piece.bytes full was line → (0 < fulls_of was.outward → is_excused i (owes refused owed) (option_or fall falls) (option_or ending more) (entry h o ∷ T) ≡ true)
        → is_excused i (owes refused owed) (option_or fall falls) (option_or ending more) (entry h o ∷ T) ≡ true
    by true told here puts old = subst (λ (r : Option ℕ). is_excused i (owes r owed) (option_or fall falls) (option_or ending more) (entry h o ∷ T) ≡ true) (sym told) (owed_here piece.conn i (option_or fall falls) (option_or ending more) (entry h o ∷ T) here)
    by false told here puts old = old (let same = puts.outward.landed refl in omega arith)

pub up_excused_more : (full owed : Bool) (parcels : List Parcel) (before after : Putter) (ending more : Option Ending) (T : List HistoryEntry) (h : Happening) (o : Outcome) → PutsAll parcels full before after
    → (0 < fulls_of before → is_server_excused owed ending T ≡ true) → 0 < fulls_of after → is_server_excused (full || owed) (option_or ending more) (entry h o ∷ T) ≡ true
up_excused_more true owed parcels before after ending more T h o puts excused some =
    or_right (fell_full (fault_in (entry h o ∷ T))) (stopped_noting (option_or ending more) || true) (or_right (stopped_noting (option_or ending more)) true refl)
up_excused_more false owed parcels before after ending more T h o puts excused some =
    let same = (puts.landed refl).1 in
    or_more (fell_full (fault_in T)) (stopped_noting ending || owed) (fell_full (fault_in (entry h o ∷ T))) (stopped_noting (option_or ending more) || owed)
    (full_stays T h o)
    (λ r. or_more (stopped_noting ending) owed (stopped_noting (option_or ending more)) owed (stop_stays ending more) (λ x. x) r)
    (excused (omega arith))
