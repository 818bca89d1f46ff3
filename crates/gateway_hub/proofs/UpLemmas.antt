-- One event more: what was put for the server.
use Rattle.std.proofs.Common.{◌≡◌, ◌∙◌, ◌<◌, Bool, true, false, List, [], ◌∷◌, ◌++◌, Option, Some, refl, sym, ap, subst, arith}
use Rattle.std.specs.Prelude.{is_some}
use Rattle.std.specs.Option.{option_or}
use Rattle.std.proofs.lemmas.List.{append-nil}
use Rattle.client_ports.specs.declared.parcel.Parcel.{Parcel}
use Rattle.client_ports.specs.declared.putter.Putter.{Putter}
use Rattle.client_ports.specs.Ends.{put_of, fulls_of}
use Rattle.gateway_claim.specs.declared.event.Outcome.{Outcome}
use Rattle.gateway_claim.specs.declared.event.ToUp.{ToUp}
use Rattle.gateway_claim.specs.declared.event.UpCause.{UpCause}
use Rattle.gate_transcript.specs.declared.entry.UpWhy.TheVariants as whys
use Rattle.gateway_claim.specs.Happenings.{Happening, HistoryEntry, up_ends, fault_in, nothing_up}
use Rattle.gateway_hub.specs.Endings.{fell_full}
use Rattle.hub_queues.specs.Parcels.{up_parcels, handed_up}
use Rattle.hub_queues.specs.Places.{Lacks, PutsAll}
use Rattle.gateway_hub.specs.Keeps.{IsHandedUp}
use Rattle.gateway_hub.specs.Take.{may_ask}
use Rattle.gateway_hub.proofs.OrderLemmas.{Orders, past, falls_down, goes_on, asked_nothing, full_event}
use Rattle.gateway_hub.proofs.HistoryLemmas.{entry}

some_of : (o : Option UpCause) (cause : UpCause) → o ≡ Some cause → is_some o ≡ true
some_of o cause is = ap (λ (x : Option UpCause). is_some x) is

-- Nothing is handed to the server.
up_same : (full : Bool) (before after : Putter) (T : List HistoryEntry) (h : Happening) (o : Outcome) → up_parcels o.to_up ≡ [] → PutsAll (up_parcels o.to_up) full before after
    → (fell_full (fault_in (entry h o ∷ T)) ≡ true → 0 < fulls_of before) → IsHandedUp (put_of before) (fulls_of before) T → IsHandedUp (put_of after) (fulls_of after) (entry h o ∷ T)
up_same full before after T h o none puts fell was =
    let landed = puts.landed (puts.none none) in
    let put : put_of after ≡ put_of before = landed.0 ∙ ap (λ (l : List Parcel). put_of before ++ l) none ∙ append-nil (put_of before) in
    let fulls : fulls_of after ≡ fulls_of before = landed.1 in
    let all : handed_up (entry h o ∷ T) ≡ handed_up T = ap (λ (l : List Parcel). handed_up T ++ l) none ∙ append-nil (handed_up T) in
    record {
      whole = λ z. put ∙ was.whole (sym fulls ∙ z) ∙ sym all;
      cut = λ some. subst (λ (l : List Parcel). Lacks l (put_of after)) (sym all) (subst (λ (l : List Parcel). Lacks (handed_up T) l) (sym put) (was.cut (omega arith)));
      full = λ f. let some = fell f in omega arith;
    }

-- It is handed something while its port was never full: that is put, or the port is full now.
up_more : (full : Bool) (before after : Putter) (T : List HistoryEntry) (h : Happening) (o : Outcome) → fulls_of before ≡ 0 → PutsAll (up_parcels o.to_up) full before after
    → (fell_full (fault_in (entry h o ∷ T)) ≡ true → 0 < fulls_of before) → IsHandedUp (put_of before) (fulls_of before) T → IsHandedUp (put_of after) (fulls_of after) (entry h o ∷ T)
up_more true before after T h o none puts fell was =
    let refused = puts.refused refl in
    let some : 0 < fulls_of after = refused.1 in
    record {
      whole = λ z. absurd (omega arith);
      cut = λ _. subst (λ (l : List Parcel). Lacks (l ++ up_parcels o.to_up) (put_of after)) (was.whole none) refused.0;
      full = λ _. some;
    }
up_more false before after T h o none puts fell was =
    let landed = puts.landed refl in
    let fulls : fulls_of after ≡ fulls_of before = landed.1 in
    record {
      whole = λ _. landed.0 ∙ ap (λ (l : List Parcel). l ++ up_parcels o.to_up) (was.whole none);
      cut = λ some. absurd (omega arith);
      full = λ f. let some = fell f in absurd (omega arith);
    }

nothing_parcels : (up : ToUp) → up ≡ nothing_up → up_parcels up ≡ []
nothing_parcels up is = ap up_parcels is

pub ups_more : (full : Bool) (before after : Putter) (T : List HistoryEntry) (h : Happening) (o : Outcome) → Orders T h o → PutsAll (up_parcels o.to_up) full before after
    → (may_ask h ≡ true → is_some (fault_in T) ≡ false → fulls_of before ≡ 0) → (h ≡ up_ends whys.UpFull → 0 < fulls_of before)
    → IsHandedUp (put_of before) (fulls_of before) T → IsHandedUp (put_of after) (fulls_of after) (entry h o ∷ T)
ups_more full before after T h o (past cause fault orderly) puts ready fell was =
    up_same full before after T h o (nothing_parcels o.to_up (ap (λ (x : Outcome). x.to_up) orderly)) puts
    (λ f. was.full (subst (λ (c : Option UpCause). fell_full c ≡ true) (ap (λ (c : Option UpCause). option_or c o.fault) fault ∙ sym fault) f)) was
ups_more full before after T h o (falls_down cause fault may orderly) puts ready fell was =
    up_same full before after T h o (nothing_parcels o.to_up (ap (λ (x : Outcome). x.to_up) orderly)) puts
    (λ f. fell (full_event h cause (subst (λ (c : Option UpCause). fell_full c ≡ true) (ap (λ (c : Option UpCause). option_or c o.fault) fault ∙ ap (λ (x : Outcome). x.fault) orderly) f) may)) was
ups_more full before after T h o (goes_on fault none orderly) puts ready fell was = by (may_ask h) refl
  where
    never : fell_full (fault_in (entry h o ∷ T)) ≡ true → 0 < fulls_of before
    never f = let no : fell_full (fault_in (entry h o ∷ T)) ≡ false = ap (λ (c : Option UpCause). fell_full (option_or c o.fault)) fault ∙ ap (λ (c : Option UpCause). fell_full c) none in absurd (cc)

    by : (may : Bool) → may_ask h ≡ may → IsHandedUp (put_of after) (fulls_of after) (entry h o ∷ T)
    by true is = up_more full before after T h o (ready is (ap (λ (c : Option UpCause). is_some c) fault)) puts never was
    by false is = up_same full before after T h o (nothing_parcels o.to_up (asked_nothing T h o is (goes_on fault none orderly))) puts never was
