-- A hub is stopped by its recorder only where that failed.
use Rattle.std.proofs.Common.{◌≡◌, ◌∙◌, ℕ, ◌≤◌, Bool, List, Option, Some, None, Result, Ok, Err, refl, sym, ap, subst, inl, inr, arith}
use Rattle.std.specs.Option.{option_or}
use Rattle.gate_outside.specs.Causes.{Rose}
use Rattle.gate_transcript.specs.declared.entry.Entry.{Entry as Noted}
use Rattle.gate_transcript.specs.declared.recorder.NoteFault.{NoteFault}
use Rattle.gate_transcript.specs.declared.recorder.NoteFault.TheVariants.{Failed, Memory}
use Rattle.gateway_claim.specs.declared.event.UpCause.{UpCause}
use Rattle.gate_transcript.specs.declared.entry.UpWhy.{UpWhy}
use Rattle.gateway_claim.specs.Happenings.{HistoryEntry}
use Rattle.hub_queues.specs.declared.ending.Ending.{Ending}
use Rattle.hub_queues.specs.declared.ending.Ending.TheVariants.{Upstream, Stopped}
use Rattle.hub_queues.specs.declared.ending.StopWhy.{StopWhy}
use Rattle.hub_queues.specs.declared.ending.StopWhy.TheVariants as stops
use Rattle.hub_queues.specs.declared.line.HubConnection.{HubConnection}
use Rattle.gateway_hub.specs.declared.desk.Desk.{Desk}
use Rattle.gateway_hub.specs.declared.fault.HubFault.{HubFault}
use Rattle.gateway_hub.specs.declared.fault.HubFault.TheVariants as faults
use Rattle.gateway_hub.specs.declared.seat.Entered.{Entered}
use Rattle.gateway_hub.specs.declared.seat.Taken.{Taken}
use Rattle.gateway_hub.specs.Calls.{Refuses, Fails, TakesFirst, TakesFirstUp, Shuts, ShutsUp}
use Rattle.gateway_hub.specs.Desks.{ending_by}
use Rattle.gateway_hub.specs.Endings.{ShowsFault, FailsShown}
use Rattle.gateway_hub.specs.Enter.{Enters}
use Rattle.gateway_hub.specs.Take.{IsUntaken, Stops, stop_of}
use Rattle.gateway_hub.proofs.OweLemmas.{is_failed}

-- The ending that was kept is kept.
pub shown_same : (before now : Option Ending) (faulted later : ℕ) → now ≡ before → ShowsFault before now faulted later
shown_same before now faulted later same is = inl (sym same ∙ is)

rose_since : (faulted mid later : ℕ) → faulted ≤ mid → Rose mid later → Rose faulted later
rose_since faulted mid later more rose = omega arith

rose_still : (faulted mid later : ℕ) → mid ≤ later → Rose faulted mid → Rose faulted later
rose_still faulted mid later more rose = omega arith

-- One step, and then another.
pub shown_twice : (before between now : Option Ending) (faulted mid later : ℕ) → faulted ≤ mid → mid ≤ later → ShowsFault before between faulted mid → ShowsFault between now mid later → ShowsFault before now faulted later
shown_twice before between now faulted mid later more more_later first next is = elim (next is) [
  | inl was ↦ elim (first was) [ inl old ↦ inl old | inr rose ↦ inr (rose_still faulted mid later more_later rose) ]
  | inr rose ↦ inr (rose_since faulted mid later more rose)
]

-- The connection to the server may end.
pub shown_fallen : (before now : Option Ending) (fault : Option UpCause) (faulted later : ℕ) → now ≡ option_or before (ending_by fault) → ShowsFault before now faulted later
shown_fallen None now None faulted later is record_kept = let none : now ≡ None = is in absurd (cc)
shown_fallen None now (Some cause) faulted later is record_kept = let some : now ≡ Some (Upstream cause) = is in absurd (cc)
shown_fallen (Some ending) now fault faulted later is record_kept = inl (sym is ∙ record_kept)

stopped_why : (one other : StopWhy) → Some (Stopped one) ≡ Some (Stopped other) → one ≡ other
stopped_why one other is = cc

-- The hub is stopped.
pub shown_stop : (why : StopWhy) (before now : Desk) (faulted later : ℕ) → Stops why before now → (why ≡ stops.Record → Rose faulted later) → ShowsFault before.ending now.ending faulted later
shown_stop why before now faulted later stop rose = by before.ending stop.ending
  where
    by : (old : Option Ending) → now.ending ≡ option_or old (Some (Stopped why)) → ShowsFault old now.ending faulted later
    by None is record_kept = inr (rose (stopped_why why stops.Record (sym is ∙ record_kept)))
    by (Some ending) is record_kept = inl (sym is ∙ record_kept)

-- An event could not be noted, and the hub is stopped.
pub shown_untaken : (fault : NoteFault) (stood stands : List HistoryEntry → Type 0) (told tells : Option (List Noted)) (faulted later : ℕ) (before mid now : Desk) → IsUntaken fault stood stands told tells faulted later before mid → Stops (stop_of fault) mid now
    → ShowsFault before.ending now.ending faulted later
shown_untaken fault stood stands told tells faulted later before mid now untaken stop =
    shown_stop (stop_of fault) before now faulted later (subst (λ (d : Desk). Stops (stop_of fault) d now) untaken.same_desk stop) (λ is. untaken.rose (is_failed fault is))

-- A client's note failed, and the hub is stopped.
pub shown_left : (fault : NoteFault) (stood stands : List HistoryEntry → Type 0) (told tells : Option (List Noted)) (faulted later : ℕ) (before mid left now : Desk) → IsUntaken fault stood stands told tells faulted later before mid → left.ending ≡ mid.ending
    → Stops (stop_of fault) left now → ShowsFault before.ending now.ending faulted later
shown_left fault stood stands told tells faulted later before mid left now untaken same stop =
    subst (λ (e : Option Ending). ShowsFault e now.ending faulted later) (same ∙ ap (λ (d : Desk). d.ending) untaken.same_desk)
    (shown_stop (stop_of fault) left now faulted later stop (λ is. untaken.rose (is_failed fault is)))

-- A call answers that an event could not be planned or noted.
pub shown_refuses : (fault : NoteFault) (answer : HubFault) (before now : Desk) (faulted later : ℕ) → Refuses fault answer before now → (fault ≡ Failed → Rose faulted later) → ShowsFault before.ending now.ending faulted later
shown_refuses Memory answer before now faulted later refuses rose = shown_same before.ending now.ending faulted later (ap (λ (d : Desk). d.ending) refuses.1)
shown_refuses Failed answer before now faulted later refuses rose = shown_stop stops.Record before now faulted later refuses.1 (λ is. rose refl)

pub shown_refused : (fault : NoteFault) (answer : HubFault) (stood stands : List HistoryEntry → Type 0) (told tells : Option (List Noted)) (faulted later : ℕ) (before mid back now : Desk) → IsUntaken fault stood stands told tells faulted later before mid → back.ending ≡ mid.ending
    → Refuses fault answer back now → ShowsFault before.ending now.ending faulted later
shown_refused fault answer stood stands told tells faulted later before mid back now untaken same refuses =
    subst (λ (e : Option Ending). ShowsFault e now.ending faulted later) (same ∙ ap (λ (d : Desk). d.ending) untaken.same_desk) (shown_refuses fault answer back now faulted later refuses untaken.rose)

-- What a call answers is so.
fails_shown : (fault : HubFault) (kept keeps : List HistoryEntry → Type 0) (before now : Option Ending) (faulted later : ℕ) → Fails fault kept keeps before now → ShowsFault before now faulted later → fault ≡ faults.RecordFault → Rose faulted later
fails_shown (faults.Ended cause) kept keeps before now faulted later fails shown is = absurd (cc)
fails_shown (faults.Stopped why) kept keeps before now faulted later fails shown is = absurd (cc)
fails_shown faults.RecordFault kept keeps before now faulted later fails shown is = elim (shown fails.2) [ inl was ↦ let none : before ≡ None = fails.0 in absurd (cc) | inr rose ↦ rose ]
fails_shown faults.Memory kept keeps before now faulted later fails shown is = absurd (cc)

pub takes_shown : (conn : ℕ) (busy : List HistoryEntry → Bool) (result : Result Taken HubFault) (kept keeps : List HistoryEntry → Type 0) (before now : Desk) (faulted later : ℕ) → TakesFirst conn busy result kept keeps before now → ShowsFault before.ending now.ending faulted later → FailsShown result faulted later
takes_shown conn busy (Ok taken) kept keeps before now faulted later takes shown = tt
takes_shown conn busy (Err fault) kept keeps before now faulted later takes shown = fails_shown fault kept keeps before.ending now.ending faulted later takes shown

pub takes_up_shown : (result : Result Bool HubFault) (kept keeps : List HistoryEntry → Type 0) (before now : Desk) (faulted later : ℕ) → TakesFirstUp result kept keeps before now → ShowsFault before.ending now.ending faulted later → FailsShown result faulted later
takes_up_shown (Ok taken) kept keeps before now faulted later takes shown = tt
takes_up_shown (Err fault) kept keeps before now faulted later takes shown = fails_shown fault kept keeps before.ending now.ending faulted later takes shown

pub shuts_shown : (conn : ℕ) (line : Option HubConnection) (result : Result (Unit {0}) HubFault) (kept keeps : List HistoryEntry → Type 0) (before now : Desk) (faulted later : ℕ) → Shuts conn line result kept keeps before now → ShowsFault before.ending now.ending faulted later → FailsShown result faulted later
shuts_shown conn line (Ok u) kept keeps before now faulted later shuts shown = tt
shuts_shown conn None (Err fault) kept keeps before now faulted later shuts shown = fails_shown fault kept keeps before.ending now.ending faulted later shuts shown
shuts_shown conn (Some line) (Err fault) kept keeps before now faulted later shuts shown = fails_shown fault kept keeps before.ending now.ending faulted later shuts shown

pub shuts_up_shown : (why : UpWhy) (result : Result (Unit {0}) HubFault) (kept keeps : List HistoryEntry → Type 0) (before now : Desk) (faulted later : ℕ) → ShutsUp why result kept keeps before now → ShowsFault before.ending now.ending faulted later → FailsShown result faulted later
shuts_up_shown why (Ok u) kept keeps before now faulted later shuts shown = tt
shuts_up_shown why (Err fault) kept keeps before now faulted later shuts shown = fails_shown fault kept keeps before.ending now.ending faulted later shuts shown

pub enters_shown : (result : Result Entered HubFault) (kept keeps : List HistoryEntry → Type 0) (before now : Desk) (faulted later : ℕ) → Enters result kept keeps before now → ShowsFault before.ending now.ending faulted later → FailsShown result faulted later
enters_shown (Ok entered) kept keeps before now faulted later enters shown = tt
enters_shown (Err (faults.Ended cause)) kept keeps before now faulted later enters shown = λ is. absurd (cc)
enters_shown (Err (faults.Stopped why)) kept keeps before now faulted later enters shown = λ is. absurd (cc)
enters_shown (Err faults.RecordFault) kept keeps before now faulted later enters shown = fails_shown faults.RecordFault kept keeps before.ending now.ending faulted later enters shown
enters_shown (Err faults.Memory) kept keeps before now faulted later enters shown = λ is. absurd (cc)
