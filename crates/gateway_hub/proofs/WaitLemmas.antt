-- No request waits in the history that a core stands for: not where the core goes on standing for it, and not after an event
-- more, unless that is an item of a client with which the core is busy.
use Rattle.std.proofs.Common.{◌≡◌, ℕ, Bool, List, ◌∷◌, sym, subst}
use Rattle.rtsp_uri.specs.declared.base.Bases.{Bases}
use Rattle.gateway_claim.specs.Happenings.{HistoryEntry}
use Rattle.gateway_claim.specs.Cores.{IsCoreHistory, IsTimely, NoneWaits}
use Rattle.gateway_claim.proofs.AskLemmas.{Following}
use Rattle.gateway_hub.specs.Keeps.{StandsIdle}

-- what a core's law says of an event that is timely
abbrev pub LeavesNone : Following → (Bases → ℕ → List HistoryEntry → Bool) → (Bases → ℕ → List HistoryEntry → ℕ) → Type 0
LeavesNone follows busy waits = (between : Bases) (T : List HistoryEntry) (entry : HistoryEntry) → IsCoreHistory follows between T → follows between T entry → IsTimely (busy between) T entry.happening → NoneWaits (waits between) T → NoneWaits (waits between) (entry ∷ T)

-- The core changes, and stands for the same history.
pub idle_still : {M : Type 0} (stands : M → List HistoryEntry → Type 0) (waits : Bases → ℕ → List HistoryEntry → ℕ) (bases_of : M → Bases) (old new : M) → bases_of new ≡ bases_of old
    → (T : List HistoryEntry) → (stands old T → stands new T) → StandsIdle stands waits bases_of old T → StandsIdle stands waits bases_of new T
idle_still stands waits bases_of old new same T stays idle = record {
  stood = stays idle.stood;
  none_waits = subst (λ (between : Bases). NoneWaits (waits between) T) (sym same) idle.none_waits;
}

-- The history has a timely entry more.
pub idle_next : {M : Type 0} (stands : M → List HistoryEntry → Type 0) (waits : Bases → ℕ → List HistoryEntry → ℕ) (bases_of : M → Bases) (busy : Bases → ℕ → List HistoryEntry → Bool) (follows : Following)
    → ((core : M) (T : List HistoryEntry) → stands core T → IsCoreHistory follows (bases_of core) T) → LeavesNone follows busy waits → (old new : M) → bases_of new ≡ bases_of old
    → (T : List HistoryEntry) (entry : HistoryEntry) → (stands old T → stands new (entry ∷ T)) → (stands old T → IsTimely (busy (bases_of old)) T entry.happening)
    → StandsIdle stands waits bases_of old T → StandsIdle stands waits bases_of new (entry ∷ T)
idle_next stands waits bases_of busy follows history leaves old new same T entry steps timely idle =
    let stood = steps idle.stood in
    let whole = history new (entry ∷ T) stood in
    record {
      stood = stood;
      none_waits = leaves (bases_of new) T entry whole.0 whole.1
          (subst (λ (between : Bases). IsTimely (busy between) T entry.happening) (sym same) (timely idle.stood))
          (subst (λ (between : Bases). NoneWaits (waits between) T) (sym same) idle.none_waits);
    }
