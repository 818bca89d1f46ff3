-- What a core that is watched stands for (this project's own).
use Rattle.std.specs.Prelude.{◌≡◌, ℕ, ◌<◌, ◌≤◌, false, List, ◌∷◌, ◌++◌, Option, Result, Ok, Err}
use Rattle.gate_outside.specs.Contents.{Grows}
use Rattle.rtsp_uri.specs.declared.base.Bases.{Bases}
use Rattle.gateway_claim.specs.declared.event.Closed.{Closed}
use Rattle.gateway_claim.specs.Happenings.{HistoryEntry, is_alive, entering}
use Rattle.gateway_claim.specs.Cores.{ever_entered, stays_alive}
use Rattle.gate_transcript.specs.declared.entry.EntryKind.{EntryKind}
use Rattle.gate_transcript.specs.declared.entry.EntryKind.TheVariants.{Enter, Client, Upstream, End, Slow, UpEnd}
use Rattle.gateway_replay.specs.declared.alive.Living.{Living}
use Rattle.gateway_replay.specs.Alive.{lives}
use Rattle.gateway_replay.specs.RecordTexts.{ends_below}

-- the histories that something stands for, each with the addresses between which it happened
abbrev pub Histories : Type 1
Histories = Bases → List HistoryEntry → Type 0

-- these are the connections that are alive after a history
abbrev pub AreLiving : Living → List HistoryEntry → Type 0
AreLiving living history = (i : ℕ) → lives living i ≡ is_alive i history

-- they are those that were, but for the ones that an event closed
abbrev pub StayLiving : Closed → Living → Living → Type 0
StayLiving closed old new = (i : ℕ) → lives new i ≡ stays_alive i closed (lives old i)

-- A core that was made with these addresses stands for a history, and these connections are alive after it.
pub record Watches {M : Type 0} (stands : M → List HistoryEntry → Type 0) (bases_of : M → Bases) (core : M) (living : Living) (bases : Bases) (history : List HistoryEntry) : Type 0 where
  pub stood : stands core history
  pub based : bases_of core ≡ bases
  pub alive : AreLiving living history

-- It stands for the longer history, whichever history it stood for.
abbrev pub Advances : Histories → Histories → List HistoryEntry → Type 0
Advances before now more = (bases : Bases) (T : List HistoryEntry) → before bases T → now bases (more ++ T)

-- So it does at the entering of a connection that never entered before.
abbrev pub EntersAs : Histories → Histories → ℕ → Type 0
EntersAs before now conn = (bases : Bases) (T : List HistoryEntry) → before bases T → ever_entered conn T ≡ false → now bases (entering conn ∷ T)

-- After a fault no more is said than that this was a history.
abbrev pub left_by : {E : Type 0} → Result (Unit {0}) E → Histories → Histories → Histories
left_by (Ok u) now made = now
left_by (Err fault) now made = made

-- one history of them
pub record StandsForSome (before : Histories) : Type 0 where
  pub bases : Bases
  pub history : List HistoryEntry
  pub stands : before bases history

-- a connection that enters by an entry of this kind never entered before
abbrev pub EntersNew : EntryKind → ℕ → List HistoryEntry → Type 0
EntersNew Enter conn history = ever_entered conn history ≡ false
EntersNew Client conn history = Unit {0}
EntersNew Upstream conn history = Unit {0}
EntersNew End conn history = Unit {0}
EntersNew Slow conn history = Unit {0}
EntersNew UpEnd conn history = Unit {0}

-- what a core stands for, after a connection that an entry lets enter
abbrev pub with_new : EntryKind → ℕ → Histories → Histories
with_new kind conn before bases history = before bases history × EntersNew kind conn history

-- The closes of those that were alive are written up to a number, and those from it on are left.
pub record ClosesSoFar (before now : Living) (written_before written_now : Option (List ℕ)) : Type 0 where
  pub from : ℕ
  pub reach : from ≤ 4294967296
  pub gone : (i : ℕ) → i < from → lives now i ≡ false
  pub left : (i : ℕ) → from ≤ i → lives now i ≡ lives before i
  pub grown : (T : List HistoryEntry) → AreLiving before T → Grows written_before written_now (ends_below from T)
