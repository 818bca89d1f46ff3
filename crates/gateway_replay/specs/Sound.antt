-- What comes of a transcript without a fault (this project's own).
use Rattle.std.specs.Prelude.{◌≡◌, ℕ, ◌≤◌, List, length, Option, Some, None}
use Rattle.gate_outside.specs.Contents.{Grows}
use Rattle.rtsp_uri.specs.declared.base.Bases.{Bases}
use Rattle.gateway_claim.specs.Happenings.{HistoryEntry, happened}
use Rattle.gate_transcript.specs.Transcript.{reading}
use Rattle.run_status.specs.declared.status.Status.{Status}
use Rattle.run_status.specs.declared.status.Status.TheVariants.{Done, Memory}
use Rattle.gateway_replay.specs.Events.{events_of}
use Rattle.gateway_replay.specs.Replays.{limit, IsAtEnd, EndsWithoutMemory}
use Rattle.gateway_replay.specs.CoreRecords.{Histories}
use Rattle.gateway_replay.specs.RecordTexts.{records}

-- The bytes are a transcript that has no fault and is no longer than the limit.
pub record IsSoundTranscript (all : List ℕ) : Type 0 where
  pub short : length all ≤ limit
  pub sound : (reading all).fault ≡ None

-- All was read, and what was written is the records of a history whose events are those that all its entries tell.
pub record IsReplayedWhole (made : Histories) (bases : Bases) (all : List ℕ) (left before now : Option (List ℕ)) : Type 0 where
  pub read : IsAtEnd left
  pub history : List HistoryEntry
  pub is_history : made bases history
  pub told : happened history ≡ events_of (reading all).entries
  pub grown : Grows before now (records history)

-- How the replay of such a transcript ends where nothing outside fails: it was replayed whole, or memory was wanting.
abbrev pub EndsSoundReplay : Histories → Bases → Status → List ℕ → Option (List ℕ) → Option (List ℕ) → Option (List ℕ) → Type 0
EndsSoundReplay made bases Done all left before now = IsReplayedWhole made bases all left before now
EndsSoundReplay made bases Memory all left before now = EndsWithoutMemory made bases (Some all) left before now
EndsSoundReplay made bases other all left before now = ⊥
