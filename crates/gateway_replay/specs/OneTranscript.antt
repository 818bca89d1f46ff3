-- Transcripts of one connection (this project's own).
use Rattle.std.specs.Prelude.{◌≡◌, ◌≢◌, ℕ, false, List}
use Rattle.gate_transcript.specs.declared.entry.Entry.{Entry}
use Rattle.gate_transcript.specs.Transcript.{has_entered}

-- no connection but this one enters by these entries
abbrev pub EntersAlone : ℕ → List Entry → Type 0
EntersAlone i entries = (j : ℕ) → j ≢ i → has_entered j entries ≡ false
