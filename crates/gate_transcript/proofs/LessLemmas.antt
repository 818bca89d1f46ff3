-- A reader that gives an entry holds fewer bytes.
use Rattle.std.proofs.Common.{◌≡◌, ◌+◌, ◌-◌, ◌<◌, ◌≤◌, length, Option, Some, None, Result, Ok, Err, refl, ◌∙◌, ap, arith, length-drop}
use Rattle.gate_transcript.specs.declared.entry.Entry.{Entry}
use Rattle.gate_transcript.specs.declared.fault.BadEntryKind.{BadEntryKind}
use Rattle.gate_transcript.specs.declared.fault.BadEntryKind.TheVariants.{Magic, Kind, Conn, Length, Cut}
use Rattle.gate_transcript.specs.declared.fault.EntryFault.{EntryFault}
use Rattle.gate_transcript.specs.declared.head.EntryHead.{EntryHead}
use Rattle.gate_transcript.specs.declared.reader.EntryReader.{EntryReader}
use Rattle.gate_transcript.specs.Connections.{has}
use Rattle.gate_transcript.specs.Transcript.{first_head}
use Rattle.gate_transcript.specs.Reads.{HoldsFewer, bytes_held}
use Rattle.gate_transcript.specs.Steps.{ReadsNext, StopsBy, RemovesEntry}
use Rattle.gate_transcript.proofs.HeadLemmas.{front_len}

taken_less : (old new : EntryReader) (head : EntryHead) (e : Entry) → first_head (has old.entered) old.left ≡ Ok (Some head) → RemovesEntry head old new e → length new.left < length old.left
taken_less old new head e first t =
    let enough : 9 + head.size ≤ length old.left = front_len (has old.entered) old.left head first in
    let left : length new.left ≡ length old.left - (9 + head.size) = ap length t.left ∙ length-drop (9 + head.size) old.left in
    omega arith

stopped_none : (kind : BadEntryKind) (old new : EntryReader) (e : Entry) → StopsBy kind old new (Ok (Some e)) → ⊥
stopped_none Magic old new e h = let no = h.0 in absurd (cc)
stopped_none Kind old new e h = let no = h.0 in absurd (cc)
stopped_none Conn old new e h = let no = h.0 in absurd (cc)
stopped_none Length old new e h = let no = h.0 in absurd (cc)
stopped_none Cut old new e h = let no = h.0 in absurd (cc)

found_less : (first : Result (Option EntryHead) BadEntryKind) (old new : EntryReader) (e : Entry) → first_head (has old.entered) old.left ≡ first
    → ReadsNext first old new (Ok (Some e)) → length new.left < length old.left
found_less (Ok None) old new e first h = let no = h.0 in absurd (cc)
found_less (Ok (Some head)) old new e first h = taken_less old new head e first h
found_less (Err kind) old new e first h = absurd (stopped_none kind old new e h)

pub next_less : (old new : EntryReader) (result : Result (Option Entry) EntryFault)
    → ReadsNext (first_head (has old.entered) old.left) old new result → HoldsFewer (bytes_held old) (bytes_held new) result
next_less old new (Ok None) h = tt
next_less old new (Ok (Some e)) h = found_less (first_head (has old.entered) old.left) old new e refl h
next_less old new (Err fault) h = tt
