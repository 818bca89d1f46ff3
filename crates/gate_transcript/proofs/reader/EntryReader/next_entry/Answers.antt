use Rattle.std.proofs.Common.{ℕ, List, Option, Some, Result, Ok, ◌≡◌, ◌∙◌, sym, ap, subst}
use Rattle.gate_transcript.specs.declared.head.EntryHead.{EntryHead}
use Rattle.gate_transcript.specs.declared.fault.BadEntryKind.{BadEntryKind}
use Rattle.gate_transcript.specs.Connections.{has}
use Rattle.gate_transcript.specs.Transcript.{first_head}
use Rattle.gate_transcript.proofs.HeadLemmas.{front_len}
use Rattle.gate_transcript.proofs.reader.EntryReader.next_entry.Goals as goal

pub take_entry-requires : goal.take_entry-requires
take_entry-requires c =
    let found = sym c.first_head.ensures ∙ (c.in-Ok-Some.is ∙ ap (λ (head : Option EntryHead). let r : Result (Option EntryHead) BadEntryKind = Ok head in r) c.in-Ok-Some.field-0-is) in
    let here = subst (λ (bytes : List ℕ). first_head (has c.args.self.now.entered) bytes ≡ Ok (Some c.in-Ok-Some.head)) c.as_bytes.ensures found in
    front_len (has c.args.self.now.entered) c.args.self.now.left c.in-Ok-Some.head here
