use Rattle.std.proofs.Common.{ℕ, List, ◌∷◌, ◌++◌, length, subst}
use Rattle.std.specs.Int.{w32, to_be_bytes}
use Rattle.gate_outside.specs.Contents.{Grows, GrowsByFront}
use Rattle.gate_transcript.specs.EntryTexts.{kind_byte}
use Rattle.gate_transcript.proofs.RecordingLemmas.{front_of_both, after_first}
use Rattle.gate_transcript.proofs.transcript_recorder.write_note.Goals as goal

-- the first bytes were cut
pub returns-in_default-clause-bytes : goal.returns-in_default-clause-bytes
returns-in_default-clause-bytes g c =
    let before = g.K.Sink.written c.args.sink.now in
    let now = g.K.Sink.written c.write_all.new.sink in
    let front = kind_byte c.args.kind ∷ (to_be_bytes w32 c.args.conn ++ to_be_bytes w32 (length c.args.body.now)) in
    front_of_both before now front c.args.body.now (subst (λ (l : List ℕ). GrowsByFront before now l) c.entry_front.ensures c.in_default.ensures.bytes)

-- they were written, and then the body or a front of it
pub returns-clause-bytes : goal.returns-clause-bytes
returns-clause-bytes g c =
    let before = g.K.Sink.written c.args.sink.now in
    let between = g.K.Sink.written c.write_all.new.sink in
    let now = g.K.Sink.written c.write_all-2.new.sink in
    let front = kind_byte c.args.kind ∷ (to_be_bytes w32 c.args.conn ++ to_be_bytes w32 (length c.args.body.now)) in
    after_first before between now front c.args.body.now c.write_all-2.result (subst (λ (l : List ℕ). Grows before between l) c.entry_front.ensures c.in-Ok.ensures.bytes) c.write_all-2.ensures.bytes
