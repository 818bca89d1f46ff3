use Rattle.gate_transcript.specs.Notes.{entry_noted}
use Rattle.gate_transcript.proofs.RecordingLemmas.{notes_text}
use Rattle.gate_transcript.proofs.transcript_recorder.TranscriptRecorderRecorder.note.Goals as goal

pub invariant_of-self : goal.invariant_of-self
invariant_of-self g c =
    record {
      recording = (notes_text c.args.self.now.whole (g.K.Sink.written c.args.self.now.sink) (g.K.Sink.written c.write_note.new.sink) (entry_noted c.args.kind c.args.conn c.args.body.now)
          c.ranges.conn.fits c.requires c.args.self.now.recording c.in-Ok.ensures.bytes).recording;
    }

pub returns-in-Ok-clause-entries : goal.returns-in-Ok-clause-entries
returns-in-Ok-clause-entries g c =
    (notes_text c.args.self.now.whole (g.K.Sink.written c.args.self.now.sink) (g.K.Sink.written c.write_note.new.sink) (entry_noted c.args.kind c.args.conn c.args.body.now)
    c.ranges.conn.fits c.requires c.args.self.now.recording c.in-Ok.ensures.bytes).told
