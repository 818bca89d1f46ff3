use Rattle.std.proofs.Common.{◌≡◌, ◌++◌, ℕ, List, Option, sym, ◌∙◌, subst, arith}
use Rattle.std.proofs.Math.Nat.{le_refl}
use Rattle.gate_outside.specs.Contents.{ReadsOk}
use Rattle.gateway_claim.specs.Cores.{IsCoreHistory}
use Rattle.gate_transcript.specs.Transcript.{reading}
use Rattle.run_status.specs.declared.status.Status.{Status}
use Rattle.gateway_replay.specs.CoreRecords.{Watches}
use Rattle.gateway_replay.proofs.WatchLemmas.{watch_sound}
use Rattle.gateway_replay.specs.Replays.{ReplaySays, FaultRose, IsReplaying}
use Rattle.gateway_replay.proofs.SourceLemmas.{unread_says, unread_rose, broken_says, read_end, finish_says, finish_cause, so_far_fed, stop_says, stop_rose, too_long_says, going_start, going_on, piece_fits, taken_more, taken_piece, taken_past, no_piece}
use Rattle.gateway_replay.proofs.whole_replay.replay.Goals as goal

pub loop-room-init : goal.loop-room-init
loop-room-init g c = record {
  going =
      going_start (g.M.Core.bases c.args.core) c.new-reader.result c.new-run.result.streams (Watches g.M.Core.stands g.M.Core.bases c.new-run.result.watched.core c.new-run.result.watched.living) (g.S.Source.rest c.args.source.now) (g.K.Sink.written c.args.sink.now)
      c.new-reader.ensures c.new-run.ensures.streams (c.new-run.ensures.core c.requires);
  source_later = le_refl (g.S.Source.faults c.args.source.now);
  sink_later = le_refl (g.K.Sink.faults c.args.sink.now);
}

pub process_entries-requires : goal.process_entries-requires
process_entries-requires g c =
    let going = c.loop-room.invariant.going in
    let read = c.in-Ok.ensures.ok in (
      c.type_bounds.send-M,
      record {
        bases = g.M.Core.bases c.args.core;
        bytes = going.bytes ++ read.piece;
        before = g.K.Sink.written c.args.sink.now;
        so_far =
            so_far_fed (g.M.Core.bases c.args.core) c.loop-room.reader c.read.new.self c.loop-room.run.streams (Watches g.M.Core.stands g.M.Core.bases c.loop-room.run.watched.core c.loop-room.run.watched.living) going.bytes read.piece (g.K.Sink.written c.args.sink.now) (g.K.Sink.written c.loop-room.sink)
            going.processed.so_far read.fed;
      },
    )

pub returns-then-count-eq0-clause-says : goal.returns-then-count-eq0-clause-says
returns-then-count-eq0-clause-says g c =
    let laws = g.met.M.Core g.world.𝓛 g.world.𝓜 g.world.𝓡 ((λ s x. x), (λ x. x), (λ x. x), λ x. x) in
    let going = c.loop-room.invariant.going in
    let read = c.in-Ok.ensures.ok in
    let nothing = read_end (g.S.Source.rest c.loop-room.source) (g.S.Source.rest c.read.new.source) read.piece
    (subst (λ (n : ℕ). ReadsOk (g.S.Source.rest c.loop-room.source) (g.S.Source.rest c.read.new.source) n read.piece) c.if-count-eq0.true read.taken) in
    let reads = no_piece c.read.new.self going.bytes read.piece going.processed.so_far.entries (read.size ∙ c.if-count-eq0.true) (read.fed going.bytes going.processed.so_far.entries going.processed.so_far.reads) in
    subst (λ (left : Option (List ℕ)). ReplaySays (IsCoreHistory g.M.Core.follows) (g.M.Core.bases c.args.core) c.finish.result (g.S.Source.rest c.args.source.now) left (g.K.Sink.written c.args.sink.now) (g.K.Sink.written c.loop-room.sink)) (sym nothing.1)
    (finish_says (IsCoreHistory g.M.Core.follows) (g.M.Core.bases c.args.core) c.loop-room.reader c.loop-room.run.streams (Watches g.M.Core.stands g.M.Core.bases c.loop-room.run.watched.core c.loop-room.run.watched.living) c.loop-room.room (g.S.Source.rest c.args.source.now) (g.S.Source.rest c.loop-room.source)
    (g.K.Sink.written c.args.sink.now) (g.K.Sink.written c.loop-room.sink) c.finish.result (watch_sound g.M.Core.stands g.M.Core.bases g.M.Core.follows laws.history c.loop-room.run.watched.core c.loop-room.run.watched.living) going nothing.0
    (c.finish.ensures going.bytes going.processed.so_far.entries reads going.processed.whole))

pub returns-then-count-eq0-clause-rose : goal.returns-then-count-eq0-clause-rose
returns-then-count-eq0-clause-rose g c =
    let going = c.loop-room.invariant.going in
    let read = c.in-Ok.ensures.ok in
    let reads = no_piece c.read.new.self going.bytes read.piece going.processed.so_far.entries (read.size ∙ c.if-count-eq0.true) (read.fed going.bytes going.processed.so_far.entries going.processed.so_far.reads) in
    finish_cause (reading going.bytes).fault c.finish.result (g.S.Source.faults c.args.source.now) (g.S.Source.faults c.read.new.source) (g.K.Sink.faults c.args.sink.now) (g.K.Sink.faults c.loop-room.sink)
    (c.finish.ensures going.bytes going.processed.so_far.entries reads going.processed.whole)

pub returns-in-Err-clause-says : goal.returns-in-Err-clause-says
returns-in-Err-clause-says g c =
    let laws = g.met.M.Core g.world.𝓛 g.world.𝓜 g.world.𝓡 ((λ s x. x), (λ x. x), (λ x. x), λ x. x) in
    subst (λ (x : Status). ReplaySays (IsCoreHistory g.M.Core.follows) (g.M.Core.bases c.args.core) x (g.S.Source.rest c.args.source.now) (g.S.Source.rest c.read.new.source) (g.K.Sink.written c.args.sink.now) (g.K.Sink.written c.loop-room.sink)) (sym c.unread.ensures)
    (unread_says (IsCoreHistory g.M.Core.follows) (g.M.Core.bases c.args.core) c.in-Err.fault c.loop-room.reader c.loop-room.run.streams (Watches g.M.Core.stands g.M.Core.bases c.loop-room.run.watched.core c.loop-room.run.watched.living) c.loop-room.room (g.S.Source.rest c.args.source.now) (g.S.Source.rest c.loop-room.source)
    (g.S.Source.rest c.read.new.source) (g.K.Sink.written c.args.sink.now) (g.K.Sink.written c.loop-room.sink) (watch_sound g.M.Core.stands g.M.Core.bases g.M.Core.follows laws.history c.loop-room.run.watched.core c.loop-room.run.watched.living) c.loop-room.invariant.going c.in-Err.ensures.err.0)

pub returns-in-Err-clause-rose : goal.returns-in-Err-clause-rose
returns-in-Err-clause-rose g c =
    subst (λ (x : Status). FaultRose x (g.S.Source.faults c.args.source.now) (g.S.Source.faults c.read.new.source) (g.K.Sink.faults c.args.sink.now) (g.K.Sink.faults c.loop-room.sink)) (sym c.unread.ensures)
    (unread_rose c.in-Err.fault (g.S.Source.faults c.args.source.now) (g.S.Source.faults c.loop-room.source) (g.S.Source.faults c.read.new.source) (g.K.Sink.faults c.args.sink.now) (g.K.Sink.faults c.loop-room.sink)
    c.loop-room.invariant.source_later c.in-Err.ensures.cause.rose)

pub returns-in-Err-process_entries-clause-says : goal.returns-in-Err-process_entries-clause-says
returns-in-Err-process_entries-clause-says g c =
    let laws = g.met.M.Core g.world.𝓛 g.world.𝓜 g.world.𝓡 ((λ s x. x), (λ x. x), (λ x. x), λ x. x) in
    let going = c.loop-room.invariant.going in
    let read = c.in-Ok.ensures.ok in
    let fed = so_far_fed (g.M.Core.bases c.args.core) c.loop-room.reader c.read.new.self c.loop-room.run.streams (Watches g.M.Core.stands g.M.Core.bases c.loop-room.run.watched.core c.loop-room.run.watched.living) going.bytes read.piece (g.K.Sink.written c.args.sink.now) (g.K.Sink.written c.loop-room.sink) going.processed.so_far read.fed in
    subst (λ (x : Status). ReplaySays (IsCoreHistory g.M.Core.follows) (g.M.Core.bases c.args.core) x (g.S.Source.rest c.args.source.now) (g.S.Source.rest c.read.new.source) (g.K.Sink.written c.args.sink.now) (g.K.Sink.written c.process_entries.new.sink)) (sym c.from.ensures)
    (stop_says (IsCoreHistory g.M.Core.follows) (g.M.Core.bases c.args.core) c.in-Err-process_entries.stop c.process_entries.new.reader c.process_entries.new.run.streams (Watches g.M.Core.stands g.M.Core.bases c.process_entries.new.run.watched.core c.process_entries.new.run.watched.living) (going.bytes ++ read.piece)
    (g.S.Source.rest c.args.source.now) (g.S.Source.rest c.read.new.source) (g.K.Sink.written c.args.sink.now) (g.K.Sink.written c.process_entries.new.sink)
    (watch_sound g.M.Core.stands g.M.Core.bases g.M.Core.follows laws.history c.process_entries.new.run.watched.core c.process_entries.new.run.watched.living)
    (taken_more (g.S.Source.rest c.args.source.now) (g.S.Source.rest c.loop-room.source) (g.S.Source.rest c.read.new.source) going.bytes read.piece c.in-Ok.count read.size going.taken read.taken)
    (piece_fits (g.M.Core.bases c.args.core) c.loop-room.reader c.loop-room.run.streams (Watches g.M.Core.stands g.M.Core.bases c.loop-room.run.watched.core c.loop-room.run.watched.living) c.loop-room.room c.in-Ok.count (g.S.Source.rest c.args.source.now) (g.S.Source.rest c.loop-room.source)
    (g.K.Sink.written c.args.sink.now) (g.K.Sink.written c.loop-room.sink) read.piece going read.size c.in-Ok.ensures.within)
    (c.in-Err-process_entries.ensures.processed (g.M.Core.bases c.args.core) (going.bytes ++ read.piece) (g.K.Sink.written c.args.sink.now) fed))

pub returns-in-Err-process_entries-clause-rose : goal.returns-in-Err-process_entries-clause-rose
returns-in-Err-process_entries-clause-rose g c =
    subst (λ (x : Status). FaultRose x (g.S.Source.faults c.args.source.now) (g.S.Source.faults c.read.new.source) (g.K.Sink.faults c.args.sink.now) (g.K.Sink.faults c.process_entries.new.sink)) (sym c.from.ensures)
    (stop_rose c.in-Err-process_entries.stop (g.S.Source.faults c.args.source.now) (g.S.Source.faults c.read.new.source) (g.K.Sink.faults c.args.sink.now) (g.K.Sink.faults c.loop-room.sink) (g.K.Sink.faults c.process_entries.new.sink)
    c.loop-room.invariant.sink_later c.in-Err-process_entries.ensures.cause.rose)

pub loop-room-preserved : goal.loop-room-preserved
loop-room-preserved g c =
    let going = c.loop-room.invariant.going in
    let read = c.in-Ok.ensures.ok in
    let fed = so_far_fed (g.M.Core.bases c.args.core) c.loop-room.reader c.read.new.self c.loop-room.run.streams (Watches g.M.Core.stands g.M.Core.bases c.loop-room.run.watched.core c.loop-room.run.watched.living) going.bytes read.piece (g.K.Sink.written c.args.sink.now) (g.K.Sink.written c.loop-room.sink) going.processed.so_far read.fed in
    record {
      going =
          going_on (g.M.Core.bases c.args.core) c.loop-room.reader c.process_entries.new.reader c.loop-room.run.streams c.process_entries.new.run.streams (Watches g.M.Core.stands g.M.Core.bases c.loop-room.run.watched.core c.loop-room.run.watched.living) (Watches g.M.Core.stands g.M.Core.bases c.process_entries.new.run.watched.core c.process_entries.new.run.watched.living) c.loop-room.room c.in-Ok.count
          (g.S.Source.rest c.args.source.now) (g.S.Source.rest c.loop-room.source) (g.S.Source.rest c.read.new.source)
          (g.K.Sink.written c.args.sink.now) (g.K.Sink.written c.loop-room.sink) (g.K.Sink.written c.process_entries.new.sink) read.piece
          going read.taken read.size c.in-Ok.ensures.within (c.in-Ok-process_entries.ensures.processed (g.M.Core.bases c.args.core) (going.bytes ++ read.piece) (g.K.Sink.written c.args.sink.now) fed);
      source_later = omega (arith, c.loop-room.invariant.source_later, c.read.ensures.cause.later);
      sink_later = omega (arith, c.loop-room.invariant.sink_later, c.process_entries.ensures.cause.later);
    }

pub returns-in-Ok-true-clause-says : goal.returns-in-Ok-true-clause-says
returns-in-Ok-true-clause-says g c =
    let laws = g.met.M.Core g.world.𝓛 g.world.𝓜 g.world.𝓡 ((λ s x. x), (λ x. x), (λ x. x), λ x. x) in
    let full : c.loop-room.room ≡ 0 = omega arith in
    let more = rw c.in-Ok-true.field-0-test at c.in-Ok-true.ensures.more in
    too_long_says (IsCoreHistory g.M.Core.follows) (g.M.Core.bases c.args.core) c.loop-room.reader c.loop-room.run.streams (Watches g.M.Core.stands g.M.Core.bases c.loop-room.run.watched.core c.loop-room.run.watched.living) (g.S.Source.rest c.args.source.now) (g.S.Source.rest c.loop-room.source)
    (g.S.Source.rest c.has_more.new.source) (g.K.Sink.written c.args.sink.now) (g.K.Sink.written c.loop-room.sink)
    (watch_sound g.M.Core.stands g.M.Core.bases g.M.Core.follows laws.history c.loop-room.run.watched.core c.loop-room.run.watched.living)
    (subst (λ (n : ℕ). IsReplaying (g.M.Core.bases c.args.core) c.loop-room.reader c.loop-room.run.streams (Watches g.M.Core.stands g.M.Core.bases c.loop-room.run.watched.core c.loop-room.run.watched.living) n (g.S.Source.rest c.args.source.now) (g.S.Source.rest c.loop-room.source) (g.K.Sink.written c.args.sink.now) (g.K.Sink.written c.loop-room.sink)) full c.loop-room.invariant.going)
    more

pub returns-in-Ok-false-clause-says : goal.returns-in-Ok-false-clause-says
returns-in-Ok-false-clause-says g c =
    let laws = g.met.M.Core g.world.𝓛 g.world.𝓜 g.world.𝓡 ((λ s x. x), (λ x. x), (λ x. x), λ x. x) in
    let going = c.loop-room.invariant.going in
    let nothing = rw c.in-Ok-false.field-0-test at c.in-Ok-false.ensures.more in
    subst (λ (left : Option (List ℕ)). ReplaySays (IsCoreHistory g.M.Core.follows) (g.M.Core.bases c.args.core) c.finish-in-Ok-false.result (g.S.Source.rest c.args.source.now) left (g.K.Sink.written c.args.sink.now) (g.K.Sink.written c.loop-room.sink)) (sym nothing.1)
    (finish_says (IsCoreHistory g.M.Core.follows) (g.M.Core.bases c.args.core) c.loop-room.reader c.loop-room.run.streams (Watches g.M.Core.stands g.M.Core.bases c.loop-room.run.watched.core c.loop-room.run.watched.living) c.loop-room.room (g.S.Source.rest c.args.source.now) (g.S.Source.rest c.loop-room.source)
    (g.K.Sink.written c.args.sink.now) (g.K.Sink.written c.loop-room.sink) c.finish-in-Ok-false.result (watch_sound g.M.Core.stands g.M.Core.bases g.M.Core.follows laws.history c.loop-room.run.watched.core c.loop-room.run.watched.living) going nothing.0
    (c.finish-in-Ok-false.ensures going.bytes going.processed.so_far.entries going.processed.so_far.reads going.processed.whole))

pub returns-in-Ok-false-clause-rose : goal.returns-in-Ok-false-clause-rose
returns-in-Ok-false-clause-rose g c =
    let going = c.loop-room.invariant.going in
    finish_cause (reading going.bytes).fault c.finish-in-Ok-false.result (g.S.Source.faults c.args.source.now) (g.S.Source.faults c.has_more.new.source) (g.K.Sink.faults c.args.sink.now) (g.K.Sink.faults c.loop-room.sink)
    (c.finish-in-Ok-false.ensures going.bytes going.processed.so_far.entries going.processed.so_far.reads going.processed.whole)

pub returns-then-count-eq0-clause-taken : goal.returns-then-count-eq0-clause-taken
returns-then-count-eq0-clause-taken g c =
    let read = c.in-Ok.ensures.ok in
    taken_piece (g.M.Core.bases c.args.core) c.loop-room.reader c.loop-room.run.streams (Watches g.M.Core.stands g.M.Core.bases c.loop-room.run.watched.core c.loop-room.run.watched.living) c.loop-room.room c.in-Ok.count (g.S.Source.rest c.args.source.now)
    (g.S.Source.rest c.loop-room.source) (g.S.Source.rest c.read.new.source) (g.K.Sink.written c.args.sink.now) (g.K.Sink.written c.loop-room.sink) read.piece
    c.loop-room.invariant.going read.taken read.size c.in-Ok.ensures.within

pub returns-in-Err-process_entries-clause-taken : goal.returns-in-Err-process_entries-clause-taken
returns-in-Err-process_entries-clause-taken g c =
    let read = c.in-Ok.ensures.ok in
    taken_piece (g.M.Core.bases c.args.core) c.loop-room.reader c.loop-room.run.streams (Watches g.M.Core.stands g.M.Core.bases c.loop-room.run.watched.core c.loop-room.run.watched.living) c.loop-room.room c.in-Ok.count (g.S.Source.rest c.args.source.now)
    (g.S.Source.rest c.loop-room.source) (g.S.Source.rest c.read.new.source) (g.K.Sink.written c.args.sink.now) (g.K.Sink.written c.loop-room.sink) read.piece
    c.loop-room.invariant.going read.taken read.size c.in-Ok.ensures.within

pub returns-in-Ok-true-clause-taken : goal.returns-in-Ok-true-clause-taken
returns-in-Ok-true-clause-taken g c =
    taken_past (g.M.Core.bases c.args.core) c.loop-room.reader c.loop-room.run.streams (Watches g.M.Core.stands g.M.Core.bases c.loop-room.run.watched.core c.loop-room.run.watched.living) c.loop-room.room (g.S.Source.rest c.args.source.now)
    (g.S.Source.rest c.loop-room.source) (g.S.Source.rest c.has_more.new.source) (g.K.Sink.written c.args.sink.now) (g.K.Sink.written c.loop-room.sink)
    c.loop-room.invariant.going (rw c.in-Ok-true.field-0-test at c.in-Ok-true.ensures.more)

pub returns-clause-says : goal.returns-clause-says
returns-clause-says g c =
    let laws = g.met.M.Core g.world.𝓛 g.world.𝓜 g.world.𝓡 ((λ s x. x), (λ x. x), (λ x. x), λ x. x) in
    broken_says (IsCoreHistory g.M.Core.follows) (g.M.Core.bases c.args.core) c.loop-room.reader c.loop-room.run.streams (Watches g.M.Core.stands g.M.Core.bases c.loop-room.run.watched.core c.loop-room.run.watched.living) c.loop-room.room (g.S.Source.rest c.args.source.now) (g.S.Source.rest c.loop-room.source)
    (g.S.Source.rest c.has_more.new.source) (g.K.Sink.written c.args.sink.now) (g.K.Sink.written c.loop-room.sink) (watch_sound g.M.Core.stands g.M.Core.bases g.M.Core.follows laws.history c.loop-room.run.watched.core c.loop-room.run.watched.living) c.loop-room.invariant.going c.in-Err-has_more.ensures.more
