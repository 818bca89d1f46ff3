use Rattle.std.proofs.Common.{ℕ, List, Option, Some, None, Ok, arith}
use Rattle.std.proofs.lemmas.Result.{err_from_is_err_and}
use Rattle.rtsp_uri.specs.declared.base.Bases.{Bases}
use Rattle.gate_transcript.specs.Reads.{NextSays}
use Rattle.gateway_claim.specs.Cores.{IsCoreHistory}
use Rattle.gateway_replay.specs.CoreRecords.{Watches}
use Rattle.gateway_replay.proofs.WatchLemmas.{watch_sound}
use Rattle.gateway_replay.specs.Replays.{ReplayedSoFar}
use Rattle.gateway_replay.proofs.ReplayLemmas.{enters_new, so_far_more, so_far_whole, so_far_faulted, so_far_stopped}
use Rattle.gateway_replay.proofs.whole_replay.process_entries.Goals as goal

pub take-requires : goal.take-requires
take-requires g c =
    let says : NextSays c.loop-entry.reader c.next.new.self (Ok (Some c.in-Ok-Some.entry)) = rw c.in-Ok-Some.field-0-is at c.in-Ok-Some.ensures.says in
    let some = c.loop-entry.invariant.some in (
      c.type_bounds.send-M,
      record {
        bases = some.bases;
        history = some.so_far.history;
        stands = enters_new some.bases c.loop-entry.reader c.next.new.self c.loop-entry.run.streams (Watches g.M.Core.stands g.M.Core.bases c.loop-entry.run.watched.core c.loop-entry.run.watched.living) some.bytes some.before (g.K.Sink.written c.loop-entry.sink) c.in-Ok-Some.entry some.so_far says;
      },
    )

pub returns-in_err-take-in-Ok-Some-clause-processed : goal.returns-in_err-take-in-Ok-Some-clause-processed
returns-in_err-take-in-Ok-Some-clause-processed g c = λ bases bytes before s.
    let says : NextSays c.loop-entry.reader c.next.new.self (Ok (Some c.in-Ok-Some.entry)) = rw c.in-Ok-Some.field-0-is at c.in-Ok-Some.ensures.says in
    let p = err_from_is_err_and c.from_residual.result c.from_residual.ensures.1 in
    rw (p.1, p.2)
    (so_far_stopped (IsCoreHistory g.M.Core.follows) bases c.loop-entry.reader c.next.new.self c.loop-entry.run.streams c.take.new.self.streams (Watches g.M.Core.stands g.M.Core.bases c.loop-entry.run.watched.core c.loop-entry.run.watched.living) (Watches g.M.Core.stands g.M.Core.bases c.take.new.self.watched.core c.take.new.self.watched.living) bytes before
    (g.K.Sink.written c.loop-entry.sink) (g.K.Sink.written c.take.new.sink) c.in-Ok-Some.entry c.in_err-take-in-Ok-Some.field-0.0
    (c.loop-entry.invariant.keeps bases bytes before s) says c.in_err-take-in-Ok-Some.ensures.takes)

pub loop-entry-preserved : goal.loop-entry-preserved
loop-entry-preserved g c =
    let says : NextSays c.loop-entry.reader c.next.new.self (Ok (Some c.in-Ok-Some.entry)) = rw c.in-Ok-Some.field-0-is at c.in-Ok-Some.ensures.says in
    let more : (bases : Bases) (bytes : List ℕ) (before : Option (List ℕ)) → ReplayedSoFar bases c.loop-entry.reader c.loop-entry.run.streams (Watches g.M.Core.stands g.M.Core.bases c.loop-entry.run.watched.core c.loop-entry.run.watched.living) bytes before (g.K.Sink.written c.loop-entry.sink)
    → ReplayedSoFar bases c.next.new.self c.take.new.self.streams (Watches g.M.Core.stands g.M.Core.bases c.take.new.self.watched.core c.take.new.self.watched.living) bytes before (g.K.Sink.written c.take.new.sink) =
    λ bases bytes before s.
    so_far_more (IsCoreHistory g.M.Core.follows) bases c.loop-entry.reader c.next.new.self c.loop-entry.run.streams c.take.new.self.streams (Watches g.M.Core.stands g.M.Core.bases c.loop-entry.run.watched.core c.loop-entry.run.watched.living) (Watches g.M.Core.stands g.M.Core.bases c.take.new.self.watched.core c.take.new.self.watched.living) bytes before
    (g.K.Sink.written c.loop-entry.sink) (g.K.Sink.written c.take.new.sink) c.in-Ok-Some.entry s says c.in_ok-take-in-Ok-Some.ensures.takes in
    record {
      keeps = λ bases bytes before s. more bases bytes before (c.loop-entry.invariant.keeps bases bytes before s);
      some = let some = c.loop-entry.invariant.some in record { bases = some.bases; bytes = some.bytes; before = some.before; so_far = more some.bases some.bytes some.before some.so_far };
      later = omega (arith, c.loop-entry.invariant.later, c.take.ensures.cause.later);
    }

pub returns-in-Ok-None-clause-processed : goal.returns-in-Ok-None-clause-processed
returns-in-Ok-None-clause-processed g c = λ bases bytes before s.
    let says : NextSays c.loop-entry.reader c.next.new.self (Ok None) = rw c.in-Ok-None.field-0-is at c.in-Ok-None.ensures.says in
    so_far_whole bases c.loop-entry.reader c.next.new.self c.loop-entry.run.streams (Watches g.M.Core.stands g.M.Core.bases c.loop-entry.run.watched.core c.loop-entry.run.watched.living) bytes before (g.K.Sink.written c.loop-entry.sink)
    (c.loop-entry.invariant.keeps bases bytes before s) says

pub returns-in-Err-clause-processed : goal.returns-in-Err-clause-processed
returns-in-Err-clause-processed g c = λ bases bytes before s.
    let laws = g.met.M.Core g.world.𝓛 g.world.𝓜 g.world.𝓡 ((λ s x. x), (λ x. x), (λ x. x), λ x. x) in
    rw c.from.ensures
    (so_far_faulted (IsCoreHistory g.M.Core.follows) bases c.loop-entry.reader c.next.new.self c.loop-entry.run.streams (Watches g.M.Core.stands g.M.Core.bases c.loop-entry.run.watched.core c.loop-entry.run.watched.living) bytes before (g.K.Sink.written c.loop-entry.sink) c.in-Err.fault
    (watch_sound g.M.Core.stands g.M.Core.bases g.M.Core.follows laws.history c.loop-entry.run.watched.core c.loop-entry.run.watched.living)
    (c.loop-entry.invariant.keeps bases bytes before s) c.in-Err.ensures.says)
