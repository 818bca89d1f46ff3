use Rattle.std.proofs.Common.{ℕ, Bool, Option, refl, subst}
use Rattle.hub_queues.specs.Closes.{is_heard}
use Rattle.gateway_hub.specs.Notes.{note_of}
use Rattle.gateway_hub.specs.Desks.{HandsAll}
use Rattle.gateway_claim.specs.Happenings.{happening_of, entry_of}
use Rattle.gateway_hub.specs.Keeps.{StandsIdle}
use Rattle.gateway_hub.specs.Keeps.{StandsIdle}
use Rattle.gateway_hub.proofs.TakeLemmas.{takes_one, notes_kept, failed_note}
use Rattle.gateway_hub.proofs.EndLemmas.{ends_here, hand_ends}
use Rattle.gateway_hub.proofs.PutLemmas.{hand_puts}
use Rattle.gateway_hub.proofs.WaitLemmas.{idle_next}
use Rattle.gateway_hub.proofs.ShowLemmas.{shown_same, shown_fallen}
use Rattle.gateway_hub.proofs.state.HubState.take_one.Goals as goal

pub returns-clause-ok : goal.returns-clause-ok
returns-clause-ok g c =
    let laws = g.met.M.Core g.world.𝓛 g.world.𝓜 g.world.𝓡 ((λ s x. x), (λ x. x), (λ x. x), λ x. x) in
    let stands = StandsIdle g.M.Core.stands g.M.Core.waits g.M.Core.bases in
    let old = c.args.self.now in
    takes_one stands g.M.Core.bases g.M.Core.follows (λ core T s. laws.history core T s.stood) laws.orderly old.core c.commit-outcome.new.self c.args.event c.commit-outcome.result
    (g.R.Recorder.entries old.recorder) (g.R.Recorder.entries c.note.new.recorder) old.desk c.take_outcome.new.self c.take_outcome.result
    (λ T. idle_next g.M.Core.stands g.M.Core.waits g.M.Core.bases g.M.Core.is_busy g.M.Core.follows laws.history laws.none_waits_next old.core c.commit-outcome.new.self c.commit-outcome.ensures.bases T
    (entry_of c.args.event c.commit-outcome.result) (c.commit-outcome.ensures.stands T) (c.requires.timely T)) c.in-Ok-note.ensures.entries
    (subst (λ (a : Option ℕ). HandsAll a (is_heard (happening_of c.args.event)) c.commit-outcome.result c.take_outcome.result old.desk c.take_outcome.new.self) c.asker_of-asker.ensures
    (subst (λ (b : Bool). HandsAll c.asker_of-asker.result b c.commit-outcome.result c.take_outcome.result old.desk c.take_outcome.new.self) c.is_heard-heard.ensures c.take_outcome.ensures))

pub returns-in-Err-note-clause-err : goal.returns-in-Err-note-clause-err
returns-in-Err-note-clause-err g c =
    let old = c.args.self.now in (
      refl,
      record {
        stays = λ T s. s;
        notes = notes_kept (g.R.Recorder.entries old.recorder) (g.R.Recorder.entries c.note.new.recorder) (note_of (happening_of c.args.event)) c.in-Err-note.fault c.in-Err-note.ensures.entries;
        rose = λ is. c.in-Err-note.ensures.cause.failed (failed_note c.in-Err-note.fault is);
        same_desk = refl;
      },
    )

pub returns-clause-ends : goal.returns-clause-ends
returns-clause-ends g c = hand_ends _ _ _ _ _ _ c.take_outcome.ensures

pub returns-clause-puts : goal.returns-clause-puts
returns-clause-puts g c = hand_puts _ _ _ _ _ _ c.take_outcome.ensures

pub returns-in-Err-clause-ends : goal.returns-in-Err-clause-ends
returns-in-Err-clause-ends g c = ends_here c.args.self.now.desk

pub returns-in-Err-note-clause-ends : goal.returns-in-Err-note-clause-ends
returns-in-Err-note-clause-ends g c = ends_here c.args.self.now.desk

pub returns-clause-shown : goal.returns-clause-shown
returns-clause-shown g c = shown_fallen _ _ c.commit-outcome.result.fault _ _ c.take_outcome.ensures.ending

pub returns-in-Err-clause-shown : goal.returns-in-Err-clause-shown
returns-in-Err-clause-shown g c = shown_same _ _ _ _ refl

pub returns-in-Err-note-clause-shown : goal.returns-in-Err-note-clause-shown
returns-in-Err-note-clause-shown g c = shown_same _ _ _ _ refl
