-- None waits.
use Rattle.std.proofs.Common.{◌≤◌, ◌∙◌, map, refl, sym, subst, arith}
use Rattle.std.specs.Prelude.{is_none}
use Rattle.std.specs.Option.{option_copied}
use Rattle.translate_up.specs.Views.{session_shown}
use Rattle.translate_up.specs.UriLengths.{AreGivenWithin}
use Rattle.client_slot.specs.declared.limits.TheConstants.{LONGEST_URI}
use Rattle.client_machine.specs.Sights.{session_in_sight, given_by}
use Rattle.client_machine.specs.Outlooks.{sights_of}
use Rattle.client_machine.specs.Treatment.{given_shown}
use Rattle.client_machine.specs.Progresses.{begun}
use Rattle.session_one.specs.declared.parts.TheConstants.{MOST_SESSIONS}
use Rattle.client_machine.proofs.SightLemmas.{outlook_length, found_length}
use Rattle.client_machine.proofs.TreatLemmas.{known_shown, way_begins}
use Rattle.client_machine.proofs.onward.treat_after.Goals as goal

pub returns-then-waiting-eq0 : goal.returns-then-waiting-eq0
returns-then-waiting-eq0 c =
    let outlook = c.args.outlook.now in
    let bases = c.args.course.bases.now in
    let full = is_none c.args.course.pair in
    let judged = given_by bases full (sights_of outlook) (option_copied outlook.described) in
    let four = found_length (sights_of outlook) ∙ outlook_length outlook in (
      judged,
      record {
        progress = begun c.args.plan.now.hand;
        finished = c.requires.begun;
        treated = record {
          way = way_begins judged outlook.slot.now.waiting c.args.plan.now.hand (subst (λ n. n ≤ MOST_SESSIONS) (sym four) (omega arith)) (known_shown bases full outlook (map session_in_sight (sights_of outlook)) refl);
          all = λ none. sym c.if-waiting-eq0.true ∙ c.waiting.ensures;
        };
      },
    )

pub treat_waiting-requires-clause-known : goal.treat_waiting-requires-clause-known
treat_waiting-requires-clause-known c =
    let full = is_none c.args.course.pair in
    subst (λ about. AreGivenWithin LONGEST_URI (given_shown c.args.course.bases.now full (map session_shown c.sessions-sessions.result) about)) (sym c.requires.described)
    (known_shown c.args.course.bases.now full c.args.outlook.now (map session_shown c.sessions-sessions.result) (c.sessions-sessions.ensures (c.deref.ensures.value ∙ c.in_ok-streams.ensures)))
