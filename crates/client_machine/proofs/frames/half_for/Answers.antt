-- One session after another.
use Rattle.std.proofs.lemmas.Grind.{common_steps}
use Rattle.std.proofs.Common.{◌∙◌, ◌<◌, List, arith, sym, ap, subst}
use Rattle.std.specs.Prelude.{is_some}
use Rattle.session_one.specs.declared.parts.Track.{Track}
use Rattle.client_machine.specs.Frames.{half_for, half_of}
use Rattle.client_machine.proofs.CarryLemmas.{mapped_some, found_here, found_later, found_nowhere, half_searches}
use Rattle.client_machine.proofs.frames.half_for.Goals as goal

pub returns-then-is_some : goal.returns-then-is_some
returns-then-is_some c =
    let sessions = c.args.slot.now.sessions in
    let here = c.half_in-half.ensures ∙ ap (λ (tracks : List Track). half_for c.args.channel tracks) c.tracks.ensures in
    here ∙ found_here (half_for c.args.channel) c.loop-place.place sessions (half_searches c.args.channel) (subst (λ n. c.loop-place.place < n) (sym c.keeps.ensures.places) c.loop-place-test.true) (ap (λ one. is_some one) (sym here) ∙ mapped_some half_of c.half_in-half.result ∙ sym c.if-is_some.ensures) c.loop-place.invariant

pub loop-place-preserved : goal.loop-place-preserved
loop-place-preserved c =
    let sessions = c.args.slot.now.sessions in
    let here = c.half_in-half.ensures ∙ ap (λ (tracks : List Track). half_for c.args.channel tracks) c.tracks.ensures in
    found_later (half_for c.args.channel) c.loop-place.place sessions (half_searches c.args.channel) (subst (λ n. c.loop-place.place < n) (sym c.keeps.ensures.places) c.loop-place-test.true) (ap (λ one. is_some one) (sym here) ∙ mapped_some half_of c.half_in-half.result ∙ sym c.if-is_some.ensures) c.loop-place.invariant

pub returns : goal.returns
returns c = grind (arith, common_steps, found_nowhere, half_searches)
