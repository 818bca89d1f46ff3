-- One session after another.
use Rattle.std.proofs.lemmas.Grind.{common_steps}
use Rattle.std.proofs.Common.{◌∙◌, ◌<◌, List, arith, sym, ap, subst}
use Rattle.std.specs.Prelude.{is_some}
use Rattle.session_one.specs.declared.parts.Track.{Track}
use Rattle.client_machine.specs.Frames.{channel_for}
use Rattle.client_machine.proofs.CarryLemmas.{found_here, found_later, found_nowhere, channel_searches}
use Rattle.client_machine.proofs.frames.channel_for.Goals as goal

pub returns-then-is_some : goal.returns-then-is_some
returns-then-is_some c =
    let sessions = c.args.slot.now.sessions in
    let here = c.channel_in-channel.ensures ∙ ap (λ (tracks : List Track). channel_for c.args.pair c.args.half tracks) c.tracks.ensures in
    here ∙ found_here (channel_for c.args.pair c.args.half) c.loop-place.place sessions (channel_searches c.args.pair c.args.half) (subst (λ n. c.loop-place.place < n) (sym c.keeps.ensures.places) c.loop-place-test.true) (ap (λ one. is_some one) (sym here) ∙ sym c.if-is_some.ensures) c.loop-place.invariant

pub loop-place-preserved : goal.loop-place-preserved
loop-place-preserved c =
    let sessions = c.args.slot.now.sessions in
    let here = c.channel_in-channel.ensures ∙ ap (λ (tracks : List Track). channel_for c.args.pair c.args.half tracks) c.tracks.ensures in
    found_later (channel_for c.args.pair c.args.half) c.loop-place.place sessions (channel_searches c.args.pair c.args.half) (subst (λ n. c.loop-place.place < n) (sym c.keeps.ensures.places) c.loop-place-test.true) (ap (λ one. is_some one) (sym here) ∙ sym c.if-is_some.ensures) c.loop-place.invariant

pub returns : goal.returns
returns c = grind (arith, common_steps, found_nowhere, channel_searches)
