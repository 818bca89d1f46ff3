use Rattle.std.proofs.Common.{◌≡◌, ◌-◌, ◌+◌, ◌*◌, ◌∙◌, sym, ap, arith}
use Rattle.translate_up.specs.Views.{tracks_shown}
use Rattle.translate_up.specs.Channels.{is_taken, pair_at}
use Rattle.translate_up.proofs.ChannelLemmas.{free_step, free_found, free_last}
use Rattle.translate_up.proofs.channels.free_pair.Goals as goal

pub loop-half-preserved : goal.loop-half-preserved
loop-half-preserved c =
    let half = c.loop-half.half in
    let tracks = tracks_shown c.args.sessions.now in
    free_step (127 - half) (127 - (half + 1)) tracks (2 * half) (2 * (half + 1)) (omega arith) (omega arith)
    (sym (ap (is_taken tracks) c.pair_at-pair.ensures) ∙ sym c.is_taken.ensures ∙ c.if-not-is_taken.false)
    ∙ c.loop-half.invariant

pub returns-then-not-is_taken : goal.returns-then-not-is_taken
returns-then-not-is_taken c =
    let half = c.loop-half.half in
    let tracks = tracks_shown c.args.sessions.now in
    c.pair_at-pair.ensures
    ∙ free_found (127 - half) tracks (2 * half)
    (sym (ap (is_taken tracks) c.pair_at-pair.ensures) ∙ sym c.is_taken.ensures ∙ c.if-not-is_taken.true) c.loop-half.invariant

pub returns : goal.returns
returns c =
    let half = c.loop-half.half in
    let tracks = tracks_shown c.args.sessions.now in
    let last : 254 ≡ 2 * half = omega arith in
    c.pair_at.ensures ∙ ap pair_at last ∙ free_last (127 - half) tracks (2 * half) (omega arith) c.loop-half.invariant
