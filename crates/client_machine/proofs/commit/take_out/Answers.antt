use Rattle.std.proofs.Common.{◌∙◌, List, ap}
use Rattle.std.proofs.lemmas.List.{drop-drop}
use Rattle.rtsp_head.specs.Items.{Shape}
use Rattle.client_slot.specs.Changes.{after_next}
use Rattle.client_machine.proofs.commit.take_out.Goals as goal

pub loop-at-preserved : goal.loop-at-preserved
loop-at-preserved c =
    let client = c.args.slot.now in
    c.next_waiting.ensures.rest
    ∙ ap after_next c.loop-at.invariant
    ∙ ap (λ (waiting : List Shape). record client { waiting = waiting }) (drop-drop 1 c.loop-at._at client.waiting)
