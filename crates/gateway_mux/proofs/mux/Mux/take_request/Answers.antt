use Rattle.std.proofs.Common.{refl, ap}
use Rattle.rtsp_head.specs.Shapes.{shape_of}
use Rattle.rtsp_head.specs.declared.item.ItemKind.{ItemKind}
use Rattle.gateway_claim.specs.Happenings.{takes}
use Rattle.gateway_claim.specs.Tells.{is_frame}
use Rattle.gateway_claim.specs.declared.event.Event.TheVariants.{Client}
use Rattle.gateway_claim.specs.declared.event.Outcome.{Outcome}
use Rattle.gateway_mux.specs.declared.mux.Mux.{Mux}
use Rattle.gateway_mux.proofs.MuxLemmas.{still_open, commit_stands, other_item}
use Rattle.gateway_mux.proofs.mux.Mux.take_request.Goals as goal

pub returns-clause-stands : goal.returns-clause-stands
returns-clause-stands c =
    let old : Mux = c.args.self.now in
    let outcome : Outcome = c.in_ok-outcome.outcome in
    let new : Mux = record { connections = c.take_request.new.self; ended = outcome.fault; dropped = old.dropped } in
    commit_stands old new (Client c.args.conn c.args.item.now) outcome (still_open old.ended c.requires.open) refl c.take_request.ensures.bases c.in_ok-outcome.ensures.commits refl
    (other_item (takes c.args.conn (shape_of c.args.item.now)) outcome (ap (λ (kind : ItemKind). is_frame kind) c.requires.request))
