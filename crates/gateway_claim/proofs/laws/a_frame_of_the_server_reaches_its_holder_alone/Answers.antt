use Rattle.gateway_claim.proofs.ApartLemmas.{GoesDown, frame_down}
use Rattle.gateway_claim.proofs.laws.a_frame_of_the_server_reaches_its_holder_alone.Goals as goal

pub returns-clause-reaches : goal.returns-clause-reaches
returns-clause-reaches c bases earlier entry frame channel rest is follows here says = (frame_down bases earlier entry frame channel rest is follows here says).piece

pub returns-clause-alone : goal.returns-clause-alone
returns-clause-alone c bases earlier entry frame channel rest is follows here says =
    let down : GoesDown bases earlier channel rest entry.outcome = frame_down bases earlier entry frame channel rest is follows here says in
    (down.up, down.closed, down.fault)
