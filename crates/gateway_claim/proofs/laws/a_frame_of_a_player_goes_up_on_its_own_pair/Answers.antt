use Rattle.gateway_claim.proofs.ApartLemmas.{GoesUp, frame_up}
use Rattle.gateway_claim.proofs.laws.a_frame_of_a_player_goes_up_on_its_own_pair.Goals as goal

pub returns-clause-goes : goal.returns-clause-goes
returns-clause-goes c bases earlier entry i frame is follows here kind = (frame_up bases earlier entry i frame is follows here kind).message

pub returns-clause-alone : goal.returns-clause-alone
returns-clause-alone c bases earlier entry i frame is follows here kind =
    let up : GoesUp bases earlier i frame entry.outcome = frame_up bases earlier entry i frame is follows here kind in
    (up.piece, up.answer, up.closed, up.fault)
