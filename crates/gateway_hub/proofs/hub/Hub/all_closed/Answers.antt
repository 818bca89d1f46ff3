use Rattle.gateway_hub.proofs.CloseLemmas.{tells_over}
use Rattle.gateway_hub.proofs.hub.Hub.all_closed.Goals as goal

pub returns : goal.returns
returns g c = λ T k.
    let desk = c.args.self.now.state.desk in
    tells_over c.all_closed.result desk.places.items desk.fall desk.ending T k.underway.numbered k.underway.receipts (c.all_closed.ensures T k.underway.stood.stood)
