use Rattle.std.proofs.Common.{◌∙◌, ℕ, Option, sym, ap, subst, arith}
use Rattle.std.specs.Option.{option_or}
use Rattle.gateway_hub.specs.Ends.{PutsFor}
use Rattle.gateway_claim.specs.Happenings.{happening_of}
use Rattle.gateway_hub.specs.Keeps.{StandsIdle}
use Rattle.gateway_hub.proofs.LateLemmas.{event_taken}
use Rattle.gateway_hub.proofs.EndLemmas.{ends_twice}
use Rattle.gateway_hub.proofs.PutLemmas.{puts_twice}
use Rattle.gateway_hub.proofs.ShowLemmas.{shown_twice}
use Rattle.gateway_hub.proofs.state.HubState.take_event.Goals as goal

pub returns-clause-ok : goal.returns-clause-ok
returns-clause-ok g c =
    let stands = StandsIdle g.M.Core.stands g.M.Core.waits g.M.Core.bases in
    let old = c.args.self.now in
    let one = c.take_one.new.self in
    let end = c.end_if_full-next.new.self in
    let new = c.lag_if_full-last.new.self in
    event_taken (happening_of c.args.event) (stands old.core) (stands one.core) (stands end.core) (stands new.core)
    (g.R.Recorder.entries old.recorder) (g.R.Recorder.entries one.recorder) (g.R.Recorder.entries end.recorder) (g.R.Recorder.entries new.recorder)
    (g.R.Recorder.faults old.recorder) (g.R.Recorder.faults one.recorder) (g.R.Recorder.faults end.recorder) (g.R.Recorder.faults new.recorder)
    old.desk one.desk end.desk new.desk c.in_ok-delivery.delivery c.in_ok-delivery.ensures.ok c.take_one.ensures.later c.in_ok-delivery.ensures.puts (c.end_if_full-next.ensures.settles c.in_ok-delivery.delivery.client) c.lag_if_full-last.ensures.settles

pub returns-clause-ends : goal.returns-clause-ends
returns-clause-ends g c =
    let old = c.args.self.now.desk in
    let one = c.take_one.new.self.desk in
    let end = c.end_if_full-next.new.self.desk in
    let new = c.lag_if_full-last.new.self.desk in
    ends_twice old end new (ends_twice old one end c.take_one.ensures.ends c.end_if_full-next.ensures.ends) c.lag_if_full-last.ensures.ends

pub returns-clause-puts : goal.returns-clause-puts
returns-clause-puts g c =
    let old = c.args.self.now.desk in
    let one = c.take_one.new.self.desk in
    let end = c.end_if_full-next.new.self.desk in
    let new = c.lag_if_full-last.new.self.desk in
    let landed = c.in_ok-delivery.delivery.landed in
    let next = c.end_if_full-next.result in
    let last = c.lag_if_full-last.result in
    subst (λ (o : Option ℕ). PutsFor o old.places.items new.places.items) (ap (λ (o : Option ℕ). option_or last o) (sym c.or-earlier.ensures) ∙ sym c.or.ensures)
    (puts_twice (option_or next landed) last old.places.items end.places.items new.places.items (ends_twice old one end c.take_one.ensures.ends c.end_if_full-next.ensures.ends).lines
    (puts_twice landed next old.places.items one.places.items end.places.items c.take_one.ensures.ends.lines c.in_ok-delivery.ensures.puts c.end_if_full-next.ensures.puts) c.lag_if_full-last.ensures.puts)

pub returns-clause-shown : goal.returns-clause-shown
returns-clause-shown g c =
    let old = c.args.self.now in
    let one = c.take_one.new.self in
    let end = c.end_if_full-next.new.self in
    let new = c.lag_if_full-last.new.self in
    shown_twice old.desk.ending end.desk.ending new.desk.ending (g.R.Recorder.faults old.recorder) (g.R.Recorder.faults end.recorder) (g.R.Recorder.faults new.recorder)
    (let first = c.take_one.ensures.later in let next = c.end_if_full-next.ensures.later in omega arith) c.lag_if_full-last.ensures.later
    (shown_twice old.desk.ending one.desk.ending end.desk.ending (g.R.Recorder.faults old.recorder) (g.R.Recorder.faults one.recorder) (g.R.Recorder.faults end.recorder) c.take_one.ensures.later c.end_if_full-next.ensures.later
    c.take_one.ensures.shown c.end_if_full-next.ensures.shown) c.lag_if_full-last.ensures.shown
