use Rattle.std.proofs.Common.{◌∙◌, None, sym, ap, subst}
use Rattle.rtsp_head.specs.Shapes.{shape_of}
use Rattle.client_machine.specs.Frames.{behind_channel, frame_text}
use Rattle.gateway_claim.specs.Happenings.{Happening, happening_of}
use Rattle.gateway_mux.specs.Acts.{IsRise, IsFall}
use Rattle.gateway_mux.specs.Moves.{IsIdle, answering, risen_by, fallen_by}
use Rattle.gateway_mux.specs.Pictures.{picture}
use Rattle.gateway_mux.proofs.ActLemmas.{idle_committed, rise_committed, fall_committed}
use Rattle.gateway_mux.proofs.CarryLemmas.{never_enters, committed_as}
use Rattle.gateway_mux.proofs.connections.Connections.pass.Goals as goal

pub returns-in-Some-clause-commits : goal.returns-in-Some-clause-commits
returns-in-Some-clause-commits c =
    committed_as c.args.self.now.bases (picture c.args.self.now.seats c.args.self.now.upstream) (picture c.args.self.now.seats c.args.self.now.upstream) (happening_of c.args.event) c.rising.result
    (risen_by (frame_text c.in-Some.channel (behind_channel (shape_of c.in-Client.item)))) (c.rising.ensures.rises ∙ ap risen_by c.on_channel.ensures.text)
    (rise_committed c.args.self.now.bases (picture c.args.self.now.seats c.args.self.now.upstream) (happening_of c.args.event) c.in-Client.conn c.in-Some.channel (shape_of c.in-Client.item) (ap happening_of c.in-Client.is)
    (subst (λ (h : Happening). IsRise (picture c.args.self.now.seats c.args.self.now.upstream) h c.in-Some.channel) (sym (ap happening_of c.in-Client.is)) c.in-Some.ensures))

pub returns-in-None-clause-commits : goal.returns-in-None-clause-commits
returns-in-None-clause-commits c =
    committed_as c.args.self.now.bases (picture c.args.self.now.seats c.args.self.now.upstream) (picture c.args.self.now.seats c.args.self.now.upstream) (happening_of c.args.event) c.nothing.result (answering None) c.nothing.ensures.silent
    (idle_committed c.args.self.now.bases (picture c.args.self.now.seats c.args.self.now.upstream) (happening_of c.args.event) None (never_enters c.args.event)
    (subst (λ (h : Happening). IsIdle c.args.self.now.bases (picture c.args.self.now.seats c.args.self.now.upstream) h None) (sym (ap happening_of c.in-Client.is)) c.in-None.ensures))

pub returns-in-Some-fall-clause-commits : goal.returns-in-Some-fall-clause-commits
returns-in-Some-fall-clause-commits c =
    committed_as c.args.self.now.bases (picture c.args.self.now.seats c.args.self.now.upstream) (picture c.args.self.now.seats c.args.self.now.upstream) (happening_of c.args.event) c.falling.result
    (fallen_by c.in-Some-fall.fall.conn (frame_text c.in-Some-fall.fall.channel (behind_channel (shape_of c.in-Up.item)))) (c.falling.ensures.falls ∙ ap (fallen_by c.in-Some-fall.fall.conn) c.on_channel-in-Some-fall.ensures.text)
    (fall_committed c.args.self.now.bases (picture c.args.self.now.seats c.args.self.now.upstream) (happening_of c.args.event) c.in-Some-fall.fall.conn c.in-Some-fall.fall.channel (shape_of c.in-Up.item) (ap happening_of c.in-Up.is)
    (subst (λ (h : Happening). IsFall (picture c.args.self.now.seats c.args.self.now.upstream) h c.in-Some-fall.fall.conn c.in-Some-fall.fall.channel) (sym (ap happening_of c.in-Up.is)) c.in-Some-fall.ensures))

pub returns-in-None-fall-clause-commits : goal.returns-in-None-fall-clause-commits
returns-in-None-fall-clause-commits c =
    committed_as c.args.self.now.bases (picture c.args.self.now.seats c.args.self.now.upstream) (picture c.args.self.now.seats c.args.self.now.upstream) (happening_of c.args.event) c.nothing-in-None-fall.result (answering None) c.nothing-in-None-fall.ensures.silent
    (idle_committed c.args.self.now.bases (picture c.args.self.now.seats c.args.self.now.upstream) (happening_of c.args.event) None (never_enters c.args.event)
    (subst (λ (h : Happening). IsIdle c.args.self.now.bases (picture c.args.self.now.seats c.args.self.now.upstream) h None) (sym (ap happening_of c.in-Up.is)) c.in-None-fall.ensures))
