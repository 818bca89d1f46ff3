use Rattle.std.proofs.Common.{◌∙◌, Some, None, ap, subst}
use Rattle.rtsp_head.specs.Shapes.{shape_of}
use Rattle.client_machine.specs.Frames.{behind_channel, frame_text}
use Rattle.gateway_claim.specs.Happenings.{happening_of}
use Rattle.gateway_mux.specs.declared.act.Act.{Act}
use Rattle.gateway_mux.specs.Acts.{IsAct}
use Rattle.gateway_mux.specs.Moves.{answering, risen_by, fallen_by, ended_by}
use Rattle.gateway_mux.specs.Pictures.{picture}
use Rattle.gateway_mux.proofs.ActLemmas.{idle_committed, rise_committed, fall_committed, end_committed}
use Rattle.gateway_mux.proofs.CarryLemmas.{never_enters, committed_as}
use Rattle.gateway_mux.proofs.connections.Connections.commit.Goals as goal

pub returns-in-Nothing-clause-commits : goal.returns-in-Nothing-clause-commits
returns-in-Nothing-clause-commits c =
    committed_as c.args.self.now.bases (picture c.args.self.now.seats c.args.self.now.upstream) (picture c.args.self.now.seats c.args.self.now.upstream) (happening_of c.args.event) c.nothing.result (answering None) c.nothing.ensures.silent
    (idle_committed c.args.self.now.bases (picture c.args.self.now.seats c.args.self.now.upstream) (happening_of c.args.event) None (never_enters c.args.event)
    (subst (λ (act : Act). IsAct c.args.self.now.bases (picture c.args.self.now.seats c.args.self.now.upstream) (happening_of c.args.event) act) c.in-Nothing.is c.requires.act))

pub returns-in-Client-clause-commits : goal.returns-in-Client-clause-commits
returns-in-Client-clause-commits c =
    committed_as c.args.self.now.bases (picture c.args.self.now.seats c.args.self.now.upstream) (picture c.args.self.now.seats c.args.self.now.upstream) (happening_of c.args.event) c.rising.result
    (risen_by (frame_text c.in-Rises.channel (behind_channel (shape_of c.in-Client.item)))) (c.rising.ensures.rises ∙ ap risen_by c.on_channel.ensures.text)
    (rise_committed c.args.self.now.bases (picture c.args.self.now.seats c.args.self.now.upstream) (happening_of c.args.event) c.in-Client.field-0 c.in-Rises.channel (shape_of c.in-Client.item) (ap happening_of c.in-Client.is)
    (subst (λ (act : Act). IsAct c.args.self.now.bases (picture c.args.self.now.seats c.args.self.now.upstream) (happening_of c.args.event) act) c.in-Rises.is c.requires.act))

pub returns-in-Up-clause-commits : goal.returns-in-Up-clause-commits
returns-in-Up-clause-commits c =
    committed_as c.args.self.now.bases (picture c.args.self.now.seats c.args.self.now.upstream) (picture c.args.self.now.seats c.args.self.now.upstream) (happening_of c.args.event) c.falling.result
    (fallen_by c.in-Falls.fall.conn (frame_text c.in-Falls.fall.channel (behind_channel (shape_of c.in-Up.item)))) (c.falling.ensures.falls ∙ ap (fallen_by c.in-Falls.fall.conn) c.on_channel-in-Up.ensures.text)
    (fall_committed c.args.self.now.bases (picture c.args.self.now.seats c.args.self.now.upstream) (happening_of c.args.event) c.in-Falls.fall.conn c.in-Falls.fall.channel (shape_of c.in-Up.item) (ap happening_of c.in-Up.is)
    (subst (λ (act : Act). IsAct c.args.self.now.bases (picture c.args.self.now.seats c.args.self.now.upstream) (happening_of c.args.event) act) c.in-Falls.is c.requires.act))

pub returns-in-Answers-clause-commits : goal.returns-in-Answers-clause-commits
returns-in-Answers-clause-commits c =
    committed_as c.args.self.now.bases (picture c.args.self.now.seats c.args.self.now.upstream) (picture c.args.self.now.seats c.args.self.now.upstream) (happening_of c.args.event) c.answering.result (answering (Some c.in-Answers.answer)) c.answering.ensures.answers
    (idle_committed c.args.self.now.bases (picture c.args.self.now.seats c.args.self.now.upstream) (happening_of c.args.event) (Some c.in-Answers.answer) (never_enters c.args.event)
    (subst (λ (act : Act). IsAct c.args.self.now.bases (picture c.args.self.now.seats c.args.self.now.upstream) (happening_of c.args.event) act) c.in-Answers.is c.requires.act))

pub returns-in-Ends-clause-commits : goal.returns-in-Ends-clause-commits
returns-in-Ends-clause-commits c =
    committed_as c.args.self.now.bases (picture c.args.self.now.seats c.args.self.now.upstream) (picture c.args.self.now.seats c.args.self.now.upstream) (happening_of c.args.event) c.ending.result (ended_by c.in-Ends.cause) c.ending.ensures.ends
    (end_committed c.args.self.now.bases (picture c.args.self.now.seats c.args.self.now.upstream) (happening_of c.args.event) c.in-Ends.cause
    (subst (λ (act : Act). IsAct c.args.self.now.bases (picture c.args.self.now.seats c.args.self.now.upstream) (happening_of c.args.event) act) c.in-Ends.is c.requires.act))
