use Rattle.std.proofs.Common.{List, ℕ, Option, take, sym, subst}
use Rattle.std.specs.Prelude.{IfSome}
use Rattle.rtsp_head.specs.declared.marks.HeaderMark.{HeaderMark}
use Rattle.std.specs.Result.{IsOk}
use Rattle.rtsp_head.specs.Heads.{head_of}
use Rattle.rtsp_head.specs.MarkedHeads.{AreHeadMarks}
use Rattle.rtsp_head.proofs.MessageHeadLemmas.{is_message, message_head}
use Rattle.rtsp_head.proofs.item.Item.head.Goals as goal

pub sound_head-requires : goal.sound_head-requires
sound_head-requires c = subst (λ bytes. IsOk (head_of bytes)) (sym c.head_bytes-in-None.ensures) (message_head _ _ c.args.self.now.whole (is_message _ c.in-Request.is))

pub marked_head-requires : goal.marked_head-requires
marked_head-requires c =
    subst (λ (bytes : List ℕ). AreHeadMarks bytes c.args.self.now.marks.start c.in-Some.marks.now) (sym c.head_bytes.ensures)
    (subst (λ (known : Option (List HeaderMark)). IfSome known (AreHeadMarks (take c.args.self.now.head c.args.self.now.bytes) c.args.self.now.marks.start)) (sym c.in-Some.ensures) c.args.self.now.marked)
