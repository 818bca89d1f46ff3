use Rattle.std.proofs.Common.{◌≤◌, length}
use Rattle.rtsp_head.proofs.SpanLemmas.{head_within}
use Rattle.rtsp_head.proofs.item.Item.body_bytes.Goals as goal

pub after-requires : goal.after-requires
after-requires c =
    let within : c.args.self.now.head ≤ length c.args.self.now.bytes = head_within c.args.self.now.bytes _ c.args.self.now.whole in
    rw c.as_bytes.ensures within
