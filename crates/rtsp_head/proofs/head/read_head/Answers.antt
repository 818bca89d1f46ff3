use Rattle.std.proofs.Common.{sym}
use Rattle.rtsp_head.specs.Heads.{head_of}
use Rattle.rtsp_head.proofs.MessageHeadLemmas.{sound_by, refused_by}
use Rattle.rtsp_head.proofs.head.read_head.Goals as goal

pub sound_head-requires : goal.sound_head-requires
sound_head-requires c = sound_by (head_of c.args.bytes.now) _ (sym c.in-Ok.ensures.facts)

pub returns-in-Err-clause-head : goal.returns-in-Err-clause-head
returns-in-Err-clause-head c = refused_by (head_of c.args.bytes.now) _ c.in-Err.ensures.facts
