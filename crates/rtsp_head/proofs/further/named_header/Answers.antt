use Rattle.std.proofs.Common.{refl}
use Rattle.rtsp_head.proofs.NameLemmas.{named}
use Rattle.rtsp_head.proofs.further.named_header.Goals as goal

pub returns : goal.returns
returns c =
    named c.args.line.now c.args.len c.args.value.now _ _
    c.requires.name c.requires.some c.requires.within c.requires.colon c.before-2.ensures refl
