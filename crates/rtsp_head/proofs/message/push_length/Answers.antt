use Rattle.std.proofs.Common.{◌≡◌, [], rules}
use Rattle.rtsp_head.proofs.MessageLemmas.{length_told}
use Rattle.rtsp_head.proofs.message.push_length.Goals as goal

pub returns : goal.returns
returns c =
    let some : c.args.body.now ≡ [] → ⊥ = search rules in
    rw (length_told c.args.body.now some) c.push_numeric.ensures
