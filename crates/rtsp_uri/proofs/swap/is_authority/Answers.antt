use Rattle.std.proofs.Common.{arith}
use Rattle.rtsp_uri.proofs.BaseLemmas.{is_base_authority}
use Rattle.rtsp_uri.proofs.swap.is_authority.Goals as goal

pub returns-then-eq_fold : goal.returns-then-eq_fold
returns-then-eq_fold c =
    let base = c.args.base.now in
    grind (arith, is_base_authority base.text base.host base.port c.args.host.now c.args.port base.whole)

pub returns-else-eq_fold : goal.returns-else-eq_fold
returns-else-eq_fold c =
    let base = c.args.base.now in
    grind (arith, is_base_authority base.text base.host base.port c.args.host.now c.args.port base.whole)
