use Rattle.std.proofs.Common.{arith}
use Rattle.rtsp_range.proofs.PlaceLemmas.{place_or_end}
use Rattle.rtsp_range.proofs.part.part.Goals as goal

pub before-requires : goal.before-requires
before-requires c = grind (arith, place_or_end c.args.mark c.args.text.now)

pub after-requires : goal.after-requires
after-requires c = grind (arith, place_or_end c.args.mark c.args.text.now)
