-- The lowest bit that is set is the first pair of which the test holds.
use Rattle.std.proofs.Common.{sym, arith}
use Rattle.channel_map.proofs.BitLemmas.{bits-none, bits-lowest}
use Rattle.channel_map.proofs.map.lowest.Goals as goal

pub returns-then-free-eq0 : goal.returns-then-free-eq0
returns-then-free-eq0 c is bits = sym (bits-none c.args.free is c.if-free-eq0.true bits)

pub returns-else-free-eq0 : goal.returns-else-free-eq0
returns-else-free-eq0 c is bits = sym (bits-lowest c.args.free is (omega arith) c.ranges.free.fits bits)
