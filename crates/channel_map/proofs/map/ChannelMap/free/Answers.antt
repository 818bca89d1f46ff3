-- One pair after another is freed, by the bits of those of the set.
use Rattle.std.proofs.Common.{sym, arith}
use Rattle.channel_map.specs.declared.map.Freed.TheVariants.{Granted}
use Rattle.channel_map.proofs.ReleaseLemmas.{bits-itself, lowest-set, freeing-init, freeing-step, freeing-end, cleared-less}
use Rattle.channel_map.proofs.map.ChannelMap.free.Goals as goal

pub loop-pair-init : goal.loop-pair-init
loop-pair-init c =
    rw (← c.self-in-Granted.view_is, c.bits.ensures)
    (freeing-init c.in-Granted.pairs c.self-in-Granted.inside.free c.self-in-Granted.inside.table c.self-in-Granted.invariant.0 (omega arith) c.self-in-Granted.invariant.1)

pub overflow_shl-left : goal.overflow_shl-left
overflow_shl-left c = (lowest-set c.loop-pair.left c.in-Some.pair (sym (c.in-Some.ensures _ (bits-itself c.loop-pair.left)))).0

pub free_pair-requires : goal.free_pair-requires
free_pair-requires c = (lowest-set c.loop-pair.left c.in-Some.pair (sym (c.in-Some.ensures _ (bits-itself c.loop-pair.left)))).0

pub loop-pair-smaller : goal.loop-pair-smaller
loop-pair-smaller c =
    let set = lowest-set c.loop-pair.left c.in-Some.pair (sym (c.in-Some.ensures _ (bits-itself c.loop-pair.left))) in
    cleared-less c.loop-pair.left c.in-Some.pair set.0 set.1

pub loop-pair-preserved : goal.loop-pair-preserved
loop-pair-preserved c =
    let set = lowest-set c.loop-pair.left c.in-Some.pair (sym (c.in-Some.ensures _ (bits-itself c.loop-pair.left))) in
    freeing-step (Granted c.in-Granted.pairs) c.loop-pair.left c.in-Some.pair c.args.self.now c.loop-pair.self c.free_pair.new.self (omega arith) set.0 set.1 c.loop-pair.invariant c.free_pair.ensures

pub returns-in_default-lowest : goal.returns-in_default-lowest
returns-in_default-lowest c =
    rw c.in-Granted.is (freeing-end (Granted c.in-Granted.pairs) c.loop-pair.left c.args.self.now c.loop-pair.self (omega arith) (sym (c.in_default-lowest.ensures _ (bits-itself c.loop-pair.left))) c.loop-pair.invariant)
