use Rattle.std.proofs.Common.{◌≡◌, ◌++◌, drop}
use Rattle.gate_outside.specs.Links.{parts_joined}
use Rattle.gate_outside.proofs.mark.laid_out.Given as goal

-- the bytes so far and those of the parts that are left are all
abbrev pub invariant-loop-part : goal.invariant-loop-part
invariant-loop-part l = l.bytes ++ parts_joined (drop l.part-index l.parts) ≡ parts_joined l.parts
