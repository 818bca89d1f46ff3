use Rattle.std.proofs.Common.{◌≡◌, ◌+◌, true, length, map}
use Rattle.std.specs.Prelude.{string_bytes}
use Rattle.command_line.specs.Kinds.{first_fault, meets_address}
use Rattle.command_line.proofs.kinds.check_words.Given as goal

-- what is left has the same first fault, and an address that it meets was met from the front
abbrev pub invariant-loop-kinds : goal.invariant-loop-kinds
invariant-loop-kinds l = record {
  fault : first_fault l.place l.kinds (map string_bytes l.words) ≡ first_fault 1 l.fn.kinds (map string_bytes l.fn.words);
  meets : meets_address l.kinds (map string_bytes l.words) ≡ true → meets_address l.fn.kinds (map string_bytes l.fn.words) ≡ true;
  place : l.place + length l.kinds ≡ 1 + length l.fn.kinds;
}

abbrev pub decreases-loop-kinds : goal.decreases-loop-kinds
decreases-loop-kinds l = length l.kinds
