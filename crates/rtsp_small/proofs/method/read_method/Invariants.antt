use Rattle.std.proofs.Common.{◌≡◌, drop}
use Rattle.std.specs.List.{find}
use Rattle.std.specs.Str.{bytes_eq}
use Rattle.rtsp_small.specs.Methods.{method_name, method_of}
use Rattle.rtsp_small.specs.declared.method.TheConstants.{METHODS}
use Rattle.rtsp_small.proofs.method.read_method.Given as goal

-- the method is among those that are left
abbrev pub invariant-loop-method : goal.invariant-loop-method
invariant-loop-method l = find (λ method. bytes_eq l.text (method_name method)) (drop l.method-index METHODS) ≡ method_of l.text
