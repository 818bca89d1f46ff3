-- What a call answers that may want memory.
use Rattle.std.specs.Prelude.{◌≡◌, Option, Result, Ok, Err, IfSome}

-- What was answered is what the definition says, unless memory was wanting. The function tells the refusal that an
-- error stands for, and none for want of memory.
abbrev pub UnlessMemory : {A E F : Type 0} → (E → Option F) → Result A E → Result A F → Type 0
UnlessMemory refusal (Ok x) said = said ≡ Ok x
UnlessMemory refusal (Err e) said = IfSome (refusal e) (λ fault. said ≡ Err fault)
