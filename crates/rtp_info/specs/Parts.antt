-- The parts of a value, and reading all of them.
use Rattle.std.specs.Prelude.{ℕ, Bool, true, false, List, [], ◌∷◌, Option, Some, None, option_map, option_and_then}
use Rattle.gate_bytes.specs.Places.{parts_at}

-- the parts of what is left, if anything is
abbrev pub remaining_parts : ℕ → Option (List ℕ) → List (List ℕ)
remaining_parts byte None = []
remaining_parts byte (Some text) = parts_at byte text

-- whether no part follows
abbrev pub is_last : List (List ℕ) → Bool
is_last [] = true
is_last (part ∷ parts) = false

-- all, where the first and all others can be read
abbrev pub with_first : {A : Type 0} → Option A → Option (List A) → Option (List A)
with_first first others = option_and_then (λ x. option_map (λ xs. x ∷ xs) others) first

-- what each part says, in order; nothing where one of them says nothing
abbrev pub each_read : {A : Type 0} → (List ℕ → Option A) → List (List ℕ) → Option (List A)
each_read read [] = Some []
each_read read (part ∷ parts) = with_first (read part) (each_read read parts)
