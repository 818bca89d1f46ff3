-- The parts of a text between the places of a byte.
use Rattle.std.proofs.Common.{◌≡◌, ℕ, Bool, true, false, ◌==◌, cond, List, [], ◌∷◌, Option, None, Some, refl}
use Rattle.std.specs.List.{onto_first}
use Rattle.gate_bytes.specs.Places.{cut_at, parts_at}
use Rattle.gate_bytes.proofs.PartLemmas.{parts_by_cut}
use Rattle.rtp_info.specs.Parts.{is_last}

-- the parts, once the first of them stands apart
pub first_apart : (byte : ℕ) (text part rest : List ℕ) → ◌≡◌ {A = Option (List ℕ × List ℕ)} (Some (part, rest)) (cut_at byte text) → parts_at byte text ≡ part ∷ parts_at byte rest
first_apart byte text part rest h = parts_by_cut byte text (Some (part, rest)) h

-- the one part, where the byte is nowhere
pub one_part : (byte : ℕ) (text : List ℕ) → ◌≡◌ {A = Option (List ℕ × List ℕ)} None (cut_at byte text) → parts_at byte text ≡ text ∷ []
one_part byte text h = parts_by_cut byte text None h

onto_some : (b : ℕ) (parts : List (List ℕ)) → is_last (onto_first b parts) ≡ false
onto_some b [] = refl
onto_some b (part ∷ parts) = refl

some_by : (b : ℕ) (test : Bool) (others parts : List (List ℕ)) → is_last (cond test ([] ∷ others) (onto_first b parts)) ≡ false
some_by b true others parts = refl
some_by b false others parts = onto_some b parts

-- a text has a part at least
pub some_part : (byte : ℕ) (text : List ℕ) → is_last (parts_at byte text) ≡ false
some_part byte [] = refl
some_part byte (b ∷ text) = some_by b (b == byte) (parts_at byte text) (parts_at byte text)
