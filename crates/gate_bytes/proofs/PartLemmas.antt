-- The parts of a text between the places of a byte.
use Rattle.std.proofs.Common.{◌≡◌, ℕ, zero, suc, ◌+◌, Bool, true, false, ◌==◌, cond, List, [], ◌∷◌, take, drop, Option, None, Some, refl, sym, ◌∙◌, ap, add-one, arith}
use Rattle.std.specs.Option.{option_map}
use Rattle.std.specs.List.{onto_first}
use Rattle.gate_bytes.specs.Places.{place_of, cut_at, parts_at}

split_step : (byte b : ℕ) (text : List ℕ) (test : Bool) (later : Option ℕ) (parts : List (List ℕ)) (k : ℕ) →
    cond test (Some 0) (option_map (λ j. j + 1) later) ≡ Some k →
    parts ≡ parts_at byte text →
    ((j : ℕ) → later ≡ Some j → parts ≡ take j text ∷ parts_at byte (drop (j + 1) text)) →
    cond test ([] ∷ parts) (onto_first b parts) ≡ take k (b ∷ text) ∷ parts_at byte (drop (k + 1) (b ∷ text))
split_step byte b text true later parts zero h e more = ap (λ ps. [] ∷ ps) e
split_step byte b text true later parts (suc k) h e more = cc
split_step byte b text false None parts k h e more = cc
split_step byte b text false (Some j) parts zero h e more = absurd (grind arith)
split_step byte b text false (Some j) parts (suc k) h e more =
    let same : j ≡ k = grind arith in
    rw (more j refl) (rw same (rw (add-one, add-one) refl))

-- the parts, where the byte stands in the text
pub parts_at_place : (byte : ℕ) (text : List ℕ) (k : ℕ) → place_of byte text ≡ Some k → parts_at byte text ≡ take k text ∷ parts_at byte (drop (k + 1) text)
parts_at_place byte [] k h = cc
parts_at_place byte (b ∷ text) k h = split_step byte b text (b == byte) (place_of byte text) (parts_at byte text) k h refl (parts_at_place byte text)

whole_step : (b : ℕ) (text : List ℕ) (test : Bool) (later : Option ℕ) (parts : List (List ℕ)) →
    cond test (Some 0) (option_map (λ j. j + 1) later) ≡ None → (later ≡ None → parts ≡ text ∷ []) →
    cond test ([] ∷ parts) (onto_first b parts) ≡ (b ∷ text) ∷ []
whole_step b text true later parts h more = cc
whole_step b text false None parts h more = rw (more refl) refl
whole_step b text false (Some j) parts h more = cc

-- the one part, where it doesn't
pub parts_whole : (byte : ℕ) (text : List ℕ) → place_of byte text ≡ None → parts_at byte text ≡ text ∷ []
parts_whole byte [] h = refl
parts_whole byte (b ∷ text) h = whole_step b text (b == byte) (place_of byte text) (parts_at byte text) h (parts_whole byte text)

-- the parts, once the first of them stands apart
abbrev pub parts_with : ℕ → List ℕ → Option (List ℕ × List ℕ) → List (List ℕ)
parts_with byte text None = text ∷ []
parts_with byte text (Some cut) = cut.0 ∷ parts_at byte cut.1

by_place : (byte : ℕ) (text : List ℕ) (place : Option ℕ) → place_of byte text ≡ place →
    parts_at byte text ≡ parts_with byte text (option_map (λ k. (take k text, drop (k + 1) text)) place)
by_place byte text None h = parts_whole byte text h
by_place byte text (Some k) h = parts_at_place byte text k h

-- the parts of a text, by its first cut
pub parts_by_cut : (byte : ℕ) (text : List ℕ) (cut : Option (List ℕ × List ℕ)) → cut ≡ cut_at byte text → parts_at byte text ≡ parts_with byte text cut
parts_by_cut byte text cut h = by_place byte text (place_of byte text) refl ∙ ap (parts_with byte text) (sym h)
