-- Splitting outside double quotes: the first part, and the others.
use Rattle.std.proofs.Common.{◌≡◌, ℕ, zero, suc, ◌+◌, ◌<◌, Bool, true, false, not, ◌==◌, ◌&&◌, cond, List, [], ◌∷◌, length, take, drop, get_or, Option, None, Some, refl, sym, ◌∙◌, ap, add-one, drop-cons, arith}
use Rattle.std.specs.Option.{option_map}
use Rattle.std.specs.List.{onto_first}
use Rattle.rtsp_transport.specs.Splits.{quoted_after, split_from, unquoted_parts, place_outside}

split_step : (byte b : ℕ) (text : List ℕ) (test : Bool) (later : Option ℕ) (parts : List (List ℕ)) (k : ℕ) →
    cond test (Some 0) (option_map (λ j. j + 1) later) ≡ Some k →
    ((j : ℕ) → later ≡ Some j → parts ≡ take j text ∷ split_from byte false (drop (j + 1) text)) →
    cond test ([] ∷ split_from byte false text) (onto_first b parts) ≡ take k (b ∷ text) ∷ split_from byte false (drop (k + 1) (b ∷ text))
split_step byte b text true later parts zero h more = refl
split_step byte b text true later parts (suc k) h more = cc
split_step byte b text false None parts k h more = cc
split_step byte b text false (Some j) parts zero h more = absurd (grind arith)
split_step byte b text false (Some j) parts (suc k) h more =
    let same : j ≡ k = grind arith in
    rw (more j refl) (rw same (rw (add-one, add-one) refl))

split_at_place : (byte : ℕ) (quoted : Bool) (text : List ℕ) (k : ℕ) → place_outside byte quoted text ≡ Some k →
    split_from byte quoted text ≡ take k text ∷ split_from byte false (drop (k + 1) text)
split_at_place byte quoted [] k h = cc
split_at_place byte quoted (b ∷ text) k h =
    split_step byte b text (b == byte && not quoted) (place_outside byte (quoted_after quoted b) text) (split_from byte (quoted_after quoted b) text) k h (split_at_place byte (quoted_after quoted b) text)

whole_step : (byte b : ℕ) (text : List ℕ) (test : Bool) (later : Option ℕ) (parts : List (List ℕ)) →
    cond test (Some 0) (option_map (λ j. j + 1) later) ≡ None → (later ≡ None → parts ≡ text ∷ []) →
    cond test ([] ∷ split_from byte false text) (onto_first b parts) ≡ (b ∷ text) ∷ []
whole_step byte b text true later parts h more = cc
whole_step byte b text false None parts h more = rw (more refl) refl
whole_step byte b text false (Some j) parts h more = cc

split_whole : (byte : ℕ) (quoted : Bool) (text : List ℕ) → place_outside byte quoted text ≡ None → split_from byte quoted text ≡ text ∷ []
split_whole byte quoted [] h = refl
split_whole byte quoted (b ∷ text) h =
    whole_step byte b text (b == byte && not quoted) (place_outside byte (quoted_after quoted b) text) (split_from byte (quoted_after quoted b) text) h (split_whole byte (quoted_after quoted b) text)

-- the parts, where the byte stands outside quotes
pub parts_at_place : (byte : ℕ) (text : List ℕ) (k : ℕ) → Some k ≡ place_outside byte false text → unquoted_parts byte text ≡ take k text ∷ unquoted_parts byte (drop (k + 1) text)
parts_at_place byte text k h = split_at_place byte false text k (sym h)

-- the one part, where it doesn't
pub parts_whole : (byte : ℕ) (text : List ℕ) → None ≡ place_outside byte false text → unquoted_parts byte text ≡ text ∷ []
parts_whole byte text h = split_whole byte false text (sym h)

shifted : (i : ℕ) (later : Option ℕ) → option_map (λ k. (i + 1) + k) later ≡ option_map (λ k. i + k) (option_map (λ k. k + 1) later)
shifted i None = refl
shifted i (Some k) = ap Some (omega arith)

-- The search goes on behind a byte that is no such place.
pub place_goes_on : (byte i : ℕ) (quoted : Bool) (text : List ℕ) (total : Option ℕ) → i < length text →
    get_or text i 0 == byte && not quoted ≡ false →
    option_map (λ k. i + k) (place_outside byte quoted (drop i text)) ≡ total →
    option_map (λ k. (i + 1) + k) (place_outside byte (quoted_after quoted (get_or text i 0)) (drop (i + 1) text)) ≡ total
place_goes_on byte i quoted text total within other h =
    let b = get_or text i 0 in
    let later = place_outside byte (quoted_after quoted b) (drop (i + 1) text) in
    let next : drop i text ≡ b ∷ drop (i + 1) text = rw (add-one, drop-cons text i 0 within) refl in
    shifted i later ∙ ap (λ t. option_map (λ k. i + k) (cond t (Some 0) (option_map (λ k. k + 1) later))) (sym other)
    ∙ ap (λ t. option_map (λ k. i + k) (place_outside byte quoted t)) (sym next) ∙ h

-- The search ends at a byte that is such a place.
pub place_found : (byte i : ℕ) (quoted : Bool) (text : List ℕ) (total : Option ℕ) → i < length text →
    get_or text i 0 == byte && not quoted ≡ true →
    option_map (λ k. i + k) (place_outside byte quoted (drop i text)) ≡ total → Some i ≡ total
place_found byte i quoted text total within here h =
    let b = get_or text i 0 in
    let later = place_outside byte (quoted_after quoted b) (drop (i + 1) text) in
    let next : drop i text ≡ b ∷ drop (i + 1) text = rw (add-one, drop-cons text i 0 within) refl in
    let zero_more : i ≡ i + 0 = omega arith in
    ap Some zero_more ∙ ap (λ t. option_map (λ k. i + k) (cond t (Some 0) (option_map (λ k. k + 1) later))) (sym here)
    ∙ ap (λ t. option_map (λ k. i + k) (place_outside byte quoted t)) (sym next) ∙ h

-- the parts, once the first of them stands apart
pub first_apart : (byte : ℕ) (text front rest : List ℕ) (k : ℕ) → Some k ≡ place_outside byte false text → front ≡ take k text → rest ≡ drop (k + 1) text →
    unquoted_parts byte text ≡ front ∷ unquoted_parts byte rest
first_apart byte text front rest k h f r = rw (f, r) (parts_at_place byte text k h)

onto_some : (b : ℕ) (parts : List (List ℕ)) → 0 < length (onto_first b parts)
onto_some b [] = omega arith
onto_some b (part ∷ parts) = omega arith

some_by : (b : ℕ) (test : Bool) (others parts : List (List ℕ)) → 0 < length (cond test ([] ∷ others) (onto_first b parts))
some_by b true others parts = omega arith
some_by b false others parts = onto_some b parts

-- a text has a part at least
pub some_part : (byte : ℕ) (quoted : Bool) (text : List ℕ) → 0 < length (split_from byte quoted text)
some_part byte quoted [] = omega arith
some_part byte quoted (b ∷ text) = some_by b (b == byte && not quoted) (split_from byte false text) (split_from byte (quoted_after quoted b) text)
