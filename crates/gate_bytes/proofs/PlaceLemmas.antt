-- The first place of a byte, by index and by recursion, and that it lies within its text.
use Rattle.std.proofs.Common.{◌≡◌, ℕ, zero, suc, ◌+◌, ◌<◌, ◌==◌, ◌||◌, Bool, is_some, true, false, cond, List, [], ◌∷◌, length, Option, None, Some, refl, sym, ◌∙◌, ap, arith, add-one}
use Rattle.std.specs.Option.{option_map}
use Rattle.std.specs.List.{list_any}
use Rattle.gate_bytes.specs.Places.{place_of}
use Rattle.memchr.specs.Find.{IsFirstByte, is_byte}

-- The answer of a search is the first place, where the first byte's test went so, and the search of
-- the rest goes by recursion.
place_with : (byte b : ℕ) (text : List ℕ) (t : Bool) → (b == byte) ≡ t → (r : Option ℕ) → IsFirstByte (is_byte byte) (b ∷ text) r
    → ((s : Option ℕ) → IsFirstByte (is_byte byte) text s → s ≡ place_of byte text)
    → r ≡ cond t (Some 0) (option_map (λ k. k + 1) (place_of byte text))
place_with byte b text true e None h rest = absurd (h zero (omega arith) (omega arith) e)
place_with byte b text true e (Some zero) h rest = refl
place_with byte b text true e (Some (suc k)) h rest = absurd (h.0.before zero (omega arith) (omega arith) e)
place_with byte b text false e None h rest =
    ap (option_map (λ k. k + 1)) (rest None (λ k low high p. h (suc k) (omega arith) (omega arith) p))
place_with byte b text false e (Some zero) h rest = let hit : (b == byte) ≡ true = h.1 in cc
place_with byte b text false e (Some (suc k)) h rest =
    let below : k < length text = omega (arith, h.0.high) in
    ap (λ n. Some n) (sym (add-one k))
    ∙ ap (option_map (λ k. k + 1)) (rest (Some k) (
      record { low = omega arith; high = below; before = λ j low high p. h.0.before (suc j) (omega arith) (omega arith) p },
      h.1,
    ))

-- The answer of a search is the first place.
pub first_byte_place : (byte : ℕ) (text : List ℕ) (r : Option ℕ) → IsFirstByte (is_byte byte) text r → r ≡ place_of byte text
first_byte_place byte [] None h = refl
first_byte_place byte [] (Some k) h = absurd (omega (arith, h.0.high))
first_byte_place byte (b ∷ text) r h = place_with byte b text (b == byte) refl r h (first_byte_place byte text)

-- the place of a later byte
pub place_later : (test : Bool) (later : Option ℕ) (k n : ℕ) → cond test (Some 0) (option_map (λ j. j + 1) later) ≡ Some k → ((j : ℕ) → later ≡ Some j → j < n) → k < n + 1
place_later true later k n h within = grind arith
place_later false None k n h within = cc
place_later false (Some j) k n h within = let below : j < n = within j refl in grind arith

-- a place lies within its text
pub place_within : (byte : ℕ) (text : List ℕ) (k : ℕ) → place_of byte text ≡ Some k → k < length text
place_within byte [] k h = cc
place_within byte (b ∷ text) k h =
    let below : k < length text + 1 = place_later (b == byte) (place_of byte text) k (length text) h (place_within byte text) in
    omega arith

-- A search finds something exactly where a byte passes its test.
any_with : (test : ℕ → Bool) (b : ℕ) (text : List ℕ) (t : Bool) → test b ≡ t → (r : Option ℕ) → IsFirstByte test (b ∷ text) r
    → ((s : Option ℕ) → IsFirstByte test text s → is_some s ≡ list_any test text) → is_some r ≡ t || list_any test text
any_with test b text true e None h rest = absurd (h zero (omega arith) (omega arith) e)
any_with test b text true e (Some k) h rest = refl
any_with test b text false e None h rest = rest None (λ k low high p. h (suc k) (omega arith) (omega arith) p)
any_with test b text false e (Some zero) h rest = let hit : test b ≡ true = h.1 in cc
any_with test b text false e (Some (suc k)) h rest =
    let below : k < length text = omega (arith, h.0.high) in
    rest (Some k) (
      record { low = omega arith; high = below; before = λ j low high p. h.0.before (suc j) (omega arith) (omega arith) p },
      h.1,
    )

pub finds_any : (test : ℕ → Bool) (text : List ℕ) (r : Option ℕ) → IsFirstByte test text r → is_some r ≡ list_any test text
finds_any test [] None h = refl
finds_any test [] (Some k) h = absurd (omega (arith, h.0.high))
finds_any test (b ∷ text) r h = any_with test b text (test b) refl r h (finds_any test text)
