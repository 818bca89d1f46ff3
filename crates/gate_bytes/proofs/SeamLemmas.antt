-- The seam of a text that is joined at a byte: the front, the byte and the rest. A text is cut at its first seam.
use Rattle.std.proofs.Common.{◌≡◌, ℕ, zero, suc, ◌+◌, Bool, true, false, ◌&&◌, ◌==◌, not, cond, List, [], ◌∷◌, ◌++◌, length, take, drop, Option, None, Some, refl, ◌∙◌, ap, arith}
use Rattle.std.specs.Option.{option_map}
use Rattle.std.specs.List.{list_all}
use Rattle.std.specs.Char.{is_ascii_digit}
use Rattle.std.proofs.lemmas.Bool.{and_parts}
use Rattle.std.proofs.lemmas.List.Folds.{list_all-append}
use Rattle.std.proofs.lemmas.Option.{same_Some}
use Rattle.std.proofs.Math.Seq.{take-append_seam}
use Rattle.gate_bytes.specs.Places.{place_of, cut_at, up_to, parts_at}

-- a text without this byte
abbrev pub lacks : ℕ → List ℕ → Bool
lacks byte text = list_all (λ b. not (b == byte)) text

-- two texts that lack it, one behind the other
pub lacks_append : (byte : ℕ) (a b : List ℕ) → lacks byte a ≡ true → lacks byte b ≡ true → lacks byte (a ++ b) ≡ true
lacks_append byte a b ha hb = list_all-append (λ c. not (c == byte)) a b ∙ ap (λ t. t && lacks byte b) ha ∙ hb

unlike : (b byte : ℕ) (same : Bool) → (b == byte) ≡ same → is_ascii_digit b ≡ true → is_ascii_digit byte ≡ false → same ≡ false
unlike b byte true s h other = let equal : b ≡ byte = grind (arith, s) in absurd (grind (arith, equal, h, other))
unlike b byte false s h other = refl

-- digits lack every other byte
pub digits_lack : (byte : ℕ) (text : List ℕ) → is_ascii_digit byte ≡ false → list_all is_ascii_digit text ≡ true → lacks byte text ≡ true
digits_lack byte [] other h = refl
digits_lack byte (b ∷ text) other h =
    let parts = and_parts (is_ascii_digit b) (list_all is_ascii_digit text) h in
    let rest : lacks byte text ≡ true = digits_lack byte text other parts.1 in
    let apart : (b == byte) ≡ false = unlike b byte (b == byte) refl parts.0 other in
    grind (arith, rest, apart)

-- the byte at the seam is the first of its kind, where the front lacks it
pub place_at_seam : (byte : ℕ) (front rest : List ℕ) → lacks byte front ≡ true → place_of byte (front ++ (byte ∷ rest)) ≡ Some (length front)
place_at_seam byte [] rest h = grind arith
place_at_seam byte (b ∷ front) rest h =
    let parts = and_parts (not (b == byte)) (lacks byte front) h in
    let later : place_of byte (front ++ (byte ∷ rest)) ≡ Some (length front) = place_at_seam byte front rest parts.1 in
    grind arith

-- a text that lacks the byte has no place of it
pub place_nowhere : (byte : ℕ) (text : List ℕ) → lacks byte text ≡ true → place_of byte text ≡ None
place_nowhere byte [] h = refl
place_nowhere byte (b ∷ text) h =
    let parts = and_parts (not (b == byte)) (lacks byte text) h in
    let later : place_of byte text ≡ None = place_nowhere byte text parts.1 in
    grind arith

-- what stands behind the seam
pub drop_at_seam : (front : List ℕ) (byte : ℕ) (rest : List ℕ) → drop (length front + 1) (front ++ (byte ∷ rest)) ≡ rest
drop_at_seam [] byte rest = refl
drop_at_seam (b ∷ front) byte rest =
    let next : length (b ∷ front) + 1 ≡ suc (length front + 1) = omega arith in
    ap (λ n. drop n (b ∷ (front ++ (byte ∷ rest)))) next ∙ drop_at_seam front byte rest

-- a text is cut at its seam, where the front lacks the byte
pub cut_at_seam : (byte : ℕ) (front rest : List ℕ) → lacks byte front ≡ true →
    ◌≡◌ {A = Option (List ℕ × List ℕ)} (cut_at byte (front ++ (byte ∷ rest))) (Some (front, rest))
cut_at_seam byte front rest h =
    ap (option_map (λ k. (take k (front ++ (byte ∷ rest)), drop (k + 1) (front ++ (byte ∷ rest))))) (place_at_seam byte front rest h)
    ∙ ap (λ (t : List ℕ). Some (t, drop (length front + 1) (front ++ (byte ∷ rest)))) (take-append_seam front (byte ∷ rest))
    ∙ ap (λ (t : List ℕ). Some (front, t)) (drop_at_seam front byte rest)

-- a text that lacks the byte is not cut
pub cut_nowhere : (byte : ℕ) (text : List ℕ) → lacks byte text ≡ true → ◌≡◌ {A = Option (List ℕ × List ℕ)} (cut_at byte text) None
cut_nowhere byte text h = ap (option_map (λ k. (take k text, drop (k + 1) text))) (place_nowhere byte text h)

-- it stands before the byte as a whole
pub up_to_whole : (byte : ℕ) (text : List ℕ) → lacks byte text ≡ true → up_to byte text ≡ text
up_to_whole byte text h = let nowhere : cut_at byte text ≡ None = cut_nowhere byte text h in rw nowhere refl

-- it is its one part
pub parts_nowhere : (byte : ℕ) (text : List ℕ) → lacks byte text ≡ true → parts_at byte text ≡ text ∷ []
parts_nowhere byte [] h = refl
parts_nowhere byte (b ∷ text) h =
    let parts = and_parts (not (b == byte)) (lacks byte text) h in
    let rest : parts_at byte text ≡ text ∷ [] = parts_nowhere byte text parts.1 in
    grind arith

-- the front is the first part, where it lacks the byte
pub parts_at_seam : (byte : ℕ) (front rest : List ℕ) → lacks byte front ≡ true → parts_at byte (front ++ (byte ∷ rest)) ≡ front ∷ parts_at byte rest
parts_at_seam byte [] rest h = let same : (byte == byte) ≡ true = grind arith in grind (arith, same)
parts_at_seam byte (b ∷ front) rest h =
    let parts = and_parts (not (b == byte)) (lacks byte front) h in
    let later : parts_at byte (front ++ (byte ∷ rest)) ≡ front ∷ parts_at byte rest = parts_at_seam byte front rest parts.1 in
    grind arith

joined_later : (byte b : ℕ) (text : List ℕ) (same : Bool) (later : Option ℕ) (k : ℕ) → (b == byte) ≡ same → cond same (Some 0) (option_map (λ j. j + 1) later) ≡ Some k →
    ((j : ℕ) → later ≡ Some j → text ≡ take j text ++ (byte ∷ drop (j + 1) text)) → b ∷ text ≡ take k (b ∷ text) ++ (byte ∷ drop (k + 1) (b ∷ text))
joined_later byte b text true later zero e h rest = let equal : b ≡ byte = grind (arith, e) in ap (λ c. c ∷ text) equal
joined_later byte b text true later (suc k) e h rest = cc
joined_later byte b text false None k e h rest = cc
joined_later byte b text false (Some j) zero e h rest = absurd (grind (arith, h))
joined_later byte b text false (Some j) (suc k) e h rest =
    let same : j ≡ k = grind (arith, h) in
    let next : k + 1 ≡ suc k = omega arith in
    let after : suc (suc k) ≡ suc k + 1 = omega arith in
    ap (λ t. b ∷ t) (rest j refl) ∙ ap (λ n. b ∷ (take n text ++ (byte ∷ drop (n + 1) text))) same ∙ ap (λ n. b ∷ (take k text ++ (byte ∷ drop n text))) next
    ∙ ap (λ n. b ∷ (take k text ++ (byte ∷ drop n (b ∷ text)))) after

-- a text is its front, the byte and the rest, round each place of the byte that is the first
pub place_joined : (byte : ℕ) (text : List ℕ) (k : ℕ) → place_of byte text ≡ Some k → text ≡ take k text ++ (byte ∷ drop (k + 1) text)
place_joined byte [] k h = cc
place_joined byte (b ∷ text) k h = joined_later byte b text (b == byte) (place_of byte text) k refl h (place_joined byte text)

cut_with : (byte : ℕ) (text : List ℕ) (place : Option ℕ) (parts : List ℕ × List ℕ) → place_of byte text ≡ place →
    ◌≡◌ {A = Option (List ℕ × List ℕ)} (option_map (λ k. (take k text, drop (k + 1) text)) place) (Some parts) → text ≡ parts.0 ++ (byte ∷ parts.1)
cut_with byte text None parts e h = cc
cut_with byte text (Some k) parts e h =
    let same : ◌≡◌ {A = List ℕ × List ℕ} (take k text, drop (k + 1) text) parts = same_Some _ _ h in
    place_joined byte text k e ∙ ap (λ (p : List ℕ × List ℕ). p.0 ++ (byte ∷ p.1)) same

-- what was cut apart is the text, joined at the byte
pub cut_joined : (byte : ℕ) (text : List ℕ) (parts : List ℕ × List ℕ) → cut_at byte text ≡ Some parts → text ≡ parts.0 ++ (byte ∷ parts.1)
cut_joined byte text parts h = cut_with byte text (place_of byte text) parts refl h
