-- Texts without a byte outside double quotes: they aren't split at it, and not trimmed.
use Rattle.std.proofs.Common.{◌≡◌, ℕ, ◌+◌, ◌%◌, Bool, is_some, true, false, not, ◌==◌, ◌&&◌, cond, List, [], ◌∷◌, ◌++◌, Option, None, Some, refl, ap, arith}
use Rattle.std.specs.Option.{option_map}
use Rattle.std.specs.List.{list_all, count_by}
use Rattle.std.proofs.lemmas.Bool.{and_parts}
use Rattle.gate_bytes.specs.Ascii.{double_quote}
use Rattle.gate_bytes.specs.Places.{place_of}
use Rattle.gate_bytes.specs.Tokens.{is_blank, without_end}
use Rattle.rtsp_transport.specs.Splits.{split_from, unquoted_parts, has_open_quote}

-- neither this byte nor a double quote
abbrev pub is_clean : ℕ → ℕ → Bool
is_clean byte b = not (b == byte) && not (b == double_quote)

-- a text without the byte is its one part
pub whole_clean : (byte : ℕ) (text : List ℕ) → list_all (is_clean byte) text ≡ true → unquoted_parts byte text ≡ text ∷ []
whole_clean byte [] h = refl
whole_clean byte (b ∷ text) h =
    let parts = and_parts (is_clean byte b) (list_all (is_clean byte) text) h in
    let both = and_parts (not (b == byte)) (not (b == double_quote)) parts.0 in
    let rest : split_from byte false text ≡ text ∷ [] = whole_clean byte text parts.1 in
    grind arith

-- a text without the byte is the first part, where the byte follows it
pub first_clean : (byte : ℕ) (text more : List ℕ) → list_all (is_clean byte) text ≡ true → unquoted_parts byte (text ++ (byte ∷ more)) ≡ text ∷ unquoted_parts byte more
first_clean byte [] more h = let same : (byte == byte) ≡ true = grind arith in grind (arith, same)
first_clean byte (b ∷ text) more h =
    let parts = and_parts (is_clean byte b) (list_all (is_clean byte) text) h in
    let both = and_parts (not (b == byte)) (not (b == double_quote)) parts.0 in
    let rest : split_from byte false (text ++ (byte ∷ more)) ≡ text ∷ split_from byte false more = first_clean byte text more parts.1 in
    grind arith

no_quotes : (text : List ℕ) → list_all (λ b. not (b == double_quote)) text ≡ true → count_by (λ b. b == double_quote) text ≡ 0
no_quotes [] h = refl
no_quotes (b ∷ text) h =
    let parts = and_parts (not (b == double_quote)) (list_all (λ b. not (b == double_quote)) text) h in
    let rest : count_by (λ b. b == double_quote) text ≡ 0 = no_quotes text parts.1 in
    grind arith

-- a text without quotes leaves none open
pub quotes_closed : (text : List ℕ) → list_all (λ b. not (b == double_quote)) text ≡ true → has_open_quote text ≡ false
quotes_closed text h = ap (λ n. n % 2 == 1) (no_quotes text h)

unfound : (test : Bool) (later : Option ℕ) → is_some (cond test (Some 0) (option_map (λ k. k + 1) later)) ≡ false → (test ≡ false) × (is_some later ≡ false)
unfound true later h = cc
unfound false None h = (refl, refl)
unfound false (Some k) h = cc

uncounted : (text : List ℕ) → is_some (place_of double_quote text) ≡ false → count_by (λ b. b == double_quote) text ≡ 0
uncounted [] h = refl
uncounted (b ∷ text) h =
    let parts = unfound (b == double_quote) (place_of double_quote text) h in
    let rest : count_by (λ b. b == double_quote) text ≡ 0 = uncounted text parts.1 in
    grind (arith, rest, parts.0)

-- a text in which no quote is found leaves none open
pub none_open : (text : List ℕ) → is_some (place_of double_quote text) ≡ false → has_open_quote text ≡ false
none_open text h = ap (λ n. n % 2 == 1) (uncounted text h)

-- a text without blanks has none at its end
pub end_kept : (text : List ℕ) → list_all (λ b. not (is_blank b)) text ≡ true → without_end text ≡ text
end_kept [] h = refl
end_kept (b ∷ text) h =
    let parts = and_parts (not (is_blank b)) (list_all (λ b. not (is_blank b)) text) h in
    let rest : without_end text ≡ text = end_kept text parts.1 in
    grind (arith, rest, parts.0)
