-- Places of a byte outside double quotes: they lie within their text, and the first of a byte or a quote tells them.
use Rattle.std.proofs.Common.{◌≡◌, ℕ, zero, suc, ◌+◌, ◌<◌, Bool, true, false, not, ◌==◌, ◌&&◌, ◌||◌, cond, List, [], ◌∷◌, length, get_or, None, Some, refl, ◌∙◌, ap, add-one, arith}
use Rattle.std.specs.Option.{option_map}
use Rattle.gate_bytes.specs.Ascii.{double_quote}
use Rattle.gate_bytes.proofs.PlaceLemmas.{place_later}
use Rattle.memchr.specs.Find.{IsFirstByte, is_byte2}
use Rattle.rtsp_transport.specs.Splits.{quoted_after, place_outside}

-- a place outside double quotes lies within its text
pub outside_within : (byte : ℕ) (quoted : Bool) (text : List ℕ) (k : ℕ) → place_outside byte quoted text ≡ Some k → k < length text
outside_within byte quoted [] k h = cc
outside_within byte quoted (b ∷ text) k h =
    let below : k < length text + 1 = place_later (b == byte && not quoted) (place_outside byte (quoted_after quoted b) text) k (length text) h (outside_within byte (quoted_after quoted b) text) in
    omega arith

neither : (x y : Bool) → ¬ (x || y ≡ true) → (x ≡ false) × (y ≡ false)
neither true y h = absurd (h refl)
neither false true h = absurd (h refl)
neither false false h = (refl, refl)

-- the search goes by a byte that is neither the one that is sought nor a quote
goes_by : (byte b : ℕ) (text : List ℕ) → (b == byte) ≡ false → (b == double_quote) ≡ false →
    place_outside byte false (b ∷ text) ≡ option_map (λ k. k + 1) (place_outside byte false text)
goes_by byte b text other plain =
    ap (λ t. cond (t && true) (Some 0) (option_map (λ k. k + 1) (place_outside byte (quoted_after false b) text))) other
    ∙ ap (λ t. option_map (λ k. k + 1) (place_outside byte (cond t true false) text)) plain

-- Where neither the byte nor a quote is in a text, there is no place.
pub none_outside : (byte : ℕ) (text : List ℕ) → IsFirstByte (is_byte2 byte double_quote) text None → place_outside byte false text ≡ None
none_outside byte [] h = refl
none_outside byte (b ∷ text) h =
    let apart = neither (b == byte) (b == double_quote) (h zero (omega arith) (omega arith)) in
    goes_by byte b text apart.0 apart.1
    ∙ ap (option_map (λ k. k + 1)) (none_outside byte text (λ k low high p. h (suc k) (omega arith) (omega arith) p))

-- Where the byte comes before any quote, that is its place.
pub first_outside : (byte : ℕ) (text : List ℕ) (k : ℕ) → IsFirstByte (is_byte2 byte double_quote) text (Some k) → get_or text k 0 ≡ byte →
    place_outside byte false text ≡ Some k
first_outside byte [] k h here = absurd (omega (arith, h.0.high))
first_outside byte (b ∷ text) zero h here =
    let same : (b == byte) ≡ true = grind (arith, here) in
    ap (λ t. cond (t && true) (Some 0) (option_map (λ k. k + 1) (place_outside byte (quoted_after false b) text))) same
first_outside byte (b ∷ text) (suc k) h here =
    let apart = neither (b == byte) (b == double_quote) (h.0.before zero (omega arith) (omega arith)) in
    let below : k < length text = omega (arith, h.0.high) in
    goes_by byte b text apart.0 apart.1
    ∙ ap (option_map (λ k. k + 1)) (first_outside byte text k (
      record { low = omega arith; high = below; before = λ j low high p. h.0.before (suc j) (omega arith) (omega arith) p },
      h.1,
    ) here)
    ∙ ap (λ n. Some n) (add-one k)
