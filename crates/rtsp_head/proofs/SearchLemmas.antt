-- One search finds where a line ends, and that no control byte stands before its end.
use Rattle.std.proofs.Common.{◌≡◌, ℕ, zero, suc, ◌+◌, ◌-◌, ◌<◌, ◌&&◌, ◌==◌, Bool, true, false, not, cond, List, [], ◌∷◌, ◌++◌, length, take, drop, get_or, min, Option, None, Some, IfSome, is_some, refl, sym, ◌∙◌, ap, append_assoc, arith, ◌⊎◌, inl, inr}
use Rattle.std.specs.Str.Lines.{strip_carriage_return}
use Rattle.std.proofs.lemmas.Bool.{and_parts}
use Rattle.std.specs.Option.{option_map}
use Rattle.std.proofs.lemmas.List.{take-append-drop, length-take, take-take}
use Rattle.std.proofs.lemmas.List.Folds.{list_all-append}
use Rattle.gate_bytes.specs.Ascii.{nul, lf, cr}
use Rattle.gate_bytes.specs.Places.{place_of, cut_at}
use Rattle.gate_bytes.proofs.SeamLemmas.{lacks, lacks_append, cut_at_seam, cut_nowhere}
use Rattle.memchr.specs.Find.{IsFirstByte, is_byte3}
use Rattle.rtsp_head.specs.Lines.{first_line, line_apart}
use Rattle.rtsp_head.specs.HeadText.{is_line_text}
use Rattle.rtsp_head.specs.LineWalk.{before_place}
use Rattle.rtsp_head.proofs.CutLemmas.{stripped}

before_with : (b : ℕ) (text : List ℕ) (t : Bool) → is_byte3 lf cr nul b ≡ t → (r : Option ℕ) → IsFirstByte (is_byte3 lf cr nul) (b ∷ text) r
    → ((s : Option ℕ) → IsFirstByte (is_byte3 lf cr nul) text s → is_line_text (before_place s text) ≡ true) → is_line_text (before_place r (b ∷ text)) ≡ true
before_with b text true e None h rest = absurd (h zero (omega arith) (omega arith) e)
before_with b text true e (Some zero) h rest = refl
before_with b text true e (Some (suc k)) h rest = absurd (h.0.before zero (omega arith) (omega arith) e)
before_with b text false e None h rest =
    let later : is_line_text text ≡ true = rest None (λ k low high p. h (suc k) (omega arith) (omega arith) p) in
    grind (arith, e, later)
before_with b text false e (Some zero) h rest = refl
before_with b text false e (Some (suc k)) h rest =
    let below : k < length text = omega (arith, h.0.high) in
    let later : is_line_text (take k text) ≡ true = rest (Some k) (
      record { low = omega arith; high = below; before = λ j low high p. h.0.before (suc j) (omega arith) (omega arith) p },
      h.1,
    ) in
    grind (arith, e, later)

-- what the search passed over fits into a line
pub passed_over : (text : List ℕ) (r : Option ℕ) → IsFirstByte (is_byte3 lf cr nul) text r → is_line_text (before_place r text) ≡ true
passed_over [] None h = refl
passed_over [] (Some k) h = absurd (omega (arith, h.0.high))
passed_over (b ∷ text) r h = before_with b text (is_byte3 lf cr nul b) refl r h (passed_over text)

-- what a search of the front found is so of the text
pub found_near : (text front : List ℕ) (n : ℕ) (r : Option ℕ) → front ≡ take n text → is_some r ≡ true → is_line_text (before_place r front) ≡ true → IfSome r (λ at. at < length front)
    → (is_line_text (before_place r text) ≡ true) × IfSome r (λ at. at < length text)
found_near text front n None is some clear within = absurd (cc some)
found_near text front n (Some k) is some clear within =
    let short : length front ≡ min n (length text) = ap length is ∙ length-take n text in
    let same : take k front ≡ take k text = ap (take k) is ∙ take-take k n text (omega (arith, short, within)) in
    (ap is_line_text (sym same) ∙ clear, omega (arith, short, within))

take_none : (n : ℕ) → ◌≡◌ {A = List ℕ} (take n []) []
take_none zero = refl
take_none (suc n) = refl

far_apart : (text : List ℕ) (n k : ℕ) → take (n + k) text ≡ take n text ++ take k (drop n text)
far_apart text zero k = ap (λ m. take m text) (omega arith)
far_apart [] (suc n) k = take_none (suc n + k) ∙ sym (take_none k)
far_apart (b ∷ text) (suc n) k =
    let sum : suc n + k ≡ suc (n + k) = omega arith in
    ap (λ m. take m (b ∷ text)) sum ∙ ap (λ (l : List ℕ). b ∷ l) (far_apart text n k)

-- what a search of the rest found behind a front without a stop is so of the text
pub found_far : (text front rest : List ℕ) (n : ℕ) (near far : Option ℕ) → n < length text → front ≡ take n text → rest ≡ drop n text → is_some near ≡ false → is_line_text (before_place near front) ≡ true → is_line_text (before_place far rest) ≡ true
    → is_line_text (before_place (option_map (λ k. n + k) far) text) ≡ true
found_far text front rest n (Some k) far long is then some clear later = absurd (cc some)
found_far text front rest n None None long is then some clear later =
    ap is_line_text (sym (take-append-drop n text) ∙ ap (λ (l : List ℕ). l ++ drop n text) (sym is) ∙ ap (λ (l : List ℕ). front ++ l) (sym then))
    ∙ list_all-append _ front rest ∙ ap (λ t. t && is_line_text rest) clear ∙ later
found_far text front rest n None (Some k) long is then some clear later =
    ap is_line_text (far_apart text n k ∙ ap (λ (l : List ℕ). l ++ take k (drop n text)) (sym is) ∙ ap (λ (l : List ℕ). front ++ take k l) (sym then))
    ∙ list_all-append _ front (take k rest) ∙ ap (λ t. t && is_line_text (take k rest)) clear ∙ later

-- a text that fits into a line holds no LF
line_lacks : (text : List ℕ) → is_line_text text ≡ true → lacks lf text ≡ true
line_lacks [] h = refl
line_lacks (b ∷ text) h =
    let parts = and_parts (not (b == lf) && (not (b == cr) && not (b == nul))) (is_line_text text) h in
    let later : lacks lf text ≡ true = line_lacks text parts.1 in
    grind arith

-- and no CR at any place
no_return : (text : List ℕ) (n : ℕ) → is_line_text text ≡ true → (get_or text n 0 == cr) ≡ false
no_return [] n h = refl
no_return (b ∷ text) zero h = grind arith
no_return (b ∷ text) (suc n) h =
    let parts = and_parts (not (b == lf) && (not (b == cr) && not (b == nul))) (is_line_text text) h in
    no_return text n parts.1

kept_whole : (text : List ℕ) → is_line_text text ≡ true → strip_carriage_return text ≡ text
kept_whole text h = ap (λ t. cond t (take (length text - 1) text) text) (no_return text (length text - 1) h)

-- a text without an end is its own first line
pub line_alone : (text : List ℕ) → is_line_text text ≡ true → ◌≡◌ {A = List ℕ × List ℕ} (first_line text) (text, [])
line_alone text h = ap (line_apart text) (cut_nowhere lf text (line_lacks text h))

-- a line that ends with LF
pub line_before : (line rest : List ℕ) → is_line_text line ≡ true → ◌≡◌ {A = List ℕ × List ℕ} (first_line (line ++ (lf ∷ rest))) (line, rest)
line_before line rest h =
    ap (line_apart (line ++ (lf ∷ rest))) (cut_at_seam lf line rest (line_lacks line h)) ∙ ap (λ (t : List ℕ). (t, rest)) (kept_whole line h)

-- a line that ends with CR LF
pub line_before_both : (line rest : List ℕ) → is_line_text line ≡ true → ◌≡◌ {A = List ℕ × List ℕ} (first_line (line ++ (cr ∷ lf ∷ rest))) (line, rest)
line_before_both line rest h =
    let bytes = (line ++ (cr ∷ [])) ++ (lf ∷ rest) in
    let front : lacks lf (line ++ (cr ∷ [])) ≡ true = lacks_append lf line (cr ∷ []) (line_lacks line h) refl in
    ap first_line (sym (append_assoc line (cr ∷ []) (lf ∷ rest)))
    ∙ ap (line_apart bytes) (cut_at_seam lf (line ++ (cr ∷ [])) rest front) ∙ ap (λ (t : List ℕ). (t, rest)) (stripped line)

joined_again : (bytes : List ℕ) (k : ℕ) (ends line : List ℕ) (rest : List ℕ) → drop k bytes ≡ ends → ◌≡◌ {A = List ℕ × List ℕ} (first_line (line ++ ends)) (line, rest) →
    line ≡ take k bytes → ◌≡◌ {A = List ℕ × List ℕ} (first_line bytes) (line, rest)
joined_again bytes k ends line rest h first same =
    ap first_line (sym (take-append-drop k bytes) ∙ ap (λ t. t ++ drop k bytes) (sym same) ∙ ap (λ t. line ++ t) h) ∙ first

-- where an end of a line was found, the first line stands before it
pub line_found : (bytes : List ℕ) (k : ℕ) (ends rest : List ℕ) → ends ≡ drop k bytes → is_line_text (take k bytes) ≡ true →
    (ends ≡ lf ∷ rest) ⊎ (ends ≡ cr ∷ lf ∷ rest) → ◌≡◌ {A = List ℕ × List ℕ} (first_line bytes) (take k bytes, rest)
line_found bytes k ends rest same fits (inl h) = joined_again bytes k (lf ∷ rest) (take k bytes) rest (sym same ∙ h) (line_before (take k bytes) rest fits) refl
line_found bytes k ends rest same fits (inr h) = joined_again bytes k (cr ∷ lf ∷ rest) (take k bytes) rest (sym same ∙ h) (line_before_both (take k bytes) rest fits) refl

-- a byte that stands among the first ones stands there first
place_near : (byte n : ℕ) (text : List ℕ) (at : ℕ) → place_of byte (take n text) ≡ Some at → place_of byte text ≡ Some at
place_near byte zero text at is = cc
place_near byte (suc n) [] at is = cc
place_near byte (suc n) (b ∷ text) at is = by_test (b == byte) (place_of byte (take n text)) (λ k found. place_near byte n text k found) refl is
  where
    by_test : (here : Bool) (place : Option ℕ) → ((k : ℕ) → place_of byte (take n text) ≡ Some k → place_of byte text ≡ Some k) → place_of byte (take n text) ≡ place
        → cond here (Some 0) (option_map (λ k. k + 1) place) ≡ Some at → cond here (Some 0) (option_map (λ k. k + 1) (place_of byte text)) ≡ Some at
    by_test true place later found same = same
    by_test false None later found same = cc
    by_test false (Some k) later found same = ap (option_map (λ k. k + 1)) (later k found) ∙ same

-- so it stands in the text
pub near_within : (text : List ℕ) (n : ℕ) (front : List ℕ) (at : ℕ) → front ≡ take n text → at < length front → at < length text
near_within text n front at is within = omega (arith, within, ap length is, length-take n text)

-- a text that is cut among its first bytes
pub cut_near : (byte : ℕ) (text : List ℕ) (n : ℕ) (front : List ℕ) (at : ℕ) (before after : List ℕ) → front ≡ take n text → Some at ≡ place_of byte front → before ≡ take at text → after ≡ drop (at + 1) text
    → ◌≡◌ {A = Option (List ℕ × List ℕ)} (Some (before, after)) (cut_at byte text)
cut_near byte text n front at before after is found before_is after_is =
    let place : place_of byte text ≡ Some at = place_near byte n text at (ap (place_of byte) (sym is) ∙ sym found) in
    ap (λ (t : List ℕ). Some (t, after)) before_is ∙ ap (λ (t : List ℕ). Some (take at text, t)) after_is
    ∙ sym (ap (option_map (λ (k : ℕ). (take k text, drop (k + 1) text))) place)
