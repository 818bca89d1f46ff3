-- Lines of a head are passed one after another, and nothing behind its empty line is one of them.
use Rattle.std.proofs.Common.{◌≡◌, ℕ, zero, suc, ◌+◌, ◌-◌, ◌<◌, ◌≤◌, Bool, true, false, ◌==◌, ◌||◌, ◌&&◌, cond, List, [], ◌∷◌, ◌++◌, length, take, drop, Option, Some, None, refl, sym, ap, ◌∙◌, subst, arith}
use Rattle.std.specs.Prelude.{slice_index}
use Rattle.std.specs.Option.{option_map, is_some}
use Rattle.std.specs.Str.Lines.{strip_carriage_return}
use Rattle.std.proofs.lemmas.List.{length-drop, length-take-le, append-nil, take-take, drop-take}
use Rattle.gate_bytes.specs.Ascii.{lf, cr}
use Rattle.gate_bytes.specs.Places.{place_of}
use Rattle.gate_bytes.proofs.PlaceLemmas.{place_within}
use Rattle.rtsp_head.specs.Lines.{first_line, line_apart, head_lines, is_empty_line}
use Rattle.rtsp_head.specs.Items.{begins_with_lf, head_from, head_len}
use Rattle.rtsp_head.specs.LineWalk.{IsPassed}
use Rattle.rtsp_head.specs.Heads.{head_of_lines, facts, facts_of}
use Rattle.rtsp_head.specs.Headers.{header_limit}
use Rattle.rtsp_head.specs.Lines.{result_map}
use Rattle.rtsp_head.proofs.LineLemmas.{lines_apart}
use Rattle.rtsp_head.proofs.HeadEndLemmas.{later, later_zero, later_later, place_in_front, head_ends, head_goes_on, head_needs_lf}

some_bytes : (n : ℕ) → 0 < n → (n == 0) ≡ false
some_bytes n some = grind (arith, some)

-- a line is empty without its CR where it is an empty line
pub stripped_empty : (line : List ℕ) → (length (strip_carriage_return line) == 0) ≡ is_empty_line line
stripped_empty [] = refl
stripped_empty (b ∷ []) = by_test (b == cr)
  where
    by_test : (ends : Bool) → (length (cond ends (take 0 (b ∷ [])) (b ∷ [])) == 0) ≡ ends
    by_test true = refl
    by_test false = refl
stripped_empty (b ∷ c ∷ line) = by_test (slice_index (b ∷ c ∷ line) (length (b ∷ c ∷ line) - 1) == cr)
  where
    by_test : (ends : Bool) → (length (cond ends (take (length (b ∷ c ∷ line) - 1) (b ∷ c ∷ line)) (b ∷ c ∷ line)) == 0) ≡ false
    by_test true =
        some_bytes (length (take (length (b ∷ c ∷ line) - 1) (b ∷ c ∷ line)))
        (omega (arith, length-take-le (length (b ∷ c ∷ line) - 1) (b ∷ c ∷ line) (omega arith)))
    by_test false = some_bytes (length (b ∷ c ∷ line)) (omega arith)

-- nothing was walked yet
pub passed_none : (bytes : List ℕ) → IsPassed bytes bytes
passed_none bytes =
    let none : 0 ≡ length bytes - length bytes = omega arith in
    record { within = omega arith; ends = sym (later_zero (head_len bytes)) ∙ ap (λ n. later n (head_len bytes)) none }

-- further lines behind the first ones
pub passed_more : (bytes rest after : List ℕ) → IsPassed bytes rest → IsPassed rest after → IsPassed bytes after
passed_more bytes rest after first more =
    let sum : length bytes - length rest + (length rest - length after) ≡ length bytes - length after = omega (arith, first.within, more.within) in
    record {
      within = omega (arith, first.within, more.within);
      ends =
          first.ends ∙ ap (later (length bytes - length rest)) more.ends
          ∙ later_later (length bytes - length rest) (length rest - length after) (head_len after)
          ∙ ap (λ n. later n (head_len after)) sum;
    }

passed_at : (bytes : List ℕ) (place : Option ℕ) → place_of lf bytes ≡ place →
    let parts = line_apart bytes (option_map (λ k. (take k bytes, drop (k + 1) bytes)) place) in
    (length parts.0 == 0) ≡ false → IsPassed bytes parts.1
passed_at bytes None h full = record { within = omega arith; ends = head_needs_lf bytes true h }
passed_at bytes (Some k) h full =
    let next : suc k ≡ k + 1 = omega arith in
    let taken : k + 1 ≡ length bytes - length (drop (k + 1) bytes) = omega (arith, length-drop (k + 1) bytes, place_within lf bytes k h) in
    record {
      within = omega (arith, length-drop (k + 1) bytes);
      ends =
          head_goes_on bytes k h (sym (stripped_empty (take k bytes)) ∙ full)
          ∙ ap (λ n. later n (head_len (drop n bytes))) next
          ∙ ap (λ n. later n (head_len (drop (k + 1) bytes))) taken;
    }

-- a line that is not empty
pub passed_line : (bytes line rest : List ℕ) → ◌≡◌ {A = List ℕ × List ℕ} (line, rest) (first_line bytes) → (length line == 0) ≡ false → IsPassed bytes rest
passed_line bytes line rest h full =
    let parts = first_line bytes in
    let here : (length parts.0 == 0) ≡ false = ap (λ (p : List ℕ × List ℕ). length p.0 == 0) (sym h) ∙ full in
    let whole : IsPassed bytes parts.1 = passed_at bytes (place_of lf bytes) refl here in
    subst (λ (p : List ℕ × List ℕ). IsPassed bytes p.1) (sym h) whole

lines_from : (text : List ℕ) (k : ℕ) → place_of lf text ≡ Some k →
    head_lines text ≡ cond (is_empty_line (take k text)) [] (strip_carriage_return (take k text) ∷ head_lines (drop (k + 1) text))
lines_from text k at =
    let line = strip_carriage_return (take k text) in
    let rest = drop (k + 1) text in
    lines_apart text line rest (ap (λ place. line_apart text (option_map (λ k. (take k text, drop (k + 1) text)) place)) (sym at))
    ∙ ap (λ t. cond t [] (line ∷ head_lines rest)) (stripped_empty (take k text))

-- the lines of the front of a text that goes on behind its first line end
lines_in_front : (text : List ℕ) (k m : ℕ) → place_of lf text ≡ Some k →
    head_lines (take (k + 1 + m) text) ≡ cond (is_empty_line (take k text)) [] (strip_carriage_return (take k text) ∷ head_lines (take m (drop (k + 1) text)))
lines_in_front text k m at =
    let front = take (k + 1 + m) text in
    let there : place_of lf front ≡ Some k = ap (place_of lf) (sym (append-nil front)) ∙ place_in_front lf text [] k (k + 1 + m) at (omega arith) in
    lines_from front k there
    ∙ ap (λ line. cond (is_empty_line line) [] (strip_carriage_return line ∷ head_lines (drop (k + 1) front))) (take-take k (k + 1 + m) text (omega arith))
    ∙ ap (λ rest. cond (is_empty_line (take k text)) [] (strip_carriage_return (take k text) ∷ head_lines rest)) (drop-take (k + 1) m text)

pub later_some : (n m : ℕ) (o : Option ℕ) (P : Type 0) → ((k : ℕ) → o ≡ Some k → n + k ≡ m → P) → later n o ≡ Some m → P
later_some n m None P f h = cc
later_some n m (Some k) P f h = let e : n + k ≡ m = cc in f k refl e

-- The lines of a head are those of its front, whatever stands behind it.
pub by_lines : (fuel : ℕ) (bytes : List ℕ) (n : ℕ) (place : Option ℕ) → length bytes ≤ fuel → place_of lf bytes ≡ place → head_len bytes ≡ Some n →
    head_lines (take n bytes) ≡ head_lines bytes
by_lines fuel bytes n None less at h = let never : ◌≡◌ {A = Option ℕ} None (Some n) = sym (head_needs_lf bytes true at) ∙ h in cc never
by_lines zero bytes n (Some k) less at h = absurd (omega (arith, place_within lf bytes k at))
by_lines (suc fuel) bytes n (Some k) less at h =
    by_empty (is_empty_line (take k bytes)) refl
    (λ m there.
    by_lines fuel (drop (k + 1) bytes) m (place_of lf (drop (k + 1) bytes)) (omega (arith, length-drop (k + 1) bytes, place_within lf bytes k at)) refl there)
  where
    by_empty : (empty : Bool) → is_empty_line (take k bytes) ≡ empty →
        ((m : ℕ) → head_len (drop (k + 1) bytes) ≡ Some m → head_lines (take m (drop (k + 1) bytes)) ≡ head_lines (drop (k + 1) bytes)) →
        head_lines (take n bytes) ≡ head_lines bytes
    by_empty true e again =
        let ended : ◌≡◌ {A = Option ℕ} (Some (k + 1)) (Some n) = sym (head_ends bytes k at e) ∙ h in
        let same : k + 1 ≡ n = cc ended in
        let sum : n ≡ k + 1 + 0 = omega arith in
        ap (λ n. head_lines (take n bytes)) sum
        ∙ lines_in_front bytes k 0 at
        ∙ ap (λ t. cond t [] (strip_carriage_return (take k bytes) ∷ head_lines (take 0 (drop (k + 1) bytes)))) e
        ∙ sym (lines_from bytes k at ∙ ap (λ t. cond t [] (strip_carriage_return (take k bytes) ∷ head_lines (drop (k + 1) bytes))) e)
    by_empty false e again =
        let next : suc k ≡ k + 1 = omega arith in
        later_some (suc k) n (head_len (drop (suc k) bytes)) (head_lines (take n bytes) ≡ head_lines bytes)
        (λ m there sum.
        let parts : n ≡ k + 1 + m = omega arith in
        let same = again m (ap (λ j. head_len (drop j bytes)) (sym next) ∙ there) in
        ap (λ n. head_lines (take n bytes)) parts
        ∙ lines_in_front bytes k m at
        ∙ ap (λ ls. cond (is_empty_line (take k bytes)) [] (strip_carriage_return (take k bytes) ∷ ls)) same
        ∙ sym (lines_from bytes k at))
        (sym (head_goes_on bytes k at e) ∙ h)

-- What stands behind a head changes nothing of what it says.
pub head_alone : (bytes : List ℕ) (n : ℕ) → head_len bytes ≡ Some n → facts_of (take n bytes) ≡ facts_of bytes
head_alone bytes n h =
    ap (λ ls. result_map facts (head_of_lines header_limit ls)) (by_lines (length bytes) bytes n (place_of lf bytes) (omega arith) refl h)

-- bytes that end with an empty line have a head
abbrev ends_so : Bool → List ℕ → List ℕ → Type 0
ends_so starts front tail = is_some (head_from starts (front ++ tail)) ≡ true

one_more : (t : Bool) (o : Option ℕ) → is_some o ≡ true → is_some (cond t (Some 1) (option_map suc o)) ≡ true
one_more true o h = refl
one_more false None h = cc
one_more false (Some k) h = refl

behind_front : (front tail : List ℕ) → ends_so true [] tail → ends_so false [] tail → (starts : Bool) → ends_so starts front tail
behind_front [] tail starting inside true = starting
behind_front [] tail starting inside false = inside
behind_front (b ∷ front) tail starting inside starts =
    let next = b == lf || (starts && (b == cr && begins_with_lf (front ++ tail))) in
    one_more (b == lf && starts) (head_from next (front ++ tail)) (behind_front front tail starting inside next)

pub ends_bare : (front : List ℕ) → is_some (head_len (front ++ (lf ∷ lf ∷ []))) ≡ true
ends_bare front = behind_front front (lf ∷ lf ∷ []) refl refl true

pub ends_crlf : (front : List ℕ) → is_some (head_len (front ++ (lf ∷ cr ∷ lf ∷ []))) ≡ true
ends_crlf front = behind_front front (lf ∷ cr ∷ lf ∷ []) refl refl true
