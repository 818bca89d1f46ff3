-- What the rewriting of a description leaves as it is.
use Rattle.std.proofs.Common.{◌≡◌, ℕ, ◌-◌, Bool, true, false, ◌==◌, not, cond, List, [], ◌∷◌, ◌++◌, length, take, drop, refl, sym, ◌∙◌, ap, append_assoc, append-nil, arith}
use Rattle.std.specs.Prelude.{slice_index}
use Rattle.std.specs.List.{list_all, join_with_byte}
use Rattle.std.specs.Str.Lines.{strip_carriage_return}
use Rattle.std.proofs.lemmas.Bool.{and_parts, both_ways, not-true}
use Rattle.std.proofs.lemmas.Bool.Decides.{Decides-eqb}
use Rattle.std.proofs.lemmas.List.Splits.{join_with_byte-slice_split}
use Rattle.std.proofs.lemmas.Slice.Eq.{starts_is}
use Rattle.gate_bytes.specs.Ascii.{lf, cr}
use Rattle.gate_bytes.proofs.EndLemmas.{last_apart}
use Rattle.gate_bytes.specs.Places.{parts_at}
use Rattle.rtsp_uri.specs.Swaps.{swapped}
use Rattle.rtsp_uri.specs.Descriptions.{control, swapped_control, return_of, swapped_ended, swapped_lines, rewritten, is_control}

-- a longer text begins so too
longer_control : (line back : List ℕ) → is_control line ≡ true → is_control (line ++ back) ≡ true
longer_control line back h =
    (starts_is Decides-eqb (line ++ back) control (is_control (line ++ back)) refl).1 (drop 10 line ++ back)
    (ap (λ t. t ++ back) ((starts_is Decides-eqb line control (is_control line) refl).0 h) ∙ append_assoc control (drop 10 line) back)

shorter_with : (line back : List ℕ) (t : Bool) → is_control line ≡ t → is_control (line ++ back) ≡ false → is_control line ≡ false
shorter_with line back false e h = e
shorter_with line back true e h = absurd (both_ways (is_control (line ++ back)) h (longer_control line back e))

control_kept : (from to line : List ℕ) → is_control line ≡ false → swapped_control from to line ≡ line
control_kept from to line h = ap (λ t. cond t (control ++ swapped from to (drop 10 line)) line) h

-- a line is what stands before the CR at its end, and that CR
return_apart : (line : List ℕ) (t : Bool) → (slice_index line (length line - 1) == cr) ≡ t
    → cond t (take (length line - 1) line) line ++ cond t (cr ∷ []) [] ≡ line
return_apart line false e = append-nil line
return_apart [] true e = cc
return_apart (b ∷ line) true e =
    let all = b ∷ line in
    let last : slice_index all (length all - 1) ≡ cr = grind (arith, e) in
    ap (λ c. take (length all - 1) all ++ (c ∷ [])) (sym last) ∙ sym (last_apart all (omega arith))

stripped : (line : List ℕ) → strip_carriage_return line ++ return_of line ≡ line
stripped line = return_apart line (slice_index line (length line - 1) == cr) refl

ended_kept : (from to line : List ℕ) → is_control line ≡ false → swapped_ended from to line ≡ line
ended_kept from to line h =
    ap (λ t. t ++ return_of line)
    (control_kept from to (strip_carriage_return line) (shorter_with (strip_carriage_return line) (return_of line) (is_control (strip_carriage_return line)) refl (ap is_control (stripped line) ∙ h)))
    ∙ stripped line

lines_kept : (from to : List ℕ) (lines : List (List ℕ)) → list_all (λ line. not (is_control line)) lines ≡ true → swapped_lines from to lines ≡ lines
lines_kept from to [] h = refl
lines_kept from to (last ∷ []) h = ap (λ t. t ∷ []) (control_kept from to last (not-true (is_control last) (and_parts (not (is_control last)) true h).0))
lines_kept from to (line ∷ next ∷ more) h =
    let parts = and_parts (not (is_control line)) (list_all (λ line. not (is_control line)) (next ∷ more)) h in
    ap (λ t. t ∷ swapped_lines from to (next ∷ more)) (ended_kept from to line (not-true (is_control line) parts.0))
    ∙ ap (λ ts. line ∷ ts) (lines_kept from to (next ∷ more) parts.1)

-- a description without such lines stays
pub description_kept : (from to body : List ℕ) → list_all (λ line. not (is_control line)) (parts_at lf body) ≡ true → rewritten from to body ≡ body
description_kept from to body h = ap (join_with_byte lf) (lines_kept from to (parts_at lf body) h) ∙ join_with_byte-slice_split lf body
