-- The lines of a description, one after another.
use Rattle.std.proofs.Common.{◌≡◌, ℕ, ◌+◌, ◌≤◌, ◌==◌, List, [], ◌∷◌, ◌++◌, length, take, Option, None, Some, refl, sym, ◌∙◌, ap, append_assoc, arith}
use Rattle.std.specs.List.{join_with_byte}
use Rattle.std.proofs.lemmas.List.{length-append}
use Rattle.std.proofs.lemmas.List.Splits.{length-slice_split}
use Rattle.std.proofs.Math.Seq.{take-append-add}
use Rattle.gate_bytes.specs.Ascii.{lf}
use Rattle.gate_bytes.specs.Places.{cut_at, parts_at}
use Rattle.gate_bytes.proofs.PartLemmas.{parts_by_cut}
use Rattle.gate_bytes.proofs.SeamLemmas.{cut_joined}
use Rattle.rtsp_uri.specs.Descriptions.{swapped_control, swapped_ended, swapped_lines, rewritten}

-- a line with an end, and then the other lines
line_joined : (from to line : List ℕ) (parts : List (List ℕ)) (n : ℕ) → length parts ≡ n + 1
    → join_with_byte lf (swapped_lines from to (line ∷ parts)) ≡ swapped_ended from to line ++ (lf ∷ join_with_byte lf (swapped_lines from to parts))
line_joined from to line [] n h = absurd (omega arith)
line_joined from to line (next ∷ []) n h = refl
line_joined from to line (next ∷ other ∷ parts) n h = refl

-- the first line of a description, and the rest of it
rewritten_at : (from to bytes line left : List ℕ) → ◌≡◌ {A = Option (List ℕ × List ℕ)} (Some (line, left)) (cut_at lf bytes)
    → rewritten from to bytes ≡ swapped_ended from to line ++ (lf ∷ rewritten from to left)
rewritten_at from to bytes line left h =
    ap (λ parts. join_with_byte lf (swapped_lines from to parts)) (parts_by_cut lf bytes (Some (line, left)) h)
    ∙ line_joined from to line (parts_at lf left) _ (length-slice_split (λ b. b == lf) left)

-- the last line
rewritten_last : (from to bytes : List ℕ) → ◌≡◌ {A = Option (List ℕ × List ℕ)} None (cut_at lf bytes) → rewritten from to bytes ≡ swapped_control from to bytes
rewritten_last from to bytes h = ap (λ parts. join_with_byte lf (swapped_lines from to parts)) (parts_by_cut lf bytes None h)

-- one line more is written
pub line_written : (from to done rest line left new whole : List ℕ) → ◌≡◌ {A = Option (List ℕ × List ℕ)} (Some (line, left)) (cut_at lf rest)
    → new ≡ done ++ (swapped_ended from to line ++ (lf ∷ [])) → done ++ rewritten from to rest ≡ whole → new ++ rewritten from to left ≡ whole
line_written from to done rest line left new whole h written so_far =
    let this = swapped_ended from to line in
    let others = rewritten from to left in
    ap (λ l. l ++ others) written
    ∙ append_assoc done (this ++ (lf ∷ [])) others ∙ ap (λ l. done ++ l) (append_assoc this (lf ∷ []) others)
    ∙ ap (λ l. done ++ l) (sym (rewritten_at from to rest line left h)) ∙ so_far

-- the last line is written
pub last_written : (from to done rest new whole : List ℕ) → ◌≡◌ {A = Option (List ℕ × List ℕ)} None (cut_at lf rest) → new ≡ done ++ swapped_control from to rest
    → done ++ rewritten from to rest ≡ whole → new ≡ whole
last_written from to done rest new whole h written so_far = written ∙ ap (λ l. done ++ l) (sym (rewritten_last from to rest h)) ∙ so_far

-- a line with the LF behind it
pub line_ended : (rest line left : List ℕ) → ◌≡◌ {A = Option (List ℕ × List ℕ)} (Some (line, left)) (cut_at lf rest)
    → (length line + 1 ≤ length rest) × (take (length line + 1) rest ≡ line ++ (lf ∷ []))
line_ended rest line left cut =
    let joined : rest ≡ line ++ (lf ∷ left) = cut_joined lf rest (line, left) (sym cut) in
    let long : length rest ≡ length line + length (lf ∷ left) = ap length joined ∙ length-append line (lf ∷ left) in
    (omega (arith, long), ap (take (length line + 1)) joined ∙ take-append-add line (lf ∷ left) 1)
