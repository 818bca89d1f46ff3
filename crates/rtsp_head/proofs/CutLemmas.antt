-- A written text is cut where it was joined.
use Rattle.std.proofs.Common.{◌≡◌, ℕ, ◌-◌, true, false, ◌&&◌, ◌==◌, not, nat_eq, cond, List, [], ◌∷◌, ◌++◌, length, take, get_or, refl, ◌∙◌, ap, append_assoc, arith}
use Rattle.std.specs.List.{list_all, slice_split, starts_with}
use Rattle.std.specs.Str.Lines.{lines, lines_of_parts, strip_carriage_return}
use Rattle.std.proofs.lemmas.Bool.{and_parts}
use Rattle.std.proofs.lemmas.List.{length-append}
use Rattle.std.proofs.lemmas.List.Folds.{list_all-append}
use Rattle.std.proofs.lemmas.List.Splits.{length-slice_split}
use Rattle.std.proofs.Math.Seq.{take-append_seam, get_or-append_seam}
use Rattle.gate_bytes.specs.Ascii.{nul, lf, cr}
use Rattle.rtsp_head.specs.Lines.{has_control}
use Rattle.rtsp_head.specs.HeadText.{ended, is_line_text}
use Rattle.rtsp_head.proofs.LineLemmas.{ends_line, part_ended}

-- a first part that is longer than the needle, or ends with a byte that the needle hasn't
pub begins_apart : (needle text more : List ℕ) (byte : ℕ) → list_all (λ b. not (b == byte)) needle ≡ true →
    starts_with nat_eq (text ++ (byte ∷ more)) needle ≡ starts_with nat_eq text needle
begins_apart [] text more byte h = refl
begins_apart (n ∷ needle) [] more byte h = let parts = and_parts (not (n == byte)) (list_all (λ b. not (b == byte)) needle) h in grind arith
begins_apart (n ∷ needle) (b ∷ text) more byte h =
    let parts = and_parts (not (n == byte)) (list_all (λ b. not (b == byte)) needle) h in
    ap (λ t. nat_eq n b && t) (begins_apart needle text more byte parts.1)

split_ended : (line more : List ℕ) → is_line_text line ≡ true → slice_split ends_line (line ++ (cr ∷ lf ∷ more)) ≡ (line ++ (cr ∷ [])) ∷ slice_split ends_line more
split_ended [] more h = refl
split_ended (b ∷ line) more h =
    let parts = and_parts (not (b == lf) && (not (b == cr) && not (b == nul))) (is_line_text line) h in
    let first = and_parts (not (b == lf)) (not (b == cr) && not (b == nul)) parts.0 in
    let rest : slice_split ends_line (line ++ (cr ∷ lf ∷ more)) ≡ (line ++ (cr ∷ [])) ∷ slice_split ends_line more = split_ended line more parts.1 in
    grind arith

pub stripped : (line : List ℕ) → strip_carriage_return (line ++ (cr ∷ [])) ≡ line
stripped line =
    let long : length (line ++ (cr ∷ [])) - 1 ≡ length line = omega (arith, length-append line (cr ∷ [])) in
    ap (λ n. cond (get_or (line ++ (cr ∷ [])) n 0 == cr) (take n (line ++ (cr ∷ []))) (line ++ (cr ∷ []))) long
    ∙ ap (λ b. cond (b == cr) (take (length line) (line ++ (cr ∷ []))) (line ++ (cr ∷ []))) (get_or-append_seam line cr [] 0)
    ∙ take-append_seam line (cr ∷ [])

-- A line that was ended is a line.
pub lines_ended : (line more : List ℕ) → is_line_text line ≡ true → lines (ended line ++ more) ≡ line ∷ lines more
lines_ended line more h =
    let regrouped : ended line ++ more ≡ line ++ (cr ∷ lf ∷ more) = append_assoc line (cr ∷ lf ∷ []) more in
    ap lines regrouped ∙ ap lines_of_parts (split_ended line more h)
    ∙ part_ended (line ++ (cr ∷ [])) (slice_split ends_line more) _ (length-slice_split ends_line more)
    ∙ ap (λ l. l ∷ lines more) (stripped line)

pub line_text_append : (a b : List ℕ) → is_line_text a ≡ true → is_line_text b ≡ true → is_line_text (a ++ b) ≡ true
line_text_append a b ha hb = list_all-append (λ b. not (b == lf) && (not (b == cr) && not (b == nul))) a b ∙ ap (λ t. t && is_line_text b) ha ∙ hb

-- A text that fits into one line holds no CR and no byte 0.
pub no_control : (text : List ℕ) → is_line_text text ≡ true → has_control text ≡ false
no_control [] h = refl
no_control (b ∷ text) h =
    let parts = and_parts (not (b == lf) && (not (b == cr) && not (b == nul))) (is_line_text text) h in
    let rest : has_control text ≡ false = no_control text parts.1 in
    grind arith
