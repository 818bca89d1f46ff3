-- A text is cut where it was joined.
use Rattle.std.proofs.Common.{◌≡◌, ℕ, Bool, true, false, ◌&&◌, ◌||◌, ◌==◌, not, cond, List, [], ◌∷◌, ◌++◌, length, drop, Option, Some, refl, ◌∙◌, ap}
use Rattle.std.specs.Prelude.{unwrap_or, option_and_then}
use Rattle.std.proofs.lemmas.Bool.{and_parts}
use Rattle.std.proofs.Math.Seq.{take-append_seam, drop-append_seam, take-length, drop-length}
use Rattle.gate_bytes.proofs.SeamLemmas.{lacks, place_at_seam, place_nowhere}
use Rattle.rtsp_range.specs.Parts.{split_before, part_at}
use Rattle.rtsp_range.specs.Meaning.{has_time_parameter, names_time}

-- A part begins at its mark.
pub part_at_seam : (mark : ℕ) (text more : List ℕ) → lacks mark text ≡ true → ◌≡◌ {A = List ℕ × List ℕ} (part_at mark (text ++ (mark ∷ more))) (text, mark ∷ more)
part_at_seam mark text more h =
    ap (λ place. split_before (unwrap_or place (length (text ++ (mark ∷ more)))) (text ++ (mark ∷ more))) (place_at_seam mark text more h)
    ∙ ap (λ (t : List ℕ). (t, drop (length text) (text ++ (mark ∷ more)))) (take-append_seam text (mark ∷ more))
    ∙ ap (λ (t : List ℕ). (text, t)) (drop-append_seam text (mark ∷ more))

-- There is none without it.
pub no_part : (mark : ℕ) (text : List ℕ) → lacks mark text ≡ true → ◌≡◌ {A = List ℕ × List ℕ} (part_at mark text) (text, [])
no_part mark text h =
    ap (λ place. split_before (unwrap_or place (length text)) text) (place_nowhere mark text h)
    ∙ ap (λ (t : List ℕ). (t, drop (length text) text)) (take-length text)
    ∙ ap (λ (t : List ℕ). (text, t)) (drop-length text)

-- A text without `;` has no time parameter.
pub no_parameter : (text : List ℕ) → lacks 59 text ≡ true → has_time_parameter text ≡ false
no_parameter [] h = refl
no_parameter (b ∷ text) h =
    let parts = and_parts (not (b == 59)) (lacks 59 text) h in
    ap (λ t. (b == 59 && names_time text) || t) (no_parameter text parts.1) ∙ first (b == 59) (names_time text) parts.0 where
      first : (mark names : Bool) → not mark ≡ true → ((mark && names) || false) ≡ false
      first true names h = cc
      first false names h = refl

-- a part that may be missing holds no other byte than its mark and digits
pub part_lacks : (byte mark : ℕ) (digits : List ℕ) (none : Bool) → (mark == byte) ≡ false → lacks byte digits ≡ true → lacks byte (cond none [] (mark ∷ digits)) ≡ true
part_lacks byte mark digits true other h = refl
part_lacks byte mark digits false other h = ap (λ t. not t && lacks byte digits) other ∙ h

-- what comes next, where there is this
pub bind_some : {A B : Type 0} (next : A → Option B) (o : Option A) (x : A) (r : Option B) → o ≡ Some x → next x ≡ r → option_and_then next o ≡ r
bind_some next o x r there then = ap (option_and_then next) there ∙ then
