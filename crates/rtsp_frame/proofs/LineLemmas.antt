-- Empty lines before an item.
use Rattle.std.proofs.Common.{◌≡◌, suc, ◌<◌, Bool, true, false, cond, ℕ, List, [], ◌∷◌, length, drop, refl, ap, arith}
use Rattle.rtsp_head.specs.Items.{begins_blank, blank_lines}

pub blank_goes_on : (text : List ℕ) → begins_blank text ≡ true → (blank_lines text ≡ suc (blank_lines (drop 1 text))) × (0 < length text)
blank_goes_on [] h = cc
blank_goes_on (b ∷ text) h = (ap (λ (t : Bool). cond t (suc (blank_lines text)) 0) h, omega arith)

pub blank_ends : (text : List ℕ) → begins_blank text ≡ false → blank_lines text ≡ 0
blank_ends [] h = refl
blank_ends (b ∷ text) h = ap (λ (t : Bool). cond t (suc (blank_lines text)) 0) h
