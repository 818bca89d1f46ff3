-- A text that only grows keeps what it began with.
use Rattle.std.proofs.Common.{◌≡◌, ℕ, ◌≤◌, List, ◌++◌, length, take, ◌∙◌, ap, arith}
use Rattle.std.proofs.lemmas.List.{take-append-le, length-take}

-- more at its end changes nothing of the front
pub front_kept : (front text more : List ℕ) → take (length front) text ≡ front → take (length front) (text ++ more) ≡ front
front_kept front text more h =
    let long : length front ≤ length text = omega (arith, length-take (length front) text, ap length h) in
    take-append-le (length front) text more long ∙ h
