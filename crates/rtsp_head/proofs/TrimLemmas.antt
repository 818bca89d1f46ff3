-- Texts without the blanks round them.
use Rattle.std.proofs.Common.{◌≡◌, ℕ, ◌<◌, ◌≤◌, Bool, true, false, cond, List, [], ◌∷◌, ◌++◌, length, refl, sym, ◌∙◌, ap, arith}
use Rattle.std.specs.List.{list_all}
use Rattle.std.proofs.lemmas.List.Folds.{list_all-append}
use Rattle.gate_bytes.specs.Tokens.{is_blank, without_front, without_end, trimmed}

front_short : (text : List ℕ) → length (without_front text) ≤ length text
front_short [] = omega arith
front_short (b ∷ text) = let rest = front_short text in grind arith

end_short : (text : List ℕ) → length (without_end text) ≤ length text
end_short [] = omega arith
end_short (b ∷ text) = let rest = end_short text in grind arith

front_same : (text : List ℕ) → length (without_front text) ≡ length text → without_front text ≡ text
front_same [] h = refl
front_same (b ∷ text) h = let rest = front_short text in grind arith

end_step : (b : ℕ) (text : List ℕ) (blank : Bool) → length (cond blank [] (b ∷ without_end text)) ≡ length (b ∷ text) →
    (length (without_end text) ≡ length text → without_end text ≡ text) → cond blank [] (b ∷ without_end text) ≡ b ∷ text
end_step b text true h rest = absurd (omega arith)
end_step b text false h rest = ap (λ t. b ∷ t) (rest (omega arith))

end_same : (text : List ℕ) → length (without_end text) ≡ length text → without_end text ≡ text
end_same [] h = refl
end_same (b ∷ text) h = end_step b text (list_all is_blank (b ∷ text)) h (end_same text)

-- a text that loses nothing stays
pub trimmed_same : (text : List ℕ) → length (trimmed text) ≡ length text → trimmed text ≡ text
trimmed_same text h =
    let front : length (without_front text) ≡ length text = omega (arith, h, front_short text, end_short (without_front text)) in
    let kept : without_front text ≡ text = front_same text front in
    ap without_end kept ∙ end_same text (ap (λ t. length (without_end t)) (sym kept) ∙ h)

-- what is blank at the front goes
pub front_blank : (blanks text : List ℕ) → list_all is_blank blanks ≡ true → without_front (blanks ++ text) ≡ without_front text
front_blank [] text h = refl
front_blank (b ∷ blanks) text h = let rest = front_blank blanks text in grind arith

-- another byte keeps what follows it
pub front_kept : (text more : List ℕ) → list_all is_blank text ≡ false → without_front (text ++ more) ≡ without_front text ++ more
front_kept [] more h = cc
front_kept (b ∷ text) more h = let rest = front_kept text more in grind arith

pub end_blank : (text blanks : List ℕ) → list_all is_blank blanks ≡ true → without_end (text ++ blanks) ≡ without_end text
end_blank [] [] h = refl
end_blank [] (b ∷ blanks) h = rw h refl
end_blank (b ∷ text) blanks h =
    let rest : without_end (text ++ blanks) ≡ without_end text = end_blank text blanks h in
    let all : list_all is_blank (text ++ blanks) ≡ list_all is_blank text = list_all-append is_blank text blanks ∙ grind (arith, h) in
    grind (arith, rest, all)

pub end_kept : (text more : List ℕ) → list_all is_blank more ≡ false → without_end (text ++ more) ≡ text ++ without_end more
end_kept [] more h = refl
end_kept (b ∷ text) more h =
    let rest : without_end (text ++ more) ≡ text ++ without_end more = end_kept text more h in
    let all : list_all is_blank (text ++ more) ≡ false = list_all-append is_blank text more ∙ grind (arith, h) in
    grind (arith, rest, all)

pub blank_nothing : (text : List ℕ) → list_all is_blank text ≡ true → trimmed text ≡ []
blank_nothing [] h = refl
blank_nothing (b ∷ text) h = let rest = blank_nothing text in grind arith

pub other_something : (text : List ℕ) → list_all is_blank text ≡ false → 0 < length (trimmed text)
other_something [] h = absurd (grind arith)
other_something (b ∷ text) h = let rest = other_something text in grind arith

front_once : (text : List ℕ) → without_front (trimmed text) ≡ trimmed text
front_once [] = refl
front_once (b ∷ text) = let rest = front_once text in grind arith

blank_end : (text : List ℕ) → list_all is_blank (without_end text) ≡ list_all is_blank text
blank_end [] = refl
blank_end (b ∷ text) = let rest = blank_end text in grind arith

end_once : (text : List ℕ) → without_end (without_end text) ≡ without_end text
end_once [] = refl
end_once (b ∷ text) = let rest = end_once text in let blank = blank_end text in grind arith

-- trimming again changes nothing
pub trimmed_twice : (text : List ℕ) → trimmed (trimmed text) ≡ trimmed text
trimmed_twice text = ap without_end (front_once text) ∙ end_once (without_front text)
