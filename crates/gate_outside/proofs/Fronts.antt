-- Bytes written after bytes written, and the loop of `write_all`.
use Rattle.std.proofs.Common.{◌≡◌, ℕ, ◌≤◌, List, ◌++◌, take, drop, Option, Some, None, ◌∙◌, ap, subst, append_assoc}
use Rattle.std.proofs.lemmas.List.{take-append-drop}
use Rattle.gate_outside.specs.Contents.{Grows}

-- bytes after bytes are one growth by both
pub grows_twice : (before between now : Option (List ℕ)) (xs ys : List ℕ) → Grows before between xs → Grows between now ys → Grows before now (xs ++ ys)
grows_twice None between now xs ys first then = subst (λ (o : Option (List ℕ)). Grows o now ys) first then
grows_twice (Some bytes) between now xs ys first then =
    let joined : now ≡ Some ((bytes ++ xs) ++ ys) = subst (λ (o : Option (List ℕ)). Grows o now ys) first then in
    joined ∙ ap (λ (l : List ℕ). let told : Option (List ℕ) = Some l in told) (append_assoc bytes xs ys)

-- The front of the bytes was written and the rest is still to come; the count of faults has not fallen.
pub record Half (bytes rest : List ℕ) (before now : Option (List ℕ)) (faults_before faults_now : ℕ) : Type 0 where
  pub front : List ℕ
  pub whole : front ++ rest ≡ bytes
  pub grown : Grows before now front
  pub later : faults_before ≤ faults_now

-- one write more
pub half_more : (bytes rest : List ℕ) (before between now : Option (List ℕ)) (f g h n : ℕ) → Half bytes rest before between f g → Grows between now (take n rest) → f ≤ h → Half bytes (drop n rest) before now f h
half_more bytes rest before between now f g h n half grown later = record {
  front = half.front ++ take n rest;
  whole = append_assoc half.front (take n rest) (drop n rest) ∙ (ap (λ (l : List ℕ). half.front ++ l) (take-append-drop n rest) ∙ half.whole);
  grown = grows_twice before between now half.front (take n rest) half.grown grown;
  later = later;
}
