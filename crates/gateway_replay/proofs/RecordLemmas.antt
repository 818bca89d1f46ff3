-- A record is written in two calls.
use Rattle.std.proofs.Common.{ℕ, List, ◌++◌, Option, Result, Ok, Err, sym, ◌∙◌, ap, append_assoc}
use Rattle.gate_outside.specs.Contents.{Grows, GrowsByFront, WritesAll}
use Rattle.gate_outside.proofs.Fronts.{grows_twice}

-- a front of a text is a front of a longer one
pub front_longer : (before now : Option (List ℕ)) (xs ys : List ℕ) → GrowsByFront before now xs → GrowsByFront before now (xs ++ ys)
front_longer before now xs ys part = record {
  front = part.front;
  rest = part.rest ++ ys;
  whole = sym (append_assoc part.front part.rest ys) ∙ ap (λ (l : List ℕ). l ++ ys) part.whole;
  grown = part.grown;
}

-- one text was written, and then another
pub then_writes : {T E : Type 0} (before between now : Option (List ℕ)) (xs ys : List ℕ) (r : Result T E) → Grows before between xs → WritesAll between now ys r → WritesAll before now (xs ++ ys) r
then_writes before between now xs ys (Ok u) first next = grows_twice before between now xs ys first next
then_writes before between now xs ys (Err e) first next = record {
  front = xs ++ next.front;
  rest = next.rest;
  whole = append_assoc xs next.front next.rest ∙ ap (λ (l : List ℕ). xs ++ l) next.whole;
  grown = grows_twice before between now xs next.front first next.grown;
}

-- a record in three writes: a head, and the two parts of its body
pub head_fails : (before now : Option (List ℕ)) (head one other : List ℕ) → GrowsByFront before now head → GrowsByFront before now (head ++ (one ++ other))
head_fails before now head one other part = front_longer before now head (one ++ other) part

pub first_fails : (before mid now : Option (List ℕ)) (head one other : List ℕ) → Grows before mid head → GrowsByFront mid now one
    → GrowsByFront before now (head ++ (one ++ other))
first_fails before mid now head one other first part =
    then_writes {T = Unit {0}} {E = Unit {0}} before mid now head (one ++ other) (Err tt) first (front_longer mid now one other part)

pub second_writes : {T E : Type 0} → (before mid late now : Option (List ℕ)) (head one other : List ℕ) (r : Result T E) → Grows before mid head → Grows mid late one
    → WritesAll late now other r → WritesAll before now (head ++ (one ++ other)) r
second_writes before mid late now head one other r first second third =
    then_writes before mid now head (one ++ other) r first (then_writes mid late now one other r second third)
