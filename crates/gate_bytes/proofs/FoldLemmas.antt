-- Two texts of one length are equal without case where what stands behind a place is, and what stands before it.
use Rattle.std.proofs.Common.{◌≡◌, ℕ, zero, suc, sym, Bool, true, false, ◌&&◌, nat_eq, List, [], ◌∷◌, length, take, drop, refl, ◌∙◌, ap, arith}
use Rattle.std.proofs.Math.Bool.{and-false}
use Rattle.std.specs.Char.{to_ascii_lowercase}
use Rattle.gate_bytes.specs.Tokens.{equal_fold}

and_true : (t : Bool) → (t && true) ≡ t
and_true true = refl
and_true false = refl

-- the first of three is asked later
asked_later : (first end front : Bool) → (end && (first && front)) ≡ (first && (end && front))
asked_later true end front = refl
asked_later false end front = and-false end

parts_equal : (at : ℕ) (a b : List ℕ) → length a ≡ length b
    → (equal_fold (drop at a) (drop at b) && equal_fold (take at a) (take at b)) ≡ equal_fold a b
parts_equal zero a b same = and_true (equal_fold a b)
parts_equal (suc at) [] [] same = refl
parts_equal (suc at) [] (y ∷ b) same = grind (arith, same)
parts_equal (suc at) (x ∷ a) [] same = grind (arith, same)
parts_equal (suc at) (x ∷ a) (y ∷ b) same =
    let first = nat_eq (to_ascii_lowercase x) (to_ascii_lowercase y) in
    asked_later first (equal_fold (drop at a) (drop at b)) (equal_fold (take at a) (take at b))
    ∙ ap (λ more. first && more) (parts_equal at a b (omega (arith, same)))

-- Where what stands behind the place is equal, what stands before it decides.
pub front_decides : (at : ℕ) (a b end other_end front other_front : List ℕ) → length a ≡ length b
    → end ≡ drop at a → other_end ≡ drop at b → front ≡ take at a → other_front ≡ take at b
    → equal_fold end other_end ≡ true → equal_fold front other_front ≡ equal_fold a b
front_decides at a b end other_end front other_front same is_end is_other is_front is_other_front ends =
    let ends_equal : equal_fold (drop at a) (drop at b) ≡ true = rw (sym is_end, sym is_other) ends in
    rw (is_front, is_other_front) (ap (λ t. t && equal_fold (take at a) (take at b)) (sym ends_equal) ∙ parts_equal at a b same)

-- where it is not, all is not
pub end_decides : (at : ℕ) (a b end other_end : List ℕ) → length a ≡ length b → end ≡ drop at a → other_end ≡ drop at b
    → equal_fold end other_end ≡ false → false ≡ equal_fold a b
end_decides at a b end other_end same is_end is_other ends =
    let ends_differ : equal_fold (drop at a) (drop at b) ≡ false = rw (sym is_end, sym is_other) ends in
    ap (λ t. t && equal_fold (take at a) (take at b)) (sym ends_differ) ∙ parts_equal at a b same
