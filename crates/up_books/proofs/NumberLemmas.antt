-- Lemmas on the numbers of open requests.
use Rattle.std.proofs.Common.{◌≡◌, ◌∙◌, ℕ, suc, ◌+◌, ◌-◌, ◌*◌, ◌^◌, ◌<◌, ◌≤◌, ◌==◌, inl, inr, length, sym, Bool, true, false, List, [], ◌∷◌, ◌++◌, get_or, Some, None, if◌then◌else◌, refl, ap, arith}
use Rattle.std.specs.List.{position, remove}
use Rattle.std.specs.declared.cmp.Ordering.{Ordering}
use Rattle.std.specs.declared.cmp.Ordering.TheVariants.{Less, Equal, Greater}
use Rattle.std.specs.Ordering.{nat_cmp, is_eq}
use Rattle.std.proofs.lemmas.Bool.{eqb-true, eqb-false, eq-eqb, ne_eqb, cases_lt}
use Rattle.std.proofs.lemmas.Cmp.{ranked, nat_cmp_total}
use Rattle.std.proofs.lemmas.Nat.{mul-le}
use Rattle.std.proofs.Math.Nat.{pow-suc, mul_assoc, le-mul_of_pos_right}
use Rattle.up_books.specs.declared.entry.BookEntry.{BookEntry}
use Rattle.up_books.specs.declared.cseq.TheConstants.{LAST_NUMBER}
use Rattle.up_books.specs.Entries.{IsGapFor}
use Rattle.up_books.specs.Numbers.{asker_in, IsNumbers}
use Rattle.up_books.proofs.EntryLemmas.{TellsApart, conn_of_key-none, conn_of_key-some, first-position, conn_of_key-insert, absent-each, conn_of_key-remove}
use Rattle.up_books.proofs.KeyLemmas.{IsKeyOrder, tells_apart, insert-end, rising-once, rising-remove, rising-insert}

pub numbers_order : IsKeyOrder ℕ (λ a b. a == b) nat_cmp
numbers_order = record { total = nat_cmp_total; one = λ a b is. ranked a b Equal (sym is); tells = λ a b. tells_by a b (nat_cmp a b) refl } where
  tells_by : (a b : ℕ) (o : Ordering) → o ≡ nat_cmp a b → (a == b) ≡ is_eq o
  tells_by a b Less is = let apart : a < b = ranked a b Less is in ne_eqb a b (omega arith)
  tells_by a b Equal is = eq-eqb a b (ranked a b Equal is)
  tells_by a b Greater is = let apart : b < a = ranked a b Greater is in ne_eqb a b (omega arith)

numbers_tell : TellsApart ℕ (λ a b. a == b)
numbers_tell = tells_apart ℕ (λ a b. a == b) nat_cmp numbers_order

-- which place tells who asked
pub asker-none : (number : ℕ) (loans : List (BookEntry ℕ)) → position (λ loan. loan.key == number) loans ≡ None → asker_in number loans ≡ None
asker-none number loans none = conn_of_key-none ℕ (λ a b. a == b) number loans none

pub asker-some : (number : ℕ) (loans : List (BookEntry ℕ)) (at : ℕ) (d : BookEntry ℕ) → position (λ loan. loan.key == number) loans ≡ Some at → asker_in number loans ≡ Some (get_or loans at d).conn
asker-some number loans at d is = conn_of_key-some ℕ (λ a b. a == b) number loans at d (first-position ℕ (λ a b. a == b) number loans at d is)

-- the next number goes out
asker-next : (issued : ℕ) (loans : List (BookEntry ℕ)) → IsNumbers issued loans → asker_in (issued + 1) loans ≡ None
asker-next issued loans is = is.given (issued + 1) (omega arith)

pub asker-issue : (issued conn n : ℕ) (loans : List (BookEntry ℕ)) → IsNumbers issued loans
    → asker_in n (loans ++ record { key = issued + 1; conn = conn } ∷ []) ≡ (if n == issued + 1 then Some conn else asker_in n loans)
asker-issue issued conn n loans is =
    rw (← insert-end loans (record { key = issued + 1; conn = conn }))
    (conn_of_key-insert ℕ (λ a b. a == b) numbers_tell loans (length loans) (record { key = issued + 1; conn = conn }) n (omega arith) (asker-next issued loans is))

less_by : (a b : ℕ) (o : Ordering) → o ≡ nat_cmp a b → a < b → o ≡ Less
less_by a b Less is low = refl
less_by a b Equal is low = let same : a ≡ b = ranked a b Equal is in absurd (omega arith)
less_by a b Greater is low = let high : b < a = ranked a b Greater is in absurd (omega arith)

given_low : (issued : ℕ) (loans : List (BookEntry ℕ)) (k : ℕ) (d : BookEntry ℕ) → IsNumbers issued loans → k < length loans → (get_or loans k d).key ≤ issued
given_low issued loans k d is low = elim (cases_lt issued (get_or loans k d).key) [
  | inl above ↦
      let apart : ((get_or loans k d).key == (get_or loans k d).key) ≡ false = absent-each ℕ (λ a b. a == b) (get_or loans k d).key loans (is.given (get_or loans k d).key above) k d low in
      absurd (eqb-false (get_or loans k d).key (get_or loans k d).key apart refl)
  | inr within ↦ within
]

pub next-gap : (issued : ℕ) (loans : List (BookEntry ℕ)) → IsNumbers issued loans → IsGapFor nat_cmp (issued + 1) (length loans) loans
next-gap issued loans is = record {
  within = omega arith;
  below = λ k d low. less_by (get_or loans k d).key (issued + 1) (nat_cmp (get_or loans k d).key (issued + 1)) refl (let most = given_low issued loans k d is low in omega arith);
  above = λ k d low high. absurd (omega arith);
}

pub numbers-issue : (issued conn : ℕ) (loans : List (BookEntry ℕ)) → issued < LAST_NUMBER → IsNumbers issued loans → IsNumbers (issued + 1) (loans ++ record { key = issued + 1; conn = conn } ∷ [])
numbers-issue issued conn loans low is = record {
  last = omega arith;
  rising = rw (← insert-end loans (record { key = issued + 1; conn = conn }))
      (rising-insert ℕ (λ a b. a == b) nat_cmp numbers_order loans (length loans) (record { key = issued + 1; conn = conn }) (next-gap issued loans is) is.rising);
  given = λ n above. asker-issue issued conn n loans is ∙ given_by (n == issued + 1) n refl (is.given n (omega arith)) above;
} where
  given_by : (b : Bool) (n : ℕ) → (n == issued + 1) ≡ b → asker_in n loans ≡ None → issued + 1 < n → (if b then Some conn else asker_in n loans) ≡ None
  given_by true n e none above = let equal : n ≡ issued + 1 = eqb-true n (issued + 1) e in absurd (omega arith)
  given_by false n e none above = none

-- a request is open no longer
pub asker-settle : (number n at : ℕ) (issued : ℕ) (loans : List (BookEntry ℕ)) (d : BookEntry ℕ) → IsNumbers issued loans → position (λ loan. loan.key == number) loans ≡ Some at
    → asker_in n (remove loans at) ≡ (if n == number then None else asker_in n loans)
asker-settle number n at issued loans d is found =
    conn_of_key-remove ℕ (λ a b. a == b) numbers_tell loans at d number n (rising-once ℕ (λ a b. a == b) nat_cmp numbers_order loans is.rising) (first-position ℕ (λ a b. a == b) number loans at d found)

pub numbers-settle : (number at : ℕ) (issued : ℕ) (loans : List (BookEntry ℕ)) (d : BookEntry ℕ) → IsNumbers issued loans → position (λ loan. loan.key == number) loans ≡ Some at → IsNumbers issued (remove loans at)
numbers-settle number at issued loans d is found = record {
  last = is.last;
  rising = rising-remove ℕ (λ a b. a == b) nat_cmp numbers_order loans at (first-position ℕ (λ a b. a == b) number loans at d found).low is.rising;
  given = λ n above. asker-settle number n at issued loans d is found ∙ given_by (n == number) n (is.given n above);
} where
  given_by : (b : Bool) (n : ℕ) → asker_in n loans ≡ None → (if b then None else asker_in n loans) ≡ None
  given_by true n none = refl
  given_by false n none = none

-- where nobody asked, nothing changes
pub asker-absent : (number n : ℕ) (loans : List (BookEntry ℕ)) → asker_in number loans ≡ None → asker_in n loans ≡ (if n == number then None else asker_in n loans)
asker-absent number n loans none = absent_by (n == number) refl where
  absent_by : (b : Bool) → (n == number) ≡ b → asker_in n loans ≡ (if b then None else asker_in n loans)
  absent_by true e = let equal : n ≡ number = eqb-true n number e in rw equal none
  absent_by false e = refl

-- with each step what is left is halved at least
pub halve-step : (before steps width half n : ℕ) → before ≤ steps → 0 < width → half + half ≤ width → 2 ^ (steps - before) * width ≤ n → (2 ^ (steps + 1 - before) * half ≤ n) × (2 ^ (steps + 1 - before) ≤ 2 * n + 1)
halve-step before steps width half n order some fits total =
    let p : ℕ = 2 ^ (steps - before) in
    let next : steps + 1 - before ≡ suc (steps - before) = omega arith in
    let twice : 2 ^ (steps + 1 - before) ≡ p * 2 = rw next (pow-suc 2 (steps - before)) in
    let both : p * 2 * half ≡ p * (half + half) = let two : 2 * half ≡ half + half = omega arith in mul_assoc p 2 half ∙ ap (λ n. p * n) two in
    let less : p * (half + half) ≤ p * width = mul-le p (half + half) p width (omega arith) fits in
    let one : p ≤ p * width = le-mul_of_pos_right p some in
    rw twice (rw both (omega (arith, less, total)), omega (arith, one, total))
